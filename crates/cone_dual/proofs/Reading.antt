-- Rows and generators that are read one by one.
use Rattle.std.proofs.Common.{◌≡◌, ℕ, zero, suc, ◌+◌, ◌-◌, ◌<◌, List, [], ◌∷◌, ◌++◌, length, map, take, drop, sym, ap, ap₂, ◌∙◌, subst, arith, append_assoc, slice_index_or}
use Rattle.std.specs.Prelude.{All, Contains}
use Rattle.std.specs.List.{range_with_len}
use Rattle.std.proofs.lemmas.List.{get_or-map, length-map, take_more, take-append-drop}
use Rattle.std.proofs.lemmas.List.Elements.{Contains-append_right, Contains-get_or}
use Rattle.exact_field.specs.Rational.{ℚ}
use Rattle.polyhedra.specs.LiveList.{Numbered, numbers as numbers-of, vectors}
use Rattle.polyhedra.specs.LiveSteps.{IsLive}
use Rattle.polyhedra.specs.LiveList.{LiveList}
use Rattle.polyhedra.proofs.Members.{Contains-map, member_of}
use Rattle.lin_rows.specs.Read.{numbers}
use Rattle.lin_rows.proofs.Building.{number_row}
use Rattle.deriv_log.specs.declared.licence.Family.{Family}
use Rattle.overflows.specs.Generators.{IsAddition, IsMadeOver}
use Rattle.overflows.specs.Settings.{Setting}
use Rattle.cone_dual.specs.Generators.{MayDescribe}
use Rattle.cone_dual.proofs.Licences.{front_listed}

pub range_more : (a n : ℕ) → range_with_len a (n + 1) ≡ range_with_len a n ++ (a + n) ∷ []
range_more a zero = let start : a ≡ a + 0 = omega arith in ap (λ (k : ℕ). k ∷ []) start
range_more a (suc n) =
    let next : suc n + 1 ≡ suc (n + 1) = omega arith in
    let last : a + 1 + n ≡ a + suc n = omega arith in
    ap (range_with_len a) next ∙ ap (λ (ks : List ℕ). a ∷ ks) (range_more (a + 1) n ∙ ap (λ (k : ℕ). range_with_len (a + 1) n ++ k ∷ []) last)

-- row k, counted from 0
pub read_row : {F : Type 0} (value : F → ℚ) (list : List (List F)) (k : ℕ) (row : List F) → row ≡ slice_index_or list (k + 1 - 1) [] → k < length list →
    map value row ≡ slice_index_or (numbers value list) k []
read_row value list k row is inside =
    let back : k + 1 - 1 ≡ k = omega arith in
    ap (map value) is ∙ sym (number_row value list (k + 1) [] (omega arith) (omega arith)) ∙ ap (λ (j : ℕ). slice_index_or (numbers value list) j []) back

-- one row more
pub one_more : {X : Type 0} (t old new : List X) (x d : X) (k : ℕ) → new ≡ old ++ x ∷ [] → old ≡ take k t → k < length t → x ≡ slice_index_or t k d → new ≡ take (k + 1) t
one_more t old new x d k pushed is inside own = pushed ∙ ap₂ (λ (xs : List _) (y : _). xs ++ y ∷ []) is own ∙ sym (take_more t k d inside)

-- the rows so far and the next one are a front of all
pub front_is : (before t : List (List ℚ)) (k : ℕ) → k < length t → (before ++ take k t) ++ slice_index_or t k [] ∷ [] ≡ before ++ take (k + 1) t
front_is before t k inside = append_assoc before (take k t) (slice_index_or t k [] ∷ []) ∙ ap (λ (xs : List (List ℚ)). before ++ xs) (sym (take_more t k [] inside))

-- so the next one may be added after the rows so far
pub next_may : (s : Setting) (family : Family) (n : ℕ) (before t : List (List ℚ)) (k : ℕ) (list : LiveList) → k < length t →
    MayDescribe s family n (before ++ t) → IsMadeOver n (before ++ take k t) list →
    IsAddition s (before ++ take k t) (slice_index_or t k []) list family
next_may s family n before t k list inside h made = h.added (before ++ take k t) (slice_index_or t k []) list
    (subst (λ (xs : List (List ℚ)). All (Contains xs) (before ++ take k t)) whole (front_listed (before ++ take k t) (drop k t)))
    (Contains-append_right before t (slice_index_or t k []) (Contains-get_or t k [] inside)) made
  where
    whole : (before ++ take k t) ++ drop k t ≡ before ++ t
    whole = append_assoc before (take k t) (drop k t) ∙ ap (λ (xs : List (List ℚ)). before ++ xs) (take-append-drop k t)

-- the generator at a place of the list of numbers
module _ {F : Type 0} (value : F → ℚ) (list : LiveList) (nums : List ℕ) (nums_are : nums ≡ numbers-of list.live) (i : ℕ) (inside : i < length nums) (entries : List F) where
  none : Numbered
  none = record { number = 0; vector = [] }

  here : i < length list.live
  here = let many : length nums ≡ length list.live = ap length nums_are ∙ length-map list.live (λ (g : Numbered). g.number) in omega arith

  pub wide_at : (n : ℕ) (rows : List (List ℚ)) → IsLive n rows list →
      Contains list.live (record { number = slice_index_or nums i 0; vector = map value entries }) → length entries ≡ n
  wide_at n rows live listed =
      sym (length-map entries value)
      ∙ member_of (λ (v : List ℚ). length v ≡ n) (vectors list.live) (map value entries) live.described.generators_wide.wide
      (Contains-map (λ (g : Numbered). g.vector) list.live (record { number = slice_index_or nums i 0; vector = map value entries }) listed)

  number_is : slice_index_or nums i 0 ≡ (slice_index_or list.live i none).number
  number_is = ap (λ (ns : List ℕ). slice_index_or ns i 0) nums_are ∙ get_or-map (λ (g : Numbered). g.number) list.live i none 0 here

  pub vector_at : ((v : List ℚ) → Contains list.live (record { number = slice_index_or nums i 0; vector = v }) → map value entries ≡ v) →
      map value entries ≡ slice_index_or (vectors list.live) i []
  vector_at only =
      let g : Numbered = slice_index_or list.live i none in
      only g.vector (subst (λ (k : ℕ). Contains list.live (record { number = k; vector = g.vector })) (sym number_is) (Contains-get_or list.live i none here))
      ∙ sym (get_or-map (λ (h : Numbered). h.vector) list.live i none [] here)
