-- Lists that are read in their order: the first entry that is not 0, marks of places, and entries
-- that are left out at marked places.
use Rattle.std.proofs.Common.{eq-eqb, ◌≡◌, ◌≢◌, ℕ, zero, suc, ◌+◌, ◌-◌, ◌<◌, ◌≤◌, List, [], ◌∷◌, ◌++◌, map, length, drop, Bool, true, false, ◌||◌, ◌==◌, sym, ap, ap₂, ◌∙◌, arith, slice_index_or, append_assoc, append-nil, if◌then◌else◌, inl, inr, ◌⊎◌}
use Rattle.std.proofs.lemmas.Bool.Decides.{eqb_tells}
use Rattle.std.proofs.lemmas.List.{drop_all, drop_more, get_or_past, map-append}
use Rattle.exact_field.specs.Rational.{ℚ}
use Rattle.polyhedra.specs.DoubleDescription.{is_zero}
use Rattle.lineality.specs.Lines.{leading_place}
use Rattle.lineality.specs.Without.{is_line_place, marks_from, without}

-- what is left of a list from a place on begins with the element there
pub rest_is : {X : Type 0} (xs : List X) (k : ℕ) (x : X) → k < length xs → x ≡ slice_index_or xs k x → drop k xs ≡ x ∷ drop (k + 1) xs
rest_is xs k x h p = drop_more xs k x h ∙ ap (λ y. y ∷ drop (k + 1) xs) (sym p)

-- the same of values of a list
pub values_rest : {F : Type 0} (value : F → ℚ) (xs : List F) (k : ℕ) (x : F) → k < length xs → x ≡ slice_index_or xs k x →
    map value (drop k xs) ≡ value x ∷ map value (drop (k + 1) xs)
values_rest value xs k x h p = ap (map value) (rest_is xs k x h p)

pub values_end : {F : Type 0} (value : F → ℚ) (xs : List F) (k : ℕ) → length xs ≤ k → map value (drop k xs) ≡ []
values_end value xs k h = ap (map value) (drop_all k xs h)

pub values_more : {F : Type 0} (value : F → ℚ) (old new : List F) (x : F) → new ≡ old ++ x ∷ [] → map value new ≡ map value old ++ value x ∷ []
values_more value old new x h = ap (map value) h ∙ map-append value old (x ∷ [])

-- ---- the first entry that is not 0
pub place_here : (xs rest : List ℚ) (x : ℚ) → xs ≡ x ∷ rest → is_zero x ≡ false → leading_place xs ≡ 1
place_here xs rest x is h = ap leading_place is ∙ ap (λ (b : Bool). if b then suc (leading_place rest) else 1) h

pub place_next : (xs rest : List ℚ) (x : ℚ) → xs ≡ x ∷ rest → is_zero x ≡ true → leading_place xs ≡ suc (leading_place rest)
place_next xs rest x is h = ap leading_place is ∙ ap (λ (b : Bool). if b then suc (leading_place rest) else 1) h

-- ---- marks
-- the place of the first line that is left is this one, or another
pub line_here : (ls rest : List (List ℚ)) (d : List ℚ) (k : ℕ) → ls ≡ d ∷ rest → leading_place d ≡ k → is_line_place ls k ≡ true
line_here ls rest d k is h =
    ap (λ (ds : List (List ℚ)). is_line_place ds k) is ∙ ap (λ (b : Bool). b || is_line_place rest k) (eq-eqb (leading_place d) k h)

pub line_next : (ls rest : List (List ℚ)) (d : List ℚ) (k : ℕ) → ls ≡ d ∷ rest → leading_place d ≢ k → is_line_place ls k ≡ is_line_place rest k
line_next ls rest d k is h =
    ap (λ (ds : List (List ℚ)). is_line_place ds k) is
    ∙ ap (λ (b : Bool). b || is_line_place rest k)
    (elim (eqb_tells (leading_place d) k) as (λ _. (leading_place d == k) ≡ false) [ inl t ↦ absurd (h t.1) | inr t ↦ t.0 ])

pub marks_more : (ls : List (List ℚ)) (n k : ℕ) (old new : List Bool) (b : Bool) → k < n → new ≡ old ++ b ∷ [] → b ≡ is_line_place ls (k + 1) →
    marks_from 1 n ls ≡ old ++ marks_from (suc k) (n - k) ls → marks_from 1 n ls ≡ new ++ marks_from (suc (k + 1)) (n - (k + 1)) ls
marks_more ls n k old new b h pushed mark so_far =
    let less : n - k ≡ suc (n - (k + 1)) = omega (arith, h) in
    let next : suc k ≡ k + 1 = omega arith in
    so_far ∙ ap (λ (m : ℕ). old ++ marks_from (suc k) m ls) less
    ∙ ap (λ (j : ℕ). old ++ is_line_place ls j ∷ marks_from (suc j) (n - (k + 1)) ls) next
    ∙ ap (λ (c : Bool). old ++ c ∷ marks_from (suc (k + 1)) (n - (k + 1)) ls) (sym mark)
    ∙ sym (append_assoc old (b ∷ []) (marks_from (suc (k + 1)) (n - (k + 1)) ls))
    ∙ ap (λ (xs : List Bool). xs ++ marks_from (suc (k + 1)) (n - (k + 1)) ls) (sym pushed)

pub marks_end : (ls : List (List ℚ)) (n k : ℕ) (places : List Bool) → n ≤ k → marks_from 1 n ls ≡ places ++ marks_from (suc k) (n - k) ls → places ≡ marks_from 1 n ls
marks_end ls n k places h so_far =
    let none : n - k ≡ 0 = omega (arith, h) in
    sym (so_far ∙ ap (λ (m : ℕ). places ++ marks_from (suc k) m ls) none ∙ append-nil places)

-- ---- entries left out
inside : (n j : ℕ) → (j < n) ⊎ (n ≤ j)
inside zero j = inr (omega arith)
inside (suc n) zero = inl (omega arith)
inside (suc n) (suc j) = elim (inside n j) [ inl h ↦ inl (omega (arith, h)) | inr h ↦ inr (omega (arith, h)) ]

-- the marks from a place on: none, or the one there and those after it
rest_of : (bs : List Bool) (k : ℕ) →
    ((slice_index_or bs k false ≡ false) × (drop k bs ≡ []) × (drop (k + 1) bs ≡ [])) ⊎ (drop k bs ≡ slice_index_or bs k false ∷ drop (k + 1) bs)
rest_of bs k = go (inside (length bs) k)
  where
    go : ((k < length bs) ⊎ (length bs ≤ k)) →
        ((slice_index_or bs k false ≡ false) × (drop k bs ≡ []) × (drop (k + 1) bs ≡ [])) ⊎ (drop k bs ≡ slice_index_or bs k false ∷ drop (k + 1) bs)
    go (inl h) = inr (drop_more bs k false h)
    go (inr h) = inl (get_or_past bs k false h, drop_all k bs h, drop_all (k + 1) bs (omega (arith, h)))

-- the entry x is left out, or kept
module _ (bs : List Bool) (xs more : List ℚ) (k : ℕ) (x : ℚ) (b : Bool) (here : xs ≡ x ∷ more) (is : b ≡ slice_index_or bs k false) where
  pub left_out : b ≡ true → without (drop k bs) xs ≡ without (drop (k + 1) bs) more
  left_out t = go (rest_of bs k)
    where
      go : ((slice_index_or bs k false ≡ false) × (drop k bs ≡ []) × (drop (k + 1) bs ≡ [])) ⊎ (drop k bs ≡ slice_index_or bs k false ∷ drop (k + 1) bs) →
          without (drop k bs) xs ≡ without (drop (k + 1) bs) more
      go (inl e) = absurd (no b t (is ∙ e.0))
        where
          no : (c : Bool) → c ≡ true → c ≡ false → ⊥
          no c p q = cc
      go (inr e) = ap₂ (λ (cs : List Bool) (us : List ℚ). without cs us) (e ∙ ap (λ (c : Bool). c ∷ drop (k + 1) bs) (sym is ∙ t)) here

  pub kept : b ≡ false → without (drop k bs) xs ≡ x ∷ without (drop (k + 1) bs) more
  kept t = go (rest_of bs k)
    where
      go : ((slice_index_or bs k false ≡ false) × (drop k bs ≡ []) × (drop (k + 1) bs ≡ [])) ⊎ (drop k bs ≡ slice_index_or bs k false ∷ drop (k + 1) bs) →
          without (drop k bs) xs ≡ x ∷ without (drop (k + 1) bs) more
      go (inl e) = ap₂ (λ (cs : List Bool) (us : List ℚ). without cs us) e.1 here ∙ ap (λ (cs : List Bool). x ∷ without cs more) (sym e.2)
      go (inr e) = ap₂ (λ (cs : List Bool) (us : List ℚ). without cs us) (e ∙ ap (λ (c : Bool). c ∷ drop (k + 1) bs) (sym is ∙ t)) here
