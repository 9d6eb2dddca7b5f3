-- Columns by their numbers.
use Rattle.std.proofs.Common.{◌≡◌, ℕ, zero, suc, List, [], ◌∷◌, ◌++◌, length, map, take, drop, All, refl, sym, ap, ap₂, ◌∙◌, arith, ◌<◌, ◌≤◌, ◌-◌, ◌+◌, Bool, IsTrue, true, true≢false, nat_le, nat_lt, slice_index_or}
use Rattle.std.specs.Prelude.{◌&&◌}
use Rattle.std.proofs.lemmas.Bool.{ltb-true, leb-true}
use Rattle.std.specs.Cmp.Lexicographic.{pointwise}
use Rattle.std.specs.List.{list_all}
use Rattle.std.proofs.lemmas.List.{get_or-append_right, get_or-map, get_or_append_left, get_or_default, length-append, length-map}
use Rattle.std.proofs.lemmas.List.Elements.{All-head, All-tail}
use Rattle.polyhedra.proofs.Tests.{both_true}
use Rattle.lin_rows.specs.declared.spots.Spot.{Spot}
use Rattle.lp_form.specs.Shapes.{are_places}
use Rattle.lp_form.specs.declared.data.SideOf.{SideOf}
use Rattle.lp_form.proofs.Steps.{each_passes}
use Rattle.program_columns.specs.Columns.{all_columns}

-- two functions that agree on a list
pub same_maps : {X Y : Type 0} (f g : X → Y) (xs : List X) → All (λ x. f x ≡ g x) xs →
    map f xs ≡ map g xs
same_maps f g [] h = refl
same_maps f g (x ∷ xs) h =
    ap₂ (λ a b. a ∷ b) (All-head (λ x. f x ≡ g x) x xs h)
    (same_maps f g xs (All-tail (λ x. f x ≡ g x) x xs h))

-- lists that `==` finds to be the same
pub same_lists : {A : Type 0} (E : A → A → Bool) → ((x y : A) → IsTrue (E x y) → x ≡ y) →
    (xs ys : List A) → IsTrue (pointwise E xs ys) → xs ≡ ys
same_lists E h [] [] e = refl
same_lists E h [] (y ∷ ys) e = absurd (true≢false (sym e))
same_lists E h (x ∷ xs) [] e = absurd (true≢false (sym e))
same_lists E h (x ∷ xs) (y ∷ ys) e =
    let b = both_true (E x y) (pointwise E xs ys) e in
    ap₂ (λ a c. a ∷ c) (h x y b.0) (same_lists E h xs ys b.1)

-- the place of a spot
pub place_in : {F : Type 0} (n low : ℕ) (spots : List (Spot F)) (i : ℕ) (c : Spot F) →
    are_places n low spots ≡ true → i < length spots → c ≡ slice_index_or spots i c →
    (low < c.at) × (c.at ≤ n)
place_in n low [] i c h l is = absurd (omega arith)
place_in n low (x ∷ spots) zero c h l is =
    let first = both_true (nat_lt low x.at) (nat_le x.at n && are_places n x.at spots) h in
    let second = both_true (nat_le x.at n) (are_places n x.at spots) first.1 in
    let above : low < x.at = ltb-true low x.at first.0 in
    let inside : x.at ≤ n = leb-true x.at n second.0 in
    let same : c.at ≡ x.at = ap (λ d. d.at) is in
    (omega arith, omega arith)
place_in n low (x ∷ spots) (suc i) c h l is =
    let first = both_true (nat_lt low x.at) (nat_le x.at n && are_places n x.at spots) h in
    let second = both_true (nat_le x.at n) (are_places n x.at spots) first.1 in
    let above : low < x.at = ltb-true low x.at first.0 in
    let later = place_in n x.at spots i c second.1 (omega arith) is in
    (omega (arith, above, later.0), later.1)

pub passes_at : {X : Type 0} (p : X → Bool) (xs : List X) (i : ℕ) (d : X) → list_all p xs ≡ true →
    i < length xs → p (slice_index_or xs i d) ≡ true
passes_at p xs i d h l =
    each_passes p xs i (slice_index_or xs i d) h l
    (get_or_default xs i d (slice_index_or xs i d) l)

one_unit : {X : Type 0} (units : List X) (j : ℕ) → j < length units →
    take 1 (drop j units) ≡ slice_index_or (map (λ u. u ∷ []) units) j []
one_unit [] j l = absurd (omega arith)
one_unit (u ∷ units) zero l = refl
one_unit (u ∷ units) (suc j) l = one_unit units j (omega arith)

module _ {F : Type 0} (sides : List (SideOf F)) (others : List (List (Spot F)))
    (units : List (Spot F)) where
  pub length-all : length (all_columns sides others units)
      ≡ length sides + length others + length units
  length-all =
      omega (
        arith,
        length-append (map (λ s. s.g) sides ++ others) (map (λ u. u ∷ []) units),
        length-append (map (λ s. s.g) sides) others,
        length-map sides (λ s. s.g),
        length-map units (λ u. u ∷ []),
      )

  front_long : length (map (λ s. s.g) sides ++ others) ≡ length sides + length others
  front_long =
      omega (arith, length-append (map (λ s. s.g) sides) others, length-map sides (λ s. s.g))

  -- the column of a side
  pub side_column : (i : ℕ) (s : SideOf F) → i < length sides →
      (slice_index_or sides i s).g ≡ slice_index_or (all_columns sides others units) i []
  side_column i s l =
      sym (get_or_append_left (map (λ s. s.g) sides ++ others) (map (λ u. u ∷ []) units) [] i
      (omega (arith, l, front_long))
      ∙ get_or_append_left (map (λ s. s.g) sides) others [] i (omega (arith, l, length-map sides (λ s. s.g)))
      ∙ get_or-map (λ s. s.g) sides i s [] l)

  -- an artificial column
  pub unit_column : (i j k : ℕ) → i ≡ length sides + length others + j → j < length units →
      k ≡ 1 → take k (drop j units) ≡ slice_index_or (all_columns sides others units) i []
  unit_column i j k e l one =
      ap (λ n. take n (drop j units)) one ∙ one_unit units j l
      ∙ ap (λ n. slice_index_or (map (λ u. u ∷ []) units) n [])
      (let same : j ≡ i - (length sides + length others) = omega arith in same)
      ∙ sym (get_or-append_right (map (λ s. s.g) sides ++ others) (map (λ u. u ∷ []) units)
      (length sides + length others) i [] front_long (omega arith))

  pub column_fits : (n k : ℕ) → list_all (are_places n 0) (all_columns sides others units) ≡ true →
      k < length sides + length others + length units →
      are_places n 0 (slice_index_or (all_columns sides others units) k []) ≡ true
  column_fits n k h l =
      passes_at (are_places n 0) (all_columns sides others units) k [] h (omega (arith, length-all))
