-- The shapes of data that are made of a file's sparse vectors.
use Rattle.std.proofs.Common.{◌≡◌, ℕ, suc, List, [], ◌∷◌, length, map, refl, sym, ap, ap₂, ◌∙◌, subst, arith, ◌<◌, ◌≤◌, Bool, true, false, All, nat_lt, nat_le, IsTrue, not, Option, None, Some}
use Rattle.std.specs.Prelude.{◌&&◌, ◌==◌, filter, if◌then◌else◌}
use Rattle.std.specs.List.{list_all}
use Rattle.std.proofs.lemmas.Bool.{lt-ltb, le-leb, leb-true}
use Rattle.std.proofs.lemmas.List.{length-map}
use Rattle.std.proofs.lemmas.List.Elements.{All-nil, All-cons, All-head, All-tail, All-filter}
use Rattle.polyhedra.proofs.Lists.{HasWidth}
use Rattle.exact_field.specs.Rational.{ℚ}
use Rattle.exact_field.specs.Vector.{are_wide}
use Rattle.frac128.specs.Sparse.{is_zero, rises_above}
use Rattle.frac128.specs.declared.vectors.Spot.{Spot}
use Rattle.polyhedra.proofs.Tests.{both_true}
use Rattle.lin_rows.specs.Lines.{Rises, entries}
use Rattle.lin_rows.specs.Lines as lines
use Rattle.lin_rows.specs.Read.{numbers}
use Rattle.polyhedra.specs.Vectors.{AreWide}
use Rattle.lin_rows.proofs.EliminationEnds.{numbers-wide}
use Rattle.lin_rows.specs.declared.spots.Spot.{Spot as RowSpot}
use Rattle.upper_image.specs.Spots.{IsVector, entry_of}
use Rattle.vlp_problem.specs.Cones.{cone_fits, are_vectors, duality_fits}
use Rattle.vlp_problem.specs.declared.problem.Cone.{Cone}
use Rattle.lp_form.specs.declared.data.ConeOf.{ConeOf}
use Rattle.lp_form.specs.declared.data.ConeOf.TheVariants.{Orthant, Gens, Dual}
use Rattle.lp_form.specs.declared.data.SideOf.{SideOf}
use Rattle.lp_form.specs.Data.{cone_of, duality_of}
use Rattle.lp_form.specs.Shapes.{are_places, vectors_fit}
use Rattle.lp_form.proofs.Held.{spots_rise}

filter_few : {X : Type 0} (p : X → Bool) (xs : List X) → length (filter p xs) ≤ length xs
filter_few p [] = omega arith
filter_few p (x ∷ xs) = by_test (p x) (filter_few p xs)
  where
    by_test : (b : Bool) → length (filter p xs) ≤ length xs → length (if b then x ∷ filter p xs else filter p xs) ≤ suc (length xs)
    by_test true h = omega (arith, h)
    by_test false h = omega (arith, h)

module _ {F : Type 0} (value : F → ℚ) where
  places_of : (n low : ℕ) (row : List (RowSpot F)) → Rises n low (entries value row) → are_places n low row ≡ true
  places_of n low [] h = refl
  places_of n low (c ∷ row) h =
      let above : low < c.at = h.0 in
      let inside : c.at ≤ n = h.1 in
      ap₂ (λ a b. a && b) (lt-ltb low c.at above) (ap₂ (λ a b. a && b) (le-leb c.at n inside) (places_of n c.at row h.2))

  pub row_places : (n : ℕ) (row : List (RowSpot F)) (spots : List Spot) → entries value row ≡ map entry_of spots → IsVector n spots → are_places n 0 row ≡ true
  row_places n row spots e v = places_of n 0 row (subst (λ es. Rises n 0 es) (sym e) (spots_rise n 0 spots v.sparse v.places))

  pub rows_places : (n : ℕ) (all : List (List (RowSpot F))) (lists : List (List Spot)) → map (entries value) all ≡ map (map entry_of) lists → All (IsVector n) lists →
      list_all (are_places n 0) all ≡ true
  rows_places n [] lists e v = refl
  rows_places n (r ∷ all) [] e v = absurd (cc)
  rows_places n (r ∷ all) (l ∷ lists) e v =
      let own : entries value r ≡ map entry_of l = cc in
      let rest : map (entries value) all ≡ map (map entry_of) lists = cc in
      ap₂ (λ a b. a && b) (row_places n r l own (All-head (IsVector n) l lists v)) (rows_places n all lists rest (All-tail (IsVector n) l lists v))

  pub sides_places : (n : ℕ) (all : List (SideOf F)) (lists : List (List Spot)) → map (λ s. entries value s.g) all ≡ map (map entry_of) lists → All (IsVector n) lists →
      list_all (λ s. are_places n 0 s.g) all ≡ true
  sides_places n [] lists e v = refl
  sides_places n (s ∷ all) [] e v = absurd (cc)
  sides_places n (s ∷ all) (l ∷ lists) e v =
      let own : entries value s.g ≡ map entry_of l = cc in
      let rest : map (λ s. entries value s.g) all ≡ map (map entry_of) lists = cc in
      ap₂ (λ a b. a && b) (row_places n s.g l own (All-head (IsVector n) l lists v)) (sides_places n all lists rest (All-tail (IsVector n) l lists v))

  -- no value is 0
  abbrev IsKept : RowSpot F → Type 0
  IsKept c = IsTrue (not (is_zero (value c.value)))

  row_kept : (low : ℕ) (row : List (RowSpot F)) (spots : List Spot) → entries value row ≡ map entry_of spots → rises_above low spots ≡ true → All IsKept row
  row_kept low [] spots e h = All-nil IsKept
  row_kept low (c ∷ row) [] e h = absurd (cc)
  row_kept low (c ∷ row) (s ∷ spots) e h =
      let same : lines.entry_of value c ≡ entry_of s = cc in
      let own : value c.value ≡ s.value = ap (λ d. d.value) same in
      let rest : entries value row ≡ map entry_of spots = cc in
      let first = both_true (nat_lt low s.at) (not (is_zero s.value) && rises_above s.at spots) h in
      let second = both_true (not (is_zero s.value)) (rises_above s.at spots) first.1 in
      All-cons IsKept c row (ap (λ q. not (is_zero q)) own ∙ second.0) (row_kept s.at row spots rest second.1)

  pub rows_kept : (n : ℕ) (all : List (List (RowSpot F))) (lists : List (List Spot)) → map (entries value) all ≡ map (map entry_of) lists → All (IsVector n) lists → All (λ r. All IsKept r) all
  rows_kept n [] lists e v = All-nil (λ r. All IsKept r)
  rows_kept n (r ∷ all) [] e v = absurd (cc)
  rows_kept n (r ∷ all) (l ∷ lists) e v =
      let own : entries value r ≡ map entry_of l = cc in
      let rest : map (entries value) all ≡ map (map entry_of) lists = cc in
      let first : IsVector n l = All-head (IsVector n) l lists v in
      All-cons (λ q. All IsKept q) r all (row_kept 0 r l own first.sparse) (rows_kept n all lists rest (All-tail (IsVector n) l lists v))

  pub sides_kept : (n : ℕ) (all : List (SideOf F)) (lists : List (List Spot)) → map (λ s. entries value s.g) all ≡ map (map entry_of) lists → All (IsVector n) lists →
      All (λ s. All IsKept s.g) all
  sides_kept n [] lists e v = All-nil (λ s. All IsKept s.g)
  sides_kept n (s ∷ all) [] e v = absurd (cc)
  sides_kept n (s ∷ all) (l ∷ lists) e v =
      let own : entries value s.g ≡ map entry_of l = cc in
      let rest : map (λ s. entries value s.g) all ≡ map (map entry_of) lists = cc in
      let first : IsVector n l = All-head (IsVector n) l lists v in
      All-cons (λ t. All IsKept t.g) s all (row_kept 0 s.g l own first.sparse) (sides_kept n all lists rest (All-tail (IsVector n) l lists v))

  -- ---- the cone and the duality vector
  fit_parts : (q : ℕ) (vectors : List (List F)) → are_vectors q vectors ≡ true → (nat_le (length vectors) 100000 ≡ true) × (are_wide q vectors ≡ true)
  fit_parts q vectors h = both_true (nat_le (length vectors) 100000) (are_wide q vectors) (both_true (nat_lt 0 (length vectors)) (nat_le (length vectors) 100000 && are_wide q vectors) h).1

  wide_rows : (q : ℕ) (rows : List (List F)) (vs : List (List ℚ)) → numbers value rows ≡ vs → are_wide q vs ≡ true → are_wide q rows ≡ true
  wide_rows q [] vs e h = refl
  wide_rows q (r ∷ rows) [] e h = absurd (cc)
  wide_rows q (r ∷ rows) (v ∷ vs) e h =
      let own : map value r ≡ v = cc in
      let rest : numbers value rows ≡ vs = cc in
      let b = both_true (length v == q) (are_wide q vs) h in
      ap₂ (λ x y. x && y) (ap (λ n. n == q) (sym (length-map r value) ∙ ap length own) ∙ b.0) (wide_rows q rows vs rest b.1)

  vectors_are : (q : ℕ) (rows : List (List F)) (vs : List (List ℚ)) → numbers value rows ≡ vs → are_vectors q vs ≡ true → are_vectors q rows ≡ true
  vectors_are q rows vs e h =
      let many : length rows ≡ length vs = sym (length-map rows (map value)) ∙ ap length e in
      let first = both_true (nat_lt 0 (length vs)) (nat_le (length vs) 100000 && are_wide q vs) h in
      let second = both_true (nat_le (length vs) 100000) (are_wide q vs) first.1 in
      ap₂ (λ a b. a && b) (ap (λ n. nat_lt 0 n) many ∙ first.0) (ap₂ (λ a b. a && b) (ap (λ n. nat_le n 100000) many ∙ second.0) (wide_rows q rows vs e second.1))

  pub cone_shaped : (q : ℕ) (c : ConeOf F) (given : Cone) → cone_of value c ≡ given → cone_fits q given ≡ true → vectors_fit q c ≡ true
  cone_shaped q Orthant given e h = refl
  cone_shaped q (Gens vectors) given e h = vectors_are q vectors (numbers value vectors) refl (ap (cone_fits q) e ∙ h)
  cone_shaped q (Dual vectors) given e h = vectors_are q vectors (numbers value vectors) refl (ap (cone_fits q) e ∙ h)

  pub duality_shaped : (q : ℕ) (f : Option (List F)) (given : Option (List ℚ)) → duality_of value f ≡ given → duality_fits q given ≡ true → duality_fits q f ≡ true
  duality_shaped q None given e h = refl
  duality_shaped q (Some f) given e h = ap (λ n. n == q) (sym (length-map f value)) ∙ ap (duality_fits q) e ∙ h

  -- the vectors of a cone are wide
  pub gens_wide : (q : ℕ) (c : ConeOf F) (vectors : List (List F)) → c ≡ Gens vectors → vectors_fit q c ≡ true → AreWide q (numbers value vectors)
  gens_wide q c vectors e h = numbers-wide value q vectors (fit_parts q vectors (ap (vectors_fit q) (sym e) ∙ h)).1

  pub dual_wide : (q : ℕ) (c : ConeOf F) (vectors : List (List F)) → c ≡ Dual vectors → vectors_fit q c ≡ true → AreWide q (numbers value vectors)
  dual_wide q c vectors e h = numbers-wide value q vectors (fit_parts q vectors (ap (vectors_fit q) (sym e) ∙ h)).1

  pub gens_few : (q : ℕ) (c : ConeOf F) (vectors : List (List F)) → c ≡ Gens vectors → vectors_fit q c ≡ true → length vectors ≤ 100000
  gens_few q c vectors e h = leb-true (length vectors) 100000 (fit_parts q vectors (ap (vectors_fit q) (sym e) ∙ h)).0

  pub dual_few : (q : ℕ) (c : ConeOf F) (vectors : List (List F)) → c ≡ Dual vectors → vectors_fit q c ≡ true → length vectors ≤ 100000
  dual_few q c vectors e h = leb-true (length vectors) 100000 (fit_parts q vectors (ap (vectors_fit q) (sym e) ∙ h)).0

  -- the vectors that are not 0
  pub kept_wide : (q : ℕ) (vectors kept : List (List F)) → numbers value kept ≡ filter (λ v. not (list_all is_zero v)) (numbers value vectors) → AreWide q (numbers value vectors) →
      AreWide q (numbers value kept)
  kept_wide q vectors kept e h = subst (λ rows. AreWide q rows) (sym e) (record { wide = All-filter (λ v. not (list_all is_zero v)) (HasWidth q) (numbers value vectors) h.wide })

  pub kept_few : (n : ℕ) (vectors kept : List (List F)) → numbers value kept ≡ filter (λ v. not (list_all is_zero v)) (numbers value vectors) → length vectors ≤ n → length kept ≤ n
  kept_few n vectors kept e h =
      omega (arith, h, length-map kept (map value), ap length e, filter_few (λ v. not (list_all is_zero v)) (numbers value vectors), length-map vectors (map value))
