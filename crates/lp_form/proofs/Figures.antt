-- Columns of the sides and of the objectives, as the data have them.
use Rattle.std.proofs.Common.{◌≡◌, ℕ, List, [], ◌∷◌, length, map, refl, sym, ap, ap₂, ◌∙◌, subst, arith, ◌≤◌, true, All, nat_lt, nat_le, slice_index_or}
use Rattle.std.proofs.lemmas.Bool.{ltb-true, leb-true}
use Rattle.std.specs.Prelude.{◌&&◌}
use Rattle.std.specs.List.{list_all}
use Rattle.std.proofs.lemmas.List.{length-map, get_or-map}
use Rattle.polyhedra.specs.Vectors.{AreWide}
use Rattle.lin_rows.specs.Read.{numbers}
use Rattle.exact_field.specs.Rational.{ℚ, zero_ℚ, neg_ℚ}
use Rattle.exact_field.specs.Vector.{entry}
use Rattle.polyhedra.specs.Negatives.{negated}
use Rattle.polyhedra.proofs.Tests.{both_true}
use Rattle.tableaux.proofs.Places.{listed-place}
use Rattle.lin_rows.specs.Lines.{Rises, entries, sum_at}
use Rattle.lin_rows.specs.declared.spots.Spot.{Spot}
use Rattle.lin_rows.proofs.Pivoted.{dense_is}
use Rattle.upper_image.specs.Spots.{column}
use Rattle.upper_image.specs.UpperImage.{objective_column}
use Rattle.upper_image.proofs.Widths.{objective_columns, side_columns}
use Rattle.vlp_problem.specs.Sides.{sides, side_column, numbers_from}
use Rattle.vlp_problem.specs.declared.problem.Problem.{Problem}
use Rattle.vlp_problem.proofs.Numbers.{length-numbers}
use Rattle.lp_form.specs.declared.data.Data.{Data}
use Rattle.lp_form.specs.declared.data.SideOf.{SideOf}
use Rattle.lp_form.specs.Data.{IsDataOf, vector_of}
use Rattle.lp_form.specs.Programs.{side_total}
use Rattle.lp_form.specs.Shapes.{are_places}

module _ {F : Type 0} (value : F → ℚ) where
  pub places_rise : (n low : ℕ) (spots : List (Spot F)) → are_places n low spots ≡ true → Rises n low (entries value spots)
  places_rise n low [] h = tt
  places_rise n low (c ∷ spots) h =
      let first = both_true (nat_lt low c.at) (nat_le c.at n && are_places n c.at spots) h in
      let second = both_true (nat_le c.at n) (are_places n c.at spots) first.1 in
      (ltb-true low c.at first.0, leb-true c.at n second.0, places_rise n c.at spots second.1)

  -- vectors of q entries have an entry i
  pub wide_enough : (q i : ℕ) (vectors : List (List F)) → AreWide q (numbers value vectors) → i ≤ q → All (λ v. i ≤ length v) vectors
  wide_enough q i vectors wide l = λ k d inside.
      let same : slice_index_or (numbers value vectors) k [] ≡ map value (slice_index_or vectors k d) = get_or-map (map value) vectors k d [] inside in
      let long : length (slice_index_or (numbers value vectors) k []) ≡ q = wide.wide k [] (omega (arith, inside, length-map vectors (map value))) in
      omega (arith, l, long, ap length same, length-map (slice_index_or vectors k d) value)

  -- the entry of a line
  entry_of_line : (n j : ℕ) (spots : List (Spot F)) → are_places n 0 spots ≡ true → 1 ≤ j → j ≤ n → entry (vector_of value n spots) j ≡ sum_at (entries value spots) j
  entry_of_line n j spots h low high =
      ap (λ v. entry v j) (dense_is n (entries value spots) (places_rise n 0 spots h)) ∙ listed-place n (sum_at (entries value spots)) j zero_ℚ low high

  sides_at : (n j : ℕ) (all : List (SideOf F)) → list_all (λ s. are_places n 0 s.g) all ≡ true → 1 ≤ j → j ≤ n →
      map (λ s. sum_at (entries value s.g) j) all ≡ column (map (λ s. vector_of value n s.g) all) j
  sides_at n j [] h low high = refl
  sides_at n j (s ∷ rest) h low high =
      let b = both_true (are_places n 0 s.g) (list_all (λ s. are_places n 0 s.g) rest) h in
      ap₂ (λ x y. x ∷ y) (sym (entry_of_line n j s.g b.0 low high)) (sides_at n j rest b.1 low high)

  rows_at : (n j : ℕ) (all : List (List (Spot F))) → list_all (are_places n 0) all ≡ true → 1 ≤ j → j ≤ n →
      map (λ r. neg_ℚ (sum_at (entries value r) j)) all ≡ negated (column (map (vector_of value n) all) j)
  rows_at n j [] h low high = refl
  rows_at n j (r ∷ rest) h low high =
      let b = both_true (are_places n 0 r) (list_all (are_places n 0) rest) h in
      ap₂ (λ x y. neg_ℚ x ∷ y) (sym (entry_of_line n j r b.0 low high)) (rows_at n j rest b.1 low high)

  module _ (file : Problem) (form : Data F) (data_of : IsDataOf value file form) where
    pub side_column_is : (j : ℕ) → 1 ≤ j → j ≤ form.cols → map (λ s. sum_at (entries value s.g) j) form.sides ≡ side_column file j
    side_column_is j low high =
        sides_at form.cols j form.sides form.side_places low high
        ∙ ap (λ n. column (map (λ s. vector_of value n s.g) form.sides) j) data_of.cols
        ∙ ap (λ t. column t j) data_of.normals ∙ side_columns file j

    pub objective_column_is : (j : ℕ) → 1 ≤ j → j ≤ form.cols → map (λ r. neg_ℚ (sum_at (entries value r) j)) form.p ≡ negated (objective_column file j)
    objective_column_is j low high =
        rows_at form.cols j form.p form.objective_places low high
        ∙ ap (λ n. negated (column (map (vector_of value n) form.p) j)) data_of.cols
        ∙ ap (λ t. negated (column t j)) data_of.objectives ∙ ap negated (objective_columns file j low (subst (λ (n : ℕ). j ≤ n) data_of.cols high))

    pub side_number : length form.sides ≡ side_total file
    side_number = sym (length-map form.sides (λ s. value s.beta)) ∙ ap length data_of.bounds ∙ length-map (sides file) _

    pub objective_number : length form.p ≡ file.objs
    objective_number = sym (length-map form.p (vector_of value file.cols)) ∙ ap length data_of.objectives ∙ length-map (numbers_from 1 file.objs) _ ∙ length-numbers 1 file.objs
