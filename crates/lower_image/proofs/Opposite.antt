-- In the program of a weight the two columns of an entry of w are opposite.
use Rattle.std.proofs.Common.{◌≡◌, ℕ, List, ◌++◌, ◌∙◌, ◌<◌, ◌+◌, ◌-◌, All}
use Rattle.std.proofs.lemmas.List.{length-map}
use Rattle.std.proofs.lemmas.List.Elements.{All-nil, All-append}
use Rattle.exact_field.specs.Rational.{ℚ}
use Rattle.polyhedra.specs.Negatives.{negated}
use Rattle.polyhedra.specs.Vectors.{zeros}
use Rattle.tableaux.specs.Table.{Table, column_of, listed, unit}
use Rattle.tableaux.proofs.Places.{all_from}
use Rattle.vlp_problem.specs.Sides.{side_column, numbers_from}
use Rattle.vlp_problem.specs.declared.problem.Problem.{Problem}
use Rattle.vlp_problem.specs.declared.problem.Cone.{Cone}
use Rattle.vlp_problem.specs.declared.problem.Cone.TheVariants.{Orthant, Gens, Dual}
use Rattle.vlp_problem.proofs.Numbers.{length-numbers}
use Rattle.upper_image.specs.UpperImage.{objective_column}
use Rattle.lp_form.specs.Programs.{side_total, on_parts, balances, weight_members, weight_unknowns}
use Rattle.lp_form.proofs.Systems.{length-unit, length-negated, length-zeros, length-side_column}
use Rattle.benson_program.proofs.Opposite.{IsOpposite, parts_opposite, opposite_column}
use Rattle.lower_image.proofs.WeightEquations.{weight_rows}

members_opposite : (m q i : ℕ) (cone : Cone) → i < q → All (IsOpposite (m + i) (m + q + i)) (weight_members m q cone)
members_opposite m q i Orthant inside = All-nil (IsOpposite (m + i) (m + q + i))
members_opposite m q i (Gens vectors) inside = All-nil (IsOpposite (m + i) (m + q + i))
members_opposite m q i (Dual vectors) inside =
    all_from (IsOpposite (m + i) (m + q + i)) 1 q _
    (λ j low high. parts_opposite m q i (zeros m) (unit q j) (negated (column_of vectors j)) (length-zeros m) (length-unit q j) inside)

opposite_rows : (file : Problem) (i : ℕ) → i < file.objs → All (IsOpposite (side_total file + i) (side_total file + file.objs + i)) (weight_rows file)
opposite_rows file i inside =
    let m : ℕ = side_total file in
    let q : ℕ = file.objs in
    let more : ℕ = weight_unknowns file.cone in
    let P : List ℚ → Type 0 = IsOpposite (m + i) (m + q + i) in
    let fixed : Table = listed q (λ i. on_parts (zeros m) (unit q i) (zeros more)) in
    All-append P (balances file more ++ fixed) (weight_members m q file.cone)
    (All-append P (balances file more) fixed
    (all_from P 1 file.cols _
    (λ j low high. parts_opposite m q i (side_column file j) (negated (objective_column file j)) (zeros more) (length-side_column file j)
    (length-negated (objective_column file j) q (length-map (numbers_from 1 q) _ ∙ length-numbers 1 q)) inside))
    (all_from P 1 q _ (λ j low high. parts_opposite m q i (zeros m) (unit q j) (zeros more) (length-zeros m) (length-unit q j) inside)))
    (members_opposite m q i file.cone inside)

pub opposite_entries : (file : Problem) (i : ℕ) → i < file.objs →
    column_of (weight_rows file) (side_total file + i + 1) ≡ negated (column_of (weight_rows file) (side_total file + file.objs + i + 1))
opposite_entries file i inside =
    opposite_column (side_total file + i) (side_total file + file.objs + i) (weight_rows file) (opposite_rows file i inside)
