-- In Benson's program the two columns of an entry of w are opposite.
use Rattle.std.proofs.Common.{◌≡◌, ℕ, List, [], ◌∷◌, ◌++◌, length, refl, sym, ap, ap₂, ◌∙◌, arith, ◌<◌, ◌+◌, ◌-◌, All, slice_index_or, length-append}
use Rattle.std.proofs.lemmas.List.{get_or_append_left, get_or-append_right, length-map}
use Rattle.std.proofs.lemmas.List.Elements.{All-nil, All-cons, All-head, All-tail, All-append}
use Rattle.exact_field.specs.Rational.{ℚ, zero_ℚ, neg_ℚ}
use Rattle.exact_field.specs.Vector.{entry}
use Rattle.polyhedra.specs.Negatives.{negated}
use Rattle.polyhedra.specs.Vectors.{zeros}
use Rattle.polyhedra.proofs.Algebra.{neg_neg}
use Rattle.polyhedra.proofs.Entries.{slice-negated}
use Rattle.tableaux.specs.Table.{Table, column_of, row_of, unit}
use Rattle.tableaux.proofs.Places.{row-wide, all_from}
use Rattle.vlp_problem.specs.Sides.{side_column, numbers_from}
use Rattle.vlp_problem.specs.declared.problem.Problem.{Problem}
use Rattle.vlp_problem.specs.declared.problem.Cone.{Cone}
use Rattle.vlp_problem.specs.declared.problem.Cone.TheVariants.{Orthant, Gens, Dual}
use Rattle.vlp_problem.proofs.Numbers.{length-numbers}
use Rattle.upper_image.specs.UpperImage.{objective_column}
use Rattle.lp_form.specs.Programs.{side_total, on_parts, balances, dual_members, dual_unknowns}
use Rattle.lp_form.proofs.Systems.{IsWideCone, cone_wide, length-unit, length-negated, length-zeros, length-side_column}
use Rattle.benson_program.proofs.Blocks.{benson_equations}

-- the entries at two places, counted from 0, are opposite
abbrev pub IsOpposite : ℕ → ℕ → List ℚ → Type 0
IsOpposite j k r = slice_index_or r j zero_ℚ ≡ neg_ℚ (slice_index_or r k zero_ℚ)

pub parts_opposite : (m q i : ℕ) (u w after : List ℚ) → length u ≡ m → length w ≡ q → i < q → IsOpposite (m + i) (m + q + i) (on_parts u w after)
parts_opposite m q i u w after u_long w_long inside =
    let two : length (u ++ w) ≡ m + q = length-append u w ∙ ap₂ (λ a b. a + b) u_long w_long in
    let three : length (u ++ w ++ negated w) ≡ m + q + q = length-append (u ++ w) (negated w) ∙ ap₂ (λ a b. a + b) two (length-map w neg_ℚ ∙ w_long) in
    let low : m + i - m ≡ i = omega arith in
    let high : m + q + i - (m + q) ≡ i = omega arith in
    get_or_append_left (u ++ w ++ negated w) after zero_ℚ (m + i) (omega (arith, three, inside))
    ∙ get_or_append_left (u ++ w) (negated w) zero_ℚ (m + i) (omega (arith, two, inside))
    ∙ get_or-append_right u w m (m + i) zero_ℚ u_long (omega arith)
    ∙ ap (λ (k : ℕ). slice_index_or w k zero_ℚ) low
    ∙ sym (neg_neg (slice_index_or w i zero_ℚ))
    ∙ ap neg_ℚ
    (sym
    (get_or_append_left (u ++ w ++ negated w) after zero_ℚ (m + q + i) (omega (arith, three, inside))
    ∙ get_or-append_right (u ++ w) (negated w) (m + q) (m + q + i) zero_ℚ two (omega arith)
    ∙ ap (λ (k : ℕ). slice_index_or (negated w) k zero_ℚ) high
    ∙ slice-negated w i))

members_opposite : (m q i : ℕ) (cone : Cone) → IsWideCone q cone → i < q → All (IsOpposite (m + i) (m + q + i)) (dual_members m q cone)
members_opposite m q i Orthant wide inside =
    all_from (IsOpposite (m + i) (m + q + i)) 1 q _
    (λ j low high. parts_opposite m q i (zeros m) (unit q j) (negated (unit q j)) (length-zeros m) (length-unit q j) inside)
members_opposite m q i (Gens vectors) wide inside =
    all_from (IsOpposite (m + i) (m + q + i)) 1 (length vectors) _
    (λ g low high. parts_opposite m q i (zeros m) (row_of vectors g) (negated (unit (length vectors) g)) (length-zeros m)
    (row-wide q vectors g wide low (omega arith)) inside)
members_opposite m q i (Dual vectors) wide inside =
    all_from (IsOpposite (m + i) (m + q + i)) 1 q _
    (λ j low high. parts_opposite m q i (zeros m) (unit q j) (negated (column_of vectors j)) (length-zeros m) (length-unit q j) inside)

opposite_rows : (file : Problem) (c : List ℚ) (i : ℕ) → length c ≡ file.objs → i < file.objs →
    All (IsOpposite (side_total file + i) (side_total file + file.objs + i)) (benson_equations file c)
opposite_rows file c i c_long inside =
    let m : ℕ = side_total file in
    let q : ℕ = file.objs in
    let more : ℕ = dual_unknowns q file.cone in
    let P : List ℚ → Type 0 = IsOpposite (m + i) (m + q + i) in
    let last : List ℚ = on_parts (zeros m) c (zeros more) in
    All-append P (balances file more ++ dual_members m q file.cone) (last ∷ [])
    (All-append P (balances file more) (dual_members m q file.cone)
    (all_from P 1 file.cols _
    (λ j low high. parts_opposite m q i (side_column file j) (negated (objective_column file j)) (zeros more) (length-side_column file j)
    (length-negated (objective_column file j) q (length-map (numbers_from 1 q) _ ∙ length-numbers 1 q)) inside))
    (members_opposite m q i file.cone (cone_wide q file.cone file.cone_vectors) inside))
    (All-cons P last [] (parts_opposite m q i (zeros m) c (zeros more) (length-zeros m) c_long inside) (All-nil P))

pub opposite_column : (j k : ℕ) (t : Table) → All (IsOpposite j k) t → column_of t (j + 1) ≡ negated (column_of t (k + 1))
opposite_column j k [] h = refl
opposite_column j k (r ∷ t) h =
    let first : j + 1 - 1 ≡ j = omega arith in
    let second : k + 1 - 1 ≡ k = omega arith in
    let here : entry r (j + 1) ≡ neg_ℚ (entry r (k + 1)) =
    ap (λ (i : ℕ). slice_index_or r i zero_ℚ) first ∙ All-head (IsOpposite j k) r t h ∙ ap (λ (i : ℕ). neg_ℚ (slice_index_or r i zero_ℚ)) (sym second) in
    ap₂ (λ (a : ℚ) (b : List ℚ). a ∷ b) here (opposite_column j k t (All-tail (IsOpposite j k) r t h))

pub opposite_entries : (file : Problem) (c : List ℚ) (i : ℕ) → length c ≡ file.objs → i < file.objs →
    column_of (benson_equations file c) (side_total file + i + 1) ≡ negated (column_of (benson_equations file c) (side_total file + file.objs + i + 1))
opposite_entries file c i c_long inside =
    opposite_column (side_total file + i) (side_total file + file.objs + i) (benson_equations file c) (opposite_rows file c i c_long inside)
