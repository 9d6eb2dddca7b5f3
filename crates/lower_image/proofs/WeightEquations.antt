-- The equations of the program of a weight at a solution u, a, b, h: the sides times u less the objectives times a - b, a - b itself, and
-- in the dual form a - b less the combination of the vectors by h.
use Rattle.std.proofs.Common.{◌≡◌, ℕ, List, [], ◌++◌, length, refl, sym, ap, ap₂, ◌∙◌, arith, ◌+◌, ◌-◌, length-append}
use Rattle.std.proofs.lemmas.List.{map-append}
use Rattle.exact_field.specs.Rational.{ℚ, zero_ℚ, ◌+ℚ◌, neg_ℚ}
use Rattle.exact_field.specs.Vector.{dot}
use Rattle.polyhedra.specs.Negatives.{negated}
use Rattle.polyhedra.specs.Vectors.{zeros, plus, combination, values}
use Rattle.polyhedra.proofs.Laws.{add_zero}
use Rattle.polyhedra.proofs.Algebra.{zero_add}
use Rattle.polyhedra.proofs.Linear.{dot_comm, dot-zeros, length-combination, length-plus, length-zeros}
use Rattle.polyhedra.proofs.Negatives.{dot-negated}
use Rattle.polyhedra.proofs.Entries.{entry-negated}
use Rattle.tableaux.specs.Table.{Table, listed, unit, minus}
use Rattle.tableaux.proofs.Places.{entry-plus}
use Rattle.tableaux.proofs.Unique.{dot-unit, entry-combination}
use Rattle.vlp_problem.specs.Sides.{side_column, side_bounds}
use Rattle.vlp_problem.specs.declared.problem.Problem.{Problem}
use Rattle.vlp_problem.specs.declared.problem.Cone.{Cone}
use Rattle.vlp_problem.specs.declared.problem.Cone.TheVariants.{Orthant, Gens, Dual}
use Rattle.upper_image.specs.UpperImage.{normals, objectives, objective_column}
use Rattle.upper_image.proofs.Widths.{wide_normals, wide_objectives, objective_columns, side_columns}
use Rattle.lp_form.specs.Programs.{side_total, on_parts, balances, weight_members, weight_unknowns, weight_equations}
use Rattle.lp_form.proofs.Systems.{IsWideCone, length-unit, length-negated, length-side_column, length-side_bounds}
use Rattle.overflows.proofs.Violated.{length-minus}
use Rattle.benson_program.proofs.Blocks.{on_parts-value, values_listed, members-value, length-objective_column}

none_left : (n : ℕ) (v : List ℚ) → dot (zeros n) v ≡ zero_ℚ
none_left n v = dot_comm (zeros n) v ∙ dot-zeros v n

-- the balances, with any number of unknowns after them
module _ (file : Problem) (more : ℕ) (u a b h : List ℚ) (u_long : length u ≡ side_total file) (a_long : length a ≡ file.objs)
    (b_long : length b ≡ file.objs) where
  pub balances-value : values (balances file more) (u ++ a ++ b ++ h) ≡
      plus (combination file.cols u (normals file)) (negated (combination file.cols (minus a b) (objectives file)))
  balances-value =
      values_listed file.cols _ (u ++ a ++ b ++ h) (plus sides_part (negated objectives_part))
      (length-plus file.cols sides_part (negated objectives_part) (length-combination file.cols u (normals file) (wide_normals file))
      (length-negated objectives_part file.cols (length-combination file.cols (minus a b) (objectives file) (wide_objectives file))))
      (λ j low high.
      on_parts-value (side_column file j) (negated (objective_column file j)) (zeros more) u a b h (length-side_column file j ∙ sym u_long)
      (length-negated (objective_column file j) file.objs (length-objective_column file j) ∙ sym a_long)
      (length-negated (objective_column file j) file.objs (length-objective_column file j) ∙ sym b_long)
      ∙ ap (λ x. dot (side_column file j) u +ℚ dot (negated (objective_column file j)) (minus a b) +ℚ x) (none_left more h)
      ∙ add_zero (dot (side_column file j) u +ℚ dot (negated (objective_column file j)) (minus a b))
      ∙ ap₂ (λ x y. x +ℚ y)
      (dot_comm (side_column file j) u ∙ ap (λ k. dot u k) (sym (side_columns file j)) ∙ sym (entry-combination file.cols u (normals file) j))
      (dot_comm (negated (objective_column file j)) (minus a b) ∙ dot-negated (minus a b) (objective_column file j)
      ∙ ap neg_ℚ (ap (λ k. dot (minus a b) k) (sym (objective_columns file j low high))
      ∙ sym (entry-combination file.cols (minus a b) (objectives file) j))
      ∙ sym (entry-negated objectives_part j))
      ∙ sym (entry-plus sides_part (negated objectives_part) j))
    where
      sides_part : List ℚ
      sides_part = combination file.cols u (normals file)

      objectives_part : List ℚ
      objectives_part = combination file.cols (minus a b) (objectives file)

-- ---- what the cone asks after w
-- in the dual form that the combination of the vectors by h is w, and nothing for the other cones
abbrev pub tied : ℕ → Cone → (w h : List ℚ) → List ℚ
tied q Orthant w h = []
tied q (Gens vectors) w h = []
tied q (Dual vectors) w h = plus w (negated (combination q h vectors))

pub length-tied : (q : ℕ) (cone : Cone) (w h : List ℚ) → IsWideCone q cone → length w ≡ q → length (tied q cone w h) ≡ weight_equations q cone
length-tied q Orthant w h wide l = refl
length-tied q (Gens vectors) w h wide l = refl
length-tied q (Dual vectors) w h wide l =
    length-plus q w (negated (combination q h vectors)) l (length-negated (combination q h vectors) q (length-combination q h vectors wide))

pub tied-value : (q : ℕ) (cone : Cone) (u a b h : List ℚ) → length a ≡ q → length b ≡ q → IsWideCone q cone → length h ≡ weight_unknowns cone →
    values (weight_members (length u) q cone) (u ++ a ++ b ++ h) ≡ tied q cone (minus a b) h
tied-value q Orthant u a b h i j wide l = refl
tied-value q (Gens vectors) u a b h i j wide l = refl
tied-value q (Dual vectors) u a b h i j wide l = members-value q u a b h i j (Dual vectors) wide l

-- ---- all equations
abbrev pub weight_rows : Problem → Table
weight_rows file =
    let m = side_total file in
    let more = weight_unknowns file.cone in
    balances file more ++ listed file.objs (λ i. on_parts (zeros m) (unit file.objs i) (zeros more)) ++ weight_members m file.objs file.cone

module _ (file : Problem) (u a b h : List ℚ) (u_long : length u ≡ side_total file) (a_long : length a ≡ file.objs) (b_long : length b ≡ file.objs)
    (wide : IsWideCone file.objs file.cone) (h_long : length h ≡ weight_unknowns file.cone) where
  abbrev more : ℕ
  more = weight_unknowns file.cone

  fixed-value : values (listed file.objs (λ i. on_parts (zeros (side_total file)) (unit file.objs i) (zeros more))) (u ++ a ++ b ++ h) ≡ minus a b
  fixed-value =
      values_listed file.objs _ (u ++ a ++ b ++ h) (minus a b) (length-minus file.objs a b a_long b_long)
      (λ j low high.
      on_parts-value (zeros (side_total file)) (unit file.objs j) (zeros more) u a b h (length-zeros (side_total file) ∙ sym u_long)
      (length-unit file.objs j ∙ sym a_long) (length-unit file.objs j ∙ sym b_long)
      ∙ ap₂ (λ x y. x +ℚ y)
      (ap₂ (λ x y. x +ℚ y) (none_left (side_total file) u) (dot-unit file.objs j (minus a b) low high) ∙ zero_add _) (none_left more h)
      ∙ add_zero _)

  pub rows-value : values (weight_rows file) (u ++ a ++ b ++ h) ≡
      plus (combination file.cols u (normals file)) (negated (combination file.cols (minus a b) (objectives file)))
      ++ minus a b ++ tied file.objs file.cone (minus a b) h
  rows-value =
      map-append (λ r. dot r (u ++ a ++ b ++ h)) (balances file more ++ listed file.objs (λ i. on_parts (zeros (side_total file)) (unit file.objs i) (zeros more)))
      (weight_members (side_total file) file.objs file.cone)
      ∙ ap₂ (λ x y. x ++ y)
      (map-append (λ r. dot r (u ++ a ++ b ++ h)) (balances file more) (listed file.objs (λ i. on_parts (zeros (side_total file)) (unit file.objs i) (zeros more)))
      ∙ ap₂ (λ x y. x ++ y) (balances-value file more u a b h u_long a_long b_long) fixed-value)
      (ap (λ n. values (weight_members n file.objs file.cone) (u ++ a ++ b ++ h)) (sym u_long)
      ∙ tied-value file.objs file.cone u a b h a_long b_long wide h_long)

-- ---- the parts of a solution
abbrev pub weight_total : Problem → ℕ
weight_total file = side_total file + file.objs + file.objs + weight_unknowns file.cone

abbrev pub weight_cost : Problem → List ℚ
weight_cost file = on_parts (side_bounds file) (zeros file.objs) (zeros (weight_unknowns file.cone))

pub length-weight_cost : (file : Problem) → length (weight_cost file) ≡ weight_total file
length-weight_cost file =
    omega (
      arith,
      length-append (side_bounds file) (zeros file.objs),
      length-append (side_bounds file ++ zeros file.objs) (negated (zeros file.objs)),
      length-append (side_bounds file ++ zeros file.objs ++ negated (zeros file.objs)) (zeros (weight_unknowns file.cone)),
      length-side_bounds file,
      length-zeros file.objs,
      length-negated (zeros file.objs) file.objs (length-zeros file.objs),
      length-zeros (weight_unknowns file.cone),
    )
