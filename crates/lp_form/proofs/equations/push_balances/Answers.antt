use Rattle.std.proofs.Common.{◌≡◌, List, ◌++◌, ◌+◌, map, IsTrue, sym, ap, ap₂, ◌∙◌, subst, arith}
use Rattle.std.specs.List.{list_all}
use Rattle.exact_field.specs.Rational.{ℚ, neg_ℚ}
use Rattle.polyhedra.specs.Negatives.{negated}
use Rattle.polyhedra.specs.Vectors.{zeros}
use Rattle.tableaux.specs.Table.{listed}
use Rattle.lin_rows.specs.Lines.{entries, sum_at}
use Rattle.lin_rows.specs.declared.spots.Spot.{Spot}
use Rattle.lp_form.specs.declared.data.SideOf.{SideOf}
use Rattle.upper_image.specs.UpperImage.{objective_column}
use Rattle.vlp_problem.specs.Sides.{side_column}
use Rattle.lp_form.specs.Building.{joined}
use Rattle.lp_form.specs.Programs.{on_parts}
use Rattle.lp_form.specs.Shapes.{are_places}
use Rattle.lp_form.proofs.Joined.{joined_more}
use Rattle.lp_form.proofs.Figures.{side_column_is, objective_column_is}
use Rattle.lp_form.proofs.Joined.{parts_pushed}
use Rattle.lp_form.proofs.equations.push_balances.Goals as goal

pub loop-j-preserved : goal.loop-j-preserved
loop-j-preserved g c =
    let value = g.F.Field.value in
    let form = c.args.form.now in
    let h : SideOf _ → ℚ = λ s. sum_at (entries value s.g) (c.loop-j.j + 1) in
    let k : List (Spot _) → ℚ = λ r. neg_ℚ (sum_at (entries value r) (c.loop-j.j + 1)) in
    λ file stands.
    let same_p = c.as_slice.ensures.items in
    let same_s = c.as_slice-in-loop-j.ensures.items in
    let l0 : List ℚ = map value c.loop-j.list in
    let u : List ℚ = map h c.as_slice-in-loop-j.result.now in
    let w : List ℚ = map value c.as_slice-in-loop-j-2.result.now in
    let w_is : w ≡ negated (objective_column file (c.loop-j.j + 1)) =
    ap (map value) c.as_slice-in-loop-j-2.ensures.items ∙ c.in_ok-w.ensures form.cols (subst (λ xs. IsTrue (list_all (are_places form.cols 0) xs)) (sym same_p) form.objective_places)
    ∙ ap (map k) same_p ∙ objective_column_is value file form stands (c.loop-j.j + 1) (omega arith) (omega arith) in
    joined_more (map value c.args.list.now) l0 (map value c.push_zeros.new.list) (on_parts u w (zeros c.args.more)) c.loop-j.j
    (λ j. on_parts (side_column file j) (negated (objective_column file j)) (zeros c.args.more)) (c.loop-j.invariant file stands)
    (parts_pushed l0 (map value c.push_sides_at.new.list) (map value c.push_difference.new.list) (map value c.push_zeros.new.list) u w (zeros c.args.more)
    (c.in_ok-push_sides_at.ensures form.cols (subst (λ xs. IsTrue (list_all (λ s. are_places form.cols 0 s.g) xs)) (sym same_s) form.side_places)) c.in_ok-push_difference.ensures c.in_ok-push_zeros.ensures)
    (ap₂ (λ a b. on_parts a b (zeros c.args.more)) (ap (map h) same_s ∙ side_column_is value file form stands (c.loop-j.j + 1) (omega arith) (omega arith)) w_is)

pub returns : goal.returns
returns g c =
    let value = g.F.Field.value in
    λ file stands.
    let over : c.loop-j.j ≡ c.args.form.now.cols = omega arith in
    c.loop-j.invariant file stands
    ∙ ap (λ n. map value c.args.list.now ++ joined (listed n (λ j. on_parts (side_column file j) (negated (objective_column file j)) (zeros c.args.more)))) (over ∙ stands.cols)
