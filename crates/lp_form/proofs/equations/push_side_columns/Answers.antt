use Rattle.std.proofs.Common.{◌≡◌, ◌++◌, ◌+◌, map, IsTrue, sym, ap, ◌∙◌, subst, arith}
use Rattle.std.specs.List.{list_all}
use Rattle.exact_field.specs.Rational.{ℚ}
use Rattle.tableaux.specs.Table.{listed}
use Rattle.lin_rows.specs.Lines.{entries, sum_at}
use Rattle.lp_form.specs.declared.data.SideOf.{SideOf}
use Rattle.vlp_problem.specs.Sides.{side_column}
use Rattle.lp_form.specs.Building.{joined}
use Rattle.lp_form.specs.Shapes.{are_places}
use Rattle.lp_form.proofs.Joined.{joined_more}
use Rattle.lp_form.proofs.Figures.{side_column_is}
use Rattle.lp_form.proofs.equations.push_side_columns.Goals as goal

pub loop-j-preserved : goal.loop-j-preserved
loop-j-preserved g c =
    let value = g.F.Field.value in
    let form = c.args.form.now in
    let h : SideOf _ → ℚ = λ s. sum_at (entries value s.g) (c.loop-j.j + 1) in
    λ file stands.
    let same = c.as_slice.ensures.items in
    let more = c.in_ok-push_sides_at.ensures form.cols (subst (λ xs. IsTrue (list_all (λ s. are_places form.cols 0 s.g) xs)) (sym same) form.side_places) in
    joined_more (map value c.args.list.now) (map value c.loop-j.list) (map value c.push_sides_at.new.list) (map h c.as_slice.result.now) c.loop-j.j
    (side_column file) (c.loop-j.invariant file stands) more (ap (map h) same ∙ side_column_is value file form stands (c.loop-j.j + 1) (omega arith) (omega arith))

pub returns : goal.returns
returns g c =
    let value = g.F.Field.value in
    λ file stands.
    let over : c.loop-j.j ≡ c.args.form.now.cols = omega arith in
    c.loop-j.invariant file stands ∙ ap (λ n. map value c.args.list.now ++ joined (listed n (side_column file))) (over ∙ stands.cols)
