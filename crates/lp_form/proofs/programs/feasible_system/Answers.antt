use Rattle.std.proofs.Common.{◌++◌, map, ap, ◌∙◌}
use Rattle.polyhedra.specs.Vectors.{zeros}
use Rattle.tableaux.specs.Table.{listed}
use Rattle.vlp_problem.specs.Sides.{side_column, side_bounds}
use Rattle.lp_form.specs.Building.{joined}
use Rattle.lp_form.specs.Programs.{feasible_system}
use Rattle.lp_form.proofs.Systems.{feasible_ok}
use Rattle.lp_form.proofs.Joined.{one_piece}
use Rattle.lp_form.proofs.programs.feasible_system.Goals as goal

pub returns : goal.returns
returns g c = λ file stands.
    let value = g.F.Field.value in
    c.system.ensures (feasible_system file) (feasible_ok file)
    (one_piece value c.new-a.result c.push_side_columns.new.list (joined (listed file.cols (side_column file))) c.new-a.ensures (c.in_ok-push_side_columns.ensures file stands))
    (one_piece value c.new-b.result c.push_zeros.new.list (zeros file.cols) c.new-b.ensures (c.in_ok-push_zeros.ensures ∙ ap (λ n. map value c.new-b.result ++ zeros n) stands.cols))
    (one_piece value c.new-cost.result c.push_bounds.new.list (side_bounds file) c.new-cost.ensures
    (c.in_ok-push_bounds.ensures ∙ ap (λ xs. map value c.new-cost.result ++ map (λ s. value s.beta) xs) c.as_slice.ensures.items ∙ ap (λ l. map value c.new-cost.result ++ l) stands.bounds))
