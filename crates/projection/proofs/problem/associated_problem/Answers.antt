use Rattle.std.proofs.Common.{◌≡◌, List, sym, subst, true}
use Rattle.vlp_problem.specs.Cells.{are_cells}
use Rattle.vlp_problem.specs.declared.problem.Cell.{Cell}
use Rattle.projection.proofs.AssociatedCells.{made_are_cells}
use Rattle.projection.proofs.problem.associated_problem.Goals as goal

pub invariant_of-result-clause-a_cells : goal.invariant_of-result-clause-a_cells
invariant_of-result-clause-a_cells c =
    subst (λ (w : List Cell). are_cells c.args.problem.now.rows c.args.problem.now.cols w ≡ true) (sym c.in_ok-same_cells.ensures) c.args.problem.now.a_cells

pub invariant_of-result-clause-o_cells : goal.invariant_of-result-clause-o_cells
invariant_of-result-clause-o_cells c = made_are_cells c.args.k c.args.problem.now.cols c.in_ok-objectives.field-0 c.requires.columns c.in_ok-objectives.ensures
