use Rattle.std.proofs.Common.{IsTrue, List, subst, sym}
use Rattle.vlp_problem.specs.Cells.{rises_after}
use Rattle.vlp_problem.specs.declared.problem.Cell.{Cell}
use Rattle.vlp_problem.proofs.CellPlaces.{rises_from_cells}
use Rattle.vlp_problem.proofs.problem.Problem.a_at.Goals as goal

pub value_among-requires : goal.value_among-requires
value_among-requires c =
    let file = c.args.self.now in
    subst (λ (cells : List Cell). IsTrue (rises_after 0 0 cells)) (sym c.as_slice.ensures.items)
    (rises_from_cells file.rows file.cols 0 0 file.a file.a_cells)
