use Rattle.std.proofs.Common.{◌≡◌, length, sum_by, length-append, ap, sym, ◌∙◌, arith}
use Rattle.vlp_problem.specs.Sides.{row_vector, unit, sides_from, side_number}
use Rattle.vlp_problem.proofs.SideCount.{length-sides_from}
use Rattle.vlp_problem.proofs.problem.Problem.side_count.Goals as goal

pub returns : goal.returns
returns c =
    let file = c.args.self.now in
    let rows : c.sides_among.result ≡ length (sides_from (row_vector file) 1 file.row_bounds) =
    c.sides_among.ensures.value ∙ ap (sum_by side_number) c.as_slice.ensures.items ∙ sym (length-sides_from (row_vector file) 1 file.row_bounds) in
    let cols : c.sides_among-2.result ≡ length (sides_from (unit file.cols) 1 file.col_bounds) =
    c.sides_among-2.ensures.value ∙ ap (sum_by side_number) c.as_slice-2.ensures.items ∙ sym (length-sides_from (unit file.cols) 1 file.col_bounds) in
    omega (arith, length-append (sides_from (row_vector file) 1 file.row_bounds) (sides_from (unit file.cols) 1 file.col_bounds))
