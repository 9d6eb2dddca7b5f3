use Rattle.std.proofs.Common.{sym, ap₂, arith, ◌∙◌, ◌≡◌, ◌+◌, ℕ, ◌++◌}
use Rattle.vlp_matrices.proofs.Lists.{item-as}
use Rattle.vlp_matrices.proofs.Cells.{cells_from-more}
use Rattle.vlp_matrices.specs.Matrices.{row_cells}
use Rattle.vlp_matrices.proofs.matrix.cells_of.Goals as goal

pub loop-row-preserved : goal.loop-row-preserved
loop-row-preserved c =
    let number : c.loop-row.number + 1 ≡ c.loop-row.row-index + 1 = let count = c.loop-row.invariant.count in omega (arith, count) in
    record {
      count = number;
      made = c.in_ok-push_cells.ensures ∙ ap₂ (λ cs (n : ℕ). cs ++ row_cells n c.as_slice.result.now) c.loop-row.invariant.made number
          ∙ sym (cells_from-more c.args.rows.now c.loop-row.row-index c.as_slice.result.now (omega arith)
          (item-as c.args.rows.now c.loop-row.row-index c.row-item.result c.as_slice.result.now c.as_slice.ensures.items c.row-item.is));
    }
