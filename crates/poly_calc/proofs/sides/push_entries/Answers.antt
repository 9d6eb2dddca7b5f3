use Rattle.std.proofs.Common.{◌≡◌, ◌+◌, Bool, cond, List, [], ◌∷◌, ◌++◌, take, sym, ap, ◌∙◌, arith, append-nil, append_assoc}
use Rattle.frac128.specs.Sparse.{is_zero}
use Rattle.vlp_problem.specs.declared.problem.Cell.{Cell}
use Rattle.projection.specs.Associated.{cell}
use Rattle.poly_calc.specs.Made.{row_cells}
use Rattle.poly_calc.proofs.SideLists.{entries-more}
use Rattle.poly_calc.proofs.sides.push_entries.Goals as goal
use Rattle.poly_calc.proofs.sides.push_entries.Goals.{then-not-is_zero+in_ok-push, else-not-is_zero}

pub loop-value-preserved : goal.loop-value-preserved
loop-value-preserved c =
    let i = c.loop-value.value-index in
    let x = c.value-item.result in
    let start = c.args.cells.now in
    let so_far : List Cell = row_cells c.args.row c.args.col (take i c.args.vector.now) in
    let place : c.loop-value.at ≡ c.args.col + i = c.loop-value.invariant.place in
    let more : row_cells c.args.row c.args.col (take (i + 1) c.args.vector.now) ≡ so_far ++ cond (is_zero x) [] (cell c.args.row c.loop-value.at x ∷ []) =
    entries-more c.args.row c.args.col c.loop-value.at i c.args.vector.now x (omega arith) c.value-item.is place in
    record {
      place = omega arith;
      cells = elim c.if-not-is_zero.branch [
        | then-not-is_zero+in_ok-push w ↦ w.cells-is ∙ w.in_ok-push.ensures.ok ∙ ap (λ (cs : List Cell). cs ++ cell c.args.row c.loop-value.at x ∷ []) c.loop-value.invariant.cells
            ∙ append_assoc start so_far (cell c.args.row c.loop-value.at x ∷ [])
            ∙ ap (λ (cs : List Cell). start ++ cs) (sym (more ∙ ap (λ (b : Bool). so_far ++ cond b [] (cell c.args.row c.loop-value.at x ∷ [])) (sym c.is_zero.ensures ∙ w.if-not-is_zero.true)))
        | else-not-is_zero w ↦ w.cells-is ∙ c.loop-value.invariant.cells
            ∙ ap (λ (cs : List Cell). start ++ cs) (sym (more ∙ ap (λ (b : Bool). so_far ++ cond b [] (cell c.args.row c.loop-value.at x ∷ [])) (sym c.is_zero.ensures ∙ w.if-not-is_zero.false)
            ∙ append-nil so_far))
      ];
    }
