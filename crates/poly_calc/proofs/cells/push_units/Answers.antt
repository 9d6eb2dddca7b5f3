use Rattle.std.proofs.Common.{◌+◌, List, [], ◌∷◌, ◌++◌, sym, ap, ap₂, ◌∙◌, append_assoc}
use Rattle.exact_field.specs.Rational.{ℚ, one_ℚ}
use Rattle.vlp_problem.specs.declared.problem.Cell.{Cell}
use Rattle.vlp_problem.proofs.Numbers.{map_numbers-push}
use Rattle.projection.specs.Associated.{cell}
use Rattle.poly_calc.specs.Made.{unit_cells}
use Rattle.poly_calc.proofs.cells.push_units.Goals as goal

pub loop-before-preserved : goal.loop-before-preserved
loop-before-preserved c =
    let n = c.loop-before.before in
    c.in_ok-push.ensures.ok
    ∙ ap₂ (λ (cs : List Cell) (q : ℚ). cs ++ cell (c.args.rows + (n + 1)) (n + 1) q ∷ []) c.loop-before.invariant c.from.ensures
    ∙ append_assoc c.args.cells.now (unit_cells c.args.rows n) (cell (c.args.rows + (n + 1)) (n + 1) one_ℚ ∷ [])
    ∙ ap (λ (cs : List Cell). c.args.cells.now ++ cs) (sym (map_numbers-push (λ j. cell (c.args.rows + j) j one_ℚ) n))
