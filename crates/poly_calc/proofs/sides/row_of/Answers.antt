use Rattle.std.proofs.Common.{List, [], ◌∷◌, ◌++◌, sym, ap₂, ◌∙◌}
use Rattle.exact_field.specs.Rational.{ℚ}
use Rattle.vlp_problem.specs.Cells.{coefficient}
use Rattle.vlp_problem.proofs.Numbers.{map_numbers-push}
use Rattle.poly_calc.proofs.sides.row_of.Goals as goal

pub loop-before-preserved : goal.loop-before-preserved
loop-before-preserved c = c.in_ok-push.ensures.ok ∙ ap₂ (λ (es : List ℚ) (q : ℚ). es ++ q ∷ []) c.loop-before.invariant c.a_at.ensures
    ∙ sym (map_numbers-push (λ j. coefficient c.args.problem.now.a c.args.row j) c.loop-before.before)
