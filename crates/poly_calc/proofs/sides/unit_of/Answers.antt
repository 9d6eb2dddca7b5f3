use Rattle.std.proofs.Common.{◌==◌, cond, List, [], ◌∷◌, ◌++◌, sym, ap₂, ◌∙◌}
use Rattle.exact_field.specs.Rational.{ℚ, zero_ℚ, one_ℚ}
use Rattle.vlp_problem.proofs.Numbers.{map_numbers-push}
use Rattle.poly_calc.proofs.sides.unit_of.Goals as goal

pub loop-before-preserved : goal.loop-before-preserved
loop-before-preserved c = c.in_ok-push.ensures.ok ∙ ap₂ (λ (es : List ℚ) (q : ℚ). es ++ q ∷ []) c.loop-before.invariant c.unit_entry.ensures
    ∙ sym (map_numbers-push (λ j. cond (j == c.args.at) one_ℚ zero_ℚ) c.loop-before.before)
