use Rattle.std.proofs.Common.{◌∙◌, sym}
use Rattle.exact_field.proofs.Comparison.{same_ℚ-is}
use Rattle.weighing.proofs.walk.is_zero.Goals as goal

pub returns : goal.returns
returns c = (
  λ t. (same_ℚ-is c.args.value c.zero.result).0 (sym c.eq.ensures ∙ t) ∙ c.zero.ensures,
  λ e. c.eq.ensures ∙ (same_ℚ-is c.args.value c.zero.result).1 (e ∙ sym c.zero.ensures),
)
