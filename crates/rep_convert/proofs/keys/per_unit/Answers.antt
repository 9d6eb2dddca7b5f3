use Rattle.std.proofs.Common.{sym, ◌∙◌, true≢false}
use Rattle.log_rules.proofs.PassedTests.{zero_passes}
use Rattle.rep_convert.proofs.keys.per_unit.Goals as goal

pub reciprocal-requires : goal.reciprocal-requires
reciprocal-requires c = λ none. true≢false (sym (zero_passes c.args.low none) ∙ sym c.is_zero.ensures ∙ c.if-is_zero.false)
