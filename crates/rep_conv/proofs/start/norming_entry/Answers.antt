use Rattle.std.proofs.Common.{◌≡◌, ◌-◌, ◌<◌, length, sym, ◌∙◌, arith}
use Rattle.std.proofs.lemmas.List.{get_or_default}
use Rattle.exact_field.specs.Rational.{zero_ℚ}
use Rattle.exact_field.specs.Vector.{entry}
use Rattle.log_live.proofs.LeastCounts.{some_there}
use Rattle.rep_conv.proofs.EntrySteps.{norming-last, norming-other}
use Rattle.rep_conv.proofs.start.norming_entry.Goals as goal

pub returns-then-is_zero : goal.returns-then-is_zero
returns-then-is_zero c =
    let some : 0 < length c.args.v.now = some_there c.args.v.now (sym c.is_empty.ensures ∙ c.if-is_empty.false) in
    let last : c.index-v-v.result ≡ entry c.args.v.now (length c.args.v.now) = c.index-v-v.is ∙ get_or_default c.args.v.now (length c.args.v.now - 1) c.index-v-v.result zero_ℚ (omega (arith, some)) in
    c.leading_entry.ensures ∙ sym (norming-last c.args.v.now c.index-v-v.result last (sym c.is_zero.ensures ∙ c.if-is_zero.true))

pub returns-else-is_zero : goal.returns-else-is_zero
returns-else-is_zero c =
    let some : 0 < length c.args.v.now = some_there c.args.v.now (sym c.is_empty.ensures ∙ c.if-is_empty.false) in
    let last : c.index-v-v.result ≡ entry c.args.v.now (length c.args.v.now) = c.index-v-v.is ∙ get_or_default c.args.v.now (length c.args.v.now - 1) c.index-v-v.result zero_ℚ (omega (arith, some)) in
    sym (norming-other c.args.v.now c.index-v-v.result last (sym c.is_zero.ensures ∙ c.if-is_zero.false))
