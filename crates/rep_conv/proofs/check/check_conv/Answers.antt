use Rattle.std.proofs.Common.{◌≡◌, List, None, subst, ◌∙◌}
use Rattle.frac128.specs.Held.{is_held}
use Rattle.rep_conv.specs.Converted.{Gives}
use Rattle.rep_conv.specs.Events.{conv_failure}
use Rattle.rep_text.specs.declared.conv.ConvEntry.{ConvEntry}
use Rattle.rep_conv.proofs.EventRules.{events_are_rules}
use Rattle.rep_conv.proofs.NeededRows.{conversion_is_right}
use Rattle.rep_conv.proofs.OneOther.{one_other}
use Rattle.rep_conv.proofs.check.check_conv.Goals as goal

pub other_rep_after-requires : goal.other_rep_after-requires
other_rep_after-requires c = (c.as_slice.result.now, c.in_ok-standing.ensures.ok.1)

pub returns-clause-ok : goal.returns-clause-ok
returns-clause-ok c = subst (λ (log : List ConvEntry). (conv_failure is_held c.args.rep.now log ≡ None) × Gives c.args.rep.now log c.in_ok-found.found) c.as_slice.ensures.items
    (c.in_ok-standing.ensures.ok.0, c.in_ok-found.ensures c.as_slice.result.now c.in_ok-standing.ensures.ok.1)

pub returns-clause-right : goal.returns-clause-right
returns-clause-right c before ends =
    conversion_is_right c.args.rep.now c.as_slice.result.now c.in_ok-found.found
    record { meet = ((events_are_rules is_held c.args.rep.now c.as_slice.result.now).0 c.in_ok-standing.ensures.ok.0).0; before = before; ends = c.as_slice.ensures.items ∙ ends }
    (c.in_ok-found.ensures c.as_slice.result.now c.in_ok-standing.ensures.ok.1)

pub returns-clause-one : goal.returns-clause-one
returns-clause-one c before ends other entries given kinds wide alike converts gives =
    one_other c.args.rep.now other c.as_slice.result.now entries c.in_ok-found.found given kinds wide alike
    record { meet = ((events_are_rules is_held c.args.rep.now c.as_slice.result.now).0 c.in_ok-standing.ensures.ok.0).0; before = before; ends = c.as_slice.ensures.items ∙ ends }
    converts (c.in_ok-found.ensures c.as_slice.result.now c.in_ok-standing.ensures.ok.1) gives
