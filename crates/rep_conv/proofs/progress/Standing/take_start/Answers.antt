use Rattle.std.proofs.Common.{◌≡◌, ◌+◌, List, None, subst, ◌∙◌}
use Rattle.exact_field.specs.Rational.{ℚ}
use Rattle.frac128.specs.Held.{is_held}
use Rattle.log_rules.specs.Events.{first_failure}
use Rattle.log_rules.specs.Runs.{steps}
use Rattle.log_rules.proofs.PassedTests.{passed_of}
use Rattle.rep_conv.specs.Events.{start_events}
use Rattle.rep_conv.proofs.EventRules.{start-meets}
use Rattle.rep_conv.proofs.progress.Standing.take_start.Goals as goal

pub begin-requires : goal.begin-requires
begin-requires c =
    let s = c.requires.0 in
    let none : first_failure is_held 1 (start_events c.args.rep.now s.lines c.args.named.now c.args.gens.now) ≡ None =
    subst (λ (ls : List (List ℚ)). first_failure is_held 1 (start_events c.args.rep.now ls c.args.named.now c.args.gens.now) ≡ None) (c.as_slice-2.ensures.items ∙ c.requires.1.lines) c.in_ok-check_start.ensures.0 in
    (s, c.requires.1, start-meets c.args.rep.now s c.args.named.now c.args.gens.now (passed_of is_held 1 (start_events c.args.rep.now s.lines c.args.named.now c.args.gens.now) none))

pub returns-in-Ok : goal.returns-in-Ok
returns-in-Ok c s h =
    let ran = subst (λ (ls : List (List ℚ)). (first_failure is_held 1 (start_events c.args.rep.now ls c.args.named.now c.args.gens.now) ≡ None)
    × (steps (start_events c.args.rep.now ls c.args.named.now c.args.gens.now) ≡ 0 + steps (start_events c.args.rep.now ls c.args.named.now c.args.gens.now)))
    (c.as_slice-2.ensures.items ∙ h.lines) (c.in_ok-check_start.ensures.0, c.in_ok-check_start.ensures.1) in
    (ran.0, ran.1, c.in-Ok.ensures s h (start-meets c.args.rep.now s c.args.named.now c.args.gens.now (passed_of is_held 1 (start_events c.args.rep.now s.lines c.args.named.now c.args.gens.now) ran.0)))
