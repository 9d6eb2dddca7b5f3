use Rattle.std.proofs.Common.{rules, arith}
use Rattle.log_rules.specs.VectorEvents.{above}
use Rattle.entry_checks.proofs.Going.{Passed, Stopped, stopped-in, ran-after, whole-run}
use Rattle.entry_checks.proofs.StepBounds.{steps-above}
use Rattle.log_solved.specs.Shown.{member_events, shown_events}
use Rattle.log_solved.proofs.GenKinds.{steps-member}
use Rattle.log_solved.proofs.shown.test_preimage.Goals as goal

pub test_member-requires-clause-room : goal.test_member-requires-clause-room
test_member-requires-clause-room c = let few = steps-member c.args.kind c.args.problem.now c.args.x.now in omega (arith, few)

pub returns-in_err-test_member : goal.returns-in_err-test_member
returns-in_err-test_member c =
    let here : Stopped (member_events c.args.kind c.args.problem.now c.args.x.now) 0 c.in_err-test_member.field-0.0 = record { at = c.in_err-test_member.ensures } in
    let stopped = (stopped-in (above c.args.problem.now c.args.y.now c.args.x.now c.args.m.now) here).at in
    search (stopped, rules)

pub is_above-requires-clause-room : goal.is_above-requires-clause-room
is_above-requires-clause-room c =
    let first = steps-member c.args.kind c.args.problem.now c.args.x.now in
    let last = steps-above c.args.problem.now c.args.y.now c.args.x.now c.args.m.now c.requires.entries in
    let came = c.in_ok-test_member.ensures.1 in
    omega (arith, first, last, came)

pub returns : goal.returns
returns c =
    let came : Passed (member_events c.args.kind c.args.problem.now c.args.x.now) 0 c.test_member.new.counter.taken = record { none = c.in_ok-test_member.ensures.0; count = c.in_ok-test_member.ensures.1 } in
    whole-run (shown_events c.args.kind c.args.problem.now c.args.y.now c.args.x.now c.args.m.now) c.is_above.new.counter.taken _ c.is_above.result (ran-after came (record { runs = c.is_above.ensures })).runs
