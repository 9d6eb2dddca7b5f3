use Rattle.std.proofs.Common.{rules, arith, ◌+◌, ◌-◌, [], ◌==◌, slice_index_or}
use Rattle.std.specs.List.{enumerate_from}
use Rattle.std.proofs.lemmas.List.{length-map}
use Rattle.entry_checks.specs.Parts.{unit_events}
use Rattle.entry_checks.proofs.Going.{at-room, at-stop, at-more, at-end}
use Rattle.upper_image.specs.Shows.{picked}
use Rattle.entry_checks.proofs.RisingNumbers.{numbered-next, length-numbered, picked-at}
use Rattle.entry_checks.proofs.duality.has_units.Goals as goal

pub has_unit-requires-clause-room : goal.has_unit-requires-clause-room
has_unit-requires-clause-room c =
    let long = length-numbered 1 (picked c.args.vectors.now c.args.picks.now) in
    let many = length-map c.args.picks.now (λ k. slice_index_or c.args.vectors.now (k - 1) []) in
    let most = at-room (λ b. unit_events c.args.row.now (c.args.number == b.0) b.1) (enumerate_from 1 (picked c.args.vectors.now c.args.picks.now)) c.args.counter.now.taken c.loop-b.b c.loop-b.counter.taken ((c.loop-b.b + 1, c.as_slice-v.result.now)) (omega (arith, long, many)) (numbered-next (picked c.args.vectors.now c.args.picks.now) c.loop-b.b c.as_slice-v.result.now (omega (arith, many)) (picked-at c.args.vectors.now c.args.picks.now c.loop-b.b c.index-vectors-pick.result c.as_slice-v.result.now c.requires.picks (omega arith) c.index-vectors-pick.is c.as_slice-v.ensures.items)) c.loop-b.invariant in
    let room = c.requires.room in
    omega (arith, most, room)

pub returns-in_err-has_unit : goal.returns-in_err-has_unit
returns-in_err-has_unit c =
    let long = length-numbered 1 (picked c.args.vectors.now c.args.picks.now) in
    let many = length-map c.args.picks.now (λ k. slice_index_or c.args.vectors.now (k - 1) []) in
    let stopped = at-stop (λ b. unit_events c.args.row.now (c.args.number == b.0) b.1) (enumerate_from 1 (picked c.args.vectors.now c.args.picks.now)) c.args.counter.now.taken c.loop-b.b c.loop-b.counter.taken ((c.loop-b.b + 1, c.as_slice-v.result.now)) c.in_err-has_unit.field-0.0 (omega (arith, long, many)) (numbered-next (picked c.args.vectors.now c.args.picks.now) c.loop-b.b c.as_slice-v.result.now (omega (arith, many)) (picked-at c.args.vectors.now c.args.picks.now c.loop-b.b c.index-vectors-pick.result c.as_slice-v.result.now c.requires.picks (omega arith) c.index-vectors-pick.is c.as_slice-v.ensures.items)) c.loop-b.invariant c.in_err-has_unit.ensures in
    search (stopped, rules)

pub loop-b-preserved : goal.loop-b-preserved
loop-b-preserved c =
    let long = length-numbered 1 (picked c.args.vectors.now c.args.picks.now) in
    let many = length-map c.args.picks.now (λ k. slice_index_or c.args.vectors.now (k - 1) []) in
    at-more (λ b. unit_events c.args.row.now (c.args.number == b.0) b.1) (enumerate_from 1 (picked c.args.vectors.now c.args.picks.now)) c.args.counter.now.taken c.loop-b.b c.loop-b.counter.taken c.has_unit.new.counter.taken ((c.loop-b.b + 1, c.as_slice-v.result.now)) (omega (arith, long, many)) (numbered-next (picked c.args.vectors.now c.args.picks.now) c.loop-b.b c.as_slice-v.result.now (omega (arith, many)) (picked-at c.args.vectors.now c.args.picks.now c.loop-b.b c.index-vectors-pick.result c.as_slice-v.result.now c.requires.picks (omega arith) c.index-vectors-pick.is c.as_slice-v.ensures.items)) c.loop-b.invariant
    record { none = c.in_ok-has_unit.ensures.0; count = c.in_ok-has_unit.ensures.1 }

pub returns : goal.returns
returns c =
    let long = length-numbered 1 (picked c.args.vectors.now c.args.picks.now) in
    let many = length-map c.args.picks.now (λ k. slice_index_or c.args.vectors.now (k - 1) []) in
    let done = at-end (λ b. unit_events c.args.row.now (c.args.number == b.0) b.1) (enumerate_from 1 (picked c.args.vectors.now c.args.picks.now)) c.args.counter.now.taken c.loop-b.b c.loop-b.counter.taken (omega (arith, long, many)) c.loop-b.invariant in
    (done.none, done.count, tt)
