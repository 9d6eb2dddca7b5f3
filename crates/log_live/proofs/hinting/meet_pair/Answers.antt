use Rattle.std.proofs.Common.{sym, ap, ◌∙◌, drop, ◌+◌, Bool, slice_index_or}
use Rattle.std.proofs.lemmas.List.{get_or_default}
use Rattle.polyhedra.specs.LiveList.{LivePair}
use Rattle.log_versions.specs.Walk.{walk}
use Rattle.log_versions.specs.Hints.{named_pair}
use Rattle.polyhedra.proofs.Members.{member_of}
use Rattle.log_live.specs.Adding.{pair_of}
use Rattle.log_live.specs.Live.{HasTightSet, live_of}
use Rattle.log_live.proofs.Hintings.{next_is, listed_step, hint_step, none_step}
use Rattle.log_live.proofs.hinting.meet_pair.Goals as goal

pub returns-then-is_next-clause-walks : goal.returns-then-is_next-clause-walks
returns-then-is_next-clause-walks c = λ q rows d two more.
    let o : LivePair = pair_of c.args.plus.now c.args.minus.now in
    listed_step rows (live_of c.args.generators.now) o more c.args.pairs.now
    c.args.meeting.now.listed (drop c.args.meeting.now.hinted c.args.hints.now)
    c.args.meeting.now.right c.are_adjacent.result
    (next_is c.args.pairs.now c.args.meeting.now.listed
    (named_pair o) c.is_next.result c.is_next.ensures.matches ∙ c.if-is_next.true)
    (c.are_adjacent.ensures q rows d two c.set_meet.ensures)

pub returns-then-meeting-hints-clause-walks : goal.returns-then-meeting-hints-clause-walks
returns-then-meeting-hints-clause-walks c = λ q rows d two more.
    let o : LivePair = pair_of c.args.plus.now c.args.minus.now in
    none_step rows (live_of c.args.generators.now) o more
    (drop c.args.meeting.now.listed c.args.pairs.now) c.args.hints.now c.args.meeting.now.hinted
    c.args.meeting.now.right
    (next_is c.args.pairs.now c.args.meeting.now.listed
    (named_pair o) c.is_next.result c.is_next.ensures.matches ∙ c.if-is_next.false)
    c.if-meeting-hints.true

pub returns-clause-walks : goal.returns-clause-walks
returns-clause-walks c = λ q rows d two more.
    let o : LivePair = pair_of c.args.plus.now c.args.minus.now in
    hint_step rows (live_of c.args.generators.now) o more
    (drop c.args.meeting.now.listed c.args.pairs.now) c.args.hints.now c.args.meeting.now.hinted
    (slice_index_or c.args.hints.now c.args.meeting.now.hinted 0) c.args.meeting.now.right
    c.covers_both-covers.result
    (next_is c.args.pairs.now c.args.meeting.now.listed
    (named_pair o) c.is_next.result c.is_next.ensures.matches ∙ c.if-is_next.false)
    c.if-meeting-hints.false
    (get_or_default c.args.hints.now c.args.meeting.now.hinted 0
    (slice_index_or c.args.hints.now c.args.meeting.now.hinted 0) c.if-meeting-hints.false)
    (c.covers_both-covers.ensures rows d.tight
    (member_of (HasTightSet rows) c.args.generators.now c.args.plus.now d.tight two.plus_listed)
    (member_of (HasTightSet rows) c.args.generators.now c.args.minus.now d.tight two.minus_listed)
    c.set_meet.ensures)
    ∙ ap (λ (r : Bool). walk rows (live_of c.args.generators.now) more
    (drop c.args.meeting.now.listed c.args.pairs.now)
    (drop (c.args.meeting.now.hinted + 1) c.args.hints.now) r) (sym c.still_right-meeting.ensures)
