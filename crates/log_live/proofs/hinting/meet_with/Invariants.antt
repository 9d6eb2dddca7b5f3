use Rattle.std.proofs.Common.{◌≡◌, ℕ, List, All, length, map, take, true}
use Rattle.exact_field.specs.Rational.{ℚ}
use Rattle.log_live.specs.Adding.{AreAtPairs, AreTwo}
use Rattle.log_live.specs.Hinting.{Walks, pairs_beside}
use Rattle.log_live.specs.Live.{live_of, numbered_of}
use Rattle.log_live.proofs.hinting.meet_with.Given as goal

abbrev pub invariant-loop-minus : goal.invariant-loop-minus
invariant-loop-minus l = record {
  common : length l.meeting.common ≡ length l.initial.meeting.common;
  least : l.meeting.least ≡ l.initial.meeting.least;
  walks : (q : ℕ) (rows : List (List ℚ)) → AreAtPairs q l.initial.meeting.least rows l.generators →
      All (λ g. AreTwo l.generators l.plus g.now) l.negatives →
      Walks rows (live_of l.generators) l.pairs l.hints l.initial.meeting true l.meeting
      (pairs_beside (numbered_of l.plus) (take l.minus-index (map (λ g. numbered_of g.now) l.negatives)));
}
