use Rattle.std.proofs.Common.{◌≡◌, ℕ, List, length, map, take, true}
use Rattle.std.specs.List.{flat_map}
use Rattle.exact_field.specs.Rational.{ℚ}
use Rattle.log_rules.specs.Live.{value}
use Rattle.log_live.specs.Adding.{AreAtPairs}
use Rattle.log_live.specs.Hinting.{Walks, pairs_beside_at}
use Rattle.log_live.specs.Live.{live_of, numbered_of}
use Rattle.log_live.proofs.hinting.have_hints.Given as goal

abbrev pub invariant-loop-i : goal.invariant-loop-i
invariant-loop-i l = record {
  common : length l.meeting.common ≡ length l.initial.meeting.common;
  least : l.meeting.least ≡ l.initial.meeting.least;
  walks : (q : ℕ) (rows : List (List ℚ)) (row : List ℚ) →
      AreAtPairs q l.initial.meeting.least rows l.generators →
      l.values ≡ map (λ g. value row (numbered_of g)) l.generators →
      Walks rows (live_of l.generators) l.pairs l.hints l.initial.meeting true l.meeting
      (flat_map (pairs_beside_at row (live_of l.generators)) (take l.i (live_of l.generators)));
}
