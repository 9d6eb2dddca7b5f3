use Rattle.std.proofs.Common.{◌≡◌, List, All, length, map, take}
use Rattle.exact_field.specs.Rational.{ℚ}
use Rattle.log_live.specs.Hinting.{Tells, pairs_beside}
use Rattle.log_live.specs.Live.{HasTightSet, live_of, numbered_of}
use Rattle.log_live.proofs.telling.tell_with.Given as goal

abbrev pub invariant-loop-minus : goal.invariant-loop-minus
invariant-loop-minus l = record {
  common : length l.telling.common ≡ length l.initial.telling.common;
  tells : (rows : List (List ℚ)) → All (HasTightSet rows) l.generators → HasTightSet rows l.plus →
      All (λ g. HasTightSet rows g.now) l.negatives →
      Tells rows (live_of l.generators) l.pairs l.initial.telling l.telling
      (pairs_beside (numbered_of l.plus) (take l.minus-index (map (λ g. numbered_of g.now) l.negatives)));
}
