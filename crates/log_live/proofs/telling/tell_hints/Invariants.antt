use Rattle.std.proofs.Common.{◌≡◌, List, All, length, map, take}
use Rattle.std.specs.List.{flat_map}
use Rattle.exact_field.specs.Rational.{ℚ}
use Rattle.log_rules.specs.Live.{value}
use Rattle.log_live.specs.Hinting.{Tells, pairs_beside_at}
use Rattle.log_live.specs.Live.{HasTightSet, live_of, numbered_of}
use Rattle.log_live.proofs.telling.tell_hints.Given as goal

abbrev pub invariant-loop-i : goal.invariant-loop-i
invariant-loop-i l = record {
  common : length l.telling.common ≡ length l.initial.telling.common;
  tells : (rows : List (List ℚ)) (row : List ℚ) → All (HasTightSet rows) l.generators →
      l.values ≡ map (λ g. value row (numbered_of g)) l.generators →
      Tells rows (live_of l.generators) l.pairs l.initial.telling l.telling
      (flat_map (pairs_beside_at row (live_of l.generators)) (take l.i (live_of l.generators)));
}
