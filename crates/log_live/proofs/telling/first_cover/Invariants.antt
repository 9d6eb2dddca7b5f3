use Rattle.std.proofs.Common.{◌≡◌, List, drop, All}
use Rattle.exact_field.specs.Rational.{ℚ}
use Rattle.incid_sets.specs.Marks.{IsMeet}
use Rattle.log_versions.specs.Hints.{first_cover}
use Rattle.log_live.specs.Adding.{pair_of}
use Rattle.log_live.specs.Live.{HasTightSet, live_of}
use Rattle.log_live.proofs.telling.first_cover.Given as goal

abbrev pub invariant-loop-third : goal.invariant-loop-third
invariant-loop-third l = (rows : List (List ℚ)) → All (HasTightSet rows) l.generators →
    HasTightSet rows l.plus →
    HasTightSet rows l.minus → IsMeet l.common l.plus.tight l.minus.tight →
    first_cover rows (pair_of l.plus l.minus) (drop l.third-index (live_of l.generators)) ≡ first_cover rows
    (pair_of l.plus l.minus) (live_of l.generators)
