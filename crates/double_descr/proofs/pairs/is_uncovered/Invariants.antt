use Rattle.std.proofs.Common.{◌≡◌, ◌-◌, List, drop, length, All}
use Rattle.std.specs.List.{list_all}
use Rattle.exact_field.specs.Rational.{ℚ}
use Rattle.incid_sets.specs.Marks.{IsMeet}
use Rattle.polyhedra.specs.LiveList.{third_test}
use Rattle.double_descr.specs.State.{HasTightSet, live_of, pair_of}
use Rattle.double_descr.proofs.pairs.is_uncovered.Given as goal

abbrev pub invariant-loop-i : goal.invariant-loop-i
invariant-loop-i g l = (rows : List (List ℚ)) → All (HasTightSet g.F.Field.value rows) l.generators → HasTightSet g.F.Field.value rows l.plus →
    HasTightSet g.F.Field.value rows l.minus → IsMeet l.common l.plus.tight l.minus.tight →
    let test = third_test rows (pair_of g.F.Field.value l.plus l.minus) in
    list_all test (drop l.from (live_of g.F.Field.value l.generators)) ≡ list_all test (live_of g.F.Field.value l.generators)

abbrev pub decreases-loop-i : goal.decreases-loop-i
decreases-loop-i g l = length l.thirds - l.from
