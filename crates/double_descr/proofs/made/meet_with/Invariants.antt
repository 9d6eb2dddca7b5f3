use Rattle.std.proofs.Common.{◌≡◌, List, ◌++◌, length, drop}
use Rattle.polyhedra.specs.LiveList.{LivePair}
use Rattle.double_descr.specs.State.{live_of, numbered_of}
use Rattle.double_descr.specs.Making.{IsMadeSoFar, with_negatives}
use Rattle.double_descr.proofs.made.meet_with.Given as goal

abbrev pub ghost-meet_at : goal.ghost-meet_at
ghost-meet_at g a = g.addition

abbrev pub invariant-loop-j : goal.invariant-loop-j
invariant-loop-j g l =
    let value = g.F.Field.value in
    let holds = g.F.Field.holds in
    let pairs = with_negatives g.addition.row (numbered_of value l.plus) (live_of value l.generators) in
    record {
      bound : length l.so_far.common ≡ length l.fn.so_far.common;
      so_far : (left : List LivePair) → IsMadeSoFar value holds g.addition l.generators (pairs ++ left) l.fn.so_far →
          IsMadeSoFar value holds g.addition l.generators (drop l.j-index pairs ++ left) l.so_far;
    }
