use Rattle.std.proofs.Common.{◌≡◌, ◌++◌, drop}
use Rattle.polyhedra.specs.LiveList.{dropped, numbers, staying}
use Rattle.double_descr.specs.State.{live_of}
use Rattle.double_descr.proofs.parts.list_numbers.Given as goal

abbrev pub ghost-list_number : goal.ghost-list_number
ghost-list_number g a = g.addition

abbrev pub invariant-loop-i : goal.invariant-loop-i
invariant-loop-i g l =
    let live = live_of g.F.Field.value l.generators in
    let row = g.addition.row in
    record {
      stays : l.stays ++ numbers (staying row (drop l.i live)) ≡ numbers (staying row live);
      gone : l.gone ++ dropped row (drop l.i live) ≡ dropped row live;
    }
