use Rattle.incid_sets.specs.Marks.{IsAllBut}
use Rattle.incid_sets.proofs.marks.Marks.all_but.Given as goal

abbrev pub invariant-loop-k : goal.invariant-loop-k
invariant-loop-k l = IsAllBut l.k l.out l.marks
