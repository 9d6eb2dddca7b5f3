use Rattle.double_descr.specs.Making.{IsMadeSoFar, candidates_from}
use Rattle.double_descr.proofs.made.meet_all.Given as goal

abbrev pub ghost-try_plus : goal.ghost-try_plus
ghost-try_plus g a = g.addition

abbrev pub ghost-search_of : goal.ghost-search_of
ghost-search_of g a = g.addition

abbrev pub invariant-loop-i : goal.invariant-loop-i
invariant-loop-i g l =
    let value = g.F.Field.value in
    IsMadeSoFar value g.F.Field.holds g.addition l.generators (candidates_from value g.addition l.generators l.i) l.so_far
