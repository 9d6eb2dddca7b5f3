use Rattle.std.proofs.Common.{length, sym, arith, inl, inr}
use Rattle.polyhedra.proofs.Members.{member_of}
use Rattle.double_descr.specs.ByRow.{tight_at}
use Rattle.double_descr.specs.State.{HasTightSet}
use Rattle.double_descr.proofs.pairs.are_adjacent.Goals as goal
use Rattle.double_descr.proofs.ByRow.{placed, within_sets}
use Rattle.double_descr.proofs.Covering.{one_more_is_a_pair}

pub returns-then-has_one_more : goal.returns-then-has_one_more
returns-then-has_one_more g c = λ n rows two m.
    sym (one_more_is_a_pair g.F.Field.value n rows c.args.generators.now c.args.plus.now c.args.minus.now c.args.common.now two m
    (inl (omega (arith, c.has_one_more.ensures c.if-has_one_more.true, c.count-count.ensures))))

pub returns-then-has_one_more-2 : goal.returns-then-has_one_more-2
returns-then-has_one_more-2 g c = λ n rows two m.
    sym (one_more_is_a_pair g.F.Field.value n rows c.args.generators.now c.args.plus.now c.args.minus.now c.args.common.now two m
    (inr (omega (arith, c.has_one_more-2.ensures c.if-has_one_more-2.true, c.count-count.ensures))))

pub returns : goal.returns
returns g c = λ n rows two m. c.is_uncovered.ensures rows two.tight
    (member_of (HasTightSet g.F.Field.value rows) c.args.generators.now c.args.plus.now two.tight two.plus_listed)
    (member_of (HasTightSet g.F.Field.value rows) c.args.generators.now c.args.minus.now two.tight two.minus_listed) m

-- a generator at which all common rows are tight stands in the place of each of them
pub is_uncovered-requires-clause-thirds : goal.is_uncovered-requires-clause-thirds
is_uncovered-requires-clause-thirds g c = λ place inside full.
    c.in_ok-thirds.ensures.thirds place (tight_at c.args.generators.now place)
    (placed c.args.generators.now c.args.search.now.reach c.args.search.now.by_row c.args.common.now place c.requires.search.by_row inside c.requires.reached) full (c.requires.search.each place inside)

pub thirds_of-requires-clause-within : goal.thirds_of-requires-clause-within
thirds_of-requires-clause-within g c = within_sets c.args.generators.now c.args.search.now.reach c.args.search.now.by_row (length c.args.common.now) (length c.args.search.now.all)
    c.requires.search.by_row c.requires.same c.requires.search.bound
