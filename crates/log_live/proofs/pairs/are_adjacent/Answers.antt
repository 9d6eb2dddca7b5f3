use Rattle.std.proofs.Common.{sym, arith, inl, inr}
use Rattle.polyhedra.proofs.Members.{member_of}
use Rattle.log_live.specs.Live.{HasTightSet}
use Rattle.log_live.proofs.PairCounts.{few_are_no_pair, one_more_is_a_pair}
use Rattle.log_live.proofs.pairs.are_adjacent.Goals as goal

pub returns-then-count-least : goal.returns-then-count-least
returns-then-count-least c = λ q rows d two m.
    sym (few_are_no_pair q c.args.least rows c.args.generators.now c.args.plus.now c.args.minus.now
    c.args.common.now d two m
    (let count = c.count-count.ensures in let few = c.if-count-least.true in omega (
      arith,
      count,
      few,
    )))

pub returns-then-has_one_more : goal.returns-then-has_one_more
returns-then-has_one_more c = λ q rows d two m.
    sym (one_more_is_a_pair q c.args.least rows c.args.generators.now c.args.plus.now
    c.args.minus.now c.args.common.now d two m
    (inl (let count = c.count-count.ensures in let one = c.has_one_more.ensures
    c.if-has_one_more.true in omega (arith, count, one))))

pub returns-then-has_one_more-2 : goal.returns-then-has_one_more-2
returns-then-has_one_more-2 c = λ q rows d two m.
    sym (one_more_is_a_pair q c.args.least rows c.args.generators.now c.args.plus.now
    c.args.minus.now c.args.common.now d two m
    (inr (let count = c.count-count.ensures in let one = c.has_one_more-2.ensures
    c.if-has_one_more-2.true in omega (arith, count, one))))

pub returns : goal.returns
returns c = λ q rows d two m. c.is_uncovered.ensures rows d.tight
    (member_of (HasTightSet rows) c.args.generators.now c.args.plus.now d.tight two.plus_listed)
    (member_of (HasTightSet rows) c.args.generators.now c.args.minus.now d.tight two.minus_listed) m
