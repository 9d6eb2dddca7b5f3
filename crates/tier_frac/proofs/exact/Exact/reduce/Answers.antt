use Rattle.frac128.proofs.Lowest.{reduced_lowest, lowest_positive, lowest_coprime, lowest_same}
use Rattle.tier_frac.proofs.exact.Exact.reduce.Goals as goal

pub of-requires-clause-positive : goal.of-requires-clause-positive
of-requires-clause-positive c =
    lowest_positive _ _ _ _ (reduced_lowest c.args.negative c.args.num c.args.den _ _ _ c.requires c.gcd-common.ensures.gcd c.quotient.ensures c.quotient-2.ensures)

pub of-requires-clause-lowest : goal.of-requires-clause-lowest
of-requires-clause-lowest c =
    lowest_coprime _ _ _ _ (reduced_lowest c.args.negative c.args.num c.args.den _ _ _ c.requires c.gcd-common.ensures.gcd c.quotient.ensures c.quotient-2.ensures)

pub returns : goal.returns
returns c =
    lowest_same _ _ _ _ _ (reduced_lowest c.args.negative c.args.num c.args.den _ _ _ c.requires c.gcd-common.ensures.gcd c.quotient.ensures c.quotient-2.ensures)
    c.of.ensures.num c.of.ensures.den
