use Rattle.frac128.proofs.Lowest.{reduced_lowest, lowest_positive, lowest_coprime, lowest_held, lowest_wide_num, lowest_wide_den, lowest_same}
use Rattle.frac128.proofs.frac.Frac.reduce.Goals as goal
use Rattle.frac128.proofs.frac.Frac.reduce.Goals.{else-num-lt-LIMIT-via-then-num-lt-LIMIT+else-den-lt-LIMIT, else-num-lt-LIMIT-via-else-num-lt-LIMIT}

pub with_sign-requires-clause-positive : goal.with_sign-requires-clause-positive
with_sign-requires-clause-positive c =
    lowest_positive _ _ _ _ (reduced_lowest c.args.negative c.args.num c.args.den _ _ _ c.requires c.gcd-common.ensures.gcd c.exact_quotient-num.ensures c.exact_quotient-den.ensures)

pub with_sign-requires-clause-lowest : goal.with_sign-requires-clause-lowest
with_sign-requires-clause-lowest c =
    lowest_coprime _ _ _ _ (reduced_lowest c.args.negative c.args.num c.args.den _ _ _ c.requires c.gcd-common.ensures.gcd c.exact_quotient-num.ensures c.exact_quotient-den.ensures)

pub returns-then-den-lt-LIMIT : goal.returns-then-den-lt-LIMIT
returns-then-den-lt-LIMIT c =
    let exact = reduced_lowest c.args.negative c.args.num c.args.den _ _ _ c.requires c.gcd-common.ensures.gcd c.exact_quotient-num.ensures c.exact_quotient-den.ensures in
    (lowest_same _ _ _ _ _ exact c.with_sign.ensures.num c.with_sign.ensures.den, lowest_held _ _ _ _ exact c.if-num-lt-LIMIT.true c.if-den-lt-LIMIT.true)

pub returns-else-num-lt-LIMIT : goal.returns-else-num-lt-LIMIT
returns-else-num-lt-LIMIT c =
    let exact = reduced_lowest c.args.negative c.args.num c.args.den _ _ _ c.requires c.gcd-common.ensures.gcd c.exact_quotient-num.ensures c.exact_quotient-den.ensures in
    elim c.else-num-lt-LIMIT.branch [
      | else-num-lt-LIMIT-via-then-num-lt-LIMIT+else-den-lt-LIMIT w ↦ lowest_wide_den _ _ _ _ exact w.if-den-lt-LIMIT.false
      | else-num-lt-LIMIT-via-else-num-lt-LIMIT w ↦ lowest_wide_num _ _ _ _ exact w.if-num-lt-LIMIT.false
    ]
