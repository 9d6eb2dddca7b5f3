use Rattle.std.proofs.Common.{◌≡◌, ◌+◌, ◌^◌, ◌<◌, ℕ, subst, arith}
use Rattle.std.proofs.lemmas.Nat.{shr_below}
use Rattle.frac128.proofs.joint.digit.Goals as goal

pub returns-clause-digit_small : goal.returns-clause-digit_small
returns-clause-digit_small c =
    let turned : c.args.place + 4 ≡ 4 + c.args.place = omega arith in
    shr_below c.args.number 4 c.args.place (subst (λ (n : ℕ). c.args.number < 2 ^ n) turned c.requires.below)
