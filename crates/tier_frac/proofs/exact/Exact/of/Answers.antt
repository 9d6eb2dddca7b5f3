use Rattle.std.proofs.Common.{ℕ, sym, subst}
use Rattle.std.specs.Int.{IsGcd}
use Rattle.frac128.proofs.Holds.{size-signed}
use Rattle.tier_frac.proofs.exact.Exact.of.Goals as goal

pub invariant_of-result : goal.invariant_of-result
invariant_of-result c =
    (c.requires.positive, (subst (λ (n : ℕ). IsGcd n c.args.den 1) (sym (size-signed c.args.negative c.args.num)) c.requires.lowest, tt))
