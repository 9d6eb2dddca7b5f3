use Rattle.std.proofs.Common.{◌≡◌, ℕ, unsigned_abs, sym, ap, ◌∙◌, subst, arith}
use Rattle.std.specs.Int.{IsGcd}
use Rattle.exact_field.specs.Rational.{same_parts}
use Rattle.frac128.proofs.Holds.{size-signed, held_by_sizes}
use Rattle.frac128.proofs.Lowest.{stored}
use Rattle.tier_frac.proofs.exact.Exact.frac.Goals as goal

pub with_sign-requires-clause-lowest : goal.with_sign-requires-clause-lowest
with_sign-requires-clause-lowest c = subst (λ (n : ℕ). IsGcd n c.self.inside.den 1) (size-signed c.self.inside.negative c.self.inside.num) c.self.inside.lowest

pub returns-then-self-lt-LIMIT-2 : goal.returns-then-self-lt-LIMIT-2
returns-then-self-lt-LIMIT-2 c =
    let here = stored _ _ c.self.view_is in
    let size : unsigned_abs c.args.self.now.num ≡ c.self.inside.num = ap unsigned_abs (sym here.num) ∙ size-signed c.self.inside.negative c.self.inside.num in
    let den : c.self.inside.den ≡ c.args.self.now.den = here.den in
    (same_parts _ _ (c.with_sign.ensures.num ∙ here.num) (c.with_sign.ensures.den ∙ here.den), held_by_sizes c.args.self.now (omega arith) (omega arith))
