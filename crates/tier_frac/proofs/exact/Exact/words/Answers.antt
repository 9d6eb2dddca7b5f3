use Rattle.std.proofs.Common.{ℕ, sym, ◌∙◌, subst}
use Rattle.std.specs.Int.{IsGcd}
use Rattle.exact_field.specs.Rational.{same_parts}
use Rattle.frac128.proofs.Holds.{size-signed}
use Rattle.frac128.proofs.Lowest.{stored}
use Rattle.tier_frac.proofs.Fitting.{small_parts}
use Rattle.tier_frac.proofs.exact.Exact.words.Goals as goal

pub with_sign-requires-clause-lowest : goal.with_sign-requires-clause-lowest
with_sign-requires-clause-lowest c = subst (λ (n : ℕ). IsGcd n c.self.inside.den 1) (size-signed c.self.inside.negative c.self.inside.num) c.self.inside.lowest

pub returns-then-fits : goal.returns-then-fits
returns-then-fits c =
    let here = stored _ _ c.self.view_is in
    (same_parts _ _ (c.with_sign.ensures.num ∙ here.num) (c.with_sign.ensures.den ∙ here.den), small_parts c.args.self.now _ _ (sym here.num) (sym here.den) ∙ sym c.fits.ensures ∙ c.if-fits.true)
