use mir.Syntax.{w64, w128}
use mir.Val.{to_z, of_z}
use Rattle.std.proofs.Common.{◌≡◌, ℕ, unsigned_abs, sym, ap, ◌∙◌, subst}
use Rattle.std.specs.Int.{IsGcd}
use Rattle.frac128.proofs.Holds.{size-signed}
use Rattle.frac128.specs.Signed.{signed}
use Rattle.tier_frac.proofs.Fitting.{fit_words, stored_word}
use Rattle.tier_frac.proofs.words.Words.with_sign.Goals as goal

pub invariant_of-result : goal.invariant_of-result
invariant_of-result c =
    let are = fit_words _ _ c.requires.fits in
    let same : to_z w64 (of_z w64 (to_z w128 (of_z w128 c.signed_number-num.result))) ≡ signed c.args.negative c.args.num = stored_word c.signed_number-num.result _ c.signed_number-num.ensures are.num in
    (c.requires.positive, (subst (λ (n : ℕ). IsGcd n c.args.den 1) (sym (ap unsigned_abs same ∙ size-signed c.args.negative c.args.num)) c.requires.lowest, tt))
