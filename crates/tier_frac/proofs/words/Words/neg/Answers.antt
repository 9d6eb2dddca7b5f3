use Rattle.std.proofs.Common.{ℤ, unsigned_abs, sym, ap, ◌∙◌, subst, neg_ℤ}
use Rattle.std.specs.Int.{IsGcd}
use Rattle.exact_field.specs.Rational.{same_parts, lowest_negated}
use Rattle.exact_field.proofs.Rationals.{neg-num, neg-den}
use Rattle.frac128.proofs.Lowest.{stored}
use Rattle.tier_frac.proofs.Fitting.{fit_words, words_fit, kept_word, negated_word}
use Rattle.tier_frac.proofs.words.Words.neg.Goals as goal

pub invariant_of-result : goal.invariant_of-result
invariant_of-result c =
    let is = negated_word c.in_ok-num.num c.self.inside.num c.in_ok-num.ensures.0 c.in_ok-num.ensures.1 (kept_word c.self.inside.num c.self.inside.den c.self.invariant) in
    (c.self.inside.positive, (subst (λ (z : ℤ). IsGcd (unsigned_abs z) c.self.inside.den 1) (sym is.value) (lowest_negated c.self.inside.num c.self.inside.den c.self.inside.lowest), tt))

pub returns : goal.returns
returns c =
    let is = negated_word c.in_ok-num.num c.self.inside.num c.in_ok-num.ensures.0 c.in_ok-num.ensures.1 (kept_word c.self.inside.num c.self.inside.den c.self.invariant) in
    let here = stored _ _ c.self.view_is in (
      same_parts _ _ (is.value ∙ ap neg_ℤ here.num ∙ sym (neg-num c.args.self)) (here.den ∙ sym (neg-den c.args.self)),
      words_fit _ _ (record { num = is.fits; den = (fit_words c.self.inside.num c.self.inside.den c.self.invariant).den }),
    )
