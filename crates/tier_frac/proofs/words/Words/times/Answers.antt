use Rattle.std.proofs.Common.{Bool, ◌*◌, ap, ◌∙◌, refl, unsigned_abs}
use Rattle.exact_field.specs.Rational.{fraction}
use Rattle.frac128.specs.Signed.{signed, is_below_zero}
use Rattle.frac128.proofs.Lowest.{stored, stored_lowest, lowest_coprime}
use Rattle.frac128.proofs.Signs.{same_signs}
use Rattle.tier_frac.proofs.Fitting.{fit_words, kept_word, widened_word}
use Rattle.tier_frac.proofs.Products.{product_is}
use Rattle.tier_frac.proofs.words.Words.times.Goals as goal

pub product-requires-clause-lowest : goal.product-requires-clause-lowest
product-requires-clause-lowest c =
    let size = c.unsigned_abs-size.ensures.value ∙ ap unsigned_abs (kept_word c.self.inside.num c.self.inside.den c.self.invariant) in
    lowest_coprime _ _ _ _ (stored_lowest c.args.self c.self.inside.num c.self.inside.den (is_below_zero c.self.inside.num) _ _ (stored _ _ c.self.view_is) refl size refl)

pub product-requires-clause-other_lowest : goal.product-requires-clause-other_lowest
product-requires-clause-other_lowest c =
    let size = c.unsigned_abs-other_size.ensures.value ∙ ap unsigned_abs (kept_word c.other.inside.num c.other.inside.den c.other.invariant) in
    lowest_coprime _ _ _ _ (stored_lowest c.args.other c.other.inside.num c.other.inside.den (is_below_zero c.other.inside.num) _ _ (stored _ _ c.other.view_is) refl size refl)

pub returns : goal.returns
returns c =
    let size = c.unsigned_abs-size.ensures.value ∙ ap unsigned_abs (kept_word c.self.inside.num c.self.inside.den c.self.invariant) in
    let other_size = c.unsigned_abs-other_size.ensures.value ∙ ap unsigned_abs (kept_word c.other.inside.num c.other.inside.den c.other.invariant) in
    let left = stored_lowest c.args.self c.self.inside.num c.self.inside.den (is_below_zero c.self.inside.num) _ _ (stored _ _ c.self.view_is) refl size refl in
    let right = stored_lowest c.args.other c.other.inside.num c.other.inside.den (is_below_zero c.other.inside.num) _ _ (stored _ _ c.other.view_is) refl other_size refl in
    let sign = c.differ_in_sign-negative.ensures ∙ same_signs _ _ c.self.inside.num c.other.inside.num
    (widened_word _ _ c.from.ensures (fit_words _ _ c.self.invariant).num) (widened_word _ _ c.from-2.ensures (fit_words _ _ c.other.invariant).num) in
    c.product.ensures
    ∙ ap (λ (s : Bool). fraction (signed s (c.unsigned_abs-size.result * c.unsigned_abs-other_size.result)) (c.self.inside.den * c.other.inside.den)) sign
    ∙ product_is c.args.self c.args.other _ _ _ _ _ _ left right
