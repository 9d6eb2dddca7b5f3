use Rattle.std.proofs.Common.{ap, ◌∙◌, refl, unsigned_abs}
use Rattle.frac128.specs.Signed.{is_below_zero}
use Rattle.frac128.proofs.Lowest.{stored, stored_lowest, lowest_coprime, lowest_same}
use Rattle.frac128.proofs.Signs.{below_zero}
use Rattle.tier_frac.proofs.Fitting.{kept_word}
use Rattle.tier_frac.proofs.words.Words.frac.Goals as goal

pub with_sign-requires-clause-lowest : goal.with_sign-requires-clause-lowest
with_sign-requires-clause-lowest c =
    let number = kept_word c.self.inside.num c.self.inside.den c.self.invariant in
    let size = c.from-size.ensures ∙ c.unsigned_abs.ensures.value ∙ ap unsigned_abs number in
    lowest_coprime _ _ _ _ (stored_lowest c.args.self c.self.inside.num c.self.inside.den (is_below_zero c.self.inside.num) _ _ (stored _ _ c.self.view_is) refl size c.from.ensures)

pub returns : goal.returns
returns c =
    let number = kept_word c.self.inside.num c.self.inside.den c.self.invariant in
    let size = c.from-size.ensures ∙ c.unsigned_abs.ensures.value ∙ ap unsigned_abs number in
    lowest_same _ _ _ _ _ (stored_lowest c.args.self c.self.inside.num c.self.inside.den _ _ _ (stored _ _ c.self.view_is) (below_zero _ ∙ ap is_below_zero number) size c.from.ensures)
    c.with_sign.ensures.num c.with_sign.ensures.den
