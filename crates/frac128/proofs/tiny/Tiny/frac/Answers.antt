use mir.Syntax.{w8}
use mir.Val.{to_z, of_z}
use Rattle.std.proofs.Common.{◌≡◌, unsigned_abs, ap, ◌∙◌, arith, refl}
use Rattle.std.proofs.lemmas.Int.{ints}
use Rattle.frac128.specs.Signed.{is_below_zero}
use Rattle.frac128.proofs.Lowest.{stored, stored_lowest, lowest_coprime, lowest_same}
use Rattle.frac128.proofs.Signs.{below_zero}
use Rattle.frac128.proofs.tiny.Tiny.frac.Goals as goal

pub with_sign-requires-clause-lowest : goal.with_sign-requires-clause-lowest
with_sign-requires-clause-lowest c =
    let size : c.from.result ≡ unsigned_abs c.self.inside.num = omega (arith, ints, c.unsigned_abs.ensures.value, c.from.ensures) in
    let den : c.from-2.result ≡ c.self.inside.den = omega (arith, c.from-2.ensures) in
    lowest_coprime _ _ _ _ (stored_lowest c.args.self c.self.inside.num c.self.inside.den (is_below_zero c.self.inside.num) _ _ (stored _ _ c.self.view_is) refl size den)

pub returns-clause-value : goal.returns-clause-value
returns-clause-value c =
    let size : c.from.result ≡ unsigned_abs c.self.inside.num = omega (arith, ints, c.unsigned_abs.ensures.value, c.from.ensures) in
    let den : c.from-2.result ≡ c.self.inside.den = omega (arith, c.from-2.ensures) in
    let number : to_z w8 (of_z w8 c.self.inside.num) ≡ c.self.inside.num = omega (arith, ints, c.self.invariant.0) in
    lowest_same _ _ _ _ _ (stored_lowest c.args.self c.self.inside.num c.self.inside.den _ _ _ (stored _ _ c.self.view_is) (below_zero _ ∙ ap is_below_zero number) size den)
    c.with_sign.ensures.num c.with_sign.ensures.den
