use Rattle.std.proofs.Common.{◌≡◌, unsigned_abs, ap, ◌∙◌, arith, refl}
use Rattle.std.proofs.lemmas.Int.{ints}
use Rattle.frac128.specs.Signed.{is_below_zero}
use Rattle.frac128.proofs.Lowest.{reciprocal_lowest, stored, lowest_at, lowest_positive, lowest_coprime, lowest_same}
use Rattle.frac128.proofs.Signs.{below_zero, kept}
use Rattle.frac128.proofs.frac.Frac.reciprocal.Goals as goal

pub with_sign-requires-clause-positive : goal.with_sign-requires-clause-positive
with_sign-requires-clause-positive c =
    let size : c.unsigned_abs.result ≡ unsigned_abs c.self.inside.num = omega (arith, ints, c.unsigned_abs.ensures.value) in
    lowest_positive _ _ _ _ (reciprocal_lowest c.args.self c.self.inside.num c.self.inside.den _ c.requires (stored _ _ c.self.view_is) size)

pub with_sign-requires-clause-lowest : goal.with_sign-requires-clause-lowest
with_sign-requires-clause-lowest c =
    let size : c.unsigned_abs.result ≡ unsigned_abs c.self.inside.num = omega (arith, ints, c.unsigned_abs.ensures.value) in
    lowest_coprime _ _ _ _ (reciprocal_lowest c.args.self c.self.inside.num c.self.inside.den _ c.requires (stored _ _ c.self.view_is) size)

pub returns : goal.returns
returns c =
    let size : c.unsigned_abs.result ≡ unsigned_abs c.self.inside.num = omega (arith, ints, c.unsigned_abs.ensures.value) in
    let exact = reciprocal_lowest c.args.self c.self.inside.num c.self.inside.den _ c.requires (stored _ _ c.self.view_is) size in
    let sign = below_zero _ ∙ ap is_below_zero (kept c.self.inside.num c.self.invariant.0) in
    lowest_same _ _ _ _ _ (lowest_at _ _ _ _ _ _ _ exact sign refl refl) c.with_sign.ensures.num c.with_sign.ensures.den
