use Rattle.std.proofs.Common.{◌≡◌, unsigned_abs, arith}
use Rattle.std.proofs.lemmas.Int.{ints}
use Rattle.frac128.proofs.Lowest.{stored, lowest_coprime, lowest_same}
use Rattle.frac128.proofs.Made.{negative_lowest}
use Rattle.frac128.proofs.frac.arith.FracField.neg.Goals as goal

pub returns : goal.returns
returns c =
    let size : c.unsigned_abs.result ≡ unsigned_abs c.self.inside.num = omega (arith, ints, c.unsigned_abs.ensures.value) in
    lowest_same _ _ _ _ _ (negative_lowest c.args.self c.self.inside.num c.self.inside.den _ (stored _ _ c.self.view_is) c.self.invariant.0 size) c.with_sign.ensures.num c.with_sign.ensures.den

pub with_sign-requires-clause-lowest : goal.with_sign-requires-clause-lowest
with_sign-requires-clause-lowest c =
    let size : c.unsigned_abs.result ≡ unsigned_abs c.self.inside.num = omega (arith, ints, c.unsigned_abs.ensures.value) in
    lowest_coprime _ _ _ _ (negative_lowest c.args.self c.self.inside.num c.self.inside.den _ (stored _ _ c.self.view_is) c.self.invariant.0 size)
