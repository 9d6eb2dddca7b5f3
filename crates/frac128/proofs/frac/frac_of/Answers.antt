use mir.Syntax.{w128}
use mir.Val.{to_z, of_z}
use Rattle.std.proofs.Common.{◌≡◌, unsigned_abs, ap, ◌∙◌, refl, arith}
use Rattle.std.proofs.lemmas.Int.{ints, to_z-of_z}
use Rattle.frac128.specs.Signed.{is_below_zero}
use Rattle.frac128.proofs.Lowest.{stored_lowest, lowest_coprime, lowest_same}
use Rattle.frac128.proofs.Signs.{below_zero}
use Rattle.frac128.proofs.frac.frac_of.Goals as goal

pub with_sign-requires-clause-lowest : goal.with_sign-requires-clause-lowest
with_sign-requires-clause-lowest g c =
    let size : c.unsigned_abs.result ≡ unsigned_abs c.num-num.result = omega (arith, ints, c.unsigned_abs.ensures.value) in
    let den : unsigned_abs (to_z w128 (of_z w128 c.den-den.result)) ≡ (g.F.Field.value c.args.x).den = omega (arith, ints, c.den-den.ensures.part) in
    lowest_coprime _ _ _ _ (stored_lowest (g.F.Field.value c.args.x) c.num-num.result _ (is_below_zero c.num-num.result) _ _ (record { num = c.num-num.ensures.part; den = den }) refl size refl)

pub returns : goal.returns
returns g c =
    let number : to_z w128 (of_z w128 c.num-num.result) ≡ c.num-num.result = to_z-of_z w128 c.num-num.result (record { sfits = c.num-num.type_inv }) in
    let size : c.unsigned_abs.result ≡ unsigned_abs c.num-num.result = omega (arith, ints, c.unsigned_abs.ensures.value) in
    let den : unsigned_abs (to_z w128 (of_z w128 c.den-den.result)) ≡ (g.F.Field.value c.args.x).den = omega (arith, ints, c.den-den.ensures.part) in
    lowest_same _ _ _ _ _ (stored_lowest (g.F.Field.value c.args.x) c.num-num.result _ _ _ _ (record { num = c.num-num.ensures.part; den = den }) (below_zero _ ∙ ap is_below_zero number) size refl)
    c.with_sign.ensures.num c.with_sign.ensures.den
