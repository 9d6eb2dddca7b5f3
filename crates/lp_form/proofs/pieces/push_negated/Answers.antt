use Rattle.std.proofs.Common.{◌++◌, map, sym, ap, ◌∙◌, arith}
use Rattle.exact_field.specs.Rational.{neg_ℚ}
use Rattle.std.proofs.lemmas.List.{take_all}
use Rattle.std.proofs.lemmas.Simd.{map-map}
use Rattle.lp_form.proofs.pieces.push_negated.Goals as goal

pub returns : goal.returns
returns g c =
    let value = g.F.Field.value in
    let vector = c.args.vector.now in
    c.loop-x.invariant ∙ ap (λ l. map value c.args.list.now ++ l) (ap (map (λ x. neg_ℚ (value x))) (take_all c.loop-x.x-index vector (omega arith)) ∙ sym (map-map neg_ℚ value vector))
