use Rattle.std.proofs.Common.{◌≡◌, [], ◌∷◌, ◌++◌, ◌<◌, map, length, take, sym, ap, ap₂, ◌∙◌, arith}
use Rattle.exact_field.specs.Rational.{◌-ℚ◌}
use Rattle.tableaux.specs.Table.{minus}
use Rattle.std.proofs.lemmas.List.{map_push, length-map}
use Rattle.lp_form.proofs.Signs.{minus-push}
use Rattle.lp_form.proofs.Steps.{value_pushed, take_next}
use Rattle.std.proofs.lemmas.List.{length-take-le}
use Rattle.lp_form.proofs.reading.difference.Goals as goal

pub loop-i-preserved : goal.loop-i-preserved
loop-i-preserved g c =
    let value = g.F.Field.value in
    let plus = c.args.plus.now in
    let negative = c.args.negative.now in
    let i = c.loop-i.i in
    let long : length negative ≡ length plus = c.requires.one_each in
    let inside : i < length plus = omega arith in
    value_pushed value c.loop-i.w c.push.new.self c.signed_number.result _ c.in_ok-push.ensures.ok c.signed_number.ensures
    ∙ ap (λ l. l ++ (value c.index-plus-i.result -ℚ value c.index-negative-i.result) ∷ []) c.loop-i.invariant
    ∙ sym (ap₂ minus (ap (map value) (take_next plus i c.index-plus-i.result inside c.index-plus-i.is) ∙ map_push value (take i plus) c.index-plus-i.result)
    (ap (map value) (take_next negative i c.index-negative-i.result (omega arith) c.index-negative-i.is) ∙ map_push value (take i negative) c.index-negative-i.result)
    ∙ minus-push (map value (take i plus)) (map value (take i negative)) (value c.index-plus-i.result) (value c.index-negative-i.result)
    (length-map (take i plus) value ∙ length-take-le i plus (omega arith) ∙ sym (length-map (take i negative) value ∙ length-take-le i negative (omega arith))))
