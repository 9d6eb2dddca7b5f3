use Rattle.std.proofs.Common.{◌∷◌, ◌++◌, [], ◌∙◌, List, map, take, ap, sym, slice_index_or, arith}
use Rattle.std.proofs.lemmas.List.{get_or-map, length-map, map_push, take_more}
use Rattle.exact_field.specs.Rational.{ℚ, zero_ℚ, one_ℚ, neg_ℚ}
use Rattle.lp_form.proofs.Steps.{value_pushed}
use Rattle.lower_image.proofs.weighing.completion.Goals as goal

pub loop-i-preserved : goal.loop-i-preserved
loop-i-preserved g c =
    let value = g.F.Field.value in
    let list = c.args.c.now in
    let i = c.loop-i.i in
    let long = length-map list value in
    let inside = c.loop-i-test.true in
    let own = c.neg.ensures ∙ ap neg_ℚ (ap value c.index-c-i.is ∙ sym (get_or-map value list i c.index-c-i.result zero_ℚ (omega (arith, inside)))) in
    value_pushed value c.loop-i.out c.push-in-loop-i.new.self c.neg.result (neg_ℚ (slice_index_or (map value list) i zero_ℚ)) c.in_ok-push-2.ensures.ok own
    ∙ ap (λ (l : List ℚ). l ++ neg_ℚ (slice_index_or (map value list) i zero_ℚ) ∷ []) c.loop-i.invariant
    ∙ ap (λ (l : List ℚ). one_ℚ ∷ l)
    (sym (ap (map neg_ℚ) (take_more (map value list) i zero_ℚ (omega (arith, inside, long))) ∙ map_push neg_ℚ (take i (map value list)) (slice_index_or (map value list) i zero_ℚ)))
