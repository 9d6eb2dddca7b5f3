use Rattle.std.proofs.Common.{◌+◌, true, false, map, drop, sym, ◌∙◌}
use Rattle.std.proofs.lemmas.List.{append-nil}
use Rattle.polyhedra.proofs.Lists.{drop_value}
use Rattle.double_descr.proofs.NegativePlaces.{places_on}
use Rattle.double_descr.proofs.parts.places_below.Goals as goal
use Rattle.double_descr.proofs.parts.places_below.Goals.{then-is_negative+in_ok-push, else-is_negative}

pub loop-j-preserved : goal.loop-j-preserved
loop-j-preserved g c =
    let value = g.F.Field.value in
    let vals = c.args.values.now in
    let j = c.loop-j.j in
    let x = c.index-values-j.result in
    let e = drop_value value vals j x c.loop-j-test.true c.index-values-j.is in
    elim c.if-is_negative.branch [
      | then-is_negative+in_ok-push w ↦ places_on j (drop j (map value vals)) (drop (j + 1) (map value vals)) (value x) true c.loop-j.out c.if-is_negative.out _ e
          (sym c.is_negative.ensures.test ∙ w.if-is_negative.true) (w.out-is ∙ w.in_ok-push.ensures.ok) c.loop-j.invariant
      | else-is_negative w ↦ places_on j (drop j (map value vals)) (drop (j + 1) (map value vals)) (value x) false c.loop-j.out c.if-is_negative.out _ e
          (sym c.is_negative.ensures.test ∙ w.if-is_negative.false) (w.out-is ∙ sym (append-nil c.loop-j.out)) c.loop-j.invariant
    ]
