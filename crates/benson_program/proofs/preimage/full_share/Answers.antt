use Rattle.std.proofs.Common.{◌≡◌, List, map, length, subst, sym, ap, ap₂, ◌∙◌, refl, ◌-◌, true≢false}
use Rattle.std.proofs.lemmas.List.{length-map}
use Rattle.std.proofs.lemmas.Result.{IfOk-weaker}
use Rattle.exact_field.specs.Rational.{ℚ, zero_ℚ, neg_ℚ, ◌<ℚ◌}
use Rattle.polyhedra.specs.Vectors.{plus, scaled}
use Rattle.lp_form.specs.Programs.{full_share_of, generators}
use Rattle.benson_program.proofs.Counted.{last_is, some_last}
use Rattle.benson_program.proofs.Divided.{length-share}
use Rattle.benson_program.proofs.Shared.{full_below, full_other, low_long, within_y}
use Rattle.benson_program.proofs.preimage.full_share.Goals as goal

pub add_weights-requires-clause-same : goal.add_weights-requires-clause-same
add_weights-requires-clause-same g c =
    let value = g.F.Field.value in
    let e = c.requires.dual in
    let y = map value c.args.dual.now in
    sym (length-map c.as_slice.result.now value) ∙ ap (λ l. length (map value l)) c.as_slice.ensures.items ∙ ap length (c.in_ok-own.ensures e.0 e.4)
    ∙ length-share e.0 e.0.cone y (within_y e.0 e.1 e.2 e.3 y e.5) ∙ ap (λ k. length (generators k)) (sym e.4.cone) ∙ sym c.requires.weights

pub returns-then-is_negative-clause-ok : goal.returns-then-is_negative-clause-ok
returns-then-is_negative-clause-ok g c = λ file stands.
    let F = g.row.F.Denot in
    let value = g.F.Field.value in
    let e = c.requires.dual in
    let dual = c.args.dual.now in
    let y = map value dual in
    let weights = map value c.args.weights.now in
    let last = last_is value dual (length dual - 1) c.index-dual-dual.result (some_last value c.args.form.now e.0 e.4 dual (low_long e.0 e.1 e.2 e.3 y e.5))
    c.index-dual-dual.is refl in
    let below = subst (λ (q : ℚ). q <ℚ zero_ℚ) last (c.is_negative.ensures.fact.0 c.if-is_negative.true) in
    let own = ap (map value) c.as_slice.ensures.items ∙ c.in_ok-own.ensures file stands in
    IfOk-weaker c.add_weights.result _ (λ (m : List F). map value m ≡ full_share_of file file.cone weights y)
    (λ m is. is ∙ ap₂ (λ (a : List ℚ) (q : ℚ). plus a (scaled (neg_ℚ q) weights)) own last ∙ full_below file file.cone weights y below) c.add_weights.ensures.ok

pub returns-then-is_negative-clause-left : goal.returns-then-is_negative-clause-left
returns-then-is_negative-clause-left g c = λ s stands read weights_are.
    let value = g.F.Field.value in
    let e = c.requires.dual in
    let dual = c.args.dual.now in
    let y = map value dual in
    let last = last_is value dual (length dual - 1) c.index-dual-dual.result (some_last value c.args.form.now e.0 e.4 dual (low_long e.0 e.1 e.2 e.3 y e.5))
    c.index-dual-dual.is refl in
    c.add_weights.ensures.left s y read last (ap (map value) c.as_slice.ensures.items ∙ c.in_ok-own.ensures s.file stands) weights_are

pub returns-else-is_negative-clause-ok : goal.returns-else-is_negative-clause-ok
returns-else-is_negative-clause-ok g c = λ file stands.
    let value = g.F.Field.value in
    let e = c.requires.dual in
    let dual = c.args.dual.now in
    let y = map value dual in
    let last = last_is value dual (length dual - 1) c.index-dual-dual.result (some_last value c.args.form.now e.0 e.4 dual (low_long e.0 e.1 e.2 e.3 y e.5))
    c.index-dual-dual.is refl in
    c.in_ok-own.ensures file stands
    ∙ full_other file file.cone (map value c.args.weights.now) y
    (λ l. true≢false (sym (c.is_negative.ensures.fact.1 (subst (λ (q : ℚ). q <ℚ zero_ℚ) (sym last) l)) ∙ c.if-is_negative.false))
