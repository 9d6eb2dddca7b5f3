use Rattle.std.proofs.Common.{◌≡◌, List, map, length, take, drop, sym, ap, ap₂, ◌∙◌, refl, rules, arith, ◌+◌, ◌-◌}
use Rattle.std.proofs.lemmas.List.{length-map, take-map, drop-map}
use Rattle.exact_field.specs.Rational.{inverse_ℚ, neg_ℚ}
use Rattle.polyhedra.specs.Negatives.{negated}
use Rattle.polyhedra.specs.Vectors.{scaled}
use Rattle.lp_form.specs.Programs.{generators}
use Rattle.benson_program.proofs.Counted.{last_is, some_last, generators_are, within as within_dual, short as short_dual}
use Rattle.benson_program.proofs.Divided.{y_long, not_zero, divisor_own, may_divide, quotients_long, ray_is, m_is, wholes}
use Rattle.benson_program.proofs.whole.whole_of.Goals as goal

pub quotients_of-requires-clause-by : goal.quotients_of-requires-clause-by
quotients_of-requires-clause-by g c =
    let value = g.F.Field.value in
    let dual = c.args.dual.now in
    let e = c.requires in
    let y = map value dual in
    not_zero e.0 e.1 y e.3 (value c.neg-by.result)
    (c.neg-by.ensures ∙ ap neg_ℚ (last_is value dual (length dual - 1) c.index-dual-dual.result (some_last value c.args.form.now e.0 e.2 dual (y_long e.0 e.1 y e.3))
    c.index-dual-dual.is refl))

pub quotients_of-requires-clause-count : goal.quotients_of-requires-clause-count
quotients_of-requires-clause-count g c =
    let value = g.F.Field.value in
    let dual = c.args.dual.now in
    let e = c.requires in
    omega (arith, c.generator_count.ensures, within_dual value c.args.form.now e.0 e.2 dual (y_long e.0 e.1 (map value dual) e.3))

pub quotients_of-requires-clause-short : goal.quotients_of-requires-clause-short
quotients_of-requires-clause-short g c =
    let value = g.F.Field.value in
    let dual = c.args.dual.now in
    let e = c.requires in
    short_dual value c.args.form.now e.0 e.2 dual (y_long e.0 e.1 (map value dual) e.3)

pub returns-in_err-quotients-clause-left : goal.returns-in_err-quotients-clause-left
returns-in_err-quotients-clause-left g c = λ s v stands known h.
    let value = g.F.Field.value in
    let dual = c.args.dual.now in
    let y = map value dual in
    let by_is = c.neg-by.ensures ∙ ap neg_ℚ (last_is value dual (length dual - 1) c.index-dual-dual.result
    (some_last value c.args.form.now s.file stands dual (y_long s.file v y h)) c.index-dual-dual.is refl) in
    let k = c.in_err-quotients.ensures.left s (may_divide s v y known h) (divisor_own s.file v y h s (value c.neg-by.result) by_is) in
    search (rules, k)

pub whole_parts-requires : goal.whole_parts-requires
whole_parts-requires g c =
    let value = g.F.Field.value in
    let e = c.requires in
    let dual = c.args.dual.now in
    let y = map value dual in
    let by_is = c.neg-by.ensures ∙ ap neg_ℚ (last_is value dual (length dual - 1) c.index-dual-dual.result
    (some_last value c.args.form.now e.0 e.2 dual (y_long e.0 e.1 y e.3)) c.index-dual-dual.is refl) in
    let count : c.args.form.now.cols + c.generator_count.result ≡ e.0.cols + length (generators e.0.cone) =
    ap₂ (λ a b. a + b) e.2.cols (c.generator_count.ensures ∙ generators_are value c.args.form.now e.0 e.2 dual (y_long e.0 e.1 y e.3)) in
    let long = quotients_long e.0 e.1 y e.3 (value c.neg-by.result) (map value c.in_ok-quotients.quotients) by_is
    (c.in_ok-quotients.ensures.ok ∙ ap (λ n. scaled (inverse_ℚ (value c.neg-by.result)) (take n y)) count) in
    omega (arith, ap length c.as_slice.ensures.items, length-map c.in_ok-quotients.quotients value, long, e.2.cols)

pub returns-clause-ok : goal.returns-clause-ok
returns-clause-ok g c = λ file v stands h.
    let F = g.row.F.Denot in
    let value = g.F.Field.value in
    let cols = c.args.form.now.cols in
    let dual = c.args.dual.now in
    let y = map value dual in
    let quotients = c.in_ok-quotients.quotients in
    let parts = c.in_ok-whole_parts.field-0 in
    let by_is = c.neg-by.ensures ∙ ap neg_ℚ (last_is value dual (length dual - 1) c.index-dual-dual.result
    (some_last value c.args.form.now file stands dual (y_long file v y h)) c.index-dual-dual.is refl) in
    let count : cols + c.generator_count.result ≡ file.cols + length (generators file.cone) =
    ap₂ (λ a b. a + b) stands.cols (c.generator_count.ensures ∙ generators_are value c.args.form.now file stands dual (y_long file v y h)) in
    let over = c.in_ok-quotients.ensures.ok ∙ ap (λ n. scaled (inverse_ℚ (value c.neg-by.result)) (take n y)) count in
    wholes value file v y h parts
    (ap (map value) (c.in_ok-whole_parts.ensures.ray ∙ ap (take cols) c.as_slice.ensures.items) ∙ sym (take-map value cols quotients)
    ∙ ap (λ n. take n (map value quotients)) stands.cols ∙ ray_is file v y h (value c.neg-by.result) (map value quotients) by_is over)
    (c.in_ok-whole_parts.ensures.m ∙ ap (λ (l : List F). negated (map value (drop cols l))) c.as_slice.ensures.items ∙ ap negated (sym (drop-map value cols quotients))
    ∙ ap (λ n. negated (drop n (map value quotients))) stands.cols ∙ m_is file v y h (value c.neg-by.result) (map value quotients) by_is over)
