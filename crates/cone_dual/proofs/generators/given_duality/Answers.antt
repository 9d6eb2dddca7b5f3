use Rattle.std.proofs.Common.{◌≡◌, ℕ, List, ◌-◌, ◌+◌, length, map, take, ap, sym, subst, ◌∙◌, arith}
use Rattle.exact_field.specs.Rational.{ℚ, zero_ℚ, inverse_ℚ, ◌<ℚ◌}
use Rattle.exact_field.specs.Vector.{entry}
use Rattle.exact_field.proofs.Inequalities.{positive-not-zero}
use Rattle.overflows.specs.Quotients.{IsDivisor, IsScaled}
use Rattle.lin_rows.specs.Read.{numbers}
use Rattle.lin_rows.proofs.Summing.{entry_read}
use Rattle.lp_form.specs.Data.{duality_of}
use Rattle.lp_form.specs.declared.data.ConeOf.TheVariants.{Gens}
use Rattle.polyhedra.specs.Vectors.{scaled}
use Rattle.std.proofs.lemmas.List.{length-map}
use Rattle.tableaux.specs.Elimination.{AreInverse}
use Rattle.tableaux.specs.Table.{row_of}
use Rattle.vlp_problem.specs.declared.problem.Cone.{Cone}
use Rattle.vlp_problem.specs.declared.problem.Cone.TheVariants as form_of
use Rattle.cone_rules.specs.Faults.{IsGivenInside}
use Rattle.cone_rules.proofs.Ranks.{rank_laws}
use Rattle.cone_dual.proofs.ByVectors.{vectors_at, wide}
use Rattle.cone_dual.proofs.Ending.{licensed_end}
use Rattle.cone_dual.proofs.GeneratorsFit.{given_fits, read_scaled, solid}
use Rattle.cone_dual.proofs.Picks.{full_rank}
use Rattle.cone_dual.proofs.Standing.{as_cone, before, given_inside, given_long, given_to, without}
use Rattle.cone_dual.proofs.generators.given_duality.Goals as goal

pub positive_solution-requires-clause-solid : goal.positive_solution-requires-clause-solid
positive_solution-requires-clause-solid g c = solid g.F.Field.value c.args.form.now c.args.vectors.now c.requires.generators c.args.picks c.requires.picks

pub scale_given-requires-clause-solid : goal.scale_given-requires-clause-solid
scale_given-requires-clause-solid g c = solid g.F.Field.value c.args.form.now c.args.vectors.now c.requires.generators c.args.picks c.requires.picks

pub scale_given-requires-clause-inside : goal.scale_given-requires-clause-inside
scale_given-requires-clause-inside g c =
    let value = g.F.Field.value in
    let form = c.args.form.now in
    let vectors = c.args.vectors.now in
    let f = c.args.f.now in
    let q = length form.p in
    let all = numbers value vectors in
    as_cone value form (Gens vectors) c.requires.generators (λ (k : Cone). IsGivenInside q k (duality_of value form.duality))
    (given_inside value form f c.requires.duality q (form_of.Gens all)
    (rank_laws.inside q all (take (length vectors) (map value c.in_ok-z.z)) (map value f) (wide value form vectors c.requires.generators)
    (full_rank q all c.args.picks c.requires.picks) c.in_ok-z.ensures.ok))

pub quotients_of-requires-clause-by : goal.quotients_of-requires-clause-by
quotients_of-requires-clause-by g c =
    let value = g.F.Field.value in
    let form = c.args.form.now in
    let f = c.args.f.now in
    let by = c.index-f-f.result in
    let long : length f ≡ length form.p = given_long value form f c.requires.duality in
    let some = form.some_objective in
    let last : length f - 1 + 1 ≡ length form.p = omega (arith, long, some) in
    let here : entry (map value f) (length form.p) ≡ value by =
    ap (entry (map value f)) (sym last) ∙ entry_read value g.F.Field.holds f (length f - 1) by (omega (arith, long, some)) c.index-f-f.is in
    positive-not-zero (value by) (subst (λ (x : ℚ). zero_ℚ <ℚ x) here c.in_ok-c.ensures.positive)

pub returns-in_err-weights-clause-end : goal.returns-in_err-weights-clause-end
returns-in_err-weights-clause-end g c = λ file stands.
    let value = g.F.Field.value in
    let holds = g.F.Field.holds in
    let form = c.args.form.now in
    let vectors = c.args.vectors.now in
    let f = c.args.f.now in
    let by = c.index-f-f.result in
    let fault = c.in_err-weights.field-0.0 in
    let z : List ℚ = map value c.in_ok-z.z in
    let slice : List ℚ = map value c.as_slice.result.now in
    let slice_is : slice ≡ z = ap (map value) c.as_slice.ensures.items in
    let long : length f ≡ length form.p = given_long value form f c.requires.duality in
    let some = form.some_objective in
    let last : length f - 1 + 1 ≡ length (map value f) = omega (arith, long, some, length-map f value) in
    let here : value by ≡ entry (map value f) (length (map value f)) =
    sym (ap (entry (map value f)) (sym last) ∙ entry_read value holds f (length f - 1) by (omega (arith, long, some)) c.index-f-f.is) in
    let given = given_to value form file stands f c.requires.duality in
    let divided : IsScaled (before file) slice =
    subst (λ (v : List ℚ). IsScaled (before file) v) (sym slice_is)
    (read_scaled value form vectors c.requires.generators holds file stands f c.requires.duality z c.in_ok-z.ensures.read) in
    licensed_end holds file c.from_residual-in_err-weights.result fault c.from_residual-in_err-weights.ensures.1
    (without holds file fault (c.in_err-weights.ensures.left (before file) divided (IsDivisor.given (map value f) given here)))

pub inverse_columns-requires-clause-wide : goal.inverse_columns-requires-clause-wide
inverse_columns-requires-clause-wide g c = wide g.F.Field.value c.args.form.now c.args.vectors.now c.requires.generators

pub returns-in_err-inverse-clause-end : goal.returns-in_err-inverse-clause-end
returns-in_err-inverse-clause-end g c = λ file stands.
    let value = g.F.Field.value in
    let given = vectors_at value c.args.form.now c.args.vectors.now c.requires.generators file stands in
    licensed_end g.F.Field.holds file c.from_residual-in_err-inverse.result c.in_err-inverse.field-0.0 c.from_residual-in_err-inverse.ensures.1
    (c.in_err-inverse.ensures.left file stands given)

pub returns-clause-ok : goal.returns-clause-ok
returns-clause-ok g c = λ file stands.
    let value = g.F.Field.value in
    let holds = g.F.Field.holds in
    let form = c.args.form.now in
    let vectors = c.args.vectors.now in
    let f = c.args.f.now in
    let n : ℕ = length vectors in
    let by = c.index-f-f.result in
    let z : List ℚ = map value c.in_ok-z.z in
    let all = numbers value vectors in
    let inverts = c.in_ok-inverse.ensures.ok in
    let inverted : AreInverse (length form.p) (map (row_of all) c.args.picks) inverts.0 =
    subst (λ (p : List ℕ). AreInverse (length form.p) (map (row_of all) p) inverts.0) c.as_slice-2.ensures.items inverts.1 in
    let long : length f ≡ length form.p = given_long value form f c.requires.duality in
    let some = form.some_objective in
    let last : length f - 1 + 1 ≡ length form.p = omega (arith, long, some) in
    let here : value by ≡ entry (map value f) (length form.p) =
    sym (ap (entry (map value f)) (sym last) ∙ entry_read value holds f (length f - 1) by (omega (arith, long, some)) c.index-f-f.is) in
    let weights_is : map value c.in_ok-weights.weights ≡ scaled (inverse_ℚ (entry (map value f) (length form.p))) (take n z) =
    c.in_ok-weights.ensures.ok ∙ ap (λ (x : ℚ). scaled (inverse_ℚ x) (take n (map value c.as_slice.result.now))) here
    ∙ ap (λ (v : List ℚ). scaled (inverse_ℚ (entry (map value f) (length form.p))) (take n v)) (ap (map value) c.as_slice.ensures.items) in
    given_fits value form vectors c.requires.generators holds file stands f c.requires.duality c.in_ok-c.c c.in_ok-weights.weights c.args.picks
    (map value c.as_slice-3.result.now) z inverts.0 c.in_ok-duality_with.field-0 c.requires.pointed c.requires.picks c.in_ok-c.ensures.positive c.in_ok-z.ensures.ok
    c.in_ok-z.ensures.read c.in_ok-c.ensures.ok weights_is inverted (ap (map value) c.as_slice-3.ensures.items ∙ inverts.2) c.in_ok-duality_with.ensures
