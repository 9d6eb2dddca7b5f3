use Rattle.std.proofs.Common.{◌≡◌, ℕ, List, length, map, ap, sym, subst, ◌∙◌}
use Rattle.std.proofs.lemmas.List.Elements.{All-weaker}
use Rattle.exact_field.specs.Rational.{ℚ, zero_ℚ, ◌≤ℚ◌, ◌<ℚ◌}
use Rattle.exact_field.proofs.Inequalities.{lt-le_ℚ}
use Rattle.overflows.specs.Products.{AreBaseShares}
use Rattle.overflows.specs.Trails.{IsMuOff}
use Rattle.lin_rows.specs.Read.{numbers}
use Rattle.lp_form.proofs.Figures.{objective_number}
use Rattle.lp_form.specs.Programs.{generators}
use Rattle.polyhedra.specs.Vectors.{AreWide, AtLeastZero, combination}
use Rattle.tableaux.specs.Elimination.{AreInverse}
use Rattle.tableaux.specs.Table.{row_of}
use Rattle.vlp_problem.specs.declared.problem.Cone.{Cone}
use Rattle.cone_dual.proofs.ByVectors.{cone_at, vectors_at, wide}
use Rattle.cone_dual.proofs.Ending.{licensed_end}
use Rattle.cone_dual.proofs.GeneratorsFit.{found_fits, found_off, solid}
use Rattle.cone_dual.proofs.Standing.{before, without}
use Rattle.cone_dual.proofs.generators.found_duality.Goals as goal

pub interior_multipliers-requires-clause-solid : goal.interior_multipliers-requires-clause-solid
interior_multipliers-requires-clause-solid g c = solid g.F.Field.value c.args.form.now c.args.vectors.now c.requires.generators c.args.picks c.requires.picks

pub combine_generators-requires-clause-wide : goal.combine_generators-requires-clause-wide
combine_generators-requires-clause-wide g c =
    let value = g.F.Field.value in
    let vectors = c.args.vectors.now in
    subst (λ (n : ℕ). AreWide n (numbers value vectors)) (sym c.len.ensures.value) (wide value c.args.form.now vectors c.requires.generators)

pub returns-in_err-c-clause-end : goal.returns-in_err-c-clause-end
returns-in_err-c-clause-end g c = λ file stands.
    let value = g.F.Field.value in
    let holds = g.F.Field.holds in
    let form = c.args.form.now in
    let vectors = c.args.vectors.now in
    let fault = c.in_err-c.field-0.0 in
    let mu : List ℚ = map value c.in_ok-mu.mu in
    let slice : List ℚ = map value c.as_slice.result.now in
    let slice_is : slice ≡ mu = ap (map value) c.as_slice.ensures.items in
    let read = c.in_ok-mu.ensures.read in
    let off : IsMuOff file (length (numbers value vectors)) mu = found_off value form vectors c.requires.generators holds file stands c.requires.duality read.0 mu read.1 read.2 in
    let off_at : IsMuOff file (length (generators file.cone)) mu =
    subst (λ (k : Cone). IsMuOff file (length (generators k)) mu) (sym (cone_at value form vectors c.requires.generators file stands)) off in
    let sign : AtLeastZero mu = All-weaker (λ x. zero_ℚ <ℚ x) (λ x. zero_ℚ ≤ℚ x) (λ x h. lt-le_ℚ zero_ℚ x h) mu c.in_ok-mu.ensures.ok.positive.sign in
    let shares : AreBaseShares (before file) slice = subst (λ (m : List ℚ). AreBaseShares (before file) m) (sym slice_is) (AreBaseShares.mu off_at sign) in
    licensed_end holds file c.from_residual-in_err-c.result fault c.from_residual-in_err-c.ensures.1
    (without holds file fault
    (c.in_err-c.ensures.left (before file) (sym (c.len.ensures.value ∙ objective_number value file form stands))
    (vectors_at value form vectors c.requires.generators file stands) shares))

pub inverse_columns-requires-clause-wide : goal.inverse_columns-requires-clause-wide
inverse_columns-requires-clause-wide g c = wide g.F.Field.value c.args.form.now c.args.vectors.now c.requires.generators

pub returns-in_err-inverse-clause-end : goal.returns-in_err-inverse-clause-end
returns-in_err-inverse-clause-end g c = λ file stands.
    let value = g.F.Field.value in
    let given = vectors_at value c.args.form.now c.args.vectors.now c.requires.generators file stands in
    licensed_end g.F.Field.holds file c.from_residual-in_err-inverse.result c.in_err-inverse.field-0.0 c.from_residual-in_err-inverse.ensures.1
    (c.in_err-inverse.ensures.left file stands given)

pub returns-clause-ok : goal.returns-clause-ok
returns-clause-ok g c = λ file stands.
    let value = g.F.Field.value in
    let form = c.args.form.now in
    let vectors = c.args.vectors.now in
    let all = numbers value vectors in
    let mu : List ℚ = map value c.in_ok-mu.mu in
    let read = c.in_ok-mu.ensures.read in
    let inverts = c.in_ok-inverse.ensures.ok in
    let inverted : AreInverse (length form.p) (map (row_of all) c.args.picks) inverts.0 =
    subst (λ (p : List ℕ). AreInverse (length form.p) (map (row_of all) p) inverts.0) c.as_slice-2.ensures.items inverts.1 in
    let c_is : map value c.in_ok-c.c ≡ combination (length form.p) mu all =
    c.in_ok-c.ensures.ok ∙ ap (λ (n : ℕ). combination n (map value c.as_slice.result.now) all) c.len.ensures.value
    ∙ ap (λ (m : List ℚ). combination (length form.p) m all) (ap (map value) c.as_slice.ensures.items) in
    found_fits value form vectors c.requires.generators g.F.Field.holds file stands c.in_ok-c.c c.in_ok-mu.mu c.args.picks (map value c.as_slice-3.result.now) read.0 inverts.0
    c.in_ok-duality_with.field-0 c.requires.duality c.requires.pointed c.requires.picks c.in_ok-mu.ensures.ok read.1 read.2 c_is inverted
    (ap (map value) c.as_slice-3.ensures.items ∙ inverts.2) c.in_ok-duality_with.ensures
