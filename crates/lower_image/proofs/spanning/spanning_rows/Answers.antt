use Rattle.std.proofs.Common.{◌≡◌, ◌∙◌, ℕ, List, ap, length, subst, sym}
use Rattle.std.proofs.lemmas.Result.{IfOk-weaker}
use Rattle.polyhedra.specs.Cone.{HasFullRank}
use Rattle.polyhedra.specs.Vectors.{AreWide}
use Rattle.tableaux.specs.Table.{Table, listed, unit}
use Rattle.lin_rows.specs.Read.{numbers}
use Rattle.lp_form.proofs.Figures.{objective_number}
use Rattle.lp_form.proofs.Shaped.{dual_wide, gens_wide}
use Rattle.cone_rules.proofs.Rows.{kept}
use Rattle.cone_dual.specs.Generators.{AreConeRows, AreGenerators, AreMadeInOrder}
use Rattle.lower_image.proofs.Directions.{cone_rows, dual_form_spans, generators_span, ok_both, pointed_rank, units_span}
use Rattle.lower_image.proofs.spanning.spanning_rows.Goals as goal

pub nonzero_rows-requires : goal.nonzero_rows-requires
nonzero_rows-requires g c =
    let value = g.F.Field.value in
    let form = c.args.form.now in
    subst (λ (n : ℕ). AreWide n (numbers value c.as_slice.result.now)) (sym c.len-q.ensures.value)
    (subst (λ vs. AreWide (length form.p) (numbers value vs)) (sym c.as_slice.ensures.items)
    (gens_wide value (length form.p) form.cone c.in-Gens.vectors c.in-Gens.is form.cone_vectors))

pub nonzero_rows-requires-in-Dual : goal.nonzero_rows-requires-in-Dual
nonzero_rows-requires-in-Dual g c =
    let value = g.F.Field.value in
    let form = c.args.form.now in
    subst (λ (n : ℕ). AreWide n (numbers value c.as_slice-in-Dual.result.now)) (sym c.len-q.ensures.value)
    (subst (λ vs. AreWide (length form.p) (numbers value vs)) (sym c.as_slice-in-Dual.ensures.items)
    (dual_wide value (length form.p) form.cone c.in-Dual.vectors c.in-Dual.is form.cone_vectors))

pub dual_gens-requires : goal.dual_gens-requires
dual_gens-requires g c =
    let value = g.F.Field.value in
    let form = c.args.form.now in
    let vs = c.in-Dual.vectors in
    let rows = c.in_ok-rows-in-Dual.rows in
    let same : numbers value rows.list ≡ kept (numbers value vs) =
    c.in_ok-rows-in-Dual.ensures.rows ∙ ap (λ l. kept (numbers value l)) c.as_slice-in-Dual.ensures.items in
    let wide = dual_wide value (length form.p) form.cone vs c.in-Dual.is form.cone_vectors in
    subst (λ (n : ℕ). HasFullRank n (numbers value rows.list)) (sym (c.in_ok-rows-in-Dual.ensures.width ∙ c.len-q.ensures.value))
    (subst (λ (rs : Table). HasFullRank (length form.p) rs) (sym same)
    (pointed_rank value g.file form c.requires.1.0 vs c.in-Dual.is c.requires.1.1 wide))

pub returns-in_ok-unit_rows-in-Orthant-clause-width : goal.returns-in_ok-unit_rows-in-Orthant-clause-width
returns-in_ok-unit_rows-in-Orthant-clause-width g c =
    c.in_ok-unit_rows-in-Orthant.ensures.width ∙ c.len-q.ensures.value ∙ objective_number g.F.Field.value g.file c.args.form.now c.requires.1.0

pub returns-in_ok-unit_rows-in-Orthant-clause-ok : goal.returns-in_ok-unit_rows-in-Orthant-clause-ok
returns-in_ok-unit_rows-in-Orthant-clause-ok g c =
    let value = g.F.Field.value in
    units_span value g.file c.args.form.now c.requires.1.0 (numbers value c.in_ok-unit_rows-in-Orthant.field-0.list) c.in-Orthant.is
    (c.in_ok-unit_rows-in-Orthant.ensures.rows ∙ ap (λ (n : ℕ). listed n (unit n)) c.len-q.ensures.value)

pub returns-in_ok-nonzero_rows-in-Gens-clause-width : goal.returns-in_ok-nonzero_rows-in-Gens-clause-width
returns-in_ok-nonzero_rows-in-Gens-clause-width g c =
    c.in_ok-nonzero_rows-in-Gens.ensures.width ∙ c.len-q.ensures.value ∙ objective_number g.F.Field.value g.file c.args.form.now c.requires.1.0

pub returns-in_ok-nonzero_rows-in-Gens-clause-ok : goal.returns-in_ok-nonzero_rows-in-Gens-clause-ok
returns-in_ok-nonzero_rows-in-Gens-clause-ok g c =
    let value = g.F.Field.value in
    let form = c.args.form.now in
    let vs = c.in-Gens.vectors in
    generators_span value g.file form c.requires.1.0 vs (numbers value c.in_ok-nonzero_rows-in-Gens.field-0.list) c.in-Gens.is
    (gens_wide value (length form.p) form.cone vs c.in-Gens.is form.cone_vectors)
    (c.in_ok-nonzero_rows-in-Gens.ensures.rows ∙ ap (λ l. kept (numbers value l)) c.as_slice.ensures.items)

pub returns-in_ok-rows-in-Dual-clause-width : goal.returns-in_ok-rows-in-Dual-clause-width
returns-in_ok-rows-in-Dual-clause-width g c =
    let at = c.in_ok-rows-in-Dual.ensures.width ∙ c.len-q.ensures.value ∙ objective_number g.F.Field.value g.file c.args.form.now c.requires.1.0 in
    IfOk-weaker c.dual_gens.result _ _ (λ out is. is ∙ at) c.dual_gens.ensures.width

pub returns-in_ok-rows-in-Dual-clause-ok : goal.returns-in_ok-rows-in-Dual-clause-ok
returns-in_ok-rows-in-Dual-clause-ok g c =
    let value = g.F.Field.value in
    let form = c.args.form.now in
    let vs = c.in-Dual.vectors in
    let rows = c.in_ok-rows-in-Dual.rows in
    let t = numbers value rows.list in
    let same : t ≡ kept (numbers value vs) = c.in_ok-rows-in-Dual.ensures.rows ∙ ap (λ l. kept (numbers value l)) c.as_slice-in-Dual.ensures.items in
    let at = c.in_ok-rows-in-Dual.ensures.width ∙ c.len-q.ensures.value in
    let wide = dual_wide value (length form.p) form.cone vs c.in-Dual.is form.cone_vectors in
    ok_both c.dual_gens.result c.dual_gens.ensures.generators c.dual_gens.ensures.order
    (λ out are order.
    dual_form_spans value g.file form c.requires.1.0 vs t (numbers value out.list) c.in-Dual.is wide same
    (subst (λ (n : ℕ). AreGenerators n t (numbers value out.list)) at are) (subst (λ (n : ℕ). AreMadeInOrder n t (numbers value out.list)) at order))

pub returns-in_ok-rows-in-Dual-clause-left : goal.returns-in_ok-rows-in-Dual-clause-left
returns-in_ok-rows-in-Dual-clause-left g c =
    let value = g.F.Field.value in
    let vs = c.in-Dual.vectors in
    let t = numbers value c.in_ok-rows-in-Dual.rows.list in
    let same : t ≡ kept (numbers value vs) = c.in_ok-rows-in-Dual.ensures.rows ∙ ap (λ l. kept (numbers value l)) c.as_slice-in-Dual.ensures.items in
    c.dual_gens.ensures.left g.file
    (subst (λ (n : ℕ). AreConeRows g.file n t) (sym (c.in_ok-rows-in-Dual.ensures.width ∙ c.len-q.ensures.value))
    (cone_rows value g.file c.args.form.now c.requires.1.0 vs t c.in-Dual.is same))
