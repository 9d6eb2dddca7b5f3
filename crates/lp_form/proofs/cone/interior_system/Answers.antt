use Rattle.std.proofs.Common.{◌≤◌, length, sym, ap, ◌∙◌, subst}
use Rattle.polyhedra.specs.Vectors.{AreWide}
use Rattle.lin_rows.specs.Read.{numbers}
use Rattle.lp_form.proofs.Shaped.{gens_wide, dual_wide, dual_few, kept_wide, kept_few}
use Rattle.lp_form.proofs.cone.interior_system.Goals as goal

pub interior_given-requires-clause-wide : goal.interior_given-requires-clause-wide
interior_given-requires-clause-wide g c =
    let value = g.F.Field.value in
    subst (λ vs. AreWide c.args.q (numbers value vs)) (sym c.as_slice.ensures.items) (gens_wide value c.args.q c.args.cone.now _ c.in-Gens.is c.requires.vectors)

pub interior_found-requires-clause-wide : goal.interior_found-requires-clause-wide
interior_found-requires-clause-wide g c =
    let value = g.F.Field.value in
    subst (λ vs. AreWide c.args.q (numbers value vs)) (sym c.as_slice-in-None.ensures.items) (gens_wide value c.args.q c.args.cone.now _ c.in-Gens.is c.requires.vectors)

pub interior_in_dual-requires-clause-few : goal.interior_in_dual-requires-clause-few
interior_in_dual-requires-clause-few g c =
    let value = g.F.Field.value in
    kept_few value 100000 c.as_slice-in-Dual.result.now c.as_slice-in-Dual-2.result.now (ap (numbers value) c.as_slice-in-Dual-2.ensures.items ∙ c.in_ok-kept-in-Dual.ensures)
    (subst (λ vs. length vs ≤ 100000) (sym c.as_slice-in-Dual.ensures.items) (dual_few value c.args.q c.args.cone.now _ c.in-Dual.is c.requires.vectors))

pub interior_in_dual-requires-clause-wide : goal.interior_in_dual-requires-clause-wide
interior_in_dual-requires-clause-wide g c =
    let value = g.F.Field.value in
    kept_wide value c.args.q c.as_slice-in-Dual.result.now c.as_slice-in-Dual-2.result.now (ap (numbers value) c.as_slice-in-Dual-2.ensures.items ∙ c.in_ok-kept-in-Dual.ensures)
    (subst (λ vs. AreWide c.args.q (numbers value vs)) (sym c.as_slice-in-Dual.ensures.items) (dual_wide value c.args.q c.args.cone.now _ c.in-Dual.is c.requires.vectors))
