use Rattle.std.proofs.Common.{◌≤◌, length, sym, ap, ◌∙◌, subst, inl, inr}
use Rattle.polyhedra.specs.Vectors.{AreWide}
use Rattle.lin_rows.specs.Read.{numbers}
use Rattle.lp_form.proofs.Shaped.{gens_wide, dual_wide, gens_few, dual_few, kept_wide, kept_few}
use Rattle.lp_form.proofs.cone.pointed_system.Goals as goal

pub combination-requires-clause-few : goal.combination-requires-clause-few
combination-requires-clause-few g c =
    let value = g.F.Field.value in
    kept_few value 100000 c.as_slice.result.now c.as_slice-in-Gens.result.now (ap (numbers value) c.as_slice-in-Gens.ensures.items ∙ c.in_ok-kept-in-Gens.ensures)
    (subst (λ vs. length vs ≤ 100000) (sym c.as_slice.ensures.items)
    (elim c.in-Gens.is [ inl e ↦ gens_few value c.args.q c.args.cone.now _ e c.requires | inr e ↦ dual_few value c.args.q c.args.cone.now _ e c.requires ]))

pub combination-requires-clause-wide : goal.combination-requires-clause-wide
combination-requires-clause-wide g c =
    let value = g.F.Field.value in
    kept_wide value c.args.q c.as_slice.result.now c.as_slice-in-Gens.result.now (ap (numbers value) c.as_slice-in-Gens.ensures.items ∙ c.in_ok-kept-in-Gens.ensures)
    (subst (λ vs. AreWide c.args.q (numbers value vs)) (sym c.as_slice.ensures.items)
    (elim c.in-Gens.is [ inl e ↦ gens_wide value c.args.q c.args.cone.now _ e c.requires | inr e ↦ dual_wide value c.args.q c.args.cone.now _ e c.requires ]))
