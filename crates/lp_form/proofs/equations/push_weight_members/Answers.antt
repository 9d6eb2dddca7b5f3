use Rattle.std.proofs.Common.{sym, subst}
use Rattle.polyhedra.specs.Vectors.{AreWide}
use Rattle.lin_rows.specs.Read.{numbers}
use Rattle.lp_form.proofs.Shaped.{dual_wide}
use Rattle.lp_form.proofs.equations.push_weight_members.Goals as goal

pub push_combination-requires : goal.push_combination-requires
push_combination-requires g c =
    let value = g.F.Field.value in
    subst (λ vs. AreWide c.args.q (numbers value vs)) (sym c.as_slice.ensures.items) (dual_wide value c.args.q c.args.cone.now _ c.in-Dual.is c.requires)
