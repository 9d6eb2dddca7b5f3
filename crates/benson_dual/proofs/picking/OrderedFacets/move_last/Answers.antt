use Rattle.std.proofs.Common.{◌≡◌, ◌++◌, ◌∷◌, []}
use Rattle.lp_form.specs.declared.shown.Cut.{Cut as CutOf}
use Rattle.overflows.proofs.Sparse.{on_ok}
use Rattle.benson_dual.proofs.picking.OrderedFacets.move_last.Goals as goal

pub returns : goal.returns
returns g c =
    let old = c.args.self.now in
    let last = c.in-Some.last in
    on_ok c.push_last.result (c.push_last.new.list.items ≡ old.others.items ++ last ∷ [])
    ((x : CutOf g.row.F.Denot) × (old.first.items ≡ c.pop.new.self.items ++ x ∷ []) × (c.push_last.new.list.items ≡ old.others.items ++ x ∷ []))
    (λ e. (last, c.in-Some.ensures.items, e)) c.push_last.ensures
