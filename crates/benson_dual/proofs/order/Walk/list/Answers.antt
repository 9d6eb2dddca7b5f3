use Rattle.std.proofs.Common.{◌≡◌, Bool, List, ℕ, sym, subst, arith, get_or, slice_set, true, false}
use Rattle.benson_dual.specs.Order.{AreListed}
use Rattle.benson_dual.proofs.Listed.{listed_more}
use Rattle.benson_dual.proofs.order.Walk.list.Goals as goal

pub returns : goal.returns
returns c = λ count h.
    let marks = c.args.self.now.listed.items in
    let k = c.args.facet in
    let other : get_or marks k false ≡ false = sym (subst (λ (x : Bool). x ≡ get_or marks k x) c.if-index.false c.index.ensures) in
    subst (λ (order : List ℕ). AreListed count (slice_set marks k true) order) (sym c.in_ok-push.ensures.ok)
    (listed_more count marks c.args.self.now.order k h (omega (arith, c.if-place-len.false, c.len.ensures)) other)
