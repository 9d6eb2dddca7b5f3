use Rattle.std.proofs.Common.{ℕ, ◌≤◌, sym, subst}
use Rattle.std.proofs.lemmas.List.Sorted.{length_permutation}
use Rattle.rep_convert.specs.Order.{IsOrder}
use Rattle.rep_convert.proofs.Ordered.{order_permuted}
use Rattle.rep_convert.proofs.order.order_of.Goals as goal

pub from_vec-requires : goal.from_vec-requires
from_vec-requires c =
    subst (λ (n : ℕ). n ≤ 4294967294) (sym (length_permutation c.into_vec-order.result.items c.sort_rows.new.order.items c.in_ok-sort_rows.ensures))
    c.into_vec-order.ensures.bound

pub returns : goal.returns
returns c =
    let is = IsOrder c.args.count c.args.used.now in
    subst is (sym c.from_vec.ensures)
    (order_permuted c.args.count c.args.used.now c.into_vec-order.result.items c.sort_rows.new.order.items c.in_ok-sort_rows.ensures
    (subst is (sym c.into_vec-order.ensures.items) c.in_ok-order.ensures))
