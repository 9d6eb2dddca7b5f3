use Rattle.std.proofs.Common.{rules, ◌≤◌, ℕ, List, All, length, subst, sym}
use Rattle.lp_form.specs.declared.shown.Cut.{Cut}
use Rattle.lower_image.specs.Facets.{AreFacetCuts}
use Rattle.benson_dual.specs.Order.{IsOrder}
use Rattle.benson_dual.proofs.engine.image_log_by.Goals as goal

pub in_first_order-requires : goal.in_first_order-requires
in_first_order-requires g c κs within =
    let value = g.F.Field.value in
    let cuts = c.as_slice-cuts.result.now in
    let list = c.as_slice-2.ensures.value in (
      search rules,
      (
        c.requires.1.0,
        (
          subst (λ (l : List (Cut _)). AreFacetCuts value g.task l) (sym c.as_slice-cuts.ensures.value) c.requires.1.1,
          (
            subst (λ (n : ℕ). 1 ≤ n) (sym c.as_slice-2.ensures.len) c.in_ok-orders.ensures.some,
            subst (λ (l : List (List ℕ)). All (IsOrder (length cuts)) l) (sym list)
                (subst (λ (n : ℕ). All (IsOrder n) c.in_ok-orders.orders.items) c.in_ok-count.ensures c.in_ok-orders.ensures.each),
          ),
        ),
      ),
    )
