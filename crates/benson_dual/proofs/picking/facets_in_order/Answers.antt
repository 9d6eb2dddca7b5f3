use Rattle.std.proofs.Common.{◌≡◌, ◌-◌, ◌++◌, ◌∷◌, [], List, ℕ, length, take, sym, ap, ◌∙◌, subst, arith, slice_index_or}
use Rattle.std.proofs.lemmas.List.{take_all, take_more}
use Rattle.lp_form.specs.declared.shown.Cut.{Cut as CutOf}
use Rattle.outer_approx.specs.Cuts.{IsCutFor}
use Rattle.benson_dual.specs.Picking.{ArePicked}
use Rattle.benson_dual.proofs.AllPicked.{ArePickedAt, at_more, facets_at_end, first_at_end, first_each}
use Rattle.benson_dual.proofs.Permuted.{order_below}
use Rattle.benson_dual.proofs.picking.facets_in_order.Goals as goal

pub bounds-cuts-place : goal.bounds-cuts-place
bounds-cuts-place g c = order_below (length c.args.cuts.now) c.args.order.now c.requires.1.1.1.1 c.loop-place.place-index 0 c.loop-place-test.true

pub offset_bounds-cuts-place : goal.offset_bounds-cuts-place
offset_bounds-cuts-place g c =
    let low = order_below (length c.args.cuts.now) c.args.order.now c.requires.1.1.1.1 c.loop-place.place-index 0 c.loop-place-test.true in
    omega (arith, low)

pub take-requires : goal.take-requires
take-requires g c κs within =
    let value = g.F.Field.value in
    let cuts = c.args.cuts.now in
    let order = c.args.order.now in
    let i = c.loop-place.place-index in
    let k = slice_index_or order i 0 in
    let low = order_below (length cuts) order c.requires.1.1.1.1 i 0 c.loop-place-test.true in (
      within,
      (
        c.requires.1.0,
        (
          c.requires.1.1.0,
          (
            first_each value g.task c.saturating_sub-most.result cuts (take i order) c.loop-place.facets.first.items c.loop-place.facets.others.items
                c.loop-place.invariant,
            subst (IsCutFor value g.task) (sym (c.in_ok-cut.ensures ∙ c.index-cuts-place.is)) (c.requires.1.1.1.0.each k c.index-cuts-place.result low),
          ),
        ),
      ),
    )

pub loop-place-preserved : goal.loop-place-preserved
loop-place-preserved g c =
    let value = g.F.Field.value in
    let most = c.saturating_sub-most.result in
    let cuts = c.args.cuts.now in
    let order = c.args.order.now in
    let i = c.loop-place.place-index in
    let k : ℕ = slice_index_or order i 0 in
    let low = order_below (length cuts) order c.requires.1.1.1.1 i 0 c.loop-place-test.true in
    let cut = c.in_ok-cut.cut in
    let first = c.take.new.self.first.items in
    let others = c.take.new.self.others.items in
    let before = c.loop-place.invariant in
    let same : slice_index_or cuts k cut ≡ cut =
    subst (λ (x : CutOf g.row.F.Denot). slice_index_or cuts k x ≡ x) (sym c.in_ok-cut.ensures) (sym c.index-cuts-place.is) in
    let one : IsCutFor value g.task cut =
    subst (IsCutFor value g.task) (sym (c.in_ok-cut.ensures ∙ c.index-cuts-place.is)) (c.requires.1.1.1.0.each k c.index-cuts-place.result low) in
    let more : ArePicked value g.task.file.objs most (before.seen ++ cut ∷ []) first others =
    subst (λ (n : ℕ). ArePicked value n most (before.seen ++ cut ∷ []) first others) c.requires.1.0
    (c.in_ok-take.ensures.ok before.seen
    (subst (λ (n : ℕ). ArePicked value n most before.seen c.loop-place.facets.first.items c.loop-place.facets.others.items) (sym c.requires.1.0) before.picked)) in
    subst (λ (places : List ℕ). ArePickedAt value g.task most cuts places first others) (sym (take_more order i 0 c.loop-place-test.true))
    (at_more value g.task most cuts (take i order) c.loop-place.facets.first.items c.loop-place.facets.others.items first others k cut before low same one more)

pub returns-clause-facets : goal.returns-clause-facets
returns-clause-facets g c =
    let value = g.F.Field.value in
    let most = c.saturating_sub-most.result in
    let cuts = c.args.cuts.now in
    let first = c.loop-place.facets.first.items in
    let others = c.loop-place.facets.others.items in
    facets_at_end value g.task most cuts c.args.order.now first others c.requires.1.1.1.1 c.requires.1.1.1.0
    (subst (λ (places : List ℕ). ArePickedAt value g.task most cuts places first others)
    (take_all c.loop-place.place-index c.args.order.now c.loop-place-test.false) c.loop-place.invariant)

pub returns-clause-first : goal.returns-clause-first
returns-clause-first g c = λ x found f.
    let value = g.F.Field.value in
    let most = c.saturating_sub-most.result in
    let cuts = c.args.cuts.now in
    let first = c.loop-place.facets.first.items in
    let others = c.loop-place.facets.others.items in
    first_at_end value g.task most cuts c.args.order.now first others c.requires.1.1.1.1 c.requires.1.1.1.0
    (subst (λ (places : List ℕ). ArePickedAt value g.task most cuts places first others)
    (take_all c.loop-place.place-index c.args.order.now c.loop-place-test.false) c.loop-place.invariant)
    x c.args.lines.now found (c.saturating_sub-most.ensures ∙ ap (λ n. n - length c.args.lines.now) c.requires.1.0) f
