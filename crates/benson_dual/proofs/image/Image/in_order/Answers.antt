use Rattle.std.proofs.Common.{rules, ◌++◌, List, arith, ap₂, subst, sym}
use Rattle.lp_form.specs.declared.shown.Cut.{Cut}
use Rattle.lower_image.specs.Facets.{AreFacetCuts}
use Rattle.recession.specs.First.{AreFirstCuts}
use Rattle.benson_dual.proofs.Images.{c_long}
use Rattle.benson_dual.proofs.image.Image.in_order.Goals as goal

pub overflow_cast-q : goal.overflow_cast-q
overflow_cast-q g c =
    let q = c_long g.F.Field.value g.F.Field.holds g.task c.args.self.now c.requires.1.0 in
    let most = g.task.file.objs_bounded in
    omega (arith, q, most)

pub facets_in_order-requires : goal.facets_in_order-requires
facets_in_order-requires g c κs within =
    let h = c.requires.1.0 in (
      search rules,
      (c_long g.F.Field.value g.F.Field.holds g.task c.args.self.now h, (h.known.fitting, (c.requires.1.1.0, c.requires.1.1.1))),
    )

pub approximation-requires : goal.approximation-requires
approximation-requires g c κs within =
    let value = g.F.Field.value in
    let h = c.requires.1.0 in
    let image = c.args.self.now in
    let first = c.as_slice.ensures.value in
    let others = c.as_slice-2.ensures.value in (
      search rules,
      (
        h,
        (
          subst (λ (cuts : List (Cut _)). AreFirstCuts value g.task image.x.now image.lines.now cuts) (sym first)
              (c.in_ok-facets.ensures.first image.x.now h.cuts h.first),
          subst (λ (cuts : List (Cut _)). AreFacetCuts value g.task cuts) (ap₂ (λ (a b : List (Cut _)). a ++ b) (sym first) (sym others)) c.in_ok-facets.ensures.facets,
        ),
      ),
    )
