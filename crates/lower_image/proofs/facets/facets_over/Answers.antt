use Rattle.std.proofs.Common.{[], rules, ◌≡◌, List, All, Contains, map, sym, subst}
use Rattle.lin_rows.proofs.Errors.{err_holds}
use Rattle.lp_form.specs.declared.shown.Cut.{Cut}
use Rattle.outer_approx.specs.Task.{setting}
use Rattle.overflows.specs.Faults.{Overflows}
use Rattle.overflows.specs.declared.fault.SolveFault.TheVariants.{NoMemory}
use Rattle.polyhedra.specs.LiveList.{numbers}
use Rattle.lower_image.specs.Facets.{AreFacetCuts}
use Rattle.lower_image.proofs.Certified.{facets_are}
use Rattle.lower_image.proofs.Searched.{certified_live, starts}
use Rattle.lower_image.proofs.facets.facets_over.Goals as goal

pub approximate-requires : goal.approximate-requires
approximate-requires g c κs within =
    let value = g.F.Field.value in
    let choice = c.requires.1.1.1.1.0 in (
      search rules,
      starts value g.F.Field.holds g.task _
          (record { stands = c.requires.1.0; c_is = c.requires.1.1.0; fitting = c.requires.1.1.1.0; feasible = (map value c.args.x.now, choice.feasible) })
          c.in_ok-dd.ensures.ok c.new-2.ensures c.new-3.ensures c.in_ok-marks.ensures,
    )

pub returns-in_err-approximate-clause-left : goal.returns-in_err-approximate-clause-left
returns-in_err-approximate-clause-left g c = λ trail.
    err_holds c.from_residual-in_err-approximate.result c.in_err-approximate.field-0.0
    (Overflows g.F.Field.holds (setting g.task trail) [])
    c.from_residual-in_err-approximate.ensures.1 (c.in_err-approximate.ensures.left trail)

pub returns-in_err-touching-clause-left : goal.returns-in_err-touching-clause-left
returns-in_err-touching-clause-left g c = λ trail.
    err_holds c.from_residual-in_err-touching.result NoMemory
    (Overflows g.F.Field.holds (setting g.task trail) [])
    c.from_residual-in_err-touching.ensures.1 tt

pub touching_facets-requires-clause-listed : goal.touching_facets-requires-clause-listed
touching_facets-requires-clause-listed g c =
    let s = c.approximate.new.self in
    subst (All (Contains (numbers s.dd.list.live))) (sym c.as_slice.ensures.items)
    (certified_live g.F.Field.value g.F.Field.holds g.task s c.in_ok-approximate.ensures.searching)

pub returns-clause-ok : goal.returns-clause-ok
returns-clause-ok g c =
    let value = g.F.Field.value in
    let s = c.approximate.new.self in
    let h = c.in_ok-approximate.ensures.searching in
    subst (λ (cuts : List (Cut _)). AreFacetCuts value g.task cuts) (sym c.into_cuts.ensures)
    (facets_are value g.F.Field.holds g.task h.known.fitting s.dd.rows s.dd.list s.certified s.cuts s.marks h.described.lower h.certified
    c.in_ok-approximate.ensures.certified)
