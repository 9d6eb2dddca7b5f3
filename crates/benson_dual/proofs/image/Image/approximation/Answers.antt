use Rattle.std.proofs.Common.{rules, ◌∙◌, ap, sym, subst}
use Rattle.polyhedra.proofs.Lists.{all_back}
use Rattle.lineality.specs.Without.{marks}
use Rattle.overflows.specs.Faults.{OnLicence}
use Rattle.lower_image.specs.Lower.{AreAllFacets}
use Rattle.outer_approx.specs.Cuts.{IsCutFor}
use Rattle.outer_approx.specs.Standing.{IsOpening, IsOpenTrail}
use Rattle.outer_approx.specs.Task.{setting}
use Rattle.outer_approx.proofs.Outer.{on_any}
use Rattle.recession.proofs.OwnLogs.{carried, licensed}
use Rattle.benson_dual.proofs.image.Image.approximation.Goals as goal

pub open_trail-requires : goal.open_trail-requires
open_trail-requires g c κs within =
    let h = c.requires.1.0 in
    let first = c.requires.1.1.0 in (
      search rules,
      (
        subst (IsOpening g.task) (sym c.in_ok-opening.ensures) h.opens,
        (first.each, (first.choice, first.shown)),
      ),
    )

pub bring-requires : goal.bring-requires
bring-requires g c κs within =
    let value = g.F.Field.value in (
      search rules,
      (
        c.requires.1.0,
        (
          c.requires.1.1.0,
          (all_back (IsCutFor value g.task) c.args.first.now c.args.others.now c.requires.1.1.1.each, c.in_ok-trail.ensures.begun),
        ),
      ),
    )

pub returns-in-Ok-clause-ok : goal.returns-in-Ok-clause-ok
returns-in-Ok-clause-ok g c = record {
  outer = c.in-Ok.ensures.ok;
  facets = subst (AreAllFacets g.task.file g.task.c) (sym c.in-Ok.ensures.cuts) c.requires.1.1.1.all;
  places_are = c.requires.1.0.places_are ∙ ap (marks g.task.file.objs) (sym (c.in-Ok.ensures.lines ∙ c.in_ok-trail.ensures.begun.lines_are));
}

pub returns-in-Ok-clause-unreached : goal.returns-in-Ok-clause-unreached
returns-in-Ok-clause-unreached g c = λ k. c.in-Ok.ensures.preimages k ∙ c.in_ok-trail.ensures.unreached k

pub returns-in-Err-clause-left : goal.returns-in-Err-clause-left
returns-in-Err-clause-left g c =
    let holds = g.F.Field.holds in
    let trail = c.bring.new.trail in
    licensed holds g.task c.requires.1.0.known.fitting trail c.with_trail.result
    (subst (λ f. OnLicence f (λ licence. IsOpenTrail g.task trail)) (sym c.with_trail.ensures.told)
    (carried (IsOpenTrail g.task trail) c.in-Err.fault trail (on_any (IsOpenTrail g.task trail) c.in-Err.fault c.in-Err.ensures.trail)))
    (c.with_trail.ensures.licensed holds (setting g.task trail) c.in-Err.ensures.left)
