use Rattle.std.proofs.Common.{rules, ◌≡◌, ◌∙◌, List, map, refl, subst, sym, ap}
use Rattle.std.specs.Prelude.{IfErr}
use Rattle.lineality.specs.Without.{marks}
use Rattle.overflows.specs.Licence.{Licensed}
use Rattle.lower_image.proofs.Directions.{ok_both}
use Rattle.lp_form.proofs.Figures.{objective_number}
use Rattle.outer_approx.specs.Lines.{told_by}
use Rattle.outer_approx.specs.Standing.{IsEnded, IsOpening}
use Rattle.outer_approx.specs.Task.{IsFitting}
use Rattle.overflows.specs.Faults.{OnLicence}
use Rattle.recession.specs.Asking.{IsProper}
use Rattle.recession.specs.First.{AreFirstCuts}
use Rattle.recession.proofs.Grown.{proper_of}
use Rattle.benson_dual.specs.Images.{AreAllInUse}
use Rattle.benson_dual.specs.Logs.{task_with}
use Rattle.benson_dual.proofs.AllInUse.{named_log}
use Rattle.benson_dual.proofs.Images.{fitting, opens, read_as}
use Rattle.benson_dual.proofs.engine.facet_log.Goals as goal

pub image_log-requires : goal.image_log-requires
image_log-requires g c κs within =
    let value = g.F.Field.value in
    let holds = g.F.Field.holds in
    let d = c.args.duality.now in
    let h = c.requires.1.1.0 in
    let task = task_with value g.file d in
    let cuts = c.requires.1.1.1.0 in
    let first = c.requires.1.1.1.1 in
    let x = c.args.x.now in
    let ls = c.args.lines.now in
    let same = read_as value holds g.file d h c.as_slice.result.now c.as_slice-2.result.now c.as_slice.ensures.items c.as_slice-2.ensures.items in
    let q : c.len.result ≡ g.file.objs = c.len.ensures.value ∙ objective_number value g.file c.args.form.now c.requires.1.0 in (
      search rules,
      (
        record {
          known = record {
            stands = c.requires.1.0;
            c_is = refl;
            weights_is = refl;
            fitting = subst (IsFitting holds) (sym same) (fitting value holds g.file d h);
            proper = subst IsProper (sym same) (proper_of value task cuts (map value x) first.each first.some first.choice.feasible);
          };
          opens = subst (λ t. IsOpening t d.entry) (sym same) (opens value holds g.file d h);
          cuts = cuts;
          first = subst (λ t. AreFirstCuts value t x ls cuts) (sym same) first;
          places_are = c.in_ok-places.ensures ∙ ap (λ n. marks n (map (told_by value) ls)) q;
        },
        h.sound.pointed,
      ),
    )

pub returns-clause-ok : goal.returns-clause-ok
returns-clause-ok g c =
    let value = g.F.Field.value in
    let holds = g.F.Field.holds in
    let d = c.args.duality.now in
    let h = c.requires.1.1.0 in
    let same = read_as value holds g.file d h c.as_slice.result.now c.as_slice-2.result.now c.as_slice.ensures.items c.as_slice-2.ensures.items in
    ok_both c.image_log.result c.image_log.ensures.ok c.image_log.ensures.facets
    (λ log e all. named_log holds (task_with value g.file d) (fitting value holds g.file d h) log (subst (λ t. IsEnded t log) same e)
    (subst (λ t. AreAllInUse t log) same all))

pub returns-clause-left : goal.returns-clause-left
returns-clause-left g c =
    let value = g.F.Field.value in
    subst (λ (c' : List _). IfErr c.image_log.result (λ fault. OnLicence fault (Licensed g.F.Field.holds g.file (map value c')))) c.as_slice.ensures.items
    c.image_log.ensures.left
