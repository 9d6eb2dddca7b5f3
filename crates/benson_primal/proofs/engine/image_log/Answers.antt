use Rattle.std.proofs.Common.{rules, ◌≡◌, ◌≤◌, ◌∙◌, List, ap, length, map, arith, sym, subst}
use Rattle.std.proofs.lemmas.List.{length-map}
use Rattle.exact_field.specs.Rational.{ℚ}
use Rattle.lineality.specs.Without.{marks, open_count, without}
use Rattle.lineality.proofs.Marks.{length-marks}
use Rattle.polyhedra.specs.Cone.{HasFullRank}
use Rattle.log_rules.specs.Live.{lines}
use Rattle.lp_form.proofs.Figures.{objective_number}
use Rattle.overflows.specs.Faults.{OnLicence}
use Rattle.outer_approx.specs.Cuts.{said_by}
use Rattle.outer_approx.specs.Lines.{told_by}
use Rattle.outer_approx.specs.Standing.{IsBegun, IsOpenTrail}
use Rattle.outer_approx.specs.Task.{setting}
use Rattle.recession.specs.Further.{normals_of}
use Rattle.recession.proofs.OwnLogs.{carried, licensed}
use Rattle.benson_primal.proofs.Marked.{no_marks}
use Rattle.benson_primal.proofs.Searched.{on_any, places_stay}
use Rattle.benson_primal.proofs.engine.image_log.Goals as goal

pub start_outer-requires : goal.start_outer-requires
start_outer-requires g c κs within =
    let value = g.F.Field.value in
    let first = c.requires.1.1.1.0 in
    let cuts = c.args.cuts.now in
    let ls = c.args.lines.now in
    let told = map (told_by value) ls in
    let trail = c.in_ok-trail.trail in
    let begun = c.in_ok-trail.ensures.begun in
    let same : lines trail ≡ told = begun.lines_are in
    let q : c.len.result ≡ g.task.file.objs = c.len.ensures.value ∙ objective_number value g.task.file c.args.form.now c.requires.1.0.stands in
    let most : g.task.file.objs ≤ 100000 = g.task.file.objs_bounded in
    let bs = c.as_slice.result.now in
    let bs_are : bs ≡ marks g.task.file.objs told = c.as_slice.ensures.items ∙ c.in_ok-places.ensures ∙ ap (λ n. marks n told) q in
    let long = ap length bs_are ∙ length-marks g.task.file.objs told in
    let many = ap length same ∙ length-map ls (told_by value) in (
      search rules,
      (
        omega (arith, long, most),
        (
          subst (λ (l : List (List ℚ)). IsBegun g.task l (map (said_by value) cuts) trail) (sym same) begun,
          (
            bs_are ∙ ap (λ (l : List (List ℚ)). marks g.task.file.objs l) (sym same),
            (
              first.some,
              (
                omega (arith, first.many, many),
                (
                  λ i d l. (first.each i d l).wide,
                  subst (λ b. HasFullRank (open_count b) (map (without b) (normals_of value cuts))) (sym bs_are) first.rank,
                ),
              ),
            ),
          ),
        ),
      ),
    )

pub take_known-requires : goal.take_known-requires
take_known-requires g c κs within =
    let value = g.F.Field.value in
    let told = map (told_by value) c.args.lines.now in
    let q : c.len.result ≡ g.task.file.objs = c.len.ensures.value ∙ objective_number value g.task.file c.args.form.now c.requires.1.0.stands in
    let here = c.in_ok-places.ensures ∙ ap (λ n. marks n told) q ∙ ap (λ (l : List (List ℚ)). marks g.task.file.objs l) (sym c.in_ok-trail.ensures.begun.lines_are) in (
      search rules,
      (
        record {
          known = c.requires.1.0;
          outer = c.in-Ok.ensures.ok;
          places_are = here ∙ sym (places_stay g.task c.in_ok-trail.trail c.start_outer.new.trail c.in-Ok.ensures.lines);
          marks = no_marks c.start_outer.new.trail c.in_ok-reached-in-Ok.reached c.in_ok-reached-in-Ok.ensures
              (λ i. c.in-Ok.ensures.preimages i ∙ c.in_ok-trail.ensures.unreached i);
        },
        c.requires.1.1.1.1,
      ),
    )

pub returns-in-Err-clause-left : goal.returns-in-Err-clause-left
returns-in-Err-clause-left g c =
    let holds = g.F.Field.holds in
    let trail = c.start_outer.new.trail in
    licensed holds g.task c.requires.1.0.fitting trail c.with_trail.result
    (subst (λ f. OnLicence f (λ licence. IsOpenTrail g.task trail)) (sym c.with_trail.ensures.told)
    (carried (IsOpenTrail g.task trail) c.in-Err.fault trail (on_any (IsOpenTrail g.task trail) c.in-Err.fault c.in-Err.ensures.trail)))
    (c.with_trail.ensures.licensed holds (setting g.task trail) c.in-Err.ensures.left)
