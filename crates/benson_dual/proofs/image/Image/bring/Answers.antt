use Rattle.std.proofs.Common.{rules, ◌≡◌, ◌≤◌, ◌∙◌, ◌++◌, ap, length, map, arith, sym, subst}
use Rattle.std.proofs.lemmas.List.{length-map, map-append}
use Rattle.lineality.specs.Without.{marks, open_count, without}
use Rattle.lineality.proofs.Marks.{length-marks}
use Rattle.polyhedra.specs.Cone.{HasFullRank}
use Rattle.outer_approx.specs.Cuts.{said_by}
use Rattle.outer_approx.specs.Lines.{told_by}
use Rattle.outer_approx.specs.Standing.{IsBegun}
use Rattle.recession.specs.Further.{normals_of}
use Rattle.benson_dual.proofs.image.Image.bring.Goals as goal

pub start_outer-requires : goal.start_outer-requires
start_outer-requires g c κs within =
    let value = g.F.Field.value in
    let task = g.task in
    let h = c.requires.1.0 in
    let first = c.requires.1.1.0 in
    let begun = c.requires.1.1.1.1 in
    let cuts = c.args.first.now in
    let ls = c.args.self.now.lines.now in
    let told = map (told_by value) ls in
    let trail = c.args.trail.now in
    let most : task.file.objs ≤ 100000 = task.file.objs_bounded in
    let bs = c.as_slice-places.result.now in
    let bs_are : bs ≡ marks task.file.objs told = c.as_slice-places.ensures.items ∙ h.places_are in
    let long = ap length bs_are ∙ length-marks task.file.objs told in
    let many = ap length begun.lines_are ∙ length-map ls (told_by value) in (
      search rules,
      (
        omega (arith, long, most),
        (
          subst (λ l. IsBegun task l (map (said_by value) cuts) trail) (sym begun.lines_are) begun,
          (
            bs_are ∙ ap (marks task.file.objs) (sym begun.lines_are),
            (
              first.some,
              (
                omega (arith, first.many, many),
                (
                  λ i d l. (first.each i d l).wide,
                  subst (λ b. HasFullRank (open_count b) (map (without b) (normals_of value cuts))) (sym bs_are) first.rank,
                ),
              ),
            ),
          ),
        ),
      ),
    )

pub take_all-requires : goal.take_all-requires
take_all-requires g c κs within =
    let begun = c.requires.1.1.1.1 in (
      search rules,
      (
        c.in_ok-dd.ensures.ok,
        (
          c.as_slice-places.ensures.items ∙ c.requires.1.0.places_are ∙ ap (marks g.task.file.objs) (sym (c.in_ok-dd.ensures.lines ∙ begun.lines_are)),
          c.requires.1.1.1.0,
        ),
      ),
    )

pub returns-clause-cuts : goal.returns-clause-cuts
returns-clause-cuts g c =
    let value = g.F.Field.value in
    let first = c.args.first.now in
    let others = c.args.others.now in
    c.in_ok-take_all.ensures.cuts
    ∙ ap (λ es. es ++ map (said_by value) others) (c.in_ok-dd.ensures.cuts ∙ c.requires.1.1.1.1.cuts_are)
    ∙ sym (map-append (said_by value) first others)

pub returns-clause-preimages : goal.returns-clause-preimages
returns-clause-preimages g c = λ k. c.in_ok-take_all.ensures.preimages k ∙ c.in_ok-dd.ensures.preimages k
