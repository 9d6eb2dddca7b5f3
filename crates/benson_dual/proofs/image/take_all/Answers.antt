use Rattle.std.proofs.Common.{◌≡◌, ◌+◌, List, [], ◌∷◌, ◌++◌, map, take, refl, sym, ap, ◌∙◌, subst, append_assoc, append-nil, rules}
use Rattle.std.proofs.lemmas.List.{map-append, take_more}
use Rattle.lineality.specs.Without.{marks}
use Rattle.lp_form.specs.declared.shown.Cut.{Cut}
use Rattle.outer_approx.specs.Cuts.{IsCutFor, said_by}
use Rattle.outer_approx.specs.Standing.{cuts_of}
use Rattle.benson_dual.proofs.image.take_all.Goals as goal

one_more : {X : Type 0} (start seen more : List X) (e : X) (old new : List X) → old ≡ start ++ seen → new ≡ old ++ e ∷ [] → more ≡ seen ++ e ∷ [] → new ≡ start ++ more
one_more start seen more e old new so_far grown longer =
    grown ∙ ap (λ es. es ++ e ∷ []) so_far ∙ append_assoc start seen (e ∷ []) ∙ ap (λ es. start ++ es) (sym longer)

pub loop-cut-init : goal.loop-cut-init
loop-cut-init g c = record {
  outer = c.requires.1.0;
  said = sym (append-nil (cuts_of g.task c.args.trail.now));
  lines_stay = refl;
  preimages_stay = λ k. refl;
}

pub take-requires : goal.take-requires
take-requires g c κs within =
    let value = g.F.Field.value in (
      search rules,
      (
        c.loop-cut.invariant.outer,
        (
          c.requires.1.1.0 ∙ ap (marks g.task.file.objs) (sym c.loop-cut.invariant.lines_stay),
          subst (λ (x : Cut g.row.F.Denot). IsCutFor value g.task x) (sym c.cut-item.is)
              (c.requires.1.1.1 c.loop-cut.cut-index c.cut-item.result c.loop-cut-test.true),
        ),
      ),
    )

pub loop-cut-preserved : goal.loop-cut-preserved
loop-cut-preserved g c =
    let value = g.F.Field.value in
    let cuts = c.args.cuts.now in
    let i = c.loop-cut.cut-index in
    let cut = c.cut-item.result in
    let longer : map (said_by value) (take (i + 1) cuts) ≡ map (said_by value) (take i cuts) ++ said_by value cut ∷ [] =
    ap (map (said_by value)) (take_more cuts i cut c.loop-cut-test.true ∙ ap (λ (x : Cut g.row.F.Denot). take i cuts ++ x ∷ []) (sym c.cut-item.is))
    ∙ map-append (said_by value) (take i cuts) (cut ∷ []) in
    record {
      outer = c.in_ok-take.ensures.ok;
      said = one_more (cuts_of g.task c.args.trail.now) (map (said_by value) (take i cuts)) (map (said_by value) (take (i + 1) cuts)) (said_by value cut)
          (cuts_of g.task c.loop-cut.trail) (cuts_of g.task c.take.new.trail) c.loop-cut.invariant.said c.in_ok-take.ensures.cuts longer;
      lines_stay = c.in_ok-take.ensures.lines ∙ c.loop-cut.invariant.lines_stay;
      preimages_stay = λ k. c.in_ok-take.ensures.preimages k ∙ c.loop-cut.invariant.preimages_stay k;
    }
