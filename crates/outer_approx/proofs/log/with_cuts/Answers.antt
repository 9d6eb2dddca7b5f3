use Rattle.std.proofs.Common.{◌+◌, rules, [], ◌∷◌, ◌++◌, sym, ap, ◌∙◌, subst, take}
use Rattle.std.proofs.lemmas.List.{take_more}
use Rattle.lp_form.specs.declared.shown.Cut.{Cut}
use Rattle.outer_approx.specs.Cuts.{IsCutFor}
use Rattle.outer_approx.proofs.Pushed.{filled_more, opened_open, opened_unreached}
use Rattle.outer_approx.proofs.log.with_cuts.Goals as goal

pub loop-cut-init : goal.loop-cut-init
loop-cut-init g c =
    let task = g.task in
    let h = c.requires.1.0 in
    let trail = c.in_ok-trail.trail in
    record {
      begun = opened_open task c.args.opening h.0 h.1 h.2 h.3 h.4 trail c.in_ok-trail.ensures.entries (c.in_ok-trail.ensures.written task.c task.weights h.0 h.1 h.2);
      unreached = λ k. opened_unreached trail c.args.opening task.c task.weights h.0 h.1 c.in_ok-trail.ensures.entries h.2 k;
    }

pub push_cut-requires : goal.push_cut-requires
push_cut-requires g c κs within = (
  search rules,
  (
    c.loop-cut.invariant.begun.open_trail,
    subst (λ (x : Cut g.row.F.Denot). IsCutFor g.F.Field.value g.task x) (sym c.cut-item.is)
        (c.requires.1.1 c.loop-cut.cut-index c.cut-item.result c.loop-cut-test.true),
  ),
)

pub loop-cut-preserved : goal.loop-cut-preserved
loop-cut-preserved g c =
    let cuts = c.args.cuts.now in
    let i = c.loop-cut.cut-index in
    filled_more g.F.Field.value g.task (take i cuts) (take (i + 1) cuts) c.cut-item.result c.loop-cut.trail c.push_cut.new.trail
    (take_more cuts i c.cut-item.result c.loop-cut-test.true ∙ ap (λ x. take i cuts ++ x ∷ []) (sym c.cut-item.is))
    c.loop-cut.invariant c.in_ok-push_cut.ensures.trail c.in_ok-push_cut.ensures.more
