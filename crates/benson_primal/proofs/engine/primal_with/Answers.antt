use Rattle.std.proofs.Common.{rules, sym, subst}
use Rattle.std.specs.Prelude.{IfOk}
use Rattle.outer_approx.specs.Standing.{IsEnded}
use Rattle.recession.specs.First.{AreFirstCuts, IsFirst}
use Rattle.recession.specs.Logs.{IsOwnLog}
use Rattle.recession.proofs.OwnLogs.{base, fits, fitting, handed, known, opens, own_log, own_ok, task, task_is}
use Rattle.benson_primal.proofs.engine.primal_with.Goals as goal

pub returns-in-Infeasible-clause-ok : goal.returns-in-Infeasible-clause-ok
returns-in-Infeasible-clause-ok g c =
    let value = g.F.Field.value in
    let holds = g.F.Field.holds in
    let d = c.args.duality in
    let h = c.requires.1.1 in
    let cs = c.as_slice-c.result.now in
    let ws = c.as_slice-weights.result.now in
    let t = task value holds g.file d h cs ws c.as_slice-c.ensures.items c.as_slice-weights.ensures.items in
    let log = c.in_ok-contradiction_log-in-Infeasible.field-0 in
    handed value holds g.file d h cs ws c.as_slice-c.ensures.items c.as_slice-weights.ensures.items (λ c' weights'. IsOwnLog holds g.file c' weights' log)
    (own_log holds t (fitting value holds g.file d h cs ws c.as_slice-c.ensures.items c.as_slice-weights.ensures.items) log
    (c.in_ok-contradiction_log-in-Infeasible.ensures.ended t.c t.weights))

pub returns-in-Whole-clause-ok : goal.returns-in-Whole-clause-ok
returns-in-Whole-clause-ok g c =
    let value = g.F.Field.value in
    let holds = g.F.Field.holds in
    let d = c.args.duality in
    let h = c.requires.1.1 in
    let cs = c.as_slice-c.result.now in
    let ws = c.as_slice-weights.result.now in
    let log = c.in_ok-everything_log-in-Whole.field-0 in
    handed value holds g.file d h cs ws c.as_slice-c.ensures.items c.as_slice-weights.ensures.items (λ c' weights'. IsOwnLog holds g.file c' weights' log)
    (own_log holds (task value holds g.file d h cs ws c.as_slice-c.ensures.items c.as_slice-weights.ensures.items)
    (fitting value holds g.file d h cs ws c.as_slice-c.ensures.items c.as_slice-weights.ensures.items) log
    (subst (λ t. IsEnded t log) (task_is value holds g.file d h cs ws c.as_slice-c.ensures.items c.as_slice-weights.ensures.items)
    c.in_ok-everything_log-in-Whole.ensures.ended))

pub log_of_image-requires : goal.log_of_image-requires
log_of_image-requires g c κs within =
    let value = g.F.Field.value in
    let holds = g.F.Field.holds in
    let d = c.args.duality in
    let h = c.requires.1.1 in
    let cs = c.as_slice-c.result.now in
    let ws = c.as_slice-weights.result.now in
    let ls = c.as_slice-lines.result.now in
    let cuts = c.as_slice-cuts.result.now in
    let t = task value holds g.file d h cs ws c.as_slice-c.ensures.items c.as_slice-weights.ensures.items in
    let first : AreFirstCuts value t c.in-Cuts.x ls cuts =
    subst (λ l. AreFirstCuts value t c.in-Cuts.x l cuts) (sym c.as_slice-lines.ensures.items)
    (subst (λ l. AreFirstCuts value t c.in-Cuts.x c.in-Cuts.lines l) (sym c.as_slice-cuts.ensures.items)
    (subst (λ f. IsFirst value t f) c.in-Cuts.is c.in_ok-u.ensures.ok)) in (
      search rules,
      (
        known value holds g.file d h cs ws c.as_slice-c.ensures.items c.as_slice-weights.ensures.items c.args.form.now c.requires.1.0 c.in-Cuts.x ls cuts first,
        (
          (
            h.picks,
            h.inverse,
            opens value holds g.file d h cs ws c.as_slice-c.ensures.items c.as_slice-weights.ensures.items,
            fits value holds g.file d h cs ws c.as_slice-c.ensures.items c.as_slice-weights.ensures.items,
            base value holds g.file d h cs ws c.as_slice-c.ensures.items c.as_slice-weights.ensures.items,
          ),
          first,
        ),
      ),
    )

pub returns-clause-ok : goal.returns-clause-ok
returns-clause-ok g c =
    let value = g.F.Field.value in
    let holds = g.F.Field.holds in
    let d = c.args.duality in
    let h = c.requires.1.1 in
    let cs = c.as_slice-c.result.now in
    let ws = c.as_slice-weights.result.now in
    handed value holds g.file d h cs ws c.as_slice-c.ensures.items c.as_slice-weights.ensures.items
    (λ c' weights'. IfOk c.log_of_image.result (IsOwnLog holds g.file c' weights'))
    (own_ok holds (task value holds g.file d h cs ws c.as_slice-c.ensures.items c.as_slice-weights.ensures.items)
    (fitting value holds g.file d h cs ws c.as_slice-c.ensures.items c.as_slice-weights.ensures.items) c.log_of_image.result c.log_of_image.ensures.ok)
