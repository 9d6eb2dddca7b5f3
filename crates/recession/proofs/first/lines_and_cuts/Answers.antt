use Rattle.std.proofs.Common.{◌++◌, ◌∷◌, [], ◌≡◌, ◌+◌, ◌<◌, List, map, length, reverse, All, sym, ap, ◌∙◌, subst, arith}
use Rattle.std.proofs.lemmas.List.{length-reverse, reverse-append}
use Rattle.lin_rows.proofs.Errors.{err_holds}
use Rattle.overflows.specs.Licence.{Licensed}
use Rattle.lp_form.proofs.Figures.{objective_number}
use Rattle.lp_form.specs.declared.shown.Cut.{Cut}
use Rattle.outer_approx.specs.Cuts.{IsCutFor}
use Rattle.outer_approx.specs.declared.log.Line.{Line}
use Rattle.overflows.specs.Faults.{OnLicence}
use Rattle.recession.specs.First.{AreFirstCuts}
use Rattle.recession.specs.Further.{AreFound, normals_of}
use Rattle.recession.specs.declared.further.Next.TheVariants as next
use Rattle.recession.proofs.Asking_ends.{c_long}
use Rattle.recession.proofs.Grown.{AreGrown, grown_all, grown_cut, grown_first, grown_line, next_is, proper_of}
use Rattle.recession.proofs.first.lines_and_cuts.Goals as goal

pub loop-alloc-init : goal.loop-alloc-init
loop-alloc-init g c =
    let value = g.F.Field.value in
    subst (λ (ls : List (Line _)). AreGrown value g.task c.push.new.self (reverse ls)) (sym c.new-lines.ensures)
    (subst (λ (cs : List (Cut _)). AreGrown value g.task cs []) (sym (c.in_ok-push.ensures.ok ∙ ap (λ (cs : List (Cut _)). cs ++ c.args.first ∷ []) c.new-cuts.ensures))
    (grown_first value g.task c.args.first c.requires.1.1.1.1.1.1 (c_long g.F.Field.holds g.task c.requires.1.1.1.1.0)))

pub returns-in_err-next-clause-left : goal.returns-in_err-next-clause-left
returns-in_err-next-clause-left g c =
    let holds = g.F.Field.holds in
    err_holds c.from_residual-in_err-next.result c.in_err-next.field-0.0 (λ f. OnLicence f (Licensed holds g.task.file g.task.c))
    c.from_residual-in_err-next.ensures.1 c.in_err-next.ensures.left

pub loop-alloc-preserved-in-Continue-branch-3 : goal.loop-alloc-preserved-in-Continue-branch-3
loop-alloc-preserved-in-Continue-branch-3 g c =
    let value = g.F.Field.value in
    let cuts = c.loop-alloc.cuts in
    let lines = c.loop-alloc.lines in
    let more = next_is value g.task c.as_slice.result.now cuts c.as_slice-in-loop-alloc.result.now lines c.in_ok-next.next (next.Cut c.in-Cut.cut)
    c.as_slice.ensures.items c.as_slice-in-loop-alloc.ensures.items c.in-Cut.is c.in_ok-next.ensures.ok in
    let q_is = objective_number value g.task.file c.args.form.now c.requires.1.0 in
    let fewer : length cuts + length (reverse lines) < g.task.file.objs =
    omega (arith, c.loop-alloc-test.true, c.len.ensures.value, c.len-in-loop-alloc.ensures.value, c.len-in-loop-alloc-2.ensures.value, length-reverse lines, q_is) in
    subst (λ (cs : List (Cut _)). AreGrown value g.task cs (reverse lines)) (sym c.in_ok-push-in-Cut.ensures.ok)
    (grown_cut value g.task cuts (reverse lines) c.in-Cut.cut c.loop-alloc.invariant fewer more.0 more.1)

pub loop-alloc-preserved : goal.loop-alloc-preserved
loop-alloc-preserved g c =
    let value = g.F.Field.value in
    let cuts = c.loop-alloc.cuts in
    let lines = c.loop-alloc.lines in
    let line = c.in-Line.line in
    let more : AreFound value g.task (normals_of value cuts) (line ∷ reverse lines) =
    next_is value g.task c.as_slice.result.now cuts c.as_slice-in-loop-alloc.result.now lines c.in_ok-next.next (next.Line line)
    c.as_slice.ensures.items c.as_slice-in-loop-alloc.ensures.items c.in-Line.is c.in_ok-next.ensures.ok in
    let q_is = objective_number value g.task.file c.args.form.now c.requires.1.0 in
    let fewer : length cuts + length (reverse lines) < g.task.file.objs =
    omega (arith, c.loop-alloc-test.true, c.len.ensures.value, c.len-in-loop-alloc.ensures.value, c.len-in-loop-alloc-2.ensures.value, length-reverse lines, q_is) in
    let same : reverse c.push-in-Line.new.self ≡ line ∷ reverse lines = ap reverse c.in_ok-push-in-Line.ensures.ok ∙ reverse-append lines (line ∷ []) in
    subst (λ (ls : List (Line _)). AreGrown value g.task cuts ls) (sym same) (grown_line value g.task cuts (reverse lines) line c.loop-alloc.invariant fewer more)

pub next_of-requires : goal.next_of-requires
next_of-requires g c κs within =
    let value = g.F.Field.value in
    let cuts = c.loop-alloc.cuts in
    let lines = c.loop-alloc.lines in
    let cuts_seen = sym c.as_slice.ensures.items in
    let lines_seen = sym c.as_slice-in-loop-alloc.ensures.items in
    let grown = c.loop-alloc.invariant in
    let q_is = objective_number value g.task.file c.args.form.now c.requires.1.0 in
    let fewer : length cuts + length lines < g.task.file.objs =
    omega (arith, c.loop-alloc-test.true, c.len.ensures.value, c.len-in-loop-alloc.ensures.value, c.len-in-loop-alloc-2.ensures.value, q_is) in (
      within,
      (
        c.requires.1.0,
        (
          c.requires.1.1.0,
          (
            c.requires.1.1.1.0,
            (
              c.requires.1.1.1.1.0,
              (
                proper_of value g.task cuts (map value c.args.x) grown.each grown.some c.requires.1.1.1.1.1.0.feasible,
                (
                  subst (All (IsCutFor value g.task)) cuts_seen grown.each,
                  (
                    subst (λ (cs : List (Cut _)). AreFound value g.task (normals_of value cs) (reverse c.as_slice-in-loop-alloc.result.now)) cuts_seen
                        (subst (λ (ls : List (Line _)). AreFound value g.task (normals_of value cuts) (reverse ls)) lines_seen grown.found),
                    subst (λ (cs : List (Cut _)). length cs + length c.as_slice-in-loop-alloc.result.now < g.task.file.objs) cuts_seen
                        (subst (λ (ls : List (Line _)). length cuts + length ls < g.task.file.objs) lines_seen fewer),
                  ),
                ),
              ),
            ),
          ),
        ),
      ),
    )

pub returns-clause-ok : goal.returns-clause-ok
returns-clause-ok g c =
    let value = g.F.Field.value in
    let cuts = c.loop-alloc.cuts in
    let lines = c.loop-alloc.lines in
    let q_is = objective_number value g.task.file c.args.form.now c.requires.1.0 in
    subst (λ (ls : List (Line _)). AreFirstCuts value g.task c.args.x ls cuts) (sym c.reverse.ensures)
    (grown_all value g.task cuts (reverse lines) c.args.x c.loop-alloc.invariant
    (omega (arith, c.loop-alloc-test.false, c.len.ensures.value, c.len-in-loop-alloc.ensures.value, c.len-in-loop-alloc-2.ensures.value, length-reverse lines, q_is))
    c.requires.1.1.1.1.1.0)
