use Rattle.std.proofs.Common.{◌∙◌, sym, ap, subst, refl, arith, List, length}
use Rattle.std.specs.Prelude.{⊤}
use Rattle.exact_field.specs.Rational.{ℚ}
use Rattle.frac128.specs.Held.{is_held}
use Rattle.frac128.specs.Sparse.{IsSparse}
use Rattle.deriv_log.specs.declared.entry.Entry.TheVariants.{Whole, Line}
use Rattle.log_rules.specs.AnswerEvents.{whole_events, line_events}
use Rattle.log_rules.specs.Order as order
use Rattle.log_rules.specs.Runs.{Runs, steps}
use Rattle.log_rules.proofs.Entries.{order_of}
use Rattle.log_versions.specs.Plain.{plain}
use Rattle.cert_check.proofs.OneEntry.{sparse_at, took, took_as, kind_as}
use Rattle.cert_check.proofs.testing.take_direction.Goals as goal

pub check_whole-requires-clause-scale : goal.check_whole-requires-clause-scale
check_whole-requires-clause-scale c =
    let from = c.requires.may in
    let may = kind_as c.args.problem.now from.0 c.args.entry.now
    (Whole c.in-Whole.x c.in-Whole.ray c.in-Whole.m) c.args.known.now c.args.solving.now
    c.in-Whole.is from.1 in
    ap (λ v. length v) c.as_slice.ensures.items
    ∙ (may.knows.scale (order_of (plain from.0) order.whole may.stands.order).duality).wide

pub check_whole-requires-clause-multipliers : goal.check_whole-requires-clause-multipliers
check_whole-requires-clause-multipliers c =
    subst IsSparse (sym c.as_slice-in-Whole-3.ensures.items)
    (sparse_at c.args.entry.now (Whole c.in-Whole.x c.in-Whole.ray c.in-Whole.m) c.in-Whole.is
    c.requires.formed 2 (omega arith) c.in-Whole.m refl)

pub check_line-requires-clause-direction : goal.check_line-requires-clause-direction
check_line-requires-clause-direction c =
    subst IsSparse (sym c.as_slice-in-Line-4.ensures.items)
    (sparse_at c.args.entry.now
    (Line c.in-Line.d c.in-Line.x c.in-Line.ray c.in-Line.m c.in-Line.back c.in-Line.n) c.in-Line.is
    c.requires.formed 2 (omega arith) c.in-Line.ray refl)

pub check_line-requires-clause-multipliers : goal.check_line-requires-clause-multipliers
check_line-requires-clause-multipliers c =
    subst IsSparse (sym c.as_slice-in-Line-5.ensures.items)
    (sparse_at c.args.entry.now
    (Line c.in-Line.d c.in-Line.x c.in-Line.ray c.in-Line.m c.in-Line.back c.in-Line.n) c.in-Line.is
    c.requires.formed 3 (omega arith) c.in-Line.m refl)

pub check_line-requires-clause-back : goal.check_line-requires-clause-back
check_line-requires-clause-back c =
    subst IsSparse (sym c.as_slice-in-Line-6.ensures.items)
    (sparse_at c.args.entry.now
    (Line c.in-Line.d c.in-Line.x c.in-Line.ray c.in-Line.m c.in-Line.back c.in-Line.n) c.in-Line.is
    c.requires.formed 4 (omega arith) c.in-Line.back refl)

pub check_line-requires-clause-back_multipliers : goal.check_line-requires-clause-back_multipliers
check_line-requires-clause-back_multipliers c =
    subst IsSparse (sym c.as_slice-in-Line-7.ensures.items)
    (sparse_at c.args.entry.now
    (Line c.in-Line.d c.in-Line.x c.in-Line.ray c.in-Line.m c.in-Line.back c.in-Line.n) c.in-Line.is
    c.requires.formed 5 (omega arith) c.in-Line.n refl)

pub returns-in-Whole : goal.returns-in-Whole
returns-in-Whole c = λ before may.
    let file = c.args.problem.now in
    let e = Whole c.as_slice-in-Whole.result.now c.as_slice-in-Whole-2.result.now
    c.as_slice-in-Whole-3.result.now in
    let here = kind_as file before c.args.entry.now (Whole c.in-Whole.x c.in-Whole.ray c.in-Whole.m)
    c.args.known.now c.args.solving.now c.in-Whole.is may in
    let scale = (here.knows.scale
    (order_of (plain before) order.whole here.stands.order).duality).is in
    let ran = subst
    (λ (v : List ℚ). Runs is_held
    (whole_events file v c.as_slice-in-Whole.result.now c.as_slice-in-Whole-2.result.now
    c.as_slice-in-Whole-3.result.now) 0
    (steps (whole_events file v c.as_slice-in-Whole.result.now c.as_slice-in-Whole-2.result.now
    c.as_slice-in-Whole-3.result.now)) (λ _. ⊤) c.check_whole.result)
    (c.as_slice.ensures.items ∙ scale) c.check_whole.ensures in
    took_as file before e c.args.entry.now c.args.solving.now c.check_whole.result
    ((λ i. Whole (c.as_slice-in-Whole.ensures.items i) (c.as_slice-in-Whole-2.ensures.items i)
    (c.as_slice-in-Whole-3.ensures.items i)) ∙ sym c.in-Whole.is)
    (took file before e e c.args.solving.now c.check_whole.result refl (λ q st. refl) refl
    (λ k. refl) may.stands.solving ran)

pub returns-in-Line : goal.returns-in-Line
returns-in-Line c = λ before may.
    let file = c.args.problem.now in
    let e = Line c.as_slice-in-Line-2.result.now c.as_slice-in-Line-3.result.now
    c.as_slice-in-Line-4.result.now c.as_slice-in-Line-5.result.now c.as_slice-in-Line-6.result.now
    c.as_slice-in-Line-7.result.now in
    let ran = subst
    (λ (ls : List (List ℚ)). Runs is_held
    (line_events file ls c.as_slice-in-Line-2.result.now c.as_slice-in-Line-3.result.now
    c.as_slice-in-Line-4.result.now c.as_slice-in-Line-5.result.now c.as_slice-in-Line-6.result.now
    c.as_slice-in-Line-7.result.now) 0
    (steps (line_events file ls c.as_slice-in-Line-2.result.now c.as_slice-in-Line-3.result.now
    c.as_slice-in-Line-4.result.now c.as_slice-in-Line-5.result.now c.as_slice-in-Line-6.result.now
    c.as_slice-in-Line-7.result.now)) (λ _. ⊤) c.check_line.result)
    (c.as_slice-in-Line.ensures.items ∙ may.knows.lines) c.check_line.ensures in
    took_as file before e c.args.entry.now c.args.solving.now c.check_line.result
    ((λ i. Line (c.as_slice-in-Line-2.ensures.items i) (c.as_slice-in-Line-3.ensures.items i)
    (c.as_slice-in-Line-4.ensures.items i) (c.as_slice-in-Line-5.ensures.items i)
    (c.as_slice-in-Line-6.ensures.items i) (c.as_slice-in-Line-7.ensures.items i))
    ∙ sym c.in-Line.is)
    (took file before e e c.args.solving.now c.check_line.result refl (λ q st. refl) refl
    (λ k. refl) may.stands.solving ran)
