use Rattle.std.proofs.Common.{◌-◌, map, List, ℕ, subst, ap, ◌∙◌}
use Rattle.exact_field.specs.Rational.{ℚ}
use Rattle.lin_rows.specs.Answers.{IsIndep}
use Rattle.lin_rows.specs.Read.{numbers}
use Rattle.rep_convert.specs.Lines.{width_without}
use Rattle.rep_convert.proofs.Calls.{fault_here, none_here, short_here, starts_here}
use Rattle.rep_convert.proofs.Starting.{some_rows}
use Rattle.rep_convert.proofs.start.all_numbers.Goals as goal

pub unreachable-requires : goal.unreachable-requires
unreachable-requires c =
    let short = c.args.short.now in
    none_here c.args.rep.now c.args.lines.now c.requires.lines c.width.result short.list (c.width.ensures ∙ c.requires.width) c.requires.rows
    (some_rows c.args.rep.now c.requires.some) c.in-Ok-Orthogonal.field-0-0
    (subst (IsIndep (λ (q : ℚ). q) c.width.result (numbers (λ (q : ℚ). q) short.list)) c.in-Ok-Orthogonal.field-0-is c.in-Ok-Orthogonal.ensures.ok)

pub returns-in_ok-from_zero-in-Ok-Basis-clause-starts : goal.returns-in_ok-from_zero-in-Ok-Basis-clause-starts
returns-in_ok-from_zero-in-Ok-Basis-clause-starts c =
    let short = c.args.short.now in
    starts_here c.args.rep.now c.args.lines.now c.requires.lines c.width.result short.list (c.width.ensures ∙ c.requires.width) c.requires.rows
    c.in-Ok-Basis.numbers c.in_ok-from_zero-in-Ok-Basis.field-0
    (subst (IsIndep (λ (q : ℚ). q) c.width.result (numbers (λ (q : ℚ). q) short.list)) c.in-Ok-Basis.field-0-is c.in-Ok-Basis.ensures.ok)
    (c.in_ok-from_zero-in-Ok-Basis.ensures ∙ ap (λ (ks : List ℕ). map (λ k. k - 1) ks) c.as_slice.ensures.items)

pub returns-in-Err-clause-left : goal.returns-in-Err-clause-left
returns-in-Err-clause-left c =
    let rep = c.args.rep.now in
    let lines = c.args.lines.now in
    let rows = c.args.short.now.list in
    c.row_left.ensures.elim rep rows (width_without rep lines) (short_here rep lines c.requires.lines c.width.result rows (c.width.ensures ∙ c.requires.width) c.requires.rows)
    (fault_here c.width.result (width_without rep lines) rows c.in-Err.fault (c.width.ensures ∙ c.requires.width) c.in-Err.ensures.left)
