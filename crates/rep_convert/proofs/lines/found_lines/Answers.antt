use Rattle.std.proofs.Common.{◌≡◌, ◌+◌, List, All, length, suc, ℕ, sym, subst, ◌∙◌, arith}
use Rattle.exact_field.specs.Rational.{ℚ}
use Rattle.rep_conv.proofs.TextRows.{text_rows_wide}
use Rattle.rep_convert.proofs.Calls.{complement_here, fault_here, whole_table}
use Rattle.rep_convert.proofs.lines.found_lines.Goals as goal

pub whole_rows-requires : goal.whole_rows-requires
whole_rows-requires c =
    let one_more : suc c.args.rep.now.width ≡ c.args.rep.now.width + 1 = omega arith in
    subst (λ (n : ℕ). All (λ (r : List ℚ). length r ≡ n) c.args.rows.now) one_more
    (subst (All (λ (r : List ℚ). length r ≡ suc c.args.rep.now.width)) (sym c.requires) (text_rows_wide c.args.rep.now).wide)

pub returns-in-Ok-clause-lines : goal.returns-in-Ok-clause-lines
returns-in-Ok-clause-lines c =
    complement_here (c.args.rep.now.width + 1) (suc c.args.rep.now.width) c.in_ok-whole.whole.list _ c.in-Ok.lines.list _ (omega arith)
    (c.in_ok-whole.ensures.rows ∙ c.requires) c.in_ok-vectors_of-in-Ok.ensures c.in-Ok.ensures.ok

pub returns-clause-left : goal.returns-clause-left
returns-clause-left c =
    let rep = c.args.rep.now in
    let rows = c.in_ok-whole.whole.list in
    c.row_left.ensures.elim rep rows (suc rep.width) (whole_table rep rows (c.in_ok-whole.ensures.rows ∙ c.requires))
    (fault_here (rep.width + 1) (suc rep.width) rows c.in-Err.fault (omega arith) c.in-Err.ensures.left)
