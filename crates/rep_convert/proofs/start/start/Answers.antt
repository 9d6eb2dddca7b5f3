use Rattle.std.proofs.Common.{◌≡◌, ◌≤◌, ℕ, suc, List, All, length, sym, ap, ◌∙◌, subst}
use Rattle.exact_field.specs.Rational.{ℚ}
use Rattle.lineality.proofs.Marks.{length-marks}
use Rattle.rep_conv.proofs.TextRows.{text_rows_wide}
use Rattle.rep_convert.proofs.start.start.Goals as goal

pub short_rows-requires-clause-few : goal.short_rows-requires-clause-few
short_rows-requires-clause-few c =
    subst (λ (k : ℕ). k ≤ 19) (sym (ap length c.requires.places ∙ length-marks c.args.rep.now.width c.args.lines.now)) c.args.rep.now.few_entries

pub short_rows-requires-clause-wide : goal.short_rows-requires-clause-wide
short_rows-requires-clause-wide c =
    subst (λ (k : ℕ). All (λ (r : List ℚ). length r ≡ suc k) c.args.rows.now) (sym (ap length c.requires.places ∙ length-marks c.args.rep.now.width c.args.lines.now))
    (subst (All (λ (r : List ℚ). length r ≡ suc c.args.rep.now.width)) (sym c.requires.rows) (text_rows_wide c.args.rep.now).wide)
