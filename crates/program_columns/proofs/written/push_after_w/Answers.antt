use Rattle.std.proofs.Common.{◌+◌, ℕ}
use Rattle.exact_field.specs.Rational.{ℚ}
use Rattle.tableaux.specs.Table.{listed}
use Rattle.lin_rows.proofs.Lists.{listed-push}
use Rattle.lp_form.specs.Data.{cone_of}
use Rattle.program_columns.specs.Entries.{after_w, benson_equations}
use Rattle.program_columns.proofs.Entered.{appended_more}
use Rattle.program_columns.proofs.written.push_after_w.Goals as goal

pub loop-d-preserved : goal.loop-d-preserved
loop-d-preserved g c =
    let value = g.F.Field.value in
    let form = c.args.form.now in
    let d = c.loop-d.d in
    let f : ℕ → ℕ → ℚ = λ j k. after_w form.cols (cone_of value form.cone) j k in
    appended_more value (benson_equations value form) (λ k. listed d (λ j. f j k))
    (λ k. listed (d + 1) (λ j. f j k)) (f (d + 1)) c.args.list.now c.loop-d.list c.push.new.self
    c.in_ok-spots.spots c.in_ok-push.ensures.ok c.in_ok-spots.ensures.sums
    (λ ok. c.in_ok-spots.ensures.rises) (λ k. listed-push d (λ j. f j k)) c.loop-d.invariant
