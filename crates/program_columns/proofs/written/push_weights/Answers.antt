use Rattle.std.proofs.Common.{◌+◌, ℕ}
use Rattle.exact_field.specs.Rational.{ℚ}
use Rattle.tableaux.specs.Table.{listed}
use Rattle.lin_rows.proofs.Lists.{listed-push}
use Rattle.program_columns.specs.Entries.{benson_equations, weight_entry}
use Rattle.program_columns.proofs.Entered.{appended_more}
use Rattle.program_columns.proofs.written.push_weights.Goals as goal

pub loop-i-preserved : goal.loop-i-preserved
loop-i-preserved g c =
    let value = g.F.Field.value in
    let form = c.args.form.now in
    let i = c.loop-i.i in
    let f : ℕ → ℕ → ℚ = λ j k. weight_entry value form c.args.c.now j k in
    appended_more value (benson_equations value form) (λ k. listed i (λ j. f j k))
    (λ k. listed (i + 1) (λ j. f j k)) (f (i + 1)) c.args.list.now c.loop-i.list c.push.new.self
    c.in_ok-spots.spots c.in_ok-push.ensures.ok c.in_ok-spots.ensures.sums
    (λ ok. c.in_ok-spots.ensures.rises) (λ k. listed-push i (λ j. f j k)) c.loop-i.invariant
