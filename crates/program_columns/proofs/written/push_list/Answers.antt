use Rattle.std.proofs.Common.{◌+◌, ◌∙◌, ap, arith, length, map, refl, sym}
use Rattle.std.proofs.lemmas.List.{get_or-map, length-map}
use Rattle.exact_field.specs.Rational.{zero_ℚ}
use Rattle.lin_rows.specs.Lines.{entries}
use Rattle.program_columns.proofs.Entered.{longer_more, longer_none}
use Rattle.program_columns.proofs.written.push_list.Goals as goal

pub loop-i-init : goal.loop-i-init
loop-i-init g c = λ n rises low fits.
    longer_none n (c.args.base + 0) (entries g.F.Field.value c.args.list.now) rises
    (omega (arith, low))

pub loop-i-preserved : goal.loop-i-preserved
loop-i-preserved g c = λ n rises low fits.
    let value = g.F.Field.value in
    let numbers = c.args.numbers.now in
    let i = c.loop-i.i in
    longer_more n c.args.base i (c.args.base + i + 1) (map value numbers)
    (value c.index-numbers-i.result) (entries value c.args.list.now)
    (entries value c.loop-i.list) (entries value c.push_kept.new.list)
    (omega (arith, length-map numbers value))
    (ap value c.index-numbers-i.is
    ∙ sym (get_or-map value numbers i c.index-numbers-i.result zero_ℚ (omega arith)))
    refl (omega (arith, fits)) (c.loop-i.invariant n rises low fits) c.in_ok-push_kept.ensures
