use Rattle.std.proofs.Common.{◌+◌, arith, refl}
use Rattle.program_columns.proofs.Entered.{units_more}
use Rattle.program_columns.proofs.written.units.Goals as goal

pub loop-i-preserved : goal.loop-i-preserved
loop-i-preserved g c =
    units_more g.F.Field.value c.args.right.now c.loop-i.i (c.loop-i.i + 1)
    c.index-right-i.result c.signed_one-value.result c.loop-i.units c.push.new.self
    (omega arith) c.index-right-i.is c.in_ok-push.ensures.ok refl c.signed_one-value.ensures
    c.loop-i.invariant
