use Rattle.std.proofs.Common.{◌+◌, drop, arith}
use Rattle.polyhedra.proofs.Lists.{drop_value}
use Rattle.double_descr.specs.State.{live_of, numbered_of}
use Rattle.double_descr.proofs.parts.list_numbers.Goals as goal
use Rattle.double_descr.proofs.MadePairs.{dropped_on, numbers_on, value_at_index}

pub list_number-requires : goal.list_number-requires
list_number-requires g c κs within = (
  within,
  value_at_index g.F.Field.value g.addition.row c.args.generators.now c.args.vals.now c.requires.1.0 c.loop-i.i c.index-vals-i.result c.index-generators-i.result
      (omega (arith, c.requires.1.1.0, c.loop-i-test.true)) c.loop-i-test.true c.index-vals-i.is c.index-generators-i.is,
)

pub loop-i-preserved : goal.loop-i-preserved
loop-i-preserved g c =
    let value = g.F.Field.value in
    let i = c.loop-i.i in
    let m = c.index-generators-i.result in
    let live = live_of value c.args.generators.now in
    let e = drop_value (numbered_of value) c.args.generators.now i m c.loop-i-test.true c.index-generators-i.is in
    record {
      stays = numbers_on g.addition.row (numbered_of value m) (drop i live) (drop (i + 1) live) c.loop-i.stays c.list_number.new.stays _ e
          c.in_ok-list_number.ensures.stays c.loop-i.invariant.stays;
      gone = dropped_on g.addition.row (numbered_of value m) (drop i live) (drop (i + 1) live) c.loop-i.gone c.list_number.new.gone _ e
          c.in_ok-list_number.ensures.gone c.loop-i.invariant.gone;
    }
