use Rattle.std.proofs.Common.{◌≡◌, map, take}
use Rattle.tableaux.specs.Table.{minus}
use Rattle.lp_form.proofs.reading.difference.Given as goal

abbrev pub invariant-loop-i : goal.invariant-loop-i
invariant-loop-i g l =
    let value = g.F.Field.value in
    map value l.w ≡ minus (map value (take l.i l.plus)) (map value (take l.i l.negative))
