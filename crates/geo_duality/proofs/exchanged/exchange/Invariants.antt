use Rattle.std.proofs.Common.{◌≡◌, ◌*◌, ◌++◌, drop, map}
use Rattle.double_descr.specs.Steps.{IsSoFar}
use Rattle.exact_field.specs.Vector.{front, last}
use Rattle.geo_duality.specs.Exchange.{difference_steps, exchange_steps}
use Rattle.geo_duality.proofs.Dual.{differences}
use Rattle.geo_duality.proofs.exchanged.exchange.Given as goal

abbrev pub invariant-loop-i : goal.invariant-loop-i
invariant-loop-i g l =
    let value = g.F.Field.value in
    let y = map value l.y in
    let c = map value l.c in
    record {
      so_far : IsSoFar g.F.Field.holds (exchange_steps y c) (difference_steps (last y) (drop l.i (front y)) (drop l.i (front c))) (2 * l.i);
      written : map value l.row ++ differences (last y) (drop l.i (front y)) (drop l.i (front c)) ≡ differences (last y) (front y) (front c);
    }
