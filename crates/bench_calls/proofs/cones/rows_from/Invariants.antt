use Rattle.std.proofs.Common.{◌≡◌, ◌-◌, ◌++◌}
use Rattle.bench_calls.specs.Cones.{rows_of}
use Rattle.bench_calls.proofs.cones.rows_from.Given as goal

abbrev pub invariant-loop-place : goal.invariant-loop-place
invariant-loop-place l = record {
  wide : l.rows.width ≡ l.width;
  read : l.rows.list ++ rows_of (l.count - l.place) l.width l.rest ≡ rows_of l.count l.width l.entries;
}
