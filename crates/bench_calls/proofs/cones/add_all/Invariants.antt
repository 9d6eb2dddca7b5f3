use Rattle.std.proofs.Common.{◌≡◌, ◌++◌, take}
use Rattle.bench_calls.proofs.cones.add_all.Given as goal

abbrev pub invariant-loop-k : goal.invariant-loop-k
invariant-loop-k l = record {
  wide : l.dd.width ≡ l.rows.width;
  added : l.dd.rows ≡ l.initial.dd.rows ++ take l.k l.rows.list;
}
