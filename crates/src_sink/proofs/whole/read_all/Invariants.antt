use Rattle.std.proofs.Common.{◌≤◌, ◌-◌, length}
use Rattle.src_sink.specs.Outside.{Consumes}
use Rattle.src_sink.proofs.whole.read_all.Given as goal

-- the bytes were taken, no others, and there are no more than the limit
abbrev pub invariant-loop-bytes : goal.invariant-loop-bytes
invariant-loop-bytes g l = record {
  within : length l.bytes ≤ l.limit;
  taken : Consumes (g.S.Source.left l.fn.src) (g.S.Source.left l.src) l.bytes;
  count : g.S.Source.faults l.fn.src ≤ g.S.Source.faults l.src;
}

-- each turn but the last takes at least one byte
abbrev pub decreases-loop-bytes : goal.decreases-loop-bytes
decreases-loop-bytes g l = l.limit - length l.bytes
