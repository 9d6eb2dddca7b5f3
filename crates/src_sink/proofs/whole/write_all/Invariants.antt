use Rattle.std.proofs.Common.{length, ◌-◌, ◌≤◌, take}
use Rattle.src_sink.specs.Outside.{Appends}
use Rattle.src_sink.proofs.whole.write_all.Given as goal

-- the bytes before `sent` were appended, and no others
abbrev pub invariant-loop-sent : goal.invariant-loop-sent
invariant-loop-sent g l = record {
  within : l.sent ≤ length l.bytes;
  appended : Appends (g.K.Sink.held l.fn.sink) (g.K.Sink.held l.sink) (take l.sent l.bytes);
  count : g.K.Sink.faults l.fn.sink ≤ g.K.Sink.faults l.sink;
}

-- each turn writes at least one byte
abbrev pub decreases-loop-sent : goal.decreases-loop-sent
decreases-loop-sent g l = length l.bytes - l.sent
