use Rattle.std.proofs.Common.{◌≡◌, ◌-◌, ◌≤◌, List, ℕ, [], ◌++◌}
use Rattle.src_sink.specs.Reading.{Takes, LacksLineFeed}
use Rattle.src_sink.specs.Intake.{reading}
use Rattle.src_sink.proofs.lines.Intake.next_line.Given as goal

-- the line and the piece are what was kept and the bytes that were taken since, and no line feed is in the line
abbrev pub invariant-loop-self : goal.invariant-loop-self
invariant-loop-self g l = record {
  limit : l.self.limit ≤ 4294967294;
  within : l.self.taken ≤ l.self.limit;
  count : g.S.Source.faults l.fn.src ≤ g.S.Source.faults l.src;
  lacks : LacksLineFeed l.line;
  took : (front : List ℕ) × Takes (reading l.fn.self []) (reading l.self []) (g.S.Source.left l.fn.src) (g.S.Source.left l.src) front × (l.line ++ l.self.piece ≡ l.fn.self.piece ++ front);
}

-- each turn but the last takes at least one byte
abbrev pub decreases-loop-self : goal.decreases-loop-self
decreases-loop-self g l = l.self.limit - l.self.taken
