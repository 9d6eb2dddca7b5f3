use Rattle.std.proofs.Common.{length}
use Rattle.vlp_reader.specs.Reading.{HasCome}
use Rattle.vlp_reader.proofs.read.read_vlp.Given as goal

abbrev pub invariant-loop-line : goal.invariant-loop-line
invariant-loop-line l = HasCome l.bytes l.rest l.number l.draft

abbrev pub decreases-loop-line : goal.decreases-loop-line
decreases-loop-line l = length l.rest
