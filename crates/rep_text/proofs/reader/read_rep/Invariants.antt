use Rattle.std.proofs.Common.{length}
use Rattle.src_sink.specs.Texts.{lines_of}
use Rattle.rep_text.proofs.RepLines.{IsReadTo}
use Rattle.rep_text.proofs.reader.read_rep.Given as goal

abbrev pub invariant-loop-rest : goal.invariant-loop-rest
invariant-loop-rest l = IsReadTo l.bytes (lines_of l.rest) l.reading

abbrev pub decreases-loop-rest : goal.decreases-loop-rest
decreases-loop-rest l = length l.rest
