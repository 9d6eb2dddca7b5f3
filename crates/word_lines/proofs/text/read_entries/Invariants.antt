use Rattle.std.proofs.Common.{◌≡◌, ◌+◌, ◌≤◌, length}
use Rattle.std.specs.List.{list_any}
use Rattle.src_sink.specs.Texts.{lines_of}
use Rattle.word_lines.specs.Grammar.{is_last}
use Rattle.word_lines.proofs.Lines.{IsReadTo}
use Rattle.word_lines.proofs.text.read_entries.Given as goal

abbrev pub invariant-loop-rest : goal.invariant-loop-rest
invariant-loop-rest g l = record {
  read : IsReadTo g.E.LineEntry.grammar l.bytes (lines_of l.rest) l.entries;
  number : l.number ≡ length l.entries;
  room : l.number + length l.rest ≤ length l.bytes;
  ended : l.ended ≡ list_any (is_last g.E.LineEntry.grammar) l.entries;
}

abbrev pub decreases-loop-rest : goal.decreases-loop-rest
decreases-loop-rest g l = length l.rest
