use Rattle.std.proofs.Common.{◌≡◌, take}
use Rattle.word_lines.specs.Grammar.{entries_text}
use Rattle.word_lines.proofs.text.print_entries.Given as goal

abbrev pub invariant-loop-entry : goal.invariant-loop-entry
invariant-loop-entry g l = l.text ≡ entries_text g.E.LineEntry.grammar (take l.entry-index l.entry-items)
