-- Each list of bytes is the text of a log or has a first fault, never both, and but one of either.
use Rattle.std.proofs.Common.{ℕ, List, inl, inr, ⊎_elim}
use Rattle.word_lines.specs.Grammar as line
use Rattle.word_lines.specs.Laws as law
use Rattle.word_lines.proofs.Laws as proved
use Rattle.deriv_log.specs.Laws.{OneReading, IsTextOf}
use Rattle.deriv_log.specs.LogGrammar.{log_grammar}
use Rattle.deriv_log.specs.declared.entry.Entry.{Entry}
use Rattle.deriv_log.proofs.Complete.{complete}

of_log : law.OneReading log_grammar
of_log = proved.one_reading log_grammar complete

-- a log is whole entries
pub to_log : (bytes : List ℕ) (entries : List Entry) → line.IsTextOf log_grammar bytes entries → IsTextOf bytes entries
to_log bytes entries h = (record { formed = h.0.formed; ends = h.0.ends }, h.1)

from_log : (bytes : List ℕ) (entries : List Entry) → IsTextOf bytes entries → line.IsTextOf log_grammar bytes entries
from_log bytes entries h = (record { formed = h.0.formed; ends = h.0.ends }, h.1)

pub one_reading : OneReading
one_reading = record {
  total = λ bytes. ⊎_elim (λ h. inl (h.0, to_log bytes h.0 h.1)) (λ h. inr h) (of_log.total bytes);
  apart = λ bytes entries f h k. of_log.apart bytes entries f (from_log bytes entries h) k;
  one_log = λ bytes entries others h k. of_log.one_list bytes entries others (from_log bytes entries h) (from_log bytes others k);
  one_fault = λ bytes f g h k. of_log.one_fault bytes f g h k;
}
