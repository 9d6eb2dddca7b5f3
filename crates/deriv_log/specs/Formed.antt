-- Which entries a log can write: those of which each part can be written. And where a log ends.
use Rattle.std.specs.Prelude.{Bool, true, false, List, IsTrue}
use Rattle.std.specs.List.{list_all}
use Rattle.word_lines.specs.Grammar as line
use Rattle.word_lines.specs.Parts.{is_formed_part}
use Rattle.deriv_log.specs.LogText.{entry_parts}
use Rattle.deriv_log.specs.declared.entry.Entry.{Entry}
use Rattle.deriv_log.specs.declared.entry.Entry.TheVariants.{End}

-- each part of an entry can be written
abbrev pub is_formed : Entry → Bool
is_formed e = list_all is_formed_part (entry_parts e)

-- whether an entry ends a log
abbrev pub is_end : Entry → Bool
is_end (End k) = true
is_end _ = false

-- the last entry, and no other, is an end
abbrev pub ends_once : List Entry → Bool
ends_once entries = line.ends_once is_end entries

-- a log: formed entries, of which the last is the only end
pub record IsLog (entries : List Entry) : Type 0 where
  pub formed : IsTrue (list_all is_formed entries)
  pub ends : IsTrue (ends_once entries)
