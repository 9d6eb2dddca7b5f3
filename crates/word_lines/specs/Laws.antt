-- The statement of the law on the texts of a grammar.
use Rattle.std.specs.Prelude.{◌≡◌, ℕ, ◌⊎◌, List}
use Rattle.word_lines.specs.FirstFault.{FirstFault, line_test}
use Rattle.word_lines.specs.Grammar.{Grammar, IsTextOf}
use Rattle.word_lines.specs.declared.fault.LogFault.{LogFault}

-- each list of bytes is the text of entries or has a first fault, never both, and but one of either
pub record OneReading {E : Type 0} (g : Grammar E) : Type 0 where
  pub total : (bytes : List ℕ) → ((entries : List E) × IsTextOf g bytes entries) ⊎ ((f : LogFault) × FirstFault (line_test g.forms_of) bytes f)
  pub apart : (bytes : List ℕ) (entries : List E) (f : LogFault) → IsTextOf g bytes entries → FirstFault (line_test g.forms_of) bytes f → ⊥
  pub one_list : (bytes : List ℕ) (entries others : List E) → IsTextOf g bytes entries → IsTextOf g bytes others → entries ≡ others
  pub one_fault : (bytes : List ℕ) (f h : LogFault) → FirstFault (line_test g.forms_of) bytes f → FirstFault (line_test g.forms_of) bytes h → f ≡ h
