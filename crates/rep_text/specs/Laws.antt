-- The statements of the laws on the texts of representations and of logs of conversions.
use Rattle.std.specs.Prelude.{◌≡◌, ℕ, ◌⊎◌, List}
use Rattle.word_lines.specs.Laws.{OneReading}
use Rattle.word_lines.specs.declared.fault.LogFault.{LogFault}
use Rattle.rep_text.specs.ConvText.{conv_grammar}
use Rattle.rep_text.specs.RepFault.{RepFirstFault}
use Rattle.rep_text.specs.RepText.{IsRepText}
use Rattle.rep_text.specs.declared.rep.Rep.{Rep}

-- each list of bytes is the text of the log of a conversion or has a first fault, never both, and but one of either
abbrev pub OneConvReading : Type 0
OneConvReading = OneReading conv_grammar

-- they say the same
pub record AreAlike (rep other : Rep) : Type 0 where
  pub gens : rep.gens ≡ other.gens
  pub width : rep.width ≡ other.width
  pub rows : rep.rows ≡ other.rows

-- each list of bytes is the text of a representation or has a first fault, never both, and but one of either
pub record OneRepReading : Type 0 where
  pub total : (bytes : List ℕ) → ((rep : Rep) × IsRepText bytes rep) ⊎ ((f : LogFault) × RepFirstFault bytes f)
  pub apart : (bytes : List ℕ) (rep : Rep) (f : LogFault) → IsRepText bytes rep → RepFirstFault bytes f → ⊥
  pub one_rep : (bytes : List ℕ) (rep other : Rep) → IsRepText bytes rep → IsRepText bytes other → AreAlike rep other
  pub one_fault : (bytes : List ℕ) (f g : LogFault) → RepFirstFault bytes f → RepFirstFault bytes g → f ≡ g
