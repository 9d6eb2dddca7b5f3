-- Entries of rows that come into use: they can be written.
use Rattle.std.proofs.Common.{◌≡◌, ℕ, ◌<◌, List, IsTrue, true, refl, subst, Result, Ok, Err}
use Rattle.std.specs.Prelude.{OnOk}
use Rattle.std.proofs.lemmas.Bool.{lt-ltb}
use Rattle.polyhedra.proofs.Tests.{both_hold}
use Rattle.word_lines.specs.Grammar.{is_formed}
use Rattle.word_lines.specs.Parts.{is_formed_part, is_short}
use Rattle.word_lines.specs.Parts.{pairs}
use Rattle.word_lines.specs.declared.part.LogPair.{LogPair}
use Rattle.rep_text.specs.ConvText.{conv_grammar}
use Rattle.rep_text.specs.declared.conv.ConvEntry.TheVariants.{Add}

-- where a call succeeds
pub add_written : {T E : Type 0} (r : Result T E) (row : ℕ) (ps qs : List LogPair) → row < 4294967296 → is_formed_part (pairs ps) ≡ true → ps ≡ qs →
    OnOk r (IsTrue (is_formed conv_grammar (Add row qs)))
add_written (Err e) row ps qs bound written same = tt
add_written (Ok x) row ps qs bound written same =
    subst (λ (list : List LogPair). IsTrue (is_formed conv_grammar (Add row list))) same
    (both_hold (is_short row) _ (lt-ltb row 4294967296 bound) (both_hold (is_formed_part (pairs ps)) true written refl))
