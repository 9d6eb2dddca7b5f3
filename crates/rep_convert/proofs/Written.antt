-- Entries of the log of a conversion that can be written.
use Rattle.std.proofs.Common.{◌≡◌, ◌≤◌, ℕ, List, All, length, IsTrue, true, refl, Result, Ok, Err}
use Rattle.std.specs.Prelude.{OnOk}
use Rattle.exact_field.specs.Rational.{ℚ}
use Rattle.frac128.specs.Held.{is_held}
use Rattle.polyhedra.proofs.Tests.{both_hold}
use Rattle.overflows.proofs.Formed.{naturals_written, vector_written}
use Rattle.word_lines.specs.Grammar.{is_formed}
use Rattle.word_lines.specs.Parts.{is_formed_part, is_short, naturals, vector}
use Rattle.rep_text.specs.ConvText.{conv_grammar}
use Rattle.rep_text.specs.declared.conv.ConvEntry.TheVariants.{Line, Start}

pub line_written : (d slice : List ℚ) → slice ≡ d → length slice ≤ 4294967294 → All (λ q. IsTrue (is_held q)) slice → IsTrue (is_formed conv_grammar (Line d))
line_written d slice same bound all = both_hold (is_formed_part (vector d)) true (vector_written d slice same bound all) refl

pub start_written : (rows picks : List ℕ) (gens slice : List ℚ) → picks ≡ rows → length picks ≤ 4294967294 → All (λ n. IsTrue (is_short n)) picks →
    slice ≡ gens → length slice ≤ 4294967294 → All (λ q. IsTrue (is_held q)) slice → IsTrue (is_formed conv_grammar (Start rows gens))
start_written rows picks gens slice named few short same bound all =
    both_hold (is_formed_part (naturals rows)) _ (naturals_written rows picks named few short)
    (both_hold (is_formed_part (vector gens)) true (vector_written gens slice same bound all) refl)

pub on_ok : {T E : Type 0} {P : Type 0} (r : Result T E) → P → OnOk r P
on_ok (Ok x) p = p
on_ok (Err e) p = tt
