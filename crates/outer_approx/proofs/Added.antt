-- Entries of cuts that come into use: they can be written.
use Rattle.std.proofs.Common.{◌≡◌, ℕ, ◌<◌, List, IsTrue, true, refl, subst, Result, Ok, Err}
use Rattle.std.specs.Prelude.{OnOk}
use Rattle.std.proofs.lemmas.Bool.{lt-ltb}
use Rattle.polyhedra.proofs.Tests.{both_hold}
use Rattle.deriv_log.specs.Formed.{is_formed}
use Rattle.word_lines.specs.Parts.{is_formed_part, is_short}
use Rattle.word_lines.specs.Parts.{pairs}
use Rattle.deriv_log.specs.declared.entry.Entry.TheVariants.{Add}
use Rattle.word_lines.specs.declared.part.LogPair.{LogPair}

-- where a call succeeds
pub add_written : {T E : Type 0} (r : Result T E) (cut : ℕ) (ps qs : List LogPair) → cut < 4294967296 → is_formed_part (pairs ps) ≡ true → ps ≡ qs →
    OnOk r (IsTrue (is_formed (Add cut qs)))
add_written (Err e) cut ps qs bound written same = tt
add_written (Ok x) cut ps qs bound written same =
    subst (λ (list : List LogPair). IsTrue (is_formed (Add cut list))) same
    (both_hold (is_short cut) _ (lt-ltb cut 4294967296 bound) (both_hold (is_formed_part (pairs ps)) true written refl))
