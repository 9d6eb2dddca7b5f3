-- What the parts of one call of a reader of lines do.
use Rattle.std.specs.Prelude.{◌≡◌, ℕ, ◌<◌, ◌≤◌, Bool, true, false, List, [], ◌∷◌, ◌++◌, length, Option}
use Rattle.src_sink.specs.Reading.{Reading, Takes, Cause, LacksLineFeed}
use Rattle.src_sink.specs.declared.whole.ReadEnd.{ReadEnd}
use Rattle.src_sink.specs.declared.lines.Intake.{Intake}

-- a reader of lines that is in the middle of a line
abbrev pub reading : Intake → List ℕ → Reading
reading s line = record { kept = line ++ s.piece; taken = s.taken; limit = s.limit; ended = s.ended; failed = false }

-- a piece was taken, or the source came to its end
abbrev pub Refills : Bool → Intake → Intake → Option (List ℕ) → Option (List ℕ) → Type 0
Refills more before after left left' =
    Takes (reading before []) (reading after []) left left' after.piece × (after.taken ≤ after.limit)
    × (more ≡ true → 0 < length after.piece) × (more ≡ false → (after.piece ≡ []) × (after.ended ≡ true))

-- none was taken, or too many bytes
abbrev pub StopsRefill : ReadEnd → Intake → Intake → Option (List ℕ) → Option (List ℕ) → ℕ → ℕ → Type 0
StopsRefill e before after left left' faults faults' =
    Takes (reading before []) (reading after []) left left' after.piece × Cause e (reading after []) faults faults'

-- a line grew by the bytes before a line feed, or by the whole piece where there is none
abbrev pub GivesPart : Bool → Intake → Intake → List ℕ → List ℕ → Type 0
GivesPart whole before after line line' =
    (after ≡ record before { piece = after.piece })
    × (part : List ℕ) × (line' ≡ line ++ part) × LacksLineFeed part
    × (whole ≡ true → before.piece ≡ part ++ 10 ∷ after.piece) × (whole ≡ false → (before.piece ≡ part) × (after.piece ≡ []))
