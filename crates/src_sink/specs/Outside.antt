-- What contracts say of the outside: the bytes that come in and go out, and counts of faults.
--
-- A source has bytes left and a sink holds bytes, each as `Some` of a list, or as `None` where it does
-- not tell. Std's words say what becomes of them, and claim nothing of bytes that are not told:
-- `Consumes old new bs`: what was left is bs and then what is left now.
-- `Appends old new bs`: what is held is what was held and then bs.
-- `Keeps old new`: the bytes are as before. `IsAtEnd old`: nothing is left.
-- Bytes that were told are told from then on.
use Rattle.std.specs.Prelude.{◌≡◌, ℕ, ◌+◌, ◌-◌, ◌^◌, ◌<◌, ◌≤◌, ◌⊎◌, min}
pub use Rattle.std.specs.Io.KnownBytes.{Keeps, Appends, Consumes, IsAtEnd}

-- the largest count, at which a count stays
abbrev pub most_counted : ℕ
most_counted = 2 ^ 64 - 1

-- a count after one more
abbrev pub counted : ℕ → ℕ
counted n = min (n + 1) most_counted

-- a count rose: it is greater than before, or it stands at the largest count
abbrev pub Rose : ℕ → ℕ → Type 0
Rose old new = (old < new) ⊎ (new ≡ most_counted)

-- a count is not below what it was, and at most the largest count
abbrev pub NeverFalls : ℕ → ℕ → Type 0
NeverFalls old new = (old ≤ new) × (new ≤ most_counted)
