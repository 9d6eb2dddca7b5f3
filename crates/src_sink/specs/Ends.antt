-- How reading a whole source ends.
use Rattle.std.specs.Prelude.{◌≡◌, ℕ, ◌<◌, ◌≤◌, List, length, Option}
use Rattle.src_sink.specs.Outside.{Consumes, Rose}
use Rattle.src_sink.specs.declared.whole.ReadEnd.{ReadEnd}
use Rattle.src_sink.specs.declared.whole.ReadEnd.TheVariants.{Fault, TooLong, NoMemory}

-- the first k bytes that were left are taken
abbrev pub TakesCount : Option (List ℕ) → Option (List ℕ) → ℕ → Type 0
TakesCount old new k = (front : List ℕ) × Consumes old new front × (length front ≡ k)

-- at most the first n bytes that were left are taken
abbrev pub TakesAtMost : Option (List ℕ) → Option (List ℕ) → ℕ → Type 0
TakesAtMost old new n = (front : List ℕ) × Consumes old new front × (length front ≤ n)

-- why not all bytes were read, by what was left and the faults before and after:
-- a fault comes only where the count rose, and it and want of memory come before the limit is passed;
-- too long is what takes more bytes than the limit, and it names how many
abbrev pub Explains : ReadEnd → ℕ → Option (List ℕ) → Option (List ℕ) → ℕ → ℕ → Type 0
Explains Fault limit left left' faults faults' = Rose faults faults' × TakesAtMost left left' limit
Explains (TooLong k) limit left left' faults faults' = (limit < k) × TakesCount left left' k
Explains NoMemory limit left left' faults faults' = TakesAtMost left left' limit
