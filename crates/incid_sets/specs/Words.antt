-- Numbers as the bits of words: number k is bit k % 64 of word k / 64.
use Rattle.std.specs.Prelude.{ℕ, ◌*◌, ◌/◌, ◌%◌, ◌<◌, ◌≤◌, List, Bool, Option, Some, None, ◌≡◌, ◌≢◌, true, false, map, length, ◌==◌, slice_index}
use Rattle.std.specs.Int.{bit_at}
use Rattle.std.specs.Int.Bits.{bit_and}
use Rattle.std.specs.List.{range_with_len}

-- whether the words have number k
abbrev pub is_marked : List ℕ → ℕ → Bool
is_marked words k = bit_at (slice_index words (k / 64)) (k % 64) == 1

-- which numbers below a bound the words have
abbrev pub marks_below : ℕ → List ℕ → List Bool
marks_below bound words = map (is_marked words) (range_with_len 0 bound)

-- the words of the common numbers of the two, as many as the first has
abbrev pub common_words : List ℕ → List ℕ → List ℕ
common_words a b =
    map (λ i. bit_and (slice_index a i) (slice_index b i)) (range_with_len 0 (length a))

-- the words have room for each number below the bound, and have no other
pub record AreBounded (words : List ℕ) (bound : ℕ) : Type 0 where
  pub room : bound ≤ 64 * length words
  pub none_above : (k : ℕ) → bound ≤ k → is_marked words k ≡ false

-- the words have the number, and else as before, and are as many
pub record AddsMark (old new : List ℕ) (k : ℕ) : Type 0 where
  pub many : length new ≡ length old
  pub marked : is_marked new k ≡ true
  pub others : (i : ℕ) → i ≢ k → is_marked new i ≡ is_marked old i

-- the words have the number now, if it is to be in them, and else as before
abbrev pub TellsMark : List ℕ → List ℕ → ℕ → Bool → Type 0
TellsMark old new k true = AddsMark old new k
TellsMark old new k false = new ≡ old

-- the least number of the words that is not less than k, or that there is none
abbrev pub IsMarkedFrom : List ℕ → ℕ → Option ℕ → Type 0
IsMarkedFrom words k (Some j) = (k ≤ j) × (is_marked words j ≡ true) × ((i : ℕ) → k ≤ i → i < j → is_marked words i ≡ false)
IsMarkedFrom words k None = (i : ℕ) → k ≤ i → is_marked words i ≡ false
