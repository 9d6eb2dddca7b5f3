-- The least number of the words that is not less than another: what one word says of it.
use Rattle.std.proofs.Common.{◌≡◌, ◌≢◌, ℕ, ◌+◌, ◌-◌, ◌*◌, ◌/◌, ◌%◌, ◌^◌, ◌<◌, ◌≤◌, List, Option, Some, None, length, get_or, true, false, sym, ap, ap₂, ◌∙◌, subst, ◌⊎◌, inl, inr, arith, w64, true≢false}
use Rattle.std.proofs.lemmas.Bool.{cases_lt}
use Rattle.std.specs.Prelude.{◌==◌}
use Rattle.std.specs.Int.{bit_at, trailing_zeros}
use Rattle.std.proofs.lemmas.Nat.{shr-shr, shr_le}
use Rattle.std.proofs.lemmas.Nat.Bits.{bit_at_above, bit_at-trailing_zeros, bit_at-zero}
use Rattle.incid_sets.specs.Words.{is_marked, marks_below, AreBounded, IsMarkedFrom}
use Rattle.incid_sets.specs.Marks.{IsNextFrom}
use Rattle.incid_sets.proofs.Bits.{marked_of}
use Rattle.incid_sets.proofs.Sets.{has-marks_below, length-marks_below}

-- a bit of a word whose low bits are shifted out
bit_at_shr : (n s i : ℕ) → bit_at (n / 2 ^ s) i ≡ bit_at n (s + i)
bit_at_shr n s i = ap (λ (m : ℕ). m % 2) (shr-shr n s i)

-- number j is bit j - 64 * i of word i
unmarked_of : (words : List ℕ) (i j : ℕ) → 64 * i ≤ j → j < 64 * (i + 1) → bit_at (get_or words i 0) (j - 64 * i) ≡ 0 → is_marked words j ≡ false
unmarked_of words i j l u e =
    let a : j / 64 ≡ i = omega arith in
    let b : j % 64 ≡ j - 64 * i = omega arith in
    ap (λ (n : ℕ). n == 1) (ap₂ (λ (x y : ℕ). bit_at (get_or words x 0) y) a b ∙ e)

-- a word with no bit from s on
pub none_in : (words : List ℕ) (i s : ℕ) → get_or words i 0 / 2 ^ s ≡ 0 → (j : ℕ) → 64 * i + s ≤ j → j < 64 * (i + 1) → is_marked words j ≡ false
none_in words i s e j l u =
    let a : s + (j - (64 * i + s)) ≡ j - 64 * i = omega arith in
    unmarked_of words i j (omega arith) u
    (ap (bit_at (get_or words i 0)) (sym a) ∙ sym (bit_at_shr (get_or words i 0) s (j - (64 * i + s)))
    ∙ ap (λ (n : ℕ). bit_at n (j - (64 * i + s))) e ∙ bit_at-zero (j - (64 * i + s)))

-- the lowest bit from s on of a word is the least number, where none before is
pub found_in : (words : List ℕ) (k i s rest : ℕ) → rest ≡ get_or words i 0 / 2 ^ s → rest ≢ 0 → get_or words i 0 < 2 ^ 64 →
    k ≤ 64 * i + s → ((j : ℕ) → k ≤ j → j < 64 * i + s → is_marked words j ≡ false) →
    IsMarkedFrom words k (Some (64 * i + s + trailing_zeros w64 rest))
found_in words k i s rest e some low before none = (omega arith, here, between)
  where
    word : ℕ
    word = get_or words i 0

    place : ℕ
    place = trailing_zeros w64 rest

    lowest : (place < 64) × (bit_at rest place ≡ 1) × ((b : ℕ) → b < place → bit_at rest b ≡ 0)
    lowest = bit_at-trailing_zeros w64 rest (omega arith) (let d : word / 2 ^ s ≤ word = shr_le word s in omega arith)

    bit : (b : ℕ) → bit_at rest b ≡ bit_at word (s + b)
    bit b = ap (λ (n : ℕ). bit_at n b) e ∙ bit_at_shr word s b

    within : s + place < 64
    within = by (cases_lt (s + place) 64)
      where
        by : (s + place < 64) ⊎ (64 ≤ s + place) → s + place < 64
        by (inl l) = l
        by (inr l) =
            let z : bit_at word (s + place) ≡ 0 = bit_at_above word 64 (s + place) low l in
            let o : bit_at rest place ≡ 1 = lowest.1 in
            let f : bit_at rest place ≡ bit_at word (s + place) = bit place in
            absurd (omega arith)

    here : is_marked words (64 * i + s + place) ≡ true
    here =
        let a : 64 * i + (s + place) ≡ 64 * i + s + place = omega arith in
        ap (is_marked words) (sym a) ∙ marked_of words i (s + place) within (sym (bit place) ∙ lowest.1)

    between : (j : ℕ) → k ≤ j → j < 64 * i + s + place → is_marked words j ≡ false
    between j l u = by (cases_lt j (64 * i + s))
      where
        by : (j < 64 * i + s) ⊎ (64 * i + s ≤ j) → is_marked words j ≡ false
        by (inl p) = none j l p
        by (inr p) =
            let a : s + (j - (64 * i + s)) ≡ j - 64 * i = omega arith in
            unmarked_of words i j (omega arith) (omega (arith, within))
            (ap (bit_at word) (sym a) ∙ sym (bit (j - (64 * i + s))) ∙ lowest.2 (j - (64 * i + s)) (omega arith))

-- as far as the word of k itself goes
pub found_first : (words : List ℕ) (k word : ℕ) → word ≡ get_or words (k / 64) 0 → word / 2 ^ (k % 64) ≢ 0 → get_or words (k / 64) 0 < 2 ^ 64 →
    IsMarkedFrom words k (Some (k + trailing_zeros w64 (word / 2 ^ (k % 64))))
found_first words k word e some low =
    let a : 64 * (k / 64) + k % 64 ≡ k = omega arith in
    subst (λ (n : ℕ). IsMarkedFrom words k (Some (n + trailing_zeros w64 (word / 2 ^ (k % 64))))) a
    (found_in words k (k / 64) (k % 64) (word / 2 ^ (k % 64)) (ap (λ (n : ℕ). n / 2 ^ (k % 64)) e) some low (omega arith) (λ j l u. absurd (omega arith)))

pub none_first : (words : List ℕ) (k word : ℕ) → word ≡ get_or words (k / 64) 0 → word / 2 ^ (k % 64) ≡ 0 →
    (j : ℕ) → k ≤ j → j < 64 * (k / 64 + 1) → is_marked words j ≡ false
none_first words k word e z j l u = none_in words (k / 64) (k % 64) (ap (λ (n : ℕ). n / 2 ^ (k % 64)) (sym e) ∙ z) j (omega arith) u

-- a word after it
pub found_later : (words : List ℕ) (k i : ℕ) → get_or words i 0 ≢ 0 → get_or words i 0 < 2 ^ 64 → k ≤ 64 * i →
    ((j : ℕ) → k ≤ j → j < 64 * i → is_marked words j ≡ false) → IsMarkedFrom words k (Some (i * 64 + trailing_zeros w64 (get_or words i 0)))
found_later words k i some low after none =
    let a : 64 * i + 0 ≡ i * 64 = omega arith in
    let one : get_or words i 0 ≡ get_or words i 0 / 2 ^ 0 = omega arith in
    subst (λ (n : ℕ). IsMarkedFrom words k (Some (n + trailing_zeros w64 (get_or words i 0)))) a
    (found_in words k i 0 (get_or words i 0) one some low (omega arith) (λ j l u. none j l (omega arith)))

-- a number of the words is below a bound of theirs
pub marked_below : (words : List ℕ) (bound j : ℕ) → ((i : ℕ) → bound ≤ i → is_marked words i ≡ false) → is_marked words j ≡ true → j < bound
marked_below words bound j none m = by (cases_lt j bound)
  where
    by : (j < bound) ⊎ (bound ≤ j) → j < bound
    by (inl l) = l
    by (inr l) = absurd (true≢false (sym m ∙ none j l))

-- the least number of the words is that of the set
pub next_is : (words : List ℕ) (bound k : ℕ) → AreBounded words bound → (found : Option ℕ) → IsMarkedFrom words k found →
    IsNextFrom (marks_below bound words) k found
next_is words bound k h (Some j) p = (
  p.0,
  (let e : length (marks_below bound words) ≡ bound = length-marks_below bound words in
      let l : j < bound = marked_below words bound j h.none_above p.1 in omega arith),
  has-marks_below bound words h j ∙ p.1,
  λ i l u. has-marks_below bound words h i ∙ p.2 i l u,
)
next_is words bound k h None p = λ i l. has-marks_below bound words h i ∙ p i l
