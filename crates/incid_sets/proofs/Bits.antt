-- Words and the numbers that their bits are: what a test of one word says of its 64 numbers.
use Rattle.std.proofs.Common.{◌≡◌, ◌≢◌, ℕ, zero, suc, ◌+◌, ◌*◌, ◌/◌, ◌%◌, ◌^◌, ◌<◌, ◌≤◌, List, length, get_or, set, min, max, true, ◌&&◌, ◌||◌, refl, sym, ap, ap₂, ◌∙◌, ◌⊎◌, inl, inr, arith, eq-eqb, eqb-true, bit_and, bit_or, w64}
use Rattle.std.proofs.lemmas.Bool.{cases_eq, cases_lt}
use Rattle.std.specs.Prelude.{◌==◌}
use Rattle.std.specs.Int.{bit_at}
use Rattle.std.proofs.lemmas.List.{get_or_past, get_or-set_same, get_or-set_other, length-set}
use Rattle.std.proofs.lemmas.Nat.Bits.{bit_at_and, bit_at_or, bit_at-lt, bit_at_above, bit_at-zero, same_from_bits, bit_at_set_same, bit_at_set_other}
use Rattle.incid_sets.specs.Words.{is_marked, AddsMark}

-- ---- a bit is 0 or 1
bit_cases : (n i : ℕ) → (bit_at n i ≡ 0) ⊎ (bit_at n i ≡ 1)
bit_cases n i = go (bit_at n i) (bit_at-lt n i)
  where
    go : (b : ℕ) → b < 2 → (b ≡ 0) ⊎ (b ≡ 1)
    go zero h = inl refl
    go (suc zero) h = inr refl
    go (suc (suc b)) h = absurd (omega arith)

-- a word whose bits another one has is what both have
pub within_word : (a b : ℕ) → ((i : ℕ) → 64 ≤ i → bit_at a i ≡ 0) → ((i : ℕ) → i < 64 → bit_at a i ≡ 1 → bit_at b i ≡ 1) → bit_and a b ≡ a
within_word a b low h = same_from_bits (bit_and a b) a (λ i. bit_at_and a b i ∙ at i (bit_cases a i) (cases_lt i 64))
  where
    at : (i : ℕ) → (bit_at a i ≡ 0) ⊎ (bit_at a i ≡ 1) → (i < 64) ⊎ (64 ≤ i) → min (bit_at a i) (bit_at b i) ≡ bit_at a i
    at i (inl e) w = omega arith
    at i (inr e) (inl w) = let f : bit_at b i ≡ 1 = h i w e in omega arith
    at i (inr e) (inr w) = let z : bit_at a i ≡ 0 = low i w in omega arith

pub word_within : (a b i : ℕ) → bit_and a b ≡ a → bit_at a i ≡ 1 → bit_at b i ≡ 1
word_within a b i e h =
    let m : min (bit_at a i) (bit_at b i) ≡ 1 = sym (bit_at_and a b i) ∙ ap (λ n. bit_at n i) e ∙ h in
    let l : bit_at b i < 2 = bit_at-lt b i in
    omega arith

-- ---- the number of a bit
pub marked_bit : (words : List ℕ) (k : ℕ) → is_marked words k ≡ true → bit_at (get_or words (k / 64) 0) (k % 64) ≡ 1
marked_bit words k h = eqb-true (bit_at (get_or words (k / 64) 0) (k % 64)) 1 h

pub bit_marked : (words : List ℕ) (k : ℕ) → bit_at (get_or words (k / 64) 0) (k % 64) ≡ 1 → is_marked words k ≡ true
bit_marked words k h = eq-eqb (bit_at (get_or words (k / 64) 0) (k % 64)) 1 h

at_number : (i j : ℕ) → j < 64 → ((64 * i + j) / 64 ≡ i) × ((64 * i + j) % 64 ≡ j)
at_number i j h = ((omega arith), (omega arith))

pub bit_of : (words : List ℕ) (i j : ℕ) → j < 64 → is_marked words (64 * i + j) ≡ true → bit_at (get_or words i 0) j ≡ 1
bit_of words i j w h =
    let e : ((64 * i + j) / 64 ≡ i) × ((64 * i + j) % 64 ≡ j) = at_number i j w in
    ap₂ (λ a b. bit_at (get_or words a 0) b) (sym e.0) (sym e.1) ∙ marked_bit words (64 * i + j) h

pub marked_of : (words : List ℕ) (i j : ℕ) → j < 64 → bit_at (get_or words i 0) j ≡ 1 → is_marked words (64 * i + j) ≡ true
marked_of words i j w h =
    let e : ((64 * i + j) / 64 ≡ i) × ((64 * i + j) % 64 ≡ j) = at_number i j w in
    bit_marked words (64 * i + j) (ap₂ (λ a b. bit_at (get_or words a 0) b) e.0 e.1 ∙ h)

-- past the words no number is marked
pub not_past : (words : List ℕ) (k : ℕ) → is_marked words k ≡ true → k / 64 < length words
not_past words k h = by (cases_lt (k / 64) (length words))
  where
    by : (k / 64 < length words) ⊎ (length words ≤ k / 64) → k / 64 < length words
    by (inl l) = l
    by (inr l) =
        let e : bit_at (get_or words (k / 64) 0) (k % 64) ≡ 0 = ap (λ n. bit_at n (k % 64)) (get_or_past words (k / 64) 0 l) ∙ bit_at-zero (k % 64) in
        let f : bit_at (get_or words (k / 64) 0) (k % 64) ≡ 1 = marked_bit words k h in
        absurd (omega arith)

-- ---- a set with each number of another
pub all_within : (words other : List ℕ) →
    ((i : ℕ) → i < length other → bit_and (get_or other i 0) (get_or words i 0) ≡ get_or other i 0) →
    (k : ℕ) → is_marked other k ≡ true → is_marked words k ≡ true
all_within words other h k m = bit_marked words k (word_within (get_or other (k / 64) 0) (get_or words (k / 64) 0) (k % 64)
    (h (k / 64) (not_past other k m)) (marked_bit other k m))

pub word_of_all : (words other : List ℕ) (i : ℕ) → get_or other i 0 < 2 ^ 64 → ((k : ℕ) → is_marked other k ≡ true → is_marked words k ≡ true) →
    bit_and (get_or other i 0) (get_or words i 0) ≡ get_or other i 0
word_of_all words other i low h = within_word (get_or other i 0) (get_or words i 0) (λ j w. bit_at_above (get_or other i 0) 64 j low w)
    (λ j w e. bit_of words i j w (h (64 * i + j) (marked_of other i j w e)))

-- ---- a set with each common number of two others
both_bits : (a b i : ℕ) → bit_at a i ≡ 1 → bit_at b i ≡ 1 → bit_at (bit_and a b) i ≡ 1
both_bits a b i h k = bit_at_and a b i ∙ (omega arith)

bits_of_both : (a b i : ℕ) → bit_at (bit_and a b) i ≡ 1 → (bit_at a i ≡ 1) × (bit_at b i ≡ 1)
bits_of_both a b i h =
    let m : min (bit_at a i) (bit_at b i) ≡ 1 = sym (bit_at_and a b i) ∙ h in
    let l : bit_at a i < 2 = bit_at-lt a i in
    let r : bit_at b i < 2 = bit_at-lt b i in
    ((omega arith), (omega arith))

pub common_within : (words a b : List ℕ) →
    ((i : ℕ) → i < length a → bit_and (bit_and (get_or a i 0) (get_or b i 0)) (get_or words i 0) ≡ bit_and (get_or a i 0) (get_or b i 0)) →
    (k : ℕ) → is_marked a k ≡ true → is_marked b k ≡ true → is_marked words k ≡ true
common_within words a b h k m n = bit_marked words k (word_within (bit_and (get_or a (k / 64) 0) (get_or b (k / 64) 0)) (get_or words (k / 64) 0) (k % 64)
    (h (k / 64) (not_past a k m)) (both_bits (get_or a (k / 64) 0) (get_or b (k / 64) 0) (k % 64) (marked_bit a k m) (marked_bit b k n)))

pub word_of_common : (words a b : List ℕ) (i : ℕ) → get_or a i 0 < 2 ^ 64 →
    ((k : ℕ) → is_marked a k ≡ true → is_marked b k ≡ true → is_marked words k ≡ true) →
    bit_and (bit_and (get_or a i 0) (get_or b i 0)) (get_or words i 0) ≡ bit_and (get_or a i 0) (get_or b i 0)
word_of_common words a b i low h = within_word (bit_and (get_or a i 0) (get_or b i 0)) (get_or words i 0)
    (λ j w. let z : bit_at (get_or a i 0) j ≡ 0 = bit_at_above (get_or a i 0) 64 j low w in bit_at_and (get_or a i 0) (get_or b i 0) j ∙ (omega arith))
    (λ j w e. let s : (bit_at (get_or a i 0) j ≡ 1) × (bit_at (get_or b i 0) j ≡ 1) = bits_of_both (get_or a i 0) (get_or b i 0) j e in
    bit_of words i j w (h (64 * i + j) (marked_of a i j w s.0) (marked_of b i j w s.1)))

-- ---- the words of a meet
test_of_both : (a b i : ℕ) → (bit_at (bit_and a b) i == 1) ≡ ((bit_at a i == 1) && (bit_at b i == 1))
test_of_both a b i = ap (λ n. n == 1) (bit_at_and a b i) ∙ go (bit_cases a i) (bit_cases b i)
  where
    go : (bit_at a i ≡ 0) ⊎ (bit_at a i ≡ 1) → (bit_at b i ≡ 0) ⊎ (bit_at b i ≡ 1) → (min (bit_at a i) (bit_at b i) == 1) ≡ ((bit_at a i == 1) && (bit_at b i == 1))
    go (inl e) (inl f) = ap₂ (λ x y. min x y == 1) e f ∙ sym (ap₂ (λ x y. (x == 1) && (y == 1)) e f)
    go (inl e) (inr f) = ap₂ (λ x y. min x y == 1) e f ∙ sym (ap₂ (λ x y. (x == 1) && (y == 1)) e f)
    go (inr e) (inl f) = ap₂ (λ x y. min x y == 1) e f ∙ sym (ap₂ (λ x y. (x == 1) && (y == 1)) e f)
    go (inr e) (inr f) = ap₂ (λ x y. min x y == 1) e f ∙ sym (ap₂ (λ x y. (x == 1) && (y == 1)) e f)

pub marked_both : (words a b : List ℕ) (k : ℕ) → get_or words (k / 64) 0 ≡ bit_and (get_or a (k / 64) 0) (get_or b (k / 64) 0) →
    is_marked words k ≡ (is_marked a k && is_marked b k)
marked_both words a b k e = ap (λ n. bit_at n (k % 64) == 1) e ∙ test_of_both (get_or a (k / 64) 0) (get_or b (k / 64) 0) (k % 64)

-- ---- the words of a union
test_of_either : (a b i : ℕ) → (bit_at (bit_or a b) i == 1) ≡ ((bit_at a i == 1) || (bit_at b i == 1))
test_of_either a b i = ap (λ n. n == 1) (bit_at_or a b i) ∙ go (bit_cases a i) (bit_cases b i)
  where
    go : (bit_at a i ≡ 0) ⊎ (bit_at a i ≡ 1) → (bit_at b i ≡ 0) ⊎ (bit_at b i ≡ 1) → (max (bit_at a i) (bit_at b i) == 1) ≡ ((bit_at a i == 1) || (bit_at b i == 1))
    go (inl e) (inl f) = ap₂ (λ x y. max x y == 1) e f ∙ sym (ap₂ (λ x y. (x == 1) || (y == 1)) e f)
    go (inl e) (inr f) = ap₂ (λ x y. max x y == 1) e f ∙ sym (ap₂ (λ x y. (x == 1) || (y == 1)) e f)
    go (inr e) (inl f) = ap₂ (λ x y. max x y == 1) e f ∙ sym (ap₂ (λ x y. (x == 1) || (y == 1)) e f)
    go (inr e) (inr f) = ap₂ (λ x y. max x y == 1) e f ∙ sym (ap₂ (λ x y. (x == 1) || (y == 1)) e f)

pub marked_either : (words a b : List ℕ) (k : ℕ) → get_or words (k / 64) 0 ≡ bit_or (get_or a (k / 64) 0) (get_or b (k / 64) 0) →
    is_marked words k ≡ (is_marked a k || is_marked b k)
marked_either words a b k e = ap (λ n. bit_at n (k % 64) == 1) e ∙ test_of_either (get_or a (k / 64) 0) (get_or b (k / 64) 0) (k % 64)

-- ---- one more number
pub set_marked : (words : List ℕ) (k : ℕ) → k / 64 < length words →
    AddsMark words (set words (k / 64) (bit_or (get_or words (k / 64) 0) (1 * 2 ^ (k % 64) % 2 ^ 64))) k
set_marked words k h = record {
  many = length-set words (k / 64) word;
  marked = bit_marked (set words (k / 64) word) k (ap (λ n. bit_at n (k % 64)) (get_or-set_same words (k / 64) word 0 h)
      ∙ bit_at_set_same w64 (get_or words (k / 64) 0) (k % 64) (omega arith));
  others = λ i n. by i n (cases_eq (i / 64) (k / 64));
}
  where
    word : ℕ
    word = bit_or (get_or words (k / 64) 0) (1 * 2 ^ (k % 64) % 2 ^ 64)

    by : (i : ℕ) → i ≢ k → (i / 64 ≡ k / 64) ⊎ (i / 64 ≢ k / 64) → is_marked (set words (k / 64) word) i ≡ is_marked words i
    by i n (inr o) = ap (λ w. bit_at w (i % 64) == 1) (get_or-set_other words (k / 64) (i / 64) word 0 o)
    by i n (inl e) =
        let other : i % 64 ≢ k % 64 = omega arith in
        ap (λ j. bit_at (get_or (set words (k / 64) word) j 0) (i % 64) == 1) e
        ∙ ap (λ w. bit_at w (i % 64) == 1) (get_or-set_same words (k / 64) word 0 h)
        ∙ ap (λ b. b == 1) (bit_at_set_other w64 (get_or words (k / 64) 0) (k % 64) (omega arith) (i % 64) other)
        ∙ ap (λ j. bit_at (get_or words j 0) (i % 64) == 1) (sym e)
