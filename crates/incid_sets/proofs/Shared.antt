-- The words of the common numbers of two lists of words.
use Rattle.std.proofs.Common.{◌≡◌, ℕ, zero, suc, ◌+◌, ◌*◌, ◌/◌, ◌^◌, ◌<◌, ◌≤◌, ◌⊎◌, inl, inr, List, [], ◌∷◌, length, take, get_or, min, ◌&&◌, refl, sym, ap, ◌∙◌, arith, bit_and, sum_by, count_ones}
use Rattle.std.proofs.lemmas.Bool.{cases_lt}
use Rattle.std.proofs.lemmas.List.{get_or_past}
use Rattle.std.proofs.lemmas.List.Sums.{sum_by-cons}
use Rattle.std.proofs.lemmas.List.FromFn.{length-map-range_with_len, get_or-map-range_with_len}
use Rattle.std.proofs.lemmas.Nat.{and_le_l, and_le_r, ones-le}
use Rattle.incid_sets.specs.Words.{common_words, is_marked, marks_below, AreBounded}
use Rattle.incid_sets.specs.Marks.{IsMeet}
use Rattle.incid_sets.proofs.Bits.{marked_both}
use Rattle.incid_sets.proofs.Sets.{meet_bounded, meet_is}

pub length-common : (a b : List ℕ) → length (common_words a b) ≡ length a
length-common a b = length-map-range_with_len (λ i. bit_and (get_or a i 0) (get_or b i 0)) 0 (length a)

pub common_at : (a b : List ℕ) (i : ℕ) → i < length a → get_or (common_words a b) i 0 ≡ bit_and (get_or a i 0) (get_or b i 0)
common_at a b i l = get_or-map-range_with_len (λ i. bit_and (get_or a i 0) (get_or b i 0)) 0 (length a) i i 0 l (omega arith)

pub common_low : (a b : List ℕ) → ((i : ℕ) → get_or a i 0 < 2 ^ 64) → (i : ℕ) → get_or (common_words a b) i 0 < 2 ^ 64
common_low a b low i = by (cases_lt i (length a))
  where
    by : (i < length a) ⊎ (length a ≤ i) → get_or (common_words a b) i 0 < 2 ^ 64
    by (inl l) = omega (arith, common_at a b i l, and_le_l (get_or a i 0) (get_or b i 0), low i)
    by (inr l) = omega (arith, get_or_past (common_words a b) i 0 (omega (arith, l, length-common a b)))

-- words past the end of either list have no common number
pub common_past : (a b : List ℕ) (i : ℕ) → min (length a) (length b) ≤ i → get_or (common_words a b) i 0 ≡ 0
common_past a b i past = by (cases_lt i (length a))
  where
    by : (i < length a) ⊎ (length a ≤ i) → get_or (common_words a b) i 0 ≡ 0
    by (inl l) = omega (arith, common_at a b i l, and_le_r (get_or a i 0) (get_or b i 0), get_or_past b i 0 (omega (arith, past, l)))
    by (inr l) = get_or_past (common_words a b) i 0 (omega (arith, l, length-common a b))

-- words without a number count nothing
pub ones_before : (words : List ℕ) (k : ℕ) → ((i : ℕ) → k ≤ i → get_or words i 0 ≡ 0) → sum_by count_ones (take k words) ≡ sum_by count_ones words
ones_before [] zero none = refl
ones_before [] (suc k) none = refl
ones_before (w ∷ words) zero none =
    let here : count_ones w ≡ 0 = ap count_ones (none 0 (omega arith)) ∙ (omega (arith, ones-le 0 0 (omega arith))) in
    let rest : 0 ≡ sum_by count_ones words = ones_before words zero (λ i l. none (suc i) (omega arith)) in
    omega (arith, here, rest, sum_by-cons count_ones w words)
ones_before (w ∷ words) (suc k) none =
    sum_by-cons count_ones w (take k words)
    ∙ ap (λ n. count_ones w + n) (ones_before words k (λ i l. none (suc i) (omega (arith, l))))
    ∙ sym (sum_by-cons count_ones w words)

common_marked : (a b : List ℕ) (k : ℕ) → k < 64 * length (common_words a b) → is_marked (common_words a b) k ≡ (is_marked a k && is_marked b k)
common_marked a b k l = marked_both (common_words a b) a b k (common_at a b (k / 64) (omega (arith, l, length-common a b)))

-- ---- of two sets
module _ (a b : List ℕ) (m l : ℕ) (first : AreBounded a m) (second : AreBounded b l) where
  pub common_bounded : AreBounded (common_words a b) (min m l)
  common_bounded = meet_bounded (common_words a b) a b (min m l) m l first second refl
      (let room = first.room in omega (arith, room, length-common a b)) (common_marked a b)

  pub common_meet : IsMeet (marks_below (min m l) (common_words a b)) (marks_below m a) (marks_below l b)
  common_meet = meet_is (common_words a b) a b (min m l) m l common_bounded first second refl (common_marked a b)
