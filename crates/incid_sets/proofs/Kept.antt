-- The common numbers of a set with another, in the place of the set.
use Rattle.std.proofs.Common.{◌≡◌, ℕ, ◌*◌, ◌<◌, ◌≤◌, List, length, false, ◌&&◌, sym, ap₂, ◌∙◌, ◌⊎◌, inl, inr, arith}
use Rattle.std.proofs.lemmas.Bool.{cases_lt}
use Rattle.incid_sets.specs.Words.{is_marked, marks_below, AreBounded}
use Rattle.incid_sets.specs.Marks.{has}
use Rattle.incid_sets.proofs.Sets.{both_false, has-marks_below, past_words}

pub kept_bounded : (words a b : List ℕ) (n : ℕ) → AreBounded a n → length words ≡ length a →
    ((k : ℕ) → k < 64 * length a → is_marked words k ≡ (is_marked a k && is_marked b k)) → AreBounded words n
kept_bounded words a b n h many f = record {
  room = (let r : n ≤ 64 * length a = h.room in omega arith);
  none_above = λ k above. by k above (cases_lt k (64 * length a));
}
  where
    by : (k : ℕ) → n ≤ k → (k < 64 * length a) ⊎ (64 * length a ≤ k) → is_marked words k ≡ false
    by k above (inl p) = f k p ∙ both_false (is_marked a k) (is_marked b k) (inl (h.none_above k above))
    by k above (inr p) = past_words words k (omega arith)

pub kept_common : (words a b : List ℕ) (n m : ℕ) → AreBounded words n → AreBounded a n → AreBounded b m →
    ((k : ℕ) → k < 64 * length a → is_marked words k ≡ (is_marked a k && is_marked b k)) →
    (k : ℕ) → has (marks_below n words) k ≡ (has (marks_below n a) k && has (marks_below m b) k)
kept_common words a b n m h i j f k =
    has-marks_below n words h k ∙ by (cases_lt k n) ∙ sym (ap₂ (λ x y. x && y) (has-marks_below n a i k) (has-marks_below m b j k))
  where
    by : (k < n) ⊎ (n ≤ k) → is_marked words k ≡ (is_marked a k && is_marked b k)
    by (inl p) = let r : n ≤ 64 * length a = i.room in f k (omega arith)
    by (inr p) = h.none_above k p ∙ sym (both_false (is_marked a k) (is_marked b k) (inl (i.none_above k p)))
