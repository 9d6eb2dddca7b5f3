-- The first place of a byte.
use Rattle.std.proofs.Common.{◌≡◌, ℕ, ◌<◌, Bool, true, false, List, length, get_or, Option, Some, None, cond, nat_lt, refl, ap, sym, ◌∙◌, arith}
use Rattle.std.specs.List.{position, position_or_len}
use Rattle.std.proofs.lemmas.List.Sums.{position_or_len_is}
use Rattle.std.proofs.lemmas.Bool.{lt-ltb, le-ltb}
use Rattle.memchr.specs.Find.{IsFirstByte}

fails : (b : Bool) → (b ≡ true → ⊥) → b ≡ false
fails true h = absurd (h refl)
fails false h = refl

at_end : (p : ℕ → Bool) (text : List ℕ) (n : ℕ) → n ≡ length text → cond (nat_lt n (length text)) (Some n) None ≡ None
at_end p text n e = ap (λ b. cond b (Some n) None) (le-ltb n (length text) (omega arith))

within : (p : ℕ → Bool) (text : List ℕ) (n k : ℕ) → n ≡ k → k < length text → cond (nat_lt n (length text)) (Some n) None ≡ Some k
within p text n k e h = ap (λ b. cond b (Some n) None) (lt-ltb n (length text) (omega arith)) ∙ ap (λ m. Some m) e

-- a first place that passes a test is the first place that does
pub place_is : (p : ℕ → Bool) (text : List ℕ) (r : Option ℕ) → IsFirstByte p text r → r ≡ position p text
place_is p text None h =
    let none = λ (k : ℕ) (lt : k < length text). fails (p (get_or text k 0)) (h k (omega arith) lt) in
    sym (at_end p text (position_or_len p text) (position_or_len_is p text (length text) 0 (omega arith) none (λ lt. absurd (omega arith))))
place_is p text (Some k) (h, at) =
    let none = λ (j : ℕ) (lt : j < k). fails (p (get_or text j 0)) (h.before j (omega arith) lt) in
    sym (within p text (position_or_len p text) k (position_or_len_is p text k 0 (omega (arith, h.high)) none (λ _. at)) h.high)
