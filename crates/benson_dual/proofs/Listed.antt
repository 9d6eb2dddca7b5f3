-- Which facets are listed, by marks.
use Rattle.std.proofs.Common.{◌≡◌, ℕ, zero, suc, ◌+◌, ◌<◌, List, [], ◌∷◌, ◌++◌, length, Bool, true, false, refl, sym, ap, ◌∙◌, subst, arith, take, get_or}
use Rattle.std.specs.Prelude.{if◌then◌else◌, replicate, slice_set}
use Rattle.std.specs.List.{range_with_len}
use Rattle.std.specs.List.Sorted.{IsPermutation}
use Rattle.std.proofs.lemmas.List.{length-replicate, length-set, length-take-le, take_more}
use Rattle.std.proofs.lemmas.List.Sorted.{IsPermutation-cons, IsPermutation-middle, IsPermutation-pop_more, IsPermutation-refl, IsPermutation-trans}
use Rattle.benson_dual.specs.Order.{AreListed, unmarked_from}

-- nothing is marked
unmarked_all : (k n : ℕ) → unmarked_from k (replicate n false) ≡ range_with_len k n
unmarked_all k zero = refl
unmarked_all k (suc n) = ap (λ ks. k ∷ ks) (unmarked_all (suc k) n ∙ ap (λ j. range_with_len j n) (let e : suc k ≡ k + 1 = omega arith in e))

pub listed_none : (count : ℕ) (marks : List Bool) → marks ≡ replicate count false → AreListed count marks []
listed_none count marks are = record {
  long = ap length are ∙ length-replicate count false;
  parted = subst (IsPermutation (range_with_len 0 count)) (sym (ap (unmarked_from 0) are ∙ unmarked_all 0 count)) (IsPermutation-refl (range_with_len 0 count));
}

-- one more is marked
marked_one : (j : ℕ) (marks : List Bool) (k : ℕ) → k < length marks → get_or marks k false ≡ false →
    IsPermutation (unmarked_from j marks) ((j + k) ∷ unmarked_from j (slice_set marks k true))
marked_one j [] k low other = absurd (omega (arith, low))
marked_one j (false ∷ marks) zero low other =
    subst (λ i. IsPermutation (j ∷ unmarked_from (suc j) marks) (i ∷ unmarked_from (suc j) marks)) (let e : j ≡ j + 0 = omega arith in e)
    (IsPermutation-refl (j ∷ unmarked_from (suc j) marks))
marked_one j (true ∷ marks) zero low other = absurd (cc)
marked_one j (true ∷ marks) (suc k) low other =
    subst (λ i. IsPermutation (unmarked_from (suc j) marks) (i ∷ unmarked_from (suc j) (slice_set marks k true))) (let e : suc j + k ≡ j + suc k = omega arith in e)
    (marked_one (suc j) marks k (omega (arith, low)) other)
marked_one j (false ∷ marks) (suc k) low other =
    let rest : List ℕ = unmarked_from (suc j) (slice_set marks k true) in
    let i : ℕ = j + suc k in
    let there : IsPermutation (unmarked_from (suc j) marks) (i ∷ rest) =
    subst (λ i. IsPermutation (unmarked_from (suc j) marks) (i ∷ rest)) (let e : suc j + k ≡ j + suc k = omega arith in e)
    (marked_one (suc j) marks k (omega (arith, low)) other) in
    IsPermutation-trans (j ∷ unmarked_from (suc j) marks) (j ∷ i ∷ rest) (i ∷ j ∷ rest) (IsPermutation-cons j (unmarked_from (suc j) marks) (i ∷ rest) there)
    (IsPermutation-middle (j ∷ []) i rest)

pub listed_more : (count : ℕ) (marks : List Bool) (order : List ℕ) (k : ℕ) → AreListed count marks order → k < length marks → get_or marks k false ≡ false →
    AreListed count (slice_set marks k true) (order ++ k ∷ [])
listed_more count marks order k h low other = record {
  long = length-set marks k true ∙ h.long;
  parted = IsPermutation-pop_more (range_with_len 0 count) order (unmarked_from 0 marks) (unmarked_from 0 (slice_set marks k true)) k h.parted
      (subst (λ i. IsPermutation (unmarked_from 0 marks) (i ∷ unmarked_from 0 (slice_set marks k true))) (let e : 0 + k ≡ k = omega arith in e)
      (marked_one 0 marks k low other));
}

-- ---- the unmarked ones, one by one
unmarked-append : (k : ℕ) (xs ys : List Bool) → unmarked_from k (xs ++ ys) ≡ unmarked_from k xs ++ unmarked_from (k + length xs) ys
unmarked-append k [] ys = ap (λ j. unmarked_from j ys) (let e : k ≡ k + 0 = omega arith in e)
unmarked-append k (true ∷ xs) ys = unmarked-append (suc k) xs ys
    ∙ ap (λ j. unmarked_from (suc k) xs ++ unmarked_from j ys) (let e : suc k + length xs ≡ k + suc (length xs) = omega arith in e)
unmarked-append k (false ∷ xs) ys =
    ap (λ l. k ∷ l) (unmarked-append (suc k) xs ys
    ∙ ap (λ j. unmarked_from (suc k) xs ++ unmarked_from j ys) (let e : suc k + length xs ≡ k + suc (length xs) = omega arith in e))

unmarked_one : (k : ℕ) (b : Bool) → unmarked_from k (b ∷ []) ≡ (if b then [] else k ∷ [])
unmarked_one k true = refl
unmarked_one k false = refl

pub unmarked_more : (marks : List Bool) (k : ℕ) (b : Bool) → k < length marks → get_or marks k b ≡ b →
    unmarked_from 0 (take (k + 1) marks) ≡ unmarked_from 0 (take k marks) ++ (if b then [] else k ∷ [])
unmarked_more marks k b low is =
    ap (unmarked_from 0) (take_more marks k b low ∙ ap (λ (x : Bool). take k marks ++ x ∷ []) is)
    ∙ unmarked-append 0 (take k marks) (b ∷ [])
    ∙ ap (λ j. unmarked_from 0 (take k marks) ++ unmarked_from j (b ∷ []))
    (let l = length-take-le k marks (omega (arith, low)) in let e : 0 + length (take k marks) ≡ k = omega (arith, l) in e)
    ∙ ap (λ l. unmarked_from 0 (take k marks) ++ l) (unmarked_one k b)
