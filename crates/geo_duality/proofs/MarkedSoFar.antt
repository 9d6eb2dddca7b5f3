-- A set that is marked number by number: the numbers below k are marked where a test says so, and the others are not.
use Rattle.std.proofs.Common.{◌≡◌, ℕ, zero, suc, ◌+◌, ◌<◌, ◌≤◌, List, length, set, Bool, true, false, refl, sym, ap, ◌∙◌, arith, ◌⊎◌, inl, inr}
use Rattle.std.proofs.lemmas.Bool.{cases_lt}
use Rattle.std.proofs.lemmas.List.{get_or-set_other, get_or-set_same, length-replicate, length-set}
use Rattle.incid_sets.specs.Marks.{has, no_marks}

pub record IsMarkedBelow (bound k : ℕ) (test : ℕ → Bool) (marks : List Bool) : Type 0 where
  pub bounded : length marks ≡ bound
  pub done : (j : ℕ) → j < k → has marks j ≡ test j
  pub rest : (j : ℕ) → k ≤ j → has marks j ≡ false

none_yet : (n k : ℕ) → has (no_marks n) k ≡ false
none_yet zero k = refl
none_yet (suc n) zero = refl
none_yet (suc n) (suc k) = none_yet n k

pub none_marked : (bound : ℕ) (test : ℕ → Bool) (marks : List Bool) → marks ≡ no_marks bound → IsMarkedBelow bound 0 test marks
none_marked bound test marks e = record {
  bounded = ap length e ∙ length-replicate bound false;
  done = λ j h. absurd (omega arith);
  rest = λ j h. ap (λ m. has m j) e ∙ none_yet bound j;
}

module _ (bound k : ℕ) (test : ℕ → Bool) (old new : List Bool) (h : IsMarkedBelow bound k test old) where
  pub one_marked : new ≡ set old k true → k < bound → test k ≡ true → IsMarkedBelow bound (k + 1) test new
  one_marked e l t = record {
    bounded = ap length e ∙ length-set old k true ∙ h.bounded;
    done = λ j i. ap (λ m. has m j) e ∙ go j (cases_lt j k) i;
    rest = λ j i. ap (λ m. has m j) e ∙ get_or-set_other old k j true false (omega arith) ∙ h.rest j (omega arith);
  }
    where
      go : (j : ℕ) → (j < k) ⊎ (k ≤ j) → j < k + 1 → has (set old k true) j ≡ test j
      go j (inl less) i = get_or-set_other old k j true false (omega arith) ∙ h.done j less
      go j (inr other) i = let same : j ≡ k = omega arith in
          ap (has (set old k true)) same ∙ get_or-set_same old k true false (let b : length old ≡ bound = h.bounded in omega arith) ∙ sym t ∙ sym (ap test same)

  pub one_passed : new ≡ old → test k ≡ false → IsMarkedBelow bound (k + 1) test new
  one_passed e t = record {
    bounded = ap length e ∙ h.bounded;
    done = λ j i. ap (λ m. has m j) e ∙ go j (cases_lt j k) i;
    rest = λ j i. ap (λ m. has m j) e ∙ h.rest j (omega arith);
  }
    where
      go : (j : ℕ) → (j < k) ⊎ (k ≤ j) → j < k + 1 → has old j ≡ test j
      go j (inl less) i = h.done j less
      go j (inr other) i = let same : j ≡ k = omega arith in ap (has old) same ∙ h.rest k (omega arith) ∙ sym t ∙ sym (ap test same)
