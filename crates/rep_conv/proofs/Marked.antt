-- Sets of the rows in use.
use Rattle.std.proofs.Common.{◌≡◌, ◌≢◌, ℕ, zero, suc, ◌+◌, ◌<◌, List, [], ◌∷◌, ◌++◌, length, set, slice_index_or, All, Bool, true, false, ◌==◌, ◌&&◌, ◌||◌, sym, ap, ap₂, ◌∙◌, subst, refl, arith, ◌⊎◌, inl, inr}
use Rattle.std.proofs.lemmas.Bool.{cases_eq, eq-eqb, ne_eqb}
use Rattle.std.proofs.lemmas.List.{get_or-set_other, get_or-set_same, length-replicate, length-set}
use Rattle.std.specs.List.{list_all, range_with_len}
use Rattle.std.proofs.lemmas.List.Elements.{All-head, All-tail, All-from_get_or}
use Rattle.std.proofs.lemmas.List.FromFn.{get_or-range_with_len, length-range_with_len}
use Rattle.std.proofs.lemmas.List.Folds.{list_any-append}
use Rattle.incid_sets.specs.Marks.{has, no_marks}
use Rattle.log_rules.specs.Live.{contains}
use Rattle.rep_conv.specs.Starting.{IsSetOf}

none_yet : (n k : ℕ) → has (no_marks n) k ≡ false
none_yet zero k = refl
none_yet (suc n) zero = refl
none_yet (suc n) (suc k) = none_yet n k

pub none_set : (n : ℕ) (marks : List Bool) → marks ≡ no_marks n → IsSetOf n [] marks
none_set n marks e = record {
  bounded = ap length e ∙ length-replicate n false;
  each = λ k l. ap (λ m. has m k) e ∙ none_yet n k;
}

-- one more number
pub one_more : (n : ℕ) (ks : List ℕ) (j : ℕ) (old new : List Bool) → IsSetOf n ks old → j < n → new ≡ set old j true → IsSetOf n (ks ++ j ∷ []) new
one_more n ks j old new h inside e = record {
  bounded = ap length e ∙ length-set old j true ∙ h.bounded;
  each = λ k l. ap (λ m. has m k) e ∙ go k l (cases_eq k j);
}
  where
    with_true : (a b : Bool) → b ≡ true → (a || (b || false)) ≡ true
    with_true true b t = refl
    with_true false true t = refl
    with_true false false t = t

    with_false : (a b : Bool) → b ≡ false → (a || (b || false)) ≡ a
    with_false true b t = refl
    with_false false true t = t
    with_false false false t = refl

    go : (k : ℕ) → k < n → (k ≡ j) ⊎ (k ≢ j) → has (set old j true) k ≡ contains (ks ++ j ∷ []) k
    go k l (inl same) =
        ap (has (set old j true)) same ∙ get_or-set_same old j true false (let b = h.bounded in omega (arith, b, inside))
        ∙ sym (list_any-append (λ i. i == k) ks (j ∷ []) ∙ with_true (contains ks k) (j == k) (eq-eqb j k (sym same)))
    go k l (inr other) =
        get_or-set_other old j k true false other ∙ h.each k l
        ∙ sym (list_any-append (λ i. i == k) ks (j ∷ []) ∙ with_false (contains ks k) (j == k) (ne_eqb j k (λ e. other (sym e))))

-- ---- all numbers
list_same : (p q : ℕ → Bool) (ks : List ℕ) → All (λ k. p k ≡ q k) ks → list_all p ks ≡ list_all q ks
list_same p q [] h = refl
list_same p q (k ∷ ks) h = ap₂ (λ (a b : Bool). a && b) (All-head (λ j. p j ≡ q j) k ks h) (list_same p q ks (All-tail (λ j. p j ≡ q j) k ks h))

pub all_are : (n : ℕ) (ks : List ℕ) (marks : List Bool) → IsSetOf n ks marks → list_all (has marks) (range_with_len 0 (length marks)) ≡ list_all (contains ks) (range_with_len 0 n)
all_are n ks marks h = ap (λ (m : ℕ). list_all (has marks) (range_with_len 0 m)) h.bounded
    ∙ list_same (has marks) (contains ks) (range_with_len 0 n) (All-from_get_or (λ k. has marks k ≡ contains ks k) (range_with_len 0 n) 0 (λ k l.
    let many : length (range_with_len 0 n) ≡ n = length-range_with_len 0 n in
    let inside : k < n = omega (arith, l, many) in
    let is : slice_index_or (range_with_len 0 n) k 0 ≡ 0 + k = get_or-range_with_len 0 n k 0 inside in
    let same : 0 + k ≡ k = omega arith in
    subst (λ (j : ℕ). has marks j ≡ contains ks j) (sym (is ∙ same)) (h.each k inside)))
