-- One addition, computed.
use Rattle.std.proofs.Common.{◌≡◌, ◌≢◌, ℕ, zero, suc, List, [], ◌∷◌, refl, ap₂, Bool, true, false, true≢false, sym, ◌&&◌, ◌<◌, arith, slice_index_or}
use Rattle.exact_field.specs.Gcd.{gcd}
use Rattle.exact_field.specs.Rational.{ℚ, zero_ℚ, whole, fraction, ◌+ℚ◌, ◌*ℚ◌, neg_ℚ, inverse_ℚ, le_ℚ, ◌<ℚ◌}
use Rattle.exact_field.specs.Vector.{dot}
use Rattle.polyhedra.specs.DoubleDescription.{is_zero, Pair, same_vector, new_pairs, addition}
use Rattle.polyhedra.specs.Examples.{wholes, three_rows, three_vectors, fourth_row, AdditionExample}
use Rattle.std.proofs.Common.{pos, negsuc}
use Rattle.polyhedra.proofs.Lists.{wide-nil, wide-cons}
use Rattle.polyhedra.proofs.Tests.{both_true, same_vector_is, zero_of_test}

same_all : List (List ℚ) → List (List ℚ) → Bool
same_all [] [] = true
same_all [] (y ∷ ys) = false
same_all (x ∷ xs) [] = false
same_all (x ∷ xs) (y ∷ ys) = same_vector x y && same_all xs ys

same_all_is : (xs ys : List (List ℚ)) → same_all xs ys ≡ true → xs ≡ ys
unfolding same_all
same_all_is [] [] h = refl
same_all_is [] (y ∷ ys) h = absurd (true≢false (sym h))
same_all_is (x ∷ xs) [] h = absurd (true≢false (sym h))
same_all_is (x ∷ xs) (y ∷ ys) h =
    let b : (same_vector x y ≡ true) × (same_all xs ys ≡ true) = both_true (same_vector x y) (same_all xs ys) h in
    ap₂ (λ p q. p ∷ q) (same_vector_is x y b.0) (same_all_is xs ys b.1)

generators_test : same_all (addition three_rows three_vectors fourth_row)
    (wholes (pos 1 ∷ pos 0 ∷ pos 0 ∷ []) ∷ wholes (negsuc 0 ∷ pos 1 ∷ pos 0 ∷ []) ∷ wholes (pos 0 ∷ pos 4 ∷ pos 1 ∷ []) ∷ wholes
    (negsuc 5 ∷ pos 6 ∷ pos 1 ∷ []) ∷ []) ≡ true
unfolding same_all whole fraction ◌+ℚ◌ ◌*ℚ◌ neg_ℚ inverse_ℚ le_ℚ gcd
generators_test = refl

same_pairs : List Pair → List Pair → Bool
same_pairs [] [] = true
same_pairs [] (y ∷ ys) = false
same_pairs (x ∷ xs) [] = false
same_pairs (x ∷ xs) (y ∷ ys) = same_vector x.plus_side y.plus_side && same_vector x.minus_side y.minus_side && same_pairs xs ys

same_pairs_is : (xs ys : List Pair) → same_pairs xs ys ≡ true → xs ≡ ys
unfolding same_pairs
same_pairs_is [] [] h = refl
same_pairs_is [] (y ∷ ys) h = absurd (true≢false (sym h))
same_pairs_is (x ∷ xs) [] h = absurd (true≢false (sym h))
same_pairs_is (x ∷ xs) (y ∷ ys) h =
    let b : ((same_vector x.plus_side y.plus_side && same_vector x.minus_side y.minus_side) ≡ true) × (same_pairs xs ys ≡ true) = both_true
    (same_vector x.plus_side y.plus_side && same_vector x.minus_side y.minus_side) (same_pairs xs ys) h in
    let d : (same_vector x.plus_side y.plus_side ≡ true) × (same_vector x.minus_side y.minus_side ≡ true) = both_true
    (same_vector x.plus_side y.plus_side) (same_vector x.minus_side y.minus_side) b.0 in
    ap₂ (λ p q. p ∷ q) (λ i. record { plus_side = same_vector_is x.plus_side y.plus_side d.0 i; minus_side = same_vector_is x.minus_side y.minus_side d.1 i }) (same_pairs_is xs ys b.1)

pairs_test : same_pairs (new_pairs three_rows three_vectors fourth_row)
    (record { plus_side = wholes (pos 1 ∷ pos 0 ∷ pos 0 ∷ []); minus_side = wholes (negsuc 3 ∷ pos 4 ∷ pos 1 ∷ []) }
    ∷ record { plus_side = wholes (negsuc 0 ∷ pos 1 ∷ pos 0 ∷ []); minus_side = wholes (negsuc 3 ∷ pos 4 ∷ pos 1 ∷ []) } ∷ []) ≡ true
unfolding same_pairs whole fraction ◌+ℚ◌ ◌*ℚ◌ neg_ℚ inverse_ℚ le_ℚ gcd
pairs_test = refl

three_positive : (i : ℕ) → i < 3 → zero_ℚ <ℚ dot (slice_index_or three_rows i []) (slice_index_or three_vectors i [])
unfolding whole fraction ◌+ℚ◌ ◌*ℚ◌ neg_ℚ inverse_ℚ le_ℚ gcd
three_positive zero h = refl
three_positive (suc zero) h = refl
three_positive (suc (suc zero)) h = refl
three_positive (suc (suc (suc i))) h = absurd (omega arith)

three_zero : (i j : ℕ) → i < 3 → j < 3 → i ≢ j → is_zero (dot (slice_index_or three_rows i []) (slice_index_or three_vectors j [])) ≡ true
unfolding whole fraction ◌+ℚ◌ ◌*ℚ◌ neg_ℚ inverse_ℚ le_ℚ gcd
three_zero zero zero h k e = absurd (e refl)
three_zero zero (suc zero) h k e = refl
three_zero zero (suc (suc zero)) h k e = refl
three_zero zero (suc (suc (suc j))) h k e = absurd (omega arith)
three_zero (suc zero) zero h k e = refl
three_zero (suc zero) (suc zero) h k e = absurd (e refl)
three_zero (suc zero) (suc (suc zero)) h k e = refl
three_zero (suc zero) (suc (suc (suc j))) h k e = absurd (omega arith)
three_zero (suc (suc zero)) zero h k e = refl
three_zero (suc (suc zero)) (suc zero) h k e = refl
three_zero (suc (suc zero)) (suc (suc zero)) h k e = absurd (e refl)
three_zero (suc (suc zero)) (suc (suc (suc j))) h k e = absurd (omega arith)
three_zero (suc (suc (suc i))) j h k e = absurd (omega arith)

pub addition_example : AdditionExample
addition_example = record {
  start = record {
    rows_wide = wide-cons 3 _ _ refl (wide-cons 3 _ _ refl (wide-cons 3 _ _ refl (wide-nil 3)));
    vectors_wide = wide-cons 3 _ _ refl (wide-cons 3 _ _ refl (wide-cons 3 _ _ refl (wide-nil 3)));
    rows_many = refl;
    vectors_many = refl;
    positive = three_positive;
    zero_elsewhere = λ i j h k e. zero_of_test (dot (slice_index_or three_rows i []) (slice_index_or three_vectors j [])) (three_zero i j h k e);
  };
  pairs = same_pairs_is _ _ pairs_test;
  generators = same_all_is _ _ generators_test;
}
