-- The program of an interior vector of generators where no vector is given: one with the last entry
-- 1 is looked for.
use Rattle.std.proofs.Common.{◌≡◌, ℕ, suc, List, [], ◌∷◌, ◌++◌, length, take, drop, All, refl, sym, ap, ap₂, ◌∙◌, subst, arith, ◌≤◌, ◌+◌, ◌-◌, ◌⊎◌, inl, inr, None, append_assoc, slice_index_or}
use Rattle.std.proofs.Math.ListN.{length-append}
use Rattle.std.proofs.lemmas.List.Elements.{All-take, All-drop}
use Rattle.exact_field.specs.Rational.{ℚ, zero_ℚ, one_ℚ, ◌+ℚ◌, ◌*ℚ◌, neg_ℚ, ◌≤ℚ◌, ◌<ℚ◌}
use Rattle.exact_field.specs.Vector.{entry, dot}
use Rattle.polyhedra.specs.Vectors.{AreWide, AtLeastZero, zeros, values, combination}
use Rattle.polyhedra.proofs.Algebra.{zero_add, zero_mul, one_mul, mul_zero}
use Rattle.polyhedra.proofs.Laws.{add_zero, le_refl, le_of_lt, mul_one, mul_comm, zero_lt_one}
use Rattle.polyhedra.proofs.Linear.{dot_comm, length-zeros}
use Rattle.polyhedra.proofs.Lists.{Nonneg, nonneg-nil, nonneg-cons}
use Rattle.polyhedra.proofs.Order.{lt_irrefl, le_or_lt, lt_of_le_of_lt, le_of_difference, not_lt_of_le, mul_negative, zero_or_positive, add_positive_right, add_zero_left, add_zero_right}
use Rattle.tableaux.specs.Table.{System, column_of, unit}
use Rattle.tableaux.specs.Simplex.{IsOptimal, IsInfeasible, IsUnbounded}
use Rattle.tableaux.proofs.Inverse.{dot-append}
use Rattle.tableaux.proofs.Places.{length-list_from}
use Rattle.tableaux.proofs.Ties.{column_entry}
use Rattle.tableaux.proofs.Unique.{entry-combination, column-long, dot-unit}
use Rattle.lp_form.specs.Programs.{generator_gaps, interior_of_generators}
use Rattle.lp_form.proofs.Systems.{found_ok, length-unit}
use Rattle.cone_rules.specs.Laws.{FoundProgram, IsPositiveCombination}
use Rattle.cone_rules.proofs.Parts.{ones, append_parts, zeros-append, all_entries, all_at, all_rows, nonneg_at, dot_parts_at, dot-zeros_left, values-append, optimal_at, infeasible_at}
use Rattle.cone_rules.proofs.Gaps.{gap, gap_long, gap_value, gap_product, gaps_values, gap_none, gap_first, gap_second, gap_third, gap_nothing, no_number, front_long, middle_long, four_parts, on_last, on_sum, two_after, ones_right}
use Rattle.cone_rules.proofs.Given.{nonneg_zeros, nonneg_ones, ones_long, nonneg_three}
use Rattle.cone_rules.proofs.Ranks.{unit_nonneg}

-- ---- what the multipliers say: p on the gaps, t on the last entry,
-- k on the equation that bounds e
module _ (n : ℕ) (p col : List ℚ) (t k bound : ℚ)
    (low : (a b : List ℚ) (e r : ℚ) → length a ≡ n → length b ≡ n → AtLeastZero a → AtLeastZero b → zero_ℚ ≤ℚ e → zero_ℚ ≤ℚ r →
    bound *ℚ e ≤ℚ gap_value n p a b e +ℚ (t *ℚ dot a col +ℚ k *ℚ (e +ℚ r))) where
  nothing : t *ℚ dot (zeros n) col +ℚ k *ℚ (zero_ℚ +ℚ zero_ℚ) ≡ zero_ℚ
  nothing =
      ap₂ (λ x y. x +ℚ y) (ap (λ x. t *ℚ x) (dot-zeros_left n col) ∙ mul_zero t) (ap (λ x. k *ℚ x) (add_zero zero_ℚ) ∙ mul_zero k) ∙ add_zero zero_ℚ

  pub first : (a : List ℚ) → length a ≡ n → AtLeastZero a → zero_ℚ ≤ℚ dot p a +ℚ t *ℚ dot a col
  first a long h =
      subst (λ (x : ℚ). x ≤ℚ dot p a +ℚ t *ℚ dot a col) (mul_zero bound)
      (subst (λ (x : ℚ). bound *ℚ zero_ℚ ≤ℚ x)
      (ap₂ (λ x y. x +ℚ (t *ℚ dot a col +ℚ y)) (gap_first n p a) (ap (λ x. k *ℚ x) (add_zero zero_ℚ) ∙ mul_zero k)
      ∙ ap (λ x. dot p a +ℚ x) (add_zero (t *ℚ dot a col)))
      (low a (zeros n) zero_ℚ zero_ℚ long (length-zeros n) h (nonneg_zeros n) (le_refl zero_ℚ) (le_refl zero_ℚ)))

  pub second : (b : List ℚ) → length b ≡ n → AtLeastZero b → zero_ℚ ≤ℚ neg_ℚ (dot p b)
  second b long h =
      subst (λ (x : ℚ). x ≤ℚ neg_ℚ (dot p b)) (mul_zero bound)
      (subst (λ (x : ℚ). bound *ℚ zero_ℚ ≤ℚ x) (ap₂ (λ x y. x +ℚ y) (gap_second n p b) nothing ∙ add_zero (neg_ℚ (dot p b)))
      (low (zeros n) b zero_ℚ zero_ℚ (length-zeros n) long (nonneg_zeros n) h (le_refl zero_ℚ) (le_refl zero_ℚ)))

  pub third : bound ≤ℚ neg_ℚ (dot p (ones n)) +ℚ k
  third =
      subst (λ (x : ℚ). x ≤ℚ neg_ℚ (dot p (ones n)) +ℚ k) (mul_one bound)
      (subst (λ (x : ℚ). bound *ℚ one_ℚ ≤ℚ x)
      (ap₂ (λ x y. x +ℚ y) (gap_third n p)
      (ap₂ (λ x y. x +ℚ y) (ap (λ x. t *ℚ x) (dot-zeros_left n col) ∙ mul_zero t) (ap (λ x. k *ℚ x) (add_zero one_ℚ) ∙ mul_one k) ∙ zero_add k))
      (low (zeros n) (zeros n) one_ℚ zero_ℚ (length-zeros n) (length-zeros n) (nonneg_zeros n) (nonneg_zeros n) (le_of_lt zero_ℚ one_ℚ zero_lt_one) (le_refl zero_ℚ)))

  pub fourth : zero_ℚ ≤ℚ k
  fourth =
      subst (λ (x : ℚ). x ≤ℚ k) (mul_zero bound)
      (subst (λ (x : ℚ). bound *ℚ zero_ℚ ≤ℚ x)
      (ap₂ (λ x y. x +ℚ y) (gap_nothing n p)
      (ap₂ (λ x y. x +ℚ y) (ap (λ x. t *ℚ x) (dot-zeros_left n col) ∙ mul_zero t) (ap (λ x. k *ℚ x) (zero_add one_ℚ) ∙ mul_one k) ∙ zero_add k)
      ∙ zero_add k)
      (low (zeros n) (zeros n) zero_ℚ one_ℚ (length-zeros n) (length-zeros n) (nonneg_zeros n) (nonneg_zeros n) (le_refl zero_ℚ) (le_of_lt zero_ℚ one_ℚ zero_lt_one)))

  -- with a vector whose product with the last entries is 1, the multipliers of an optimum of 0
  -- contradict each other
  pub positive_sum : (a : List ℚ) → length a ≡ n → AtLeastZero a → dot a col ≡ one_ℚ → bound ≡ one_ℚ → t +ℚ k ≡ zero_ℚ → ⊥
  positive_sum a long h one bounded none =
      let t_low : zero_ℚ ≤ℚ t =
      subst (λ (x : ℚ). zero_ℚ ≤ℚ x) (ap (λ x. t *ℚ x) one ∙ mul_one t) (nonneg_at (dot p a) (t *ℚ dot a col) (second a long h) (first a long h)) in
      let t_zero : t ≡ zero_ℚ = add_zero_left t k t_low fourth none in
      let k_zero : k ≡ zero_ℚ = add_zero_right t k t_low fourth none in
      no_number (dot p (ones n))
      (subst (λ (x : ℚ). zero_ℚ ≤ℚ x)
      (ap (λ x. dot p (ones n) +ℚ x *ℚ dot (ones n) col) t_zero ∙ ap (λ x. dot p (ones n) +ℚ x) (zero_mul (dot (ones n) col)) ∙ add_zero (dot p (ones n)))
      (first (ones n) (ones_long n) (nonneg_ones n)))
      (subst (λ (x : ℚ). x ≤ℚ neg_ℚ (dot p (ones n))) bounded
      (subst (λ (x : ℚ). bound ≤ℚ x) (ap (λ x. neg_ℚ (dot p (ones n)) +ℚ x) k_zero ∙ add_zero (neg_ℚ (dot p (ones n)))) third))

  -- where t is negative no entry of the column is positive
  pub none_positive : t <ℚ zero_ℚ → (g : ℕ) → 1 ≤ g → g ≤ n → entry col g ≤ℚ zero_ℚ
  none_positive below g l u = go (le_or_lt (entry col g) zero_ℚ)
    where
      product : zero_ℚ ≤ℚ entry col g *ℚ t
      product =
          subst (λ (x : ℚ). zero_ℚ ≤ℚ x) (mul_comm t (dot (unit n g) col) ∙ ap (λ x. x *ℚ t) (dot-unit n g col l u))
          (nonneg_at (dot p (unit n g)) (t *ℚ dot (unit n g) col) (second (unit n g) (length-unit n g) (unit_nonneg n g))
          (first (unit n g) (length-unit n g) (unit_nonneg n g)))

      go : (entry col g ≤ℚ zero_ℚ) ⊎ (zero_ℚ <ℚ entry col g) → entry col g ≤ℚ zero_ℚ
      go (inl h) = h
      go (inr h) = absurd (not_lt_of_le zero_ℚ (entry col g *ℚ t) product (mul_negative (entry col g) t h below))

module _ (q : ℕ) (vectors : List (List ℚ)) (w : AreWide q vectors) where
  abbrev n : ℕ
  n = length vectors

  abbrev s : System
  s = interior_of_generators q vectors None

  abbrev col : List ℚ
  col = column_of vectors q

  found_values : (a b : List ℚ) (e r : ℚ) → length a ≡ n → length b ≡ n →
      values s.equations (a ++ (b ++ e ∷ r ∷ [])) ≡ gap n a b e ++ dot a col ∷ (e +ℚ r) ∷ []
  found_values a b e r h k =
      values-append (generator_gaps n 1) ((col ++ zeros (n + 2)) ∷ (zeros (n + n) ++ one_ℚ ∷ one_ℚ ∷ []) ∷ []) (a ++ (b ++ e ∷ r ∷ []))
      ∙ ap₂ (λ x y. x ++ y) (gaps_values n 1 a b (r ∷ []) e h k)
      (ap₂ (λ x y. x ∷ y ∷ [])
      (dot-append col (zeros (n + 2)) a (b ++ e ∷ r ∷ []) (column-long vectors q ∙ sym h)
      ∙ ap₂ (λ x y. x +ℚ y) (dot_comm col a) (dot-zeros_left (n + 2) (b ++ e ∷ r ∷ [])) ∙ add_zero (dot a col))
      (ap (λ v. dot (zeros (n + n) ++ one_ℚ ∷ one_ℚ ∷ []) v) (sym (append_assoc a b (e ∷ r ∷ [])))
      ∙ dot-append (zeros (n + n)) (one_ℚ ∷ one_ℚ ∷ []) (a ++ b) (e ∷ r ∷ []) (length-zeros (n + n) ∙ sym (length-append a b ∙ ap₂ (λ x y. x + y) h k))
      ∙ ap₂ (λ x y. x +ℚ y) (dot-zeros_left (n + n) (a ++ b)) (ap₂ (λ x y. x +ℚ y) (one_mul e) (add_zero (one_ℚ *ℚ r) ∙ one_mul r)) ∙ zero_add (e +ℚ r)))

  equations_many : length s.equations ≡ n + 2
  equations_many =
      length-append (generator_gaps n 1) ((col ++ zeros (n + 2)) ∷ (zeros (n + n) ++ one_ℚ ∷ one_ℚ ∷ []) ∷ []) ∙ ap (λ k. k + 2) (length-list_from 1 n _)

  unknowns : length s.cost ≡ n + n + 2
  unknowns = length-append (zeros (n + n)) (one_ℚ ∷ zero_ℚ ∷ []) ∙ ap (λ k. k + 2) (length-zeros (n + n))

  cost_is : (a b : List ℚ) (e r : ℚ) → length a ≡ n → length b ≡ n → dot s.cost (a ++ (b ++ e ∷ r ∷ [])) ≡ e
  cost_is a b e r h k =
      ap (λ v. dot s.cost v) (sym (append_assoc a b (e ∷ r ∷ [])))
      ∙ dot-append (zeros (n + n)) (one_ℚ ∷ zero_ℚ ∷ []) (a ++ b) (e ∷ r ∷ []) (length-zeros (n + n) ∙ sym (length-append a b ∙ ap₂ (λ x y. x + y) h k))
      ∙ ap₂ (λ x y. x +ℚ y) (dot-zeros_left (n + n) (a ++ b)) (ap₂ (λ x y. x +ℚ y) (one_mul e) (add_zero (zero_ℚ *ℚ r) ∙ zero_mul r) ∙ add_zero e) ∙ zero_add e

  cost_at : (z : List ℚ) → length z ≡ n + n + 2 → dot s.cost z ≡ entry z (suc (n + n))
  cost_at z long =
      ap (λ v. dot s.cost v) (four_parts n z long)
      ∙ cost_is (take n z) (take n (drop n z)) (entry z (suc (n + n))) (entry z (suc (suc (n + n)))) (front_long n 2 z long) (middle_long n 2 z long)

  said : (y a b : List ℚ) (e r : ℚ) → length y ≡ length s.equations → length a ≡ n → length b ≡ n →
      dot y (values s.equations (a ++ (b ++ e ∷ r ∷ []))) ≡ gap_value n (take n y) a b e +ℚ (on_last n y *ℚ dot a col +ℚ on_sum n y *ℚ (e +ℚ r))
  said y a b e r i h k =
      ap (λ v. dot y v) (found_values a b e r h k) ∙ dot_parts_at n y (gap n a b e) (dot a col ∷ (e +ℚ r) ∷ []) (gap_long n a b e h k)
      ∙ ap₂ (λ x z. x +ℚ z) (gap_product n (take n y) a b e) (two_after n y (dot a col) (e +ℚ r) (i ∙ equations_many))

  part_long : (a b : List ℚ) (e r : ℚ) → length a ≡ n → length b ≡ n → length (a ++ (b ++ e ∷ r ∷ [])) ≡ length s.cost
  part_long a b e r h k = omega (arith, length-append a (b ++ e ∷ r ∷ []), length-append b (e ∷ r ∷ []), unknowns, h, k)

  two_nonneg : (e r : ℚ) → zero_ℚ ≤ℚ e → zero_ℚ ≤ℚ r → AtLeastZero (e ∷ r ∷ [])
  two_nonneg e r h k = nonneg-cons e (r ∷ []) h (nonneg-cons r [] k nonneg-nil)

  optimal_low : (x y a b : List ℚ) (e r : ℚ) → IsOptimal s x y → length a ≡ n → length b ≡ n → AtLeastZero a → AtLeastZero b → zero_ℚ ≤ℚ e → zero_ℚ ≤ℚ r →
      one_ℚ *ℚ e ≤ℚ gap_value n (take n y) a b e +ℚ (on_last n y *ℚ dot a col +ℚ on_sum n y *ℚ (e +ℚ r))
  optimal_low x y a b e r h a_long b_long i j k l =
      subst (λ (c : ℚ). one_ℚ *ℚ e ≤ℚ c) (said y a b e r h.one_each a_long b_long)
      (subst (λ (c : ℚ). c ≤ℚ dot y (values s.equations (a ++ (b ++ e ∷ r ∷ [])))) (cost_is a b e r a_long b_long ∙ sym (one_mul e))
      (optimal_at s x y (a ++ (b ++ e ∷ r ∷ [])) (found_ok q vectors) h (part_long a b e r a_long b_long) (nonneg_three a b (e ∷ r ∷ []) i j (two_nonneg e r k l))))

  infeasible_low : (y a b : List ℚ) (e r : ℚ) → IsInfeasible s y → length a ≡ n → length b ≡ n → AtLeastZero a → AtLeastZero b → zero_ℚ ≤ℚ e → zero_ℚ ≤ℚ r →
      zero_ℚ *ℚ e ≤ℚ gap_value n (take n y) a b e +ℚ (on_last n y *ℚ dot a col +ℚ on_sum n y *ℚ (e +ℚ r))
  infeasible_low y a b e r h a_long b_long i j k l =
      subst (λ (c : ℚ). zero_ℚ *ℚ e ≤ℚ c) (said y a b e r h.one_each a_long b_long)
      (subst (λ (c : ℚ). c ≤ℚ dot y (values s.equations (a ++ (b ++ e ∷ r ∷ [])))) (sym (zero_mul e))
      (infeasible_at s y (a ++ (b ++ e ∷ r ∷ [])) (found_ok q vectors) h (part_long a b e r a_long b_long) (nonneg_three a b (e ∷ r ∷ []) i j (two_nonneg e r k l))))

  -- a solution in its parts
  solved : (z : List ℚ) (c d : ℚ) → length z ≡ n + n + 2 → values s.equations z ≡ zeros n ++ c ∷ d ∷ [] →
      (gap n (take n z) (take n (drop n z)) (entry z (suc (n + n))) ≡ zeros n)
      × (dot (take n z) col ∷ (entry z (suc (n + n)) +ℚ entry z (suc (suc (n + n)))) ∷ [] ≡ c ∷ d ∷ [])
  solved z c d long h =
      let front : length (take n z) ≡ n = front_long n 2 z long in
      let middle : length (take n (drop n z)) ≡ n = middle_long n 2 z long in
      append_parts (gap n (take n z) (take n (drop n z)) (entry z (suc (n + n))))
      (dot (take n z) col ∷ (entry z (suc (n + n)) +ℚ entry z (suc (suc (n + n)))) ∷ []) (zeros n) (c ∷ d ∷ [])
      (gap_long n (take n z) (take n (drop n z)) (entry z (suc (n + n))) front middle ∙ sym (length-zeros n))
      (sym (found_values (take n z) (take n (drop n z)) (entry z (suc (n + n))) (entry z (suc (suc (n + n)))) front middle)
      ∙ ap (λ v. values s.equations v) (sym (four_parts n z long)) ∙ h)

  at_place : (z : List ℚ) (j : ℕ) → AtLeastZero z → 1 ≤ j → j ≤ length z → zero_ℚ ≤ℚ entry z j
  at_place z j h l u = all_at Nonneg z j h l u

  cost_positive : (x dual : List ℚ) → IsOptimal s x dual → zero_ℚ <ℚ entry x (suc (n + n))
  cost_positive x dual h = go (zero_or_positive (entry x (suc (n + n))) (at_place x (suc (n + n)) h.solves.at_least_zero (omega arith) (omega (arith, long))))
    where
      long : length x ≡ n + n + 2
      long = h.wide ∙ unknowns

      go : (entry x (suc (n + n)) ≡ zero_ℚ) ⊎ (zero_ℚ <ℚ entry x (suc (n + n))) → zero_ℚ <ℚ entry x (suc (n + n))
      go (inr p) = p
      go (inl e) = absurd (positive_sum n (take n dual) col (on_last n dual) (on_sum n dual) one_ℚ
          (λ a b e r i j k l f g. optimal_low x dual a b e r h i j k l f g)
          (take n x) (front_long n 2 x long) (All-take Nonneg n x h.solves.at_least_zero)
          (ap (λ v. slice_index_or v 0 zero_ℚ) (solved x one_ℚ one_ℚ long h.solves.equal).1) refl
          (sym (ones_right n dual (h.one_each ∙ equations_many)) ∙ sym h.equal ∙ cost_at x long ∙ e))

  optimal : (x dual : List ℚ) → IsOptimal s x dual →
      IsPositiveCombination q vectors (take n x) (combination q (take n x) vectors) × (entry (combination q (take n x) vectors) q ≡ one_ℚ)
  optimal x dual h =
      let long : length x ≡ n + n + 2 = h.wide ∙ unknowns in (
        record {
          one_each = front_long n 2 x long;
          sign = all_entries (λ y. zero_ℚ <ℚ y) (take n x)
              (λ g l u. let high : g ≤ n = omega (arith, u, front_long n 2 x long) in
              subst (λ (y : ℚ). zero_ℚ <ℚ y) (sym (gap_none n (take n x) (take n (drop n x)) (entry x (suc (n + n))) g (solved x one_ℚ one_ℚ long h.solves.equal).0 l high))
              (add_positive_right (entry (take n (drop n x)) g) (entry x (suc (n + n)))
              (all_at Nonneg (take n (drop n x)) g (All-take Nonneg n (drop n x) (All-drop Nonneg n x h.solves.at_least_zero)) l (omega (arith, high, middle_long n 2 x long)))
              (cost_positive x dual h)));
          combined = refl;
        },
        entry-combination q (take n x) vectors q ∙ ap (λ v. slice_index_or v 0 zero_ℚ) (solved x one_ℚ one_ℚ long h.solves.equal).1,
      )

  last_below : (y : List ℚ) → IsInfeasible s y → on_last n y <ℚ zero_ℚ
  last_below y h =
      lt_of_le_of_lt (on_last n y) (on_last n y +ℚ on_sum n y) zero_ℚ
      (le_of_difference (on_last n y) (on_last n y +ℚ on_sum n y) (on_sum n y)
      (fourth n (take n y) col (on_last n y) (on_sum n y) zero_ℚ (λ a b e r i j k l f g. infeasible_low y a b e r h i j k l f g)) refl)
      (subst (λ (c : ℚ). c <ℚ zero_ℚ) (ones_right n y (h.one_each ∙ equations_many)) h.below)

  infeasible : (y : List ℚ) → IsInfeasible s y → All (λ v. entry v q ≤ℚ zero_ℚ) vectors
  infeasible y h =
      all_rows (λ v. entry v q ≤ℚ zero_ℚ) vectors
      (λ g l u. subst (λ (c : ℚ). c ≤ℚ zero_ℚ) (column_entry vectors q (g - 1) (omega (arith, l, u)))
      (none_positive n (take n y) col (on_last n y) (on_sum n y) zero_ℚ (λ a b e r i j k l f g. infeasible_low y a b e r h i j k l f g) (last_below y h) g l u))

  never_unbounded : (x ray : List ℚ) → IsUnbounded s x ray → ⊥
  never_unbounded x ray h =
      let long : length ray ≡ n + n + 2 = h.ray_wide ∙ unknowns in
      let sum : entry ray (suc (n + n)) +ℚ entry ray (suc (suc (n + n))) ≡ zero_ℚ =
      ap (λ v. slice_index_or v 1 zero_ℚ) (solved ray zero_ℚ zero_ℚ long (h.along.equal ∙ ap zeros equations_many ∙ zeros-append n 2)).1 in
      let none : entry ray (suc (n + n)) ≡ zero_ℚ =
      add_zero_left (entry ray (suc (n + n))) (entry ray (suc (suc (n + n))))
      (at_place ray (suc (n + n)) h.along.at_least_zero (omega arith) (omega (arith, long)))
      (at_place ray (suc (suc (n + n))) h.along.at_least_zero (omega arith) (omega (arith, long))) sum in
      lt_irrefl zero_ℚ (subst (λ (c : ℚ). zero_ℚ <ℚ c) (cost_at ray long ∙ none) h.rises)

pub found_program : FoundProgram
found_program =
    record {
      optimal = λ q vectors x dual w h. optimal q vectors w x dual h;
      infeasible = λ q vectors y w h. infeasible q vectors w y h;
      bounded = λ q vectors x ray w h. never_unbounded q vectors w x ray h;
    }
