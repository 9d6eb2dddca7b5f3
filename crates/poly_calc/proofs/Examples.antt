-- The examples, computed.
use Rattle.std.proofs.Common.{◌≡◌, ℕ, List, [], ◌∷◌, ◌++◌, map, length, All, refl, sym, ap, ap₂, ◌∙◌, subst, arith, pos, slice_index_or}
use Rattle.std.proofs.lemmas.List.Elements.{All-head}
use Rattle.exact_field.specs.Gcd.{gcd}
use Rattle.exact_field.specs.Rational.{ℚ, zero_ℚ, one_ℚ, whole, fraction, ◌+ℚ◌, ◌*ℚ◌, neg_ℚ, le_ℚ, ◌≤ℚ◌, ◌<ℚ◌}
use Rattle.exact_field.specs.Vector.{entry, dot}
use Rattle.exact_field.proofs.Comparison.{same_ℚ-is}
use Rattle.exact_field.proofs.Inequalities.{neg-le, mul-nonnegative}
use Rattle.polyhedra.specs.Inequality.{Inequality}
use Rattle.polyhedra.specs.Vectors.{plus, scaled, values}
use Rattle.polyhedra.proofs.Laws.{le_refl, le_trans, le_of_lt, zero_lt_one, add_zero, mul_one}
use Rattle.polyhedra.proofs.Algebra.{zero_add, one_mul}
use Rattle.polyhedra.proofs.Linear.{dot-zeros}
use Rattle.polyhedra.proofs.Members.{all_of_members}
use Rattle.polyhedra.proofs.Order.{le_of_eq, not_lt_of_le, add_le_both, add_nonneg, mul_le}
use Rattle.vlp_problem.specs.Cells.{coefficient}
use Rattle.vlp_problem.specs.Sides.{numbers_from, unit, at_least, at_most, sides, sides_from, row_vector, IsFeasible, IsRecession}
use Rattle.vlp_problem.specs.declared.problem.Bound.TheVariants.{Double}
use Rattle.vlp_problem.specs.declared.problem.Cell.{Cell}
use Rattle.vlp_problem.specs.declared.problem.Problem.{Problem}
use Rattle.projection.specs.Associated.{cell}
use Rattle.poly_calc.specs.Sets.{IsInBoth, IsInSum, IsInJoin, IsInMap, objective_values}
use Rattle.poly_calc.specs.Examples.{minus_one, two, three, PartsExample, IsInterval, SetsExample, IntervalsExample}
use Rattle.poly_calc.proofs.Bounds.{AreWithin, in_bounds, of_bounds}
use Rattle.poly_calc.proofs.Sums.{cell_sum}

pub parts_example : PartsExample
unfolding whole neg_ℚ
parts_example = record {
  further = refl;
  units = refl;
  negatives = refl;
  entries = refl;
  sum = refl;
  side = refl;
  without_bound = refl;
  weights = refl;
  rows = refl;
  cols = refl;
}

-- ---- intervals
module _ (low high : ℚ) (file : Problem) (h : IsInterval low high file) where
  interval_in : (x : ℚ) → low ≤ℚ x → neg_ℚ high ≤ℚ neg_ℚ x → IsFeasible file (x ∷ [])
  interval_in x l u = of_bounds file (x ∷ []) (record {
    width = sym h.cols;
    of_rows = subst (AreWithin (λ i. cell_sum file.a i (entry (x ∷ []))) 1) (sym h.row_bounds) tt;
    of_cols = subst (AreWithin (entry (x ∷ [])) 1) (sym h.col_bounds) ((l, u), tt);
  })

  record IsBetween (v : List ℚ) : Type 0 where
    number : ℚ
    same : v ≡ number ∷ []
    at_least : low ≤ℚ number
    at_most : neg_ℚ high ≤ℚ neg_ℚ number

  interval_out : (v : List ℚ) → IsFeasible file v → IsBetween v
  interval_out v f = go v (f.width ∙ h.cols) (subst (AreWithin (entry v) 1) h.col_bounds (in_bounds file v f).of_cols)
    where
      go : (v : List ℚ) → length v ≡ 1 → AreWithin (entry v) 1 (Double low high ∷ []) → IsBetween v
      go [] e k = absurd (omega arith)
      go (x ∷ []) e k = record { number = x; same = refl; at_least = k.0.0; at_most = k.0.1 }
      go (x ∷ y ∷ v) e k = absurd (omega arith)

  interval_sides : sides file ≡ sides_from (unit 1) 1 (Double low high ∷ [])
  interval_sides = ap₂ (λ bs cs. sides_from (row_vector file) 1 bs ++ sides_from (unit file.cols) 1 cs) h.row_bounds h.col_bounds
      ∙ ap (λ n. sides_from (unit n) 1 (Double low high ∷ [])) h.cols

  stays : IsRecession file (zero_ℚ ∷ [])
  stays = record {
    width = sym h.cols;
    meets = all_of_members (λ (e : Inequality). zero_ℚ ≤ℚ dot e.normal (zero_ℚ ∷ [])) (sides file) (λ e m. le_of_eq zero_ℚ (dot e.normal (zero_ℚ ∷ [])) (sym (dot-zeros e.normal 1)));
  }

  record IsUpward (v : List ℚ) : Type 0 where
    number : ℚ
    same : v ≡ number ∷ []
    at_least_zero : zero_ℚ ≤ℚ number

  direction_out : (v : List ℚ) → IsRecession file v → IsUpward v
  direction_out v f = go v (f.width ∙ h.cols) (subst (λ (es : List Inequality). All (λ e. zero_ℚ ≤ℚ dot e.normal v) es) interval_sides f.meets)
    where
      go : (v : List ℚ) → length v ≡ 1 → All (λ (e : Inequality). zero_ℚ ≤ℚ dot e.normal v) (sides_from (unit 1) 1 (Double low high ∷ [])) → IsUpward v
      go [] e k = absurd (omega arith)
      go (x ∷ []) e k = record {
        number = x;
        same = refl;
        at_least_zero = subst (λ (q : ℚ). zero_ℚ ≤ℚ q) (add_zero (one_ℚ *ℚ x) ∙ one_mul x) (All-head (λ (e : Inequality). zero_ℚ ≤ℚ dot e.normal (x ∷ [])) (at_least (unit 1 1) low) (at_most (unit 1 1) high ∷ []) k);
      }
      go (x ∷ y ∷ v) e k = absurd (omega arith)

  objective_is : (x : ℚ) → objective_values file (x ∷ []) ≡ (two *ℚ x +ℚ zero_ℚ) ∷ []
  objective_is x = ap (λ (o : List Cell). values (map (λ i. map (λ j. coefficient o i j) (numbers_from 1 file.cols)) (numbers_from 1 file.objs)) (x ∷ [])) h.o
      ∙ ap₂ (λ (n m : ℕ). values (map (λ i. map (λ j. coefficient (cell 1 1 two ∷ []) i j) (numbers_from 1 n)) (numbers_from 1 m)) (x ∷ [])) h.cols h.objs

-- ---- numbers
zero_le_one : zero_ℚ ≤ℚ one_ℚ
zero_le_one = le_of_lt zero_ℚ one_ℚ zero_lt_one

one_le_two : one_ℚ ≤ℚ two
unfolding whole le_ℚ
one_le_two = refl

two_below_three : two <ℚ three
unfolding whole le_ℚ
two_below_three = refl

minus_one_below : minus_one <ℚ zero_ℚ
unfolding whole le_ℚ neg_ℚ
minus_one_below = refl

half_nonneg : zero_ℚ ≤ℚ fraction (pos 1) 2
unfolding whole fraction le_ℚ gcd
half_nonneg = refl

halves : fraction (pos 1) 2 +ℚ fraction (pos 1) 2 ≡ one_ℚ
unfolding whole fraction ◌+ℚ◌ le_ℚ gcd
halves = (same_ℚ-is (fraction (pos 1) 2 +ℚ fraction (pos 1) 2) one_ℚ).0 refl

mean : fraction (pos 3) 2 ≡ (fraction (pos 1) 2 *ℚ one_ℚ +ℚ fraction (pos 1) 2 *ℚ two) +ℚ (zero_ℚ +ℚ zero_ℚ)
unfolding whole fraction ◌+ℚ◌ ◌*ℚ◌ le_ℚ gcd
mean = (same_ℚ-is (fraction (pos 3) 2) ((fraction (pos 1) 2 *ℚ one_ℚ +ℚ fraction (pos 1) 2 *ℚ two) +ℚ (zero_ℚ +ℚ zero_ℚ))).0 refl

three_is : three ≡ one_ℚ +ℚ two
unfolding whole fraction ◌+ℚ◌ le_ℚ gcd
three_is = (same_ℚ-is three (one_ℚ +ℚ two)).0 refl

two_is : two ≡ two *ℚ one_ℚ +ℚ zero_ℚ
two_is = sym (add_zero (two *ℚ one_ℚ) ∙ mul_one two)

turned : (p q : ℚ) → p ≤ℚ q → neg_ℚ q ≤ℚ neg_ℚ p
turned p q h = neg-le p q ∙ h

back : (p q : ℚ) → neg_ℚ q ≤ℚ neg_ℚ p → p ≤ℚ q
back p q h = sym (neg-le p q) ∙ h

only : (v : List ℚ) (x y : ℚ) → x ∷ [] ≡ v → v ≡ y ∷ [] → x ≡ y
only v x y e f = ap (λ (w : List ℚ). slice_index_or w 0 zero_ℚ) (e ∙ f)

-- ---- sets
module _ (a b : Problem) (h : IsInterval zero_ℚ one_ℚ a) (g : IsInterval one_ℚ two b) where
  one_in : IsFeasible a (one_ℚ ∷ [])
  one_in = interval_in zero_ℚ one_ℚ a h one_ℚ zero_le_one (le_refl (neg_ℚ one_ℚ))

  one_in_second : IsFeasible b (one_ℚ ∷ [])
  one_in_second = interval_in one_ℚ two b g one_ℚ (le_refl one_ℚ) (turned one_ℚ two one_le_two)

  two_in_second : IsFeasible b (two ∷ [])
  two_in_second = interval_in one_ℚ two b g two one_le_two (le_refl (neg_ℚ two))

  not_in_both : IsInBoth a b (zero_ℚ ∷ []) → ⊥
  not_in_both k =
      let s : IsBetween one_ℚ two b g (zero_ℚ ∷ []) = interval_out one_ℚ two b g (zero_ℚ ∷ []) k.second in
      not_lt_of_le one_ℚ zero_ℚ (subst (λ (q : ℚ). one_ℚ ≤ℚ q) (sym (only (zero_ℚ ∷ []) zero_ℚ s.number refl s.same)) s.at_least) zero_lt_one

  not_in_sum : IsInSum a b (zero_ℚ ∷ []) → ⊥
  not_in_sum k =
      let s : IsBetween zero_ℚ one_ℚ a h k.x = interval_out zero_ℚ one_ℚ a h k.x k.first in
      let t : IsBetween one_ℚ two b g k.y = interval_out one_ℚ two b g k.y k.second in
      let e : zero_ℚ ≡ s.number +ℚ t.number = only (plus k.x k.y) zero_ℚ (s.number +ℚ t.number) k.same (ap₂ plus s.same t.same) in
      not_lt_of_le one_ℚ zero_ℚ (subst (λ (q : ℚ). q ≤ℚ zero_ℚ) (zero_add one_ℚ)
      (subst (λ (q : ℚ). zero_ℚ +ℚ one_ℚ ≤ℚ q) (sym e) (add_le_both zero_ℚ s.number one_ℚ t.number s.at_least t.at_least))) zero_lt_one

  not_in_join : IsInJoin a b (minus_one ∷ []) → ⊥
  not_in_join k =
      let s : IsBetween zero_ℚ one_ℚ a h k.x = interval_out zero_ℚ one_ℚ a h k.x k.first in
      let t : IsBetween one_ℚ two b g k.y = interval_out one_ℚ two b g k.y k.second in
      let p : IsUpward zero_ℚ one_ℚ a h k.r = direction_out zero_ℚ one_ℚ a h k.r k.first_direction in
      let q : IsUpward one_ℚ two b g k.t = direction_out one_ℚ two b g k.t k.second_direction in
      let e : minus_one ≡ (k.k *ℚ s.number +ℚ k.l *ℚ t.number) +ℚ (p.number +ℚ q.number) =
      only (plus (plus (scaled k.k k.x) (scaled k.l k.y)) (plus k.r k.t)) minus_one ((k.k *ℚ s.number +ℚ k.l *ℚ t.number) +ℚ (p.number +ℚ q.number)) k.same
      (ap₂ plus (ap₂ plus (ap (scaled k.k) s.same) (ap (scaled k.l) t.same)) (ap₂ plus p.same q.same)) in
      not_lt_of_le zero_ℚ minus_one (subst (λ (x : ℚ). zero_ℚ ≤ℚ x) (sym e)
      (add_nonneg (k.k *ℚ s.number +ℚ k.l *ℚ t.number) (p.number +ℚ q.number)
      (add_nonneg (k.k *ℚ s.number) (k.l *ℚ t.number) (mul-nonnegative k.k s.number k.k_at_least_zero s.at_least)
      (mul-nonnegative k.l t.number k.l_at_least_zero (le_trans zero_ℚ one_ℚ t.number zero_le_one t.at_least)))
      (add_nonneg p.number q.number p.at_least_zero q.at_least_zero))) minus_one_below

  not_in_map : IsInMap a (three ∷ []) → ⊥
  not_in_map k =
      let s : IsBetween zero_ℚ one_ℚ a h k.x = interval_out zero_ℚ one_ℚ a h k.x k.feasible in
      let e : three ≡ two *ℚ s.number +ℚ zero_ℚ = only (objective_values a k.x) three (two *ℚ s.number +ℚ zero_ℚ) k.same (ap (objective_values a) s.same ∙ objective_is zero_ℚ one_ℚ a h s.number) in
      not_lt_of_le three two (subst (λ (q : ℚ). q ≤ℚ two) (sym (e ∙ add_zero (two *ℚ s.number)))
      (subst (λ (q : ℚ). two *ℚ s.number ≤ℚ q) (mul_one two) (mul_le two s.number one_ℚ (le_trans zero_ℚ one_ℚ two zero_le_one one_le_two) (back s.number one_ℚ s.at_most)))) two_below_three

  pub sets_example : SetsExample a b
  sets_example = record {
    in_both = record { first = one_in; second = one_in_second };
    not_in_both = not_in_both;
    in_sum = record { x = one_ℚ ∷ []; y = two ∷ []; first = one_in; second = two_in_second; same = ap (λ q. q ∷ []) three_is };
    not_in_sum = not_in_sum;
    in_join = record {
      x = one_ℚ ∷ [];
      y = two ∷ [];
      r = zero_ℚ ∷ [];
      t = zero_ℚ ∷ [];
      k = fraction (pos 1) 2;
      l = fraction (pos 1) 2;
      first = one_in;
      second = two_in_second;
      first_direction = stays zero_ℚ one_ℚ a h;
      second_direction = stays one_ℚ two b g;
      k_at_least_zero = half_nonneg;
      l_at_least_zero = half_nonneg;
      whole = halves;
      same = ap (λ q. q ∷ []) mean;
    };
    not_in_join = not_in_join;
    in_map = record { x = one_ℚ ∷ []; feasible = one_in; same = ap (λ q. q ∷ []) two_is ∙ sym (objective_is zero_ℚ one_ℚ a h one_ℚ) };
    not_in_map = not_in_map;
  }

pub intervals_example : IntervalsExample
intervals_example a b h g = sets_example a b h g
