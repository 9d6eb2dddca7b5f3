-- The program of vectors that combine to 0.
use Rattle.std.proofs.Common.{◌≡◌, ◌≢◌, ℕ, List, [], ◌∷◌, ◌++◌, length, map, take, drop, All, refl, sym, ap, ap₂, ◌∙◌, subst, arith, ◌<◌, ◌≤◌, ◌+◌, slice_index_or, true, not, nat_lt}
use Rattle.std.specs.Prelude.{◌&&◌, AllPairs}
use Rattle.std.proofs.Math.ListN.{length-append, length-replicate}
use Rattle.std.proofs.lemmas.List.{length-take-le, length-drop}
use Rattle.std.proofs.lemmas.List.Elements.{All-head, All-tail, All-map, All-weaker}
use Rattle.exact_field.specs.Rational.{ℚ, zero_ℚ, one_ℚ, ◌+ℚ◌, ◌*ℚ◌, neg_ℚ, ◌≤ℚ◌, ◌<ℚ◌}
use Rattle.exact_field.specs.Vector.{entry, dot, sum_ℚ}
use Rattle.frac128.specs.Sparse.{is_zero, rises_above}
use Rattle.frac128.specs.declared.vectors.Spot.{Spot}
use Rattle.polyhedra.specs.Cone.{IsGenerated, IsInCone, IsInDual, IsInterior}
use Rattle.polyhedra.specs.Negatives.{negated}
use Rattle.polyhedra.specs.Sparse.{IsSparse}
use Rattle.polyhedra.specs.Vectors.{AreWide, zeros, values, combination}
use Rattle.polyhedra.proofs.Algebra.{zero_add}
use Rattle.polyhedra.proofs.Duality.{dual_cones}
use Rattle.polyhedra.proofs.Laws.{add_assoc, add_comm, add_neg, add_zero, mul_one, zero_lt_one}
use Rattle.polyhedra.proofs.Linear.{dot_comm, dot-zeros, dot-combination, length-combination, length-zeros}
use Rattle.polyhedra.proofs.Members.{pairs-nil, pairs-cons}
use Rattle.polyhedra.proofs.Order.{lt_irrefl, lt_of_lt_of_le, le_of_difference, neg_positive}
use Rattle.polyhedra.proofs.Sparse.{product_of_sparse}
use Rattle.polyhedra.proofs.Tests.{both_true}
use Rattle.polyhedra.proofs.Negatives.{dot-negated_left}
use Rattle.tableaux.specs.Table.{Table, row_of, column_of, listed, unit}
use Rattle.tableaux.specs.Simplex.{IsOptimal, IsInfeasible, IsUnbounded}
use Rattle.tableaux.proofs.Definition.{unit_value}
use Rattle.tableaux.proofs.Places.{length-list_from}
use Rattle.vlp_problem.specs.declared.problem.Cone.TheVariants.{Gens}
use Rattle.upper_image.specs.Spots.{entry_of, dense, IsVector}
use Rattle.upper_image.proofs.Absorbing.{zero_at_interior}
use Rattle.lp_form.specs.Programs.{zero_combination}
use Rattle.lp_form.proofs.Systems.{combination_ok}
use Rattle.cone_rules.specs.Faults.{HasNoLine, IsFirstOf, IsZeroCombination}
use Rattle.cone_rules.specs.Laws.{PointedProgram, IsSpread}
use Rattle.cone_rules.proofs.Parts.{ones, append_parts, one_left, all_rows, zero_of_both, dot_parts_at, dot-zeros_left, dot-unit_right, entry-ones, values-append, values_columns, infeasible_at}
use Rattle.cone_rules.proofs.Ranks.{unit_nonneg}
use Rattle.cone_rules.proofs.Rows.{kept, kept_wide, row_tests, spread_dot, spread_combination, spread_well, IsSpreadWell, spots_of, IsSpotOf}

-- ---- the values of the program's equations
pub zero_values : (q : ℕ) (vectors : Table) (z : List ℚ) → AreWide q vectors →
    values (zero_combination q vectors).equations z ≡ combination q z vectors ++ dot (ones (length vectors)) z ∷ []
zero_values q vectors z w =
    values-append (listed q (column_of vectors)) (ones (length vectors) ∷ []) z ∙ ap (λ v. v ++ dot (ones (length vectors)) z ∷ []) (values_columns q vectors z w)

many : (q : ℕ) (vectors : Table) → length (zero_combination q vectors).equations ≡ q + 1
many q vectors = length-append (listed q (column_of vectors)) (ones (length vectors) ∷ []) ∙ ap (λ k. k + 1) (length-list_from 1 q (column_of vectors))

-- ---- without a solution
module _ (q : ℕ) (vectors : Table) (y : List ℚ) (w : AreWide q vectors) (h : IsInfeasible (zero_combination q vectors) y) where
  abbrev n : ℕ
  n = length vectors

  last : ℚ
  last = slice_index_or (drop q y) 0 zero_ℚ

  last_alone : drop q y ≡ slice_index_or (drop q y) 0 zero_ℚ ∷ []
  last_alone = one_left (drop q y) (length-drop q y ∙ omega (arith, h.one_each, many q vectors))

  pub front_long : length (take q y) ≡ q
  front_long = length-take-le q y (omega (arith, h.one_each, many q vectors))

  said : (a : List ℚ) (x : ℚ) → length a ≡ q → dot y (a ++ x ∷ []) ≡ dot (take q y) a +ℚ slice_index_or (drop q y) 0 zero_ℚ *ℚ x
  said a x long =
      dot_parts_at q y a (x ∷ []) long
      ∙ ap (λ v. dot (take q y) a +ℚ dot v (x ∷ [])) last_alone
      ∙ ap (λ b. dot (take q y) a +ℚ b) (add_zero (slice_index_or (drop q y) 0 zero_ℚ *ℚ x))

  last_negative : slice_index_or (drop q y) 0 zero_ℚ <ℚ zero_ℚ
  last_negative =
      subst (λ (x : ℚ). x <ℚ zero_ℚ)
      (said (zeros q) one_ℚ (length-zeros q) ∙ ap₂ (λ a b. a +ℚ b) (dot-zeros (take q y) q) (mul_one (slice_index_or (drop q y) 0 zero_ℚ))
      ∙ zero_add (slice_index_or (drop q y) 0 zero_ℚ))
      h.below

  at_row : (g : ℕ) → 1 ≤ g → g ≤ n → zero_ℚ ≤ℚ dot (row_of vectors g) (take q y) +ℚ slice_index_or (drop q y) 0 zero_ℚ
  at_row g l u =
      subst (λ (x : ℚ). zero_ℚ ≤ℚ x)
      (ap (λ v. dot y v) (zero_values q vectors (unit n g) w)
      ∙ said (combination q (unit n g) vectors) (dot (ones n) (unit n g)) (length-combination q (unit n g) vectors w)
      ∙ ap₂ (λ a b. a +ℚ b) (dot-combination q (take q y) (unit n g) vectors ∙ unit_value vectors (take q y) g l u)
      (ap (λ x. slice_index_or (drop q y) 0 zero_ℚ *ℚ x) (dot-unit_right n g (ones n) l u ∙ entry-ones n g l u) ∙ mul_one (slice_index_or (drop q y) 0 zero_ℚ)))
      (infeasible_at (zero_combination q vectors) y (unit n g) (combination_ok q vectors) h (length-list_from 1 n _ ∙ sym (length-zeros n)) (unit_nonneg n g))

  pub positive_rows : All (λ v. zero_ℚ <ℚ dot v (take q y)) vectors
  positive_rows =
      all_rows (λ v. zero_ℚ <ℚ dot v (take q y)) vectors
      (λ g l u. over (dot (row_of vectors g) (take q y)) (slice_index_or (drop q y) 0 zero_ℚ) last_negative (at_row g l u))
    where
      over : (a t : ℚ) → t <ℚ zero_ℚ → zero_ℚ ≤ℚ a +ℚ t → zero_ℚ <ℚ a
      over a t below k =
          lt_of_lt_of_le zero_ℚ (neg_ℚ t) a (neg_positive t below)
          (le_of_difference (neg_ℚ t) a (a +ℚ t) k
          (add_comm (neg_ℚ t) (a +ℚ t) ∙ add_assoc a t (neg_ℚ t) ∙ ap (λ x. a +ℚ x) (add_neg t) ∙ add_zero a))

rows_inside : (q : ℕ) (vectors : List (List ℚ)) (y : List ℚ) → AreWide q vectors → IsInfeasible (zero_combination q (kept vectors)) y →
    IsInterior q (IsInCone q vectors) (take q y)
rows_inside q vectors y w h =
    row_tests.inside q vectors (take q y) w (front_long q (kept vectors) y (kept_wide q vectors w) h) (positive_rows q (kept vectors) y (kept_wide q vectors w) h)

-- a vector that is interior to the cone of the rows shows that the cone they generate has no line
no_line : (q : ℕ) (vectors : List (List ℚ)) (u : List ℚ) → AreWide q vectors → IsInterior q (IsInCone q vectors) u → HasNoLine q (Gens vectors)
no_line q vectors u w inner d h k =
    zero_at_interior q (IsInCone q vectors) u d inner (dual d h)
    (zero_of_both (dot d u) ((dual d h).within u inner.member)
    (subst (λ (x : ℚ). zero_ℚ ≤ℚ x) (dot-negated_left d u) ((dual (negated d) k).within u inner.member)))
  where
    dual : (e : List ℚ) → IsGenerated q vectors e → IsInDual q (IsInCone q vectors) e
    dual e g = (dual_cones.of_rows q vectors e w).1 g

-- ---- a solution
spot_sum : (n : ℕ) (m : List Spot) → All (λ s. (1 ≤ s.at) × (s.at ≤ n)) m →
    sum_ℚ (map (λ e. e.value *ℚ entry (ones n) e.place) (map entry_of m)) ≡ sum_ℚ (map (λ s. s.value) m)
spot_sum n [] h = refl
spot_sum n (s ∷ m) h =
    let here : (1 ≤ s.at) × (s.at ≤ n) = All-head (λ t. (1 ≤ t.at) × (t.at ≤ n)) s m h in
    ap₂ (λ a b. a +ℚ b) (ap (λ x. s.value *ℚ x) (entry-ones n s.at here.0 here.1) ∙ mul_one s.value)
    (spot_sum n m (All-tail (λ t. (1 ≤ t.at) × (t.at ≤ n)) s m h))

spots_rising : (m : List Spot) (low : ℕ) → rises_above low m ≡ true → AllPairs (λ d e. d.place < e.place) (map entry_of m)
spots_rising [] low h = pairs-nil (λ d e. d.place < e.place)
spots_rising (s ∷ m) low h =
    let first = both_true (nat_lt low s.at) (not (is_zero s.value) && rises_above s.at m) h in
    let second = both_true (not (is_zero s.value)) (rises_above s.at m) first.1 in
    pairs-cons (λ d e. d.place < e.place) (entry_of s) (map entry_of m)
    (All-map (λ e. s.at < e.place) entry_of m (All-weaker (IsSpotOf m s.at) (λ t. s.at < t.at) (λ t k. k.above) m (spots_of m s.at second.1)))
    (spots_rising m s.at second.1)

ones_are : (vectors : Table) → ones (length vectors) ≡ map (λ v. one_ℚ) vectors
ones_are [] = refl
ones_are (v ∷ vectors) = ap (λ xs. one_ℚ ∷ xs) (ones_are vectors)

-- the values of a sparse vector sum to its product with ones
pub total_of : (n : ℕ) (m : List Spot) → IsVector n m → sum_ℚ (map (λ s. s.value) m) ≡ dot (dense n m) (ones n)
total_of n m h = sym (spot_sum n m places) ∙ sym (product_of_sparse n (map entry_of m) (ones n) sparse (length-replicate n one_ℚ))
  where
    places : All (λ s. (1 ≤ s.at) × (s.at ≤ n)) m
    places i d l = let k = spots_of m 0 h.sparse i d l in let above : 0 < (slice_index_or m i d).at = k.above in (omega (arith, above), h.places i d l)

    sparse : IsSparse n (map entry_of m)
    sparse = record {
      from_one = All-map (λ e. 1 ≤ e.place) entry_of m (λ i d l. (places i d l).0);
      to_end = All-map (λ e. e.place ≤ n) entry_of m h.places;
      rising = spots_rising m 0 h.sparse;
    }

module _ (q : ℕ) (vectors : List (List ℚ)) (x dual : List ℚ) (m : List Spot) (w : AreWide q vectors)
    (h : IsOptimal (zero_combination q (kept vectors)) x dual) (k : IsSpread vectors x m) where
  solved : (combination q x (kept vectors) ≡ zeros q) × (dot (ones (length (kept vectors))) x ∷ [] ≡ one_ℚ ∷ [])
  solved =
      append_parts (combination q x (kept vectors)) (dot (ones (length (kept vectors))) x ∷ []) (zeros q) (one_ℚ ∷ [])
      (length-combination q x (kept vectors) (kept_wide q vectors w) ∙ sym (length-zeros q))
      (sym (zero_values q (kept vectors) x (kept_wide q vectors w)) ∙ h.solves.equal)

  total_one : sum_ℚ (map (λ s. s.value) m) ≡ one_ℚ
  total_one =
      total_of (length vectors) m k.vector ∙ ap₂ (λ a b. dot a b) k.numbers (ones_are vectors) ∙ spread_dot (λ v. one_ℚ) vectors x
      ∙ ap (λ v. dot x v) (sym (ones_are (kept vectors))) ∙ dot_comm x (ones (length (kept vectors))) ∙ ap (λ v. slice_index_or v 0 zero_ℚ) solved.1

  well : IsSpreadWell q vectors m
  well = spread_well q vectors x m k h.solves.at_least_zero

  names_one : m ≢ []
  names_one e =
      lt_irrefl zero_ℚ (subst (λ (r : ℚ). zero_ℚ <ℚ r) (sym total_one ∙ ap (λ l. sum_ℚ (map (λ s. s.value) l)) e) zero_lt_one)

  combines : (s : Spot) (more : List Spot) → m ≡ s ∷ more → IsZeroCombination q vectors m (row_of vectors s.at)
  combines s more e =
      record {
        vector = k.vector;
        sign = well.sign;
        total = total_one;
        named = well.named;
        combined = ap (λ v. combination q v vectors) k.numbers ∙ spread_combination q vectors x w ∙ solved.0;
        leads = subst (λ (l : List Spot). IsFirstOf vectors l (row_of vectors s.at)) (sym e) refl;
      }

never_rises : (q : ℕ) (vectors : List (List ℚ)) (x ray : List ℚ) → IsUnbounded (zero_combination q vectors) x ray → ⊥
never_rises q vectors x ray h = lt_irrefl zero_ℚ (subst (λ (r : ℚ). zero_ℚ <ℚ r) (dot-zeros_left (length vectors) ray) h.rises)

pub pointed_program : PointedProgram
pointed_program =
    record {
      generated = λ q vectors y w h. no_line q vectors (take q y) w (rows_inside q vectors y w h);
      rows = rows_inside;
      optimal = λ q vectors x dual m w h k. (names_one q vectors x dual m w h k, combines q vectors x dual m w h k);
      bounded = never_rises;
    }
