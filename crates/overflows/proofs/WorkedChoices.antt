-- The base choice and the base rays of the file of one variable, computed: 4 is no choice, and 2 no
-- ray.
use Rattle.std.proofs.Common.{◌≡◌, ◌≢◌, ℕ, zero, suc, ◌<◌, ◌≤◌, Bool, true, false, true≢false, List, [], ◌∷◌, ◌++◌, length, take, drop, refl, sym, ap, ap₂, ◌∙◌, subst, arith, ◌⊎◌, inl, inr, pos, negsuc}
use Rattle.std.specs.Prelude.{if◌then◌else◌, flat_map}
use Rattle.std.proofs.Math.Dec.{lit≤, lit<}
use Rattle.exact_field.specs.Gcd.{gcd}
use Rattle.exact_field.specs.Rational.{ℚ, zero_ℚ, one_ℚ, whole, fraction, ◌+ℚ◌, ◌-ℚ◌, ◌*ℚ◌, neg_ℚ, inverse_ℚ, le_ℚ, lt_ℚ}
use Rattle.exact_field.specs.Vector.{entry, dot}
use Rattle.exact_field.specs.Ring.{num, ◌⊕◌, ◌⊗◌, ⊖, ◌⊝◌, v0, v1, v2, v3, v4, v5}
use Rattle.exact_field.proofs.RingTool.{ring}
use Rattle.exact_field.proofs.Rationals.{rationals}
use Rattle.polyhedra.specs.Vectors.{scaled}
use Rattle.polyhedra.proofs.Laws.{add_zero, mul_assoc}
use Rattle.polyhedra.proofs.Algebra.{mul_zero, zero_add, one_mul, neg_neg}
use Rattle.polyhedra.proofs.Order.{same_or_not}
use Rattle.polyhedra.proofs.Tests.{same_vector_is}
use Rattle.tableaux.specs.Table.{Table, System, IsSystem, at, row_of, column_of, listed, unit, table_of, first_cost_row, second_cost_row}
use Rattle.tableaux.specs.Dictionary.{basic_column, IsFullDictionaryOf}
use Rattle.tableaux.proofs.Places.{delta, delta-same, delta-other}
use Rattle.vlp_problem.specs.Sides.{IsFeasible}
use Rattle.lp_form.specs.Programs.{feasible_system, weight_system, choice_of}
use Rattle.lp_form.proofs.Systems.{feasible_ok, weight_ok}
use Rattle.overflows.specs.Base.{AreMultipliersOff, AreFirstMultipliersOff, IsBaseChoice, IsBaseRay}
use Rattle.overflows.specs.Examples.{n, minus}
use Rattle.overflows.specs.PairExamples.{narrow}
use Rattle.overflows.proofs.FullBases.{shares_of, length-shares, entry_by, cost_share, named_entry, named_low, named_high}
use Rattle.overflows.proofs.Values.{equal, apart}

-- ---- small facts
one_apart : one_ℚ ≡ zero_ℚ → ⊥
unfolding whole le_ℚ
one_apart = apart one_ℚ zero_ℚ refl

minus_apart : zero_ℚ ≡ neg_ℚ one_ℚ → ⊥
unfolding whole le_ℚ neg_ℚ
minus_apart = apart zero_ℚ (neg_ℚ one_ℚ) refl

neg_zero : neg_ℚ zero_ℚ ≡ zero_ℚ
unfolding whole le_ℚ neg_ℚ
neg_zero = equal (neg_ℚ zero_ℚ) zero_ℚ refl

-- the entries of a list of five
five : (v : List ℚ) → length v ≡ 5 → v ≡ entry v 1 ∷ entry v 2 ∷ entry v 3 ∷ entry v 4 ∷ entry v 5 ∷ []
five (a ∷ b ∷ c ∷ d ∷ e ∷ []) l = refl
five [] l = absurd (omega (arith, l))
five (a ∷ []) l = absurd (omega (arith, l))
five (a ∷ b ∷ []) l = absurd (omega (arith, l))
five (a ∷ b ∷ c ∷ []) l = absurd (omega (arith, l))
five (a ∷ b ∷ c ∷ d ∷ []) l = absurd (omega (arith, l))
five (a ∷ b ∷ c ∷ d ∷ e ∷ f ∷ v) l = absurd (omega (arith, l))

-- ---- two columns that a basis has not both
-- p and q are opposite in each row, and of neither and r the conditions hold together
abbrev In : ℕ → ℕ → ℕ → ℕ → Type 0
In p q r c = (c ≡ p) ⊎ ((c ≡ q) ⊎ (c ≡ r))

clash : (E : ℕ → ℚ) (P : ℕ → Type 0) (p q r c e : ℕ) → E q ≡ neg_ℚ (E p) → (P p → P r → ⊥) → (P q → P r → ⊥) →
    E c ≡ one_ℚ → E e ≡ zero_ℚ → P c → P e → In p q r c → In p q r e → ⊥
clash E P p q r c e opposite first second up down pc pe (inl x) (inl y) = one_apart (sym up ∙ ap E (x ∙ sym y) ∙ down)
clash E P p q r c e opposite first second up down pc pe (inl x) (inr (inl y)) =
    minus_apart (sym down ∙ ap E y ∙ opposite ∙ ap (λ (j : ℕ). neg_ℚ (E j)) (sym x) ∙ ap neg_ℚ up)
clash E P p q r c e opposite first second up down pc pe (inl x) (inr (inr y)) = first (subst P x pc) (subst P y pe)
clash E P p q r c e opposite first second up down pc pe (inr (inl x)) (inl y) =
    one_apart (sym up ∙ ap E x ∙ opposite ∙ ap (λ (j : ℕ). neg_ℚ (E j)) (sym y) ∙ ap neg_ℚ down ∙ neg_zero)
clash E P p q r c e opposite first second up down pc pe (inr (inl x)) (inr (inl y)) = one_apart (sym up ∙ ap E (x ∙ sym y) ∙ down)
clash E P p q r c e opposite first second up down pc pe (inr (inl x)) (inr (inr y)) = second (subst P x pc) (subst P y pe)
clash E P p q r c e opposite first second up down pc pe (inr (inr x)) (inl y) = first (subst P y pe) (subst P x pc)
clash E P p q r c e opposite first second up down pc pe (inr (inr x)) (inr (inl y)) = second (subst P y pe) (subst P x pc)
clash E P p q r c e opposite first second up down pc pe (inr (inr x)) (inr (inr y)) = one_apart (sym up ∙ ap E (x ∙ sym y) ∙ down)

-- ---- the program of a weight (a, b)
abbrev weighed : ℚ → ℚ → System
weighed a b = weight_system narrow (a ∷ b ∷ [])

-- the sign of an artificial column
abbrev sign : Bool → ℚ
sign x = if x then neg_ℚ one_ℚ else one_ℚ

-- its table, by whether a and b are negative
abbrev signed : Bool → Bool → ℚ → ℚ → Table
signed x y a b =
    (row_of (weighed a b).equations 1 ++ scaled (sign (lt_ℚ zero_ℚ zero_ℚ)) (unit 3 1) ++ zero_ℚ ∷ [])
    ∷ (row_of (weighed a b).equations 2 ++ scaled (sign x) (unit 3 2) ++ a ∷ [])
    ∷ (row_of (weighed a b).equations 3 ++ scaled (sign y) (unit 3 3) ++ b ∷ [])
    ∷ first_cost_row (weighed a b)
    ∷ second_cost_row (weighed a b)
    ∷ []

table_is : (a b : ℚ) → table_of (weighed a b) ≡ signed (lt_ℚ a zero_ℚ) (lt_ℚ b zero_ℚ) a b
unfolding whole
table_is a b = refl

-- its columns before that of the right sides: u, the two lists of w, and the artificial ones
abbrev columns : Bool → Bool → List (List ℚ)
columns x y =
    (one_ℚ ∷ zero_ℚ ∷ zero_ℚ ∷ zero_ℚ ∷ minus 3 ∷ [])
    ∷ (minus 2 ∷ one_ℚ ∷ zero_ℚ ∷ zero_ℚ ∷ zero_ℚ ∷ [])
    ∷ (one_ℚ ∷ zero_ℚ ∷ one_ℚ ∷ zero_ℚ ∷ zero_ℚ ∷ [])
    ∷ (n 2 ∷ minus 1 ∷ zero_ℚ ∷ zero_ℚ ∷ zero_ℚ ∷ [])
    ∷ (minus 1 ∷ zero_ℚ ∷ minus 1 ∷ zero_ℚ ∷ zero_ℚ ∷ [])
    ∷ (one_ℚ ∷ zero_ℚ ∷ zero_ℚ ∷ one_ℚ ∷ zero_ℚ ∷ [])
    ∷ (zero_ℚ ∷ sign x ∷ zero_ℚ ∷ one_ℚ ∷ zero_ℚ ∷ [])
    ∷ (zero_ℚ ∷ zero_ℚ ∷ sign y ∷ one_ℚ ∷ zero_ℚ ∷ [])
    ∷ []

abbrev all_of : List (List ℚ) → List ℚ
all_of vs = flat_map (λ (v : List ℚ). v) vs

columns_are : (x y : Bool) (a b : ℚ) → all_of (listed 8 (column_of (signed x y a b))) ≡ all_of (columns x y)
unfolding whole fraction gcd ◌+ℚ◌ ◌*ℚ◌ neg_ℚ inverse_ℚ le_ℚ
columns_are true true a b = same_vector_is (all_of (listed 8 (column_of (signed true true a b)))) (all_of (columns true true)) refl
columns_are true false a b = same_vector_is (all_of (listed 8 (column_of (signed true false a b)))) (all_of (columns true false)) refl
columns_are false true a b = same_vector_is (all_of (listed 8 (column_of (signed false true a b)))) (all_of (columns false true)) refl
columns_are false false a b = same_vector_is (all_of (listed 8 (column_of (signed false false a b)))) (all_of (columns false false)) refl

all_columns : (a b : ℚ) → all_of (listed 8 (column_of (table_of (weighed a b)))) ≡ all_of (columns (lt_ℚ a zero_ℚ) (lt_ℚ b zero_ℚ))
all_columns a b =
    ap (λ (t : Table). all_of (listed 8 (column_of t))) (table_is a b) ∙ columns_are (lt_ℚ a zero_ℚ) (lt_ℚ b zero_ℚ) a b

abbrev column_from : ℕ → List ℚ → List ℚ
column_from k v = take 5 (drop k v)

module _ (a b : ℚ) (basis : List ℕ) (d : Table) (h : IsFullDictionaryOf (weighed a b) basis d) where
  ok : IsSystem (weighed a b)
  unfolding whole
  ok = weight_ok narrow (a ∷ b ∷ []) refl

  abbrev t : Table
  t = table_of (weighed a b)

  -- the multipliers of row i
  share : ℕ → ℕ → ℚ
  share i k = entry (shares_of (weighed a b) ok basis d h i) k

  -- row i at a column, by its three shares of the equations
  row_by : (i j : ℕ) → 1 ≤ i → i ≤ 5 → at d i j ≡ dot (share i 1 ∷ share i 2 ∷ share i 3 ∷ delta i 4 ∷ delta i 5 ∷ []) (column_of t j)
  unfolding whole share
  row_by i j l u =
      entry_by (weighed a b) ok basis d h i j l u
      ∙ ap (λ (v : List ℚ). dot v (column_of t j))
      (five (shares_of (weighed a b) ok basis d h i) (length-shares (weighed a b) ok basis d h i l u)
      ∙ ap₂ (λ (x y : ℚ). share i 1 ∷ share i 2 ∷ share i 3 ∷ x ∷ y ∷ [])
      (cost_share (weighed a b) ok basis d h i 4 l u (lit< tt) (lit≤ tt)) (cost_share (weighed a b) ok basis d h i 5 l u (lit< tt) (lit≤ tt)))

  -- the same at each of the columns
  unknown : (i : ℕ) → 1 ≤ i → i ≤ 5 → at d i 1 ≡ share i 1 +ℚ minus 3 *ℚ delta i 5
  unfolding whole
  unknown i l u =
      row_by i 1 l u ∙ ap (λ (v : List ℚ). dot (share i 1 ∷ share i 2 ∷ share i 3 ∷ delta i 4 ∷ delta i 5 ∷ []) v) (ap (column_from 0) (all_columns a b))
      ∙ ring rationals (share i 1 ∷ share i 2 ∷ share i 3 ∷ delta i 4 ∷ delta i 5 ∷ [])
      (v0 ⊗ num (pos 1) ⊕ (v1 ⊗ num (pos 0) ⊕ (v2 ⊗ num (pos 0) ⊕ (v3 ⊗ num (pos 0) ⊕ (v4 ⊗ num (negsuc 2) ⊕ num (pos 0))))))
      (v0 ⊕ num (negsuc 2) ⊗ v4) refl

  first_weight : (i : ℕ) → 1 ≤ i → i ≤ 5 → at d i 2 ≡ share i 2 +ℚ minus 2 *ℚ share i 1
  unfolding whole
  first_weight i l u =
      row_by i 2 l u ∙ ap (λ (v : List ℚ). dot (share i 1 ∷ share i 2 ∷ share i 3 ∷ delta i 4 ∷ delta i 5 ∷ []) v) (ap (column_from 5) (all_columns a b))
      ∙ ring rationals (share i 1 ∷ share i 2 ∷ share i 3 ∷ delta i 4 ∷ delta i 5 ∷ [])
      (v0 ⊗ num (negsuc 1) ⊕ (v1 ⊗ num (pos 1) ⊕ (v2 ⊗ num (pos 0) ⊕ (v3 ⊗ num (pos 0) ⊕ (v4 ⊗ num (pos 0) ⊕ num (pos 0))))))
      (v1 ⊕ num (negsuc 1) ⊗ v0) refl

  second_weight : (i : ℕ) → 1 ≤ i → i ≤ 5 → at d i 3 ≡ share i 3 +ℚ share i 1
  unfolding whole
  second_weight i l u =
      row_by i 3 l u ∙ ap (λ (v : List ℚ). dot (share i 1 ∷ share i 2 ∷ share i 3 ∷ delta i 4 ∷ delta i 5 ∷ []) v) (ap (column_from 10) (all_columns a b))
      ∙ ring rationals (share i 1 ∷ share i 2 ∷ share i 3 ∷ delta i 4 ∷ delta i 5 ∷ [])
      (v0 ⊗ num (pos 1) ⊕ (v1 ⊗ num (pos 0) ⊕ (v2 ⊗ num (pos 1) ⊕ (v3 ⊗ num (pos 0) ⊕ (v4 ⊗ num (pos 0) ⊕ num (pos 0))))))
      (v2 ⊕ v0) refl

  first_opposite : (i : ℕ) → 1 ≤ i → i ≤ 5 → at d i 4 ≡ neg_ℚ (at d i 2)
  unfolding whole
  first_opposite i l u =
      row_by i 4 l u ∙ ap (λ (v : List ℚ). dot (share i 1 ∷ share i 2 ∷ share i 3 ∷ delta i 4 ∷ delta i 5 ∷ []) v) (ap (column_from 15) (all_columns a b))
      ∙ ring rationals (share i 1 ∷ share i 2 ∷ share i 3 ∷ delta i 4 ∷ delta i 5 ∷ [])
      (v0 ⊗ num (pos 2) ⊕ (v1 ⊗ num (negsuc 0) ⊕ (v2 ⊗ num (pos 0) ⊕ (v3 ⊗ num (pos 0) ⊕ (v4 ⊗ num (pos 0) ⊕ num (pos 0))))))
      (⊖ (v1 ⊕ num (negsuc 1) ⊗ v0)) refl
      ∙ ap neg_ℚ (sym (first_weight i l u))

  second_opposite : (i : ℕ) → 1 ≤ i → i ≤ 5 → at d i 5 ≡ neg_ℚ (at d i 3)
  unfolding whole
  second_opposite i l u =
      row_by i 5 l u ∙ ap (λ (v : List ℚ). dot (share i 1 ∷ share i 2 ∷ share i 3 ∷ delta i 4 ∷ delta i 5 ∷ []) v) (ap (column_from 20) (all_columns a b))
      ∙ ring rationals (share i 1 ∷ share i 2 ∷ share i 3 ∷ delta i 4 ∷ delta i 5 ∷ [])
      (v0 ⊗ num (negsuc 0) ⊕ (v1 ⊗ num (pos 0) ⊕ (v2 ⊗ num (negsuc 0) ⊕ (v3 ⊗ num (pos 0) ⊕ (v4 ⊗ num (pos 0) ⊕ num (pos 0))))))
      (⊖ (v2 ⊕ v0)) refl
      ∙ ap neg_ℚ (sym (second_weight i l u))

  artificial : (i : ℕ) → 1 ≤ i → i ≤ 5 → at d i 6 ≡ share i 1 +ℚ delta i 4
  unfolding whole
  artificial i l u =
      row_by i 6 l u ∙ ap (λ (v : List ℚ). dot (share i 1 ∷ share i 2 ∷ share i 3 ∷ delta i 4 ∷ delta i 5 ∷ []) v) (ap (column_from 25) (all_columns a b))
      ∙ ring rationals (share i 1 ∷ share i 2 ∷ share i 3 ∷ delta i 4 ∷ delta i 5 ∷ [])
      (v0 ⊗ num (pos 1) ⊕ (v1 ⊗ num (pos 0) ⊕ (v2 ⊗ num (pos 0) ⊕ (v3 ⊗ num (pos 1) ⊕ (v4 ⊗ num (pos 0) ⊕ num (pos 0))))))
      (v0 ⊕ v3) refl

  first_artificial : (i : ℕ) → 1 ≤ i → i ≤ 5 → at d i 7 ≡ share i 2 *ℚ sign (lt_ℚ a zero_ℚ) +ℚ delta i 4
  unfolding whole
  first_artificial i l u =
      row_by i 7 l u ∙ ap (λ (v : List ℚ). dot (share i 1 ∷ share i 2 ∷ share i 3 ∷ delta i 4 ∷ delta i 5 ∷ []) v) (ap (column_from 30) (all_columns a b))
      ∙ ring rationals (share i 1 ∷ share i 2 ∷ share i 3 ∷ delta i 4 ∷ delta i 5 ∷ sign (lt_ℚ a zero_ℚ) ∷ [])
      (v0 ⊗ num (pos 0) ⊕ (v1 ⊗ v5 ⊕ (v2 ⊗ num (pos 0) ⊕ (v3 ⊗ num (pos 1) ⊕ (v4 ⊗ num (pos 0) ⊕ num (pos 0))))))
      (v1 ⊗ v5 ⊕ v3) refl

  second_artificial : (i : ℕ) → 1 ≤ i → i ≤ 5 → at d i 8 ≡ share i 3 *ℚ sign (lt_ℚ b zero_ℚ) +ℚ delta i 4
  unfolding whole
  second_artificial i l u =
      row_by i 8 l u ∙ ap (λ (v : List ℚ). dot (share i 1 ∷ share i 2 ∷ share i 3 ∷ delta i 4 ∷ delta i 5 ∷ []) v) (ap (column_from 35) (all_columns a b))
      ∙ ring rationals (share i 1 ∷ share i 2 ∷ share i 3 ∷ delta i 4 ∷ delta i 5 ∷ sign (lt_ℚ b zero_ℚ) ∷ [])
      (v0 ⊗ num (pos 0) ⊕ (v1 ⊗ num (pos 0) ⊕ (v2 ⊗ v5 ⊕ (v3 ⊗ num (pos 1) ⊕ (v4 ⊗ num (pos 0) ⊕ num (pos 0))))))
      (v2 ⊗ v5 ⊕ v3) refl

  -- a cost row is 0 at the three columns of the basis, of which each is u, the first artificial one,
  -- or one of three that go with w_1 or with w_2
  abbrev Zero : ℕ → ℕ → Type 0
  Zero i j = at d i j ≡ zero_ℚ

  abbrev Kind : ℕ → Type 0
  Kind c = (c ≡ 1) ⊎ ((c ≡ 6) ⊎ (In 2 4 7 c ⊎ In 3 5 8 c))

  which : (c : ℕ) → 1 ≤ c → c ≤ 8 → Kind c
  which zero l u = absurd (omega (arith, l))
  which (suc zero) l u = inl refl
  which (suc (suc zero)) l u = inr (inr (inl (inl refl)))
  which (suc (suc (suc zero))) l u = inr (inr (inr (inl refl)))
  which (suc (suc (suc (suc zero)))) l u = inr (inr (inl (inr (inl refl))))
  which (suc (suc (suc (suc (suc zero))))) l u = inr (inr (inr (inr (inl refl))))
  which (suc (suc (suc (suc (suc (suc zero)))))) l u = inr (inl refl)
  which (suc (suc (suc (suc (suc (suc (suc zero))))))) l u = inr (inr (inl (inr (inr refl))))
  which (suc (suc (suc (suc (suc (suc (suc (suc zero)))))))) l u = inr (inr (inr (inr (inr refl))))
  which (suc (suc (suc (suc (suc (suc (suc (suc (suc c))))))))) l u = absurd (omega (arith, u))

  module _ (i : ℕ) (over : 3 < i) (under : i ≤ 5)
      (no_unknown : Zero i 1 → ⊥) (no_artificial : Zero i 6 → ⊥)
      (no_first : Zero i 2 → Zero i 7 → ⊥) (no_second : Zero i 3 → Zero i 8 → ⊥) where
    clears : (k : ℕ) → 1 ≤ k → k ≤ 3 → Zero i (basic_column basis k)
    unfolding whole
    clears k l u = named_entry (weighed a b) ok basis d h i k (omega arith) under l u ∙ delta-other i k (λ e. omega (arith, e, over, u))

    turned : (j k : ℕ) → at d i k ≡ neg_ℚ (at d i j) → Zero i k → Zero i j
    turned j k e z = sym (neg_neg (at d i j)) ∙ ap neg_ℚ (sym e ∙ z) ∙ neg_zero

    in_group : (k : ℕ) → 1 ≤ k → k ≤ 3 → In 2 4 7 (basic_column basis k) ⊎ In 3 5 8 (basic_column basis k)
    unfolding whole
    in_group k l u = go (which (basic_column basis k) (named_low (weighed a b) ok basis d h k l u) (named_high (weighed a b) ok basis d h k l))
      where
        go : Kind (basic_column basis k) → In 2 4 7 (basic_column basis k) ⊎ In 3 5 8 (basic_column basis k)
        go (inl e) = absurd (no_unknown (subst (λ (c : ℕ). Zero i c) e (clears k l u)))
        go (inr (inl e)) = absurd (no_artificial (subst (λ (c : ℕ). Zero i c) e (clears k l u)))
        go (inr (inr g)) = g

    both : (p q r k m : ℕ) → ((j : ℕ) → 1 ≤ j → j ≤ 5 → at d j q ≡ neg_ℚ (at d j p)) → (Zero i p → Zero i r → ⊥) →
        1 ≤ k → k ≤ 3 → 1 ≤ m → m ≤ 3 → k ≢ m → In p q r (basic_column basis k) → In p q r (basic_column basis m) → ⊥
    unfolding whole
    both p q r k m opposite clashes l u l' u' differ =
        let high : k ≤ 5 = omega arith in
        clash (at d k) (Zero i) p q r (basic_column basis k) (basic_column basis m) (opposite k l high) clashes
        (λ x y. clashes (turned p q (opposite i (omega arith) under) x) y)
        (named_entry (weighed a b) ok basis d h k k l high l u ∙ delta-same k k refl)
        (named_entry (weighed a b) ok basis d h k m l high l' u' ∙ delta-other k m differ) (clears k l u) (clears m l' u')

    abbrev Grouped : ℕ → Type 0
    Grouped k = In 2 4 7 (basic_column basis k) ⊎ In 3 5 8 (basic_column basis k)

    pub no_basis : ⊥
    no_basis = go (in_group 1 (lit≤ tt) (lit≤ tt)) (in_group 2 (lit≤ tt) (lit≤ tt)) (in_group 3 (lit≤ tt) (lit≤ tt))
      where
        with_first : (k m : ℕ) → 1 ≤ k → k ≤ 3 → 1 ≤ m → m ≤ 3 → k ≢ m → In 2 4 7 (basic_column basis k) → In 2 4 7 (basic_column basis m) → ⊥
        with_first k m = both 2 4 7 k m first_opposite no_first

        with_second : (k m : ℕ) → 1 ≤ k → k ≤ 3 → 1 ≤ m → m ≤ 3 → k ≢ m → In 3 5 8 (basic_column basis k) → In 3 5 8 (basic_column basis m) → ⊥
        with_second k m = both 3 5 8 k m second_opposite no_second

        go : Grouped 1 → Grouped 2 → Grouped 3 → ⊥
        go (inl x) (inl y) z = with_first 1 2 (lit≤ tt) (lit≤ tt) (lit≤ tt) (lit≤ tt) (omega arith) x y
        go (inl x) (inr y) (inl z) = with_first 1 3 (lit≤ tt) (lit≤ tt) (lit≤ tt) (lit≤ tt) (omega arith) x z
        go (inl x) (inr y) (inr z) = with_second 2 3 (lit≤ tt) (lit≤ tt) (lit≤ tt) (lit≤ tt) (omega arith) y z
        go (inr x) (inr y) z = with_second 1 2 (lit≤ tt) (lit≤ tt) (lit≤ tt) (lit≤ tt) (omega arith) x y
        go (inr x) (inl y) (inr z) = with_second 1 3 (lit≤ tt) (lit≤ tt) (lit≤ tt) (lit≤ tt) (omega arith) x z
        go (inr x) (inl y) (inl z) = with_first 2 3 (lit≤ tt) (lit≤ tt) (lit≤ tt) (lit≤ tt) (omega arith) y z

  -- ---- the choice of the second cost row, and the ray of the first
  zero_of : (x : ℚ) (s : Bool) → x *ℚ sign s +ℚ zero_ℚ ≡ zero_ℚ → x ≡ zero_ℚ
  unfolding whole
  zero_of x true e =
      ring rationals (x ∷ []) v0 (⊖ (v0 ⊗ (⊖ (num (pos 1))) ⊕ num (pos 0))) refl ∙ ap neg_ℚ e ∙ neg_zero
  zero_of x false e = ring rationals (x ∷ []) v0 (v0 ⊗ num (pos 1) ⊕ num (pos 0)) refl ∙ e

  half_of : (x : ℚ) → minus 2 *ℚ x ≡ zero_ℚ → x ≡ zero_ℚ
  unfolding whole fraction gcd ◌+ℚ◌ ◌*ℚ◌ neg_ℚ inverse_ℚ le_ℚ
  half_of x e =
      sym (one_mul x) ∙ ap (λ (q : ℚ). q *ℚ x) (equal one_ℚ (fraction (negsuc 0) 2 *ℚ minus 2) refl)
      ∙ mul_assoc (fraction (negsuc 0) 2) (minus 2) x ∙ ap (λ (q : ℚ). fraction (negsuc 0) 2 *ℚ q) e ∙ mul_zero (fraction (negsuc 0) 2)

  pub choice_by : (x : ℚ) → at d 5 6 ≡ x → (x ≡ n 3 → ⊥) → (x ≡ zero_ℚ → ⊥) → ⊥
  unfolding whole
  choice_by x is no_three no_zero = no_basis 5 (lit< tt) (lit≤ tt) no_unknown no_artificial no_first no_second
    where
      first_is : share 5 1 ≡ x
      first_is = sym (add_zero (share 5 1)) ∙ sym (artificial 5 (lit≤ tt) (lit≤ tt)) ∙ is

      no_share : share 5 1 ≡ zero_ℚ → ⊥
      no_share e = no_zero (sym first_is ∙ e)

      no_unknown : Zero 5 1 → ⊥
      no_unknown e = no_three (sym first_is
          ∙ ring rationals (share 5 1 ∷ []) v0 ((v0 ⊕ num (negsuc 2) ⊗ num (pos 1)) ⊕ num (pos 3)) refl
          ∙ ap (λ (q : ℚ). q +ℚ n 3) (sym (unknown 5 (lit≤ tt) (lit≤ tt)) ∙ e) ∙ zero_add (n 3))

      no_artificial : Zero 5 6 → ⊥
      no_artificial e = no_zero (sym is ∙ e)

      no_first : Zero 5 2 → Zero 5 7 → ⊥
      no_first e f = no_share (half_of (share 5 1) (
          sym (zero_add (minus 2 *ℚ share 5 1))
          ∙ ap (λ (q : ℚ). q +ℚ minus 2 *ℚ share 5 1) (sym (zero_of (share 5 2) (lt_ℚ a zero_ℚ) (sym (first_artificial 5 (lit≤ tt) (lit≤ tt)) ∙ f)))
          ∙ sym (first_weight 5 (lit≤ tt) (lit≤ tt)) ∙ e))

      no_second : Zero 5 3 → Zero 5 8 → ⊥
      no_second e f = no_share (
          sym (zero_add (share 5 1))
          ∙ ap (λ (q : ℚ). q +ℚ share 5 1) (sym (zero_of (share 5 3) (lt_ℚ b zero_ℚ) (sym (second_artificial 5 (lit≤ tt) (lit≤ tt)) ∙ f)))
          ∙ sym (second_weight 5 (lit≤ tt) (lit≤ tt)) ∙ e)

  pub ray_by : at d 4 6 ≡ n 3 → ⊥
  unfolding whole fraction gcd ◌+ℚ◌ ◌*ℚ◌ neg_ℚ inverse_ℚ le_ℚ
  ray_by is = no_basis 4 (lit< tt) (lit≤ tt) no_unknown no_artificial no_first no_second
    where
      first_is : share 4 1 ≡ n 2
      first_is =
          ring rationals (share 4 1 ∷ []) v0 ((v0 ⊕ num (pos 1)) ⊕ num (negsuc 0)) refl
          ∙ ap (λ (q : ℚ). q +ℚ minus 1) (sym (artificial 4 (lit≤ tt) (lit≤ tt)) ∙ is) ∙ equal (n 3 +ℚ minus 1) (n 2) refl

      no_unknown : Zero 4 1 → ⊥
      no_unknown e = apart (n 2 +ℚ minus 3 *ℚ zero_ℚ) zero_ℚ refl
          (ap (λ (q : ℚ). q +ℚ minus 3 *ℚ zero_ℚ) (sym first_is) ∙ sym (unknown 4 (lit≤ tt) (lit≤ tt)) ∙ e)

      no_artificial : Zero 4 6 → ⊥
      no_artificial e = apart (n 3) zero_ℚ refl (sym is ∙ e)

      four : Zero 4 2 → share 4 2 ≡ n 4
      four e =
          ring rationals (share 4 2 ∷ share 4 1 ∷ []) v0 ((v0 ⊕ num (negsuc 1) ⊗ v1) ⊕ num (pos 2) ⊗ v1) refl
          ∙ ap (λ (q : ℚ). q +ℚ n 2 *ℚ share 4 1) (sym (first_weight 4 (lit≤ tt) (lit≤ tt)) ∙ e)
          ∙ ap (λ (q : ℚ). zero_ℚ +ℚ n 2 *ℚ q) first_is ∙ equal (zero_ℚ +ℚ n 2 *ℚ n 2) (n 4) refl

      four_not : (s : Bool) → n 4 *ℚ sign s +ℚ one_ℚ ≡ zero_ℚ → ⊥
      four_not true = apart (n 4 *ℚ neg_ℚ one_ℚ +ℚ one_ℚ) zero_ℚ refl
      four_not false = apart (n 4 *ℚ one_ℚ +ℚ one_ℚ) zero_ℚ refl

      no_first : Zero 4 2 → Zero 4 7 → ⊥
      no_first e f = four_not (lt_ℚ a zero_ℚ)
          (ap (λ (q : ℚ). q *ℚ sign (lt_ℚ a zero_ℚ) +ℚ one_ℚ) (sym (four e)) ∙ sym (first_artificial 4 (lit≤ tt) (lit≤ tt)) ∙ f)

      two : Zero 4 3 → share 4 3 ≡ minus 2
      two e =
          ring rationals (share 4 3 ∷ share 4 1 ∷ []) v0 ((v0 ⊕ v1) ⊕ num (negsuc 0) ⊗ v1) refl
          ∙ ap (λ (q : ℚ). q +ℚ minus 1 *ℚ share 4 1) (sym (second_weight 4 (lit≤ tt) (lit≤ tt)) ∙ e)
          ∙ ap (λ (q : ℚ). zero_ℚ +ℚ minus 1 *ℚ q) first_is ∙ equal (zero_ℚ +ℚ minus 1 *ℚ n 2) (minus 2) refl

      two_not : (s : Bool) → minus 2 *ℚ sign s +ℚ one_ℚ ≡ zero_ℚ → ⊥
      two_not true = apart (minus 2 *ℚ neg_ℚ one_ℚ +ℚ one_ℚ) zero_ℚ refl
      two_not false = apart (minus 2 *ℚ one_ℚ +ℚ one_ℚ) zero_ℚ refl

      no_second : Zero 4 3 → Zero 4 8 → ⊥
      no_second e f = two_not (lt_ℚ b zero_ℚ)
          (ap (λ (q : ℚ). q *ℚ sign (lt_ℚ b zero_ℚ) +ℚ one_ℚ) (sym (two e)) ∙ sym (second_artificial 4 (lit≤ tt) (lit≤ tt)) ∙ f)

-- ---- choices
two_entries : (P : List ℚ → Type 0) → ((a b : ℚ) → P (a ∷ b ∷ [])) → (w : List ℚ) → length w ≡ 2 → P w
two_entries P h (a ∷ b ∷ []) l = h a b
two_entries P h [] l = absurd (omega (arith, l))
two_entries P h (a ∷ []) l = absurd (omega (arith, l))
two_entries P h (a ∷ b ∷ c ∷ w) l = absurd (omega (arith, l))

one_times : (a b : ℚ) → at (table_of (weighed a b)) 1 6 ≡ one_ℚ
unfolding whole fraction gcd ◌+ℚ◌ ◌*ℚ◌ neg_ℚ inverse_ℚ le_ℚ
one_times a b = equal (at (table_of (weighed a b)) 1 6) one_ℚ refl

-- the choice of a weight
weight_choice : (x : ℚ) (y : List ℚ) → (x ≡ n 3 → ⊥) → (x ≡ zero_ℚ → ⊥) → x ∷ [] ≡ choice_of narrow y → (w : List ℚ) → length w ≡ 2 →
    AreMultipliersOff (weight_system narrow w) y → ⊥
unfolding whole
weight_choice x y no_three no_zero e =
    two_entries (λ (w : List ℚ). AreMultipliersOff (weight_system narrow w) y → ⊥)
    (λ a b r. choice_by a b r.basis r.dictionary r.full x
    (sym (one_mul (at r.dictionary 5 6)) ∙ ap (λ (q : ℚ). q *ℚ at r.dictionary 5 6) (sym (one_times a b))
    ∙ sym (ap (λ (v : List ℚ). entry v 1) e ∙ ap (λ (v : List ℚ). entry (take 1 v) 1) r.reads))
    no_three no_zero)

two_and_one : n 2 +ℚ one_ℚ ≡ n 3
unfolding whole fraction gcd ◌+ℚ◌ ◌*ℚ◌ neg_ℚ inverse_ℚ le_ℚ
two_and_one = equal (n 2 +ℚ one_ℚ) (n 3) refl

weight_ray : (x : ℚ) (y : List ℚ) → x ≡ n 2 → x ∷ [] ≡ choice_of narrow y → (w : List ℚ) → length w ≡ 2 → AreFirstMultipliersOff (weight_system narrow w) y → ⊥
unfolding whole
weight_ray x y is e =
    two_entries (λ (w : List ℚ). AreFirstMultipliersOff (weight_system narrow w) y → ⊥)
    (λ a b r. ray_by a b r.basis r.dictionary r.full
    (ring rationals (at r.dictionary 4 6 ∷ []) v0 ((v0 ⊝ num (pos 1)) ⊕ num (pos 1)) refl
    ∙ ap (λ (q : ℚ). q +ℚ one_ℚ) (
    sym (one_mul (at r.dictionary 4 6 -ℚ one_ℚ)) ∙ ap (λ (q : ℚ). q *ℚ (at r.dictionary 4 6 -ℚ one_ℚ)) (sym (one_times a b))
    ∙ sym (ap (λ (v : List ℚ). entry v 1) e ∙ ap (λ (v : List ℚ). entry (take 1 v) 1) r.reads) ∙ is)
    ∙ two_and_one))

-- the program of the sides has one equation, with u and an artificial column
abbrev sides_program : System
sides_program = feasible_system narrow

sides_columns : all_of (listed 2 (column_of (table_of sides_program))) ≡ one_ℚ ∷ zero_ℚ ∷ minus 3 ∷ one_ℚ ∷ one_ℚ ∷ zero_ℚ ∷ []
unfolding whole fraction gcd ◌+ℚ◌ ◌*ℚ◌ neg_ℚ inverse_ℚ le_ℚ
sides_columns = same_vector_is (all_of (listed 2 (column_of (table_of sides_program)))) (one_ℚ ∷ zero_ℚ ∷ minus 3 ∷ one_ℚ ∷ one_ℚ ∷ zero_ℚ ∷ []) refl

three_entries : (v : List ℚ) → length v ≡ 3 → v ≡ entry v 1 ∷ entry v 2 ∷ entry v 3 ∷ []
three_entries (a ∷ b ∷ c ∷ []) l = refl
three_entries [] l = absurd (omega (arith, l))
three_entries (a ∷ []) l = absurd (omega (arith, l))
three_entries (a ∷ b ∷ []) l = absurd (omega (arith, l))
three_entries (a ∷ b ∷ c ∷ d ∷ v) l = absurd (omega (arith, l))

module _ (basis : List ℕ) (d : Table) (h : IsFullDictionaryOf sides_program basis d) where
  sides_ok : IsSystem sides_program
  sides_ok = feasible_ok narrow

  side_share : ℚ
  side_share = entry (shares_of sides_program sides_ok basis d h 3) 1

  shares_are : shares_of sides_program sides_ok basis d h 3 ≡ side_share ∷ zero_ℚ ∷ one_ℚ ∷ []
  unfolding whole side_share
  shares_are =
      three_entries (shares_of sides_program sides_ok basis d h 3) (length-shares sides_program sides_ok basis d h 3 (lit≤ tt) (lit≤ tt))
      ∙ ap₂ (λ (x y : ℚ). entry (shares_of sides_program sides_ok basis d h 3) 1 ∷ x ∷ y ∷ [])
      (cost_share sides_program sides_ok basis d h 3 2 (lit≤ tt) (lit≤ tt) (lit< tt) (lit≤ tt))
      (cost_share sides_program sides_ok basis d h 3 3 (lit≤ tt) (lit≤ tt) (lit< tt) (lit≤ tt))

  side_unknown : at d 3 1 ≡ side_share +ℚ minus 3
  unfolding whole
  side_unknown =
      entry_by sides_program sides_ok basis d h 3 1 (lit≤ tt) (lit≤ tt) ∙ ap (λ (v : List ℚ). dot v (column_of (table_of sides_program) 1)) shares_are
      ∙ ap (λ (v : List ℚ). dot (side_share ∷ zero_ℚ ∷ one_ℚ ∷ []) (take 3 v)) sides_columns
      ∙ ring rationals (side_share ∷ [])
      (v0 ⊗ num (pos 1) ⊕ (num (pos 0) ⊗ num (pos 0) ⊕ (num (pos 1) ⊗ num (negsuc 2) ⊕ num (pos 0)))) (v0 ⊕ num (negsuc 2)) refl

  side_artificial : at d 3 2 ≡ side_share
  unfolding whole
  side_artificial =
      entry_by sides_program sides_ok basis d h 3 2 (lit≤ tt) (lit≤ tt) ∙ ap (λ (v : List ℚ). dot v (column_of (table_of sides_program) 2)) shares_are
      ∙ ap (λ (v : List ℚ). dot (side_share ∷ zero_ℚ ∷ one_ℚ ∷ []) (drop 3 v)) sides_columns
      ∙ ring rationals (side_share ∷ [])
      (v0 ⊗ num (pos 1) ⊕ (num (pos 0) ⊗ num (pos 1) ⊕ (num (pos 1) ⊗ num (pos 0) ⊕ num (pos 0)))) v0 refl

  pub side_choice : (x : ℚ) → at d 3 2 ≡ x → (x ≡ n 3 → ⊥) → (x ≡ zero_ℚ → ⊥) → ⊥
  unfolding whole
  side_choice x is no_three no_zero =
      go (basic_column basis 1) (named_low sides_program sides_ok basis d h 1 (lit≤ tt) (lit≤ tt)) (named_high sides_program sides_ok basis d h 1 (lit≤ tt))
      (named_entry sides_program sides_ok basis d h 3 1 (lit≤ tt) (lit≤ tt) (lit≤ tt) (lit≤ tt))
    where
      go : (c : ℕ) → 1 ≤ c → c ≤ 2 → at d 3 c ≡ zero_ℚ → ⊥
      go zero l u e = omega (arith, l)
      go (suc zero) l u e = no_three (sym is ∙ side_artificial
          ∙ ring rationals (side_share ∷ []) v0 ((v0 ⊕ num (negsuc 2)) ⊕ num (pos 3)) refl
          ∙ ap (λ (q : ℚ). q +ℚ n 3) (sym side_unknown ∙ e) ∙ zero_add (n 3))
      go (suc (suc zero)) l u e = no_zero (sym is ∙ e)
      go (suc (suc (suc c))) l u e = omega (arith, u)

one_side : at (table_of sides_program) 1 2 ≡ one_ℚ
unfolding whole fraction gcd ◌+ℚ◌ ◌*ℚ◌ neg_ℚ inverse_ℚ le_ℚ
one_side = equal (at (table_of sides_program) 1 2) one_ℚ refl

-- 3 is the one base choice
zero_infeasible : (x : ℚ) → x ≡ zero_ℚ → IsFeasible narrow (x ∷ []) → ⊥
unfolding whole fraction gcd ◌+ℚ◌ ◌*ℚ◌ neg_ℚ inverse_ℚ le_ℚ
zero_infeasible x e f =
    let g : IsFeasible narrow (zero_ℚ ∷ []) = subst (λ (q : ℚ). IsFeasible narrow (q ∷ [])) e f in
    true≢false (sym (g.meets 0 (record { normal = []; bound = zero_ℚ }) (lit< tt)))

no_other : (x : ℚ) → (x ≡ n 3 → ⊥) → IsBaseChoice narrow (x ∷ []) → ⊥
unfolding whole
no_other x no_three h = go h.read
  where
    no_zero : x ≡ zero_ℚ → ⊥
    no_zero e = zero_infeasible x e h.feasible

    go : ((y : List ℚ) × AreMultipliersOff (feasible_system narrow) y × (x ∷ [] ≡ choice_of narrow y))
        ⊎ ((w y : List ℚ) × (length w ≡ 2) × AreMultipliersOff (weight_system narrow w) y × (x ∷ [] ≡ choice_of narrow y)) → ⊥
    go (inl (y, r, e)) = side_choice r.basis r.dictionary r.full x
        (sym (one_mul (at r.dictionary 3 2)) ∙ ap (λ (q : ℚ). q *ℚ at r.dictionary 3 2) (sym one_side)
        ∙ sym (ap (λ (v : List ℚ). entry v 1) e ∙ ap (λ (v : List ℚ). entry (take 1 v) 1) r.reads))
        no_three no_zero
    go (inr (w, y, l, r, e)) = weight_choice x y no_three no_zero e w l r

pub choice_is : (x : ℚ) → IsBaseChoice narrow (x ∷ []) → x ≡ n 3
choice_is x h = elim (same_or_not x (n 3)) [ inl e ↦ e | inr other ↦ absurd (no_other x other h) ]

pub one_entry : (P : List ℚ → Type 0) → ((x : ℚ) → P (x ∷ [])) → (v : List ℚ) → length v ≡ 1 → P v
one_entry P h (x ∷ []) l = h x
one_entry P h [] l = absurd (omega (arith, l))
one_entry P h (x ∷ y ∷ v) l = absurd (omega (arith, l))

pub no_choice : IsBaseChoice narrow (n 4 ∷ []) → ⊥
unfolding whole le_ℚ
no_choice h = no_other (n 4) (apart (n 4) (n 3) refl) h

pub no_ray : IsBaseRay narrow (n 2 ∷ []) → ⊥
unfolding whole
no_ray h = weight_ray (n 2) h.multipliers refl h.same h.weight h.wide h.read
