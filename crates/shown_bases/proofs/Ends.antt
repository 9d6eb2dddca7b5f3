-- What passes the tests of a contradiction or of a ray is one, and is what the dictionary at the columns says.
use Rattle.std.proofs.Common.{◌≡◌, ℕ, suc, List, [], ◌∷◌, length, map, refl, sym, ap, ap₂, ◌∙◌, subst, arith, ◌<◌, ◌≤◌, ◌-◌, ◌+◌, inl, inr, Bool, true, false, slice_index_or}
use Rattle.std.specs.Prelude.{◌==◌, if◌then◌else◌}
use Rattle.std.proofs.lemmas.List.{get_or-map, length-map}
use Rattle.std.proofs.lemmas.List.Elements.{All-get_or}
use Rattle.exact_field.specs.Rational.{ℚ, zero_ℚ, one_ℚ, ◌+ℚ◌, ◌-ℚ◌, ◌*ℚ◌, neg_ℚ, ◌≤ℚ◌, ◌<ℚ◌}
use Rattle.exact_field.specs.Vector.{entry, dot}
use Rattle.polyhedra.specs.Vectors.{values, combination, scaled}
use Rattle.polyhedra.specs.Cone.{HasFullRank}
use Rattle.polyhedra.proofs.Algebra.{zero_add, one_mul, neg_neg, neg_zero, neg_add, add_cancel, cancel}
use Rattle.polyhedra.proofs.Laws.{add_comm, add_neg}
use Rattle.polyhedra.proofs.Linear.{dot_comm, dot-combination, dot-plus, dot-scaled, dot-zeros}
use Rattle.polyhedra.proofs.Order.{negative_of_neg, le_of_difference}
use Rattle.tableaux.specs.Dictionary.{basic_column, first_multipliers, ray, solution, value_of_column}
use Rattle.tableaux.specs.Optimum.{AreColumns, equations_at}
use Rattle.tableaux.specs.Simplex.{BoundsColumns, InfeasibleAt, UnboundedAt}
use Rattle.tableaux.specs.Table.{Table, System, IsSystem, at, column_of, table_of, equation_count, unknown_count, right_column, first_cost, second_cost}
use Rattle.tableaux.proofs.Definition.{slice_eq, value_at as value_place}
use Rattle.tableaux.proofs.Ends.{ends_are_right}
use Rattle.tableaux.proofs.Entries.{sign_of, first-unknown, first-artificial, first-right}
use Rattle.tableaux.proofs.Found.{list_from-same}
use Rattle.tableaux.proofs.Optima.{column-unknown, product-artificial}
use Rattle.tableaux.proofs.Places.{listed-is, same_or_other, if_true, if_false}
use Rattle.tableaux.proofs.Reading.{sign_twice}
use Rattle.tableaux.proofs.Ties.{column_entry}
use Rattle.tableaux.proofs.Unique.{column-long}
use Rattle.shown_bases.specs.Laws.{AreFirstPrices, AreValues, EmptyIsShown, IsDirection, RayIsShown, spread, vectors_at}
use Rattle.shown_bases.proofs.Whole.{Clears, cost_entry, full_rank, low, high, right_is, shares_of, shares_read, some_clear, whole, whole-dictionary, whole-entry, whole-first, whole-long, whole-second}

next : (k : ℕ) → 1 + k - 1 ≡ k
next k = omega arith

-- ---- no solution
module _ (s : System) (columns : List ℕ) (y : List ℚ) (ok : IsSystem s) (h : AreColumns s columns)
    (rank : HasFullRank (equation_count s) (vectors_at s columns)) (prices : AreFirstPrices s columns y)
    (bounds : BoundsColumns s (λ j. zero_ℚ) y) (below : dot y s.right <ℚ zero_ℚ) where
  abbrev m : ℕ
  m = equation_count s

  abbrev n : ℕ
  n = unknown_count s

  abbrev clears₁ : Clears s columns ok h rank (first_cost s) y
  clears₁ = record {
    one_each = prices.one_each;
    at_columns = λ k l u. prices.equal (k - 1) 0 (omega (arith, l, u, h.one_each));
  }

  abbrev second : (w : List ℚ) × Clears s columns ok h rank (second_cost s) w
  second = some_clear s columns ok h rank (second_cost s)

  abbrev d : Table
  d = whole s columns ok h rank y second.0 clears₁ second.1

  first_at : (j : ℕ) → at d (first_cost s) j ≡ at (table_of s) (first_cost s) j +ℚ dot y (equations_at s j)
  first_at j = whole-first s columns ok h rank y second.0 clears₁ second.1 j

  read : y ≡ first_multipliers s d
  read =
      sym (listed-is m (λ i. at (table_of s) i (n + i) *ℚ (at d (first_cost s) (n + i) -ℚ one_ℚ)) y prices.one_each
      (λ i l u.
      ap (λ q. at (table_of s) i (n + i) *ℚ (q -ℚ one_ℚ))
      (first_at (n + i) ∙ ap₂ (λ a b. a +ℚ b) (first-artificial s ok i l u) (product-artificial s ok i y l u) ∙ add_comm one_ℚ (sign_of s ok i *ℚ entry y i))
      ∙ ap (λ q. at (table_of s) i (n + i) *ℚ q) (cancel (sign_of s ok i *ℚ entry y i) one_ℚ)
      ∙ sign_twice s ok columns d (whole-dictionary s columns ok h rank y second.0 clears₁ second.1) i (entry y i) l u))

  pub infeasible_at : InfeasibleAt s columns d y
  infeasible_at = record {
    full = whole-dictionary s columns ok h rank y second.0 clears₁ second.1;
    best = λ j l u. subst (λ (q : ℚ). zero_ℚ ≤ℚ q)
        (sym (first_at j ∙ ap₂ (λ a b. a +ℚ b) (first-unknown s ok j l u) (ap (dot y) (column-unknown s ok j l u)) ∙ zero_add (dot y (column_of s.equations j))))
        (bounds j l u);
    below = subst (λ (q : ℚ). q <ℚ zero_ℚ)
        (sym (first_at (right_column s) ∙ ap₂ (λ a b. a +ℚ b) (first-right s ok) (ap (dot y) (right_is s ok)) ∙ zero_add (dot y s.right))) below;
    farkas_read = read;
  }

pub empty_is_shown : EmptyIsShown
empty_is_shown s columns order y ok h shown prices bounds below =
    let rank = full_rank s columns order ok shown in
    let at = infeasible_at s columns y ok h rank prices bounds below in
    (ends_are_right.infeasible s columns _ y ok at, (_, at))

-- ---- solutions of any cost
-- values by the same numbers at the places of a basis
value-same : (basis : List ℕ) (us vs : List ℚ) (j : ℕ) → length basis ≤ length us → length basis ≤ length vs →
    ((k : ℕ) → k < length basis → slice_index_or us k zero_ℚ ≡ slice_index_or vs k zero_ℚ) → value_of_column basis us j ≡ value_of_column basis vs j
value-same [] us vs j a b e = refl
value-same (c ∷ basis) [] vs j a b e = absurd (omega arith)
value-same (c ∷ basis) (u ∷ us) [] j a b e = absurd (omega arith)
value-same (c ∷ basis) (u ∷ us) (v ∷ vs) j a b e =
    ap₂ (λ p q. if c == j then p else q) (e 0 (omega arith)) (value-same basis us vs j (omega arith) (omega arith) (λ k l. e (suc k) (omega arith)))

neg_if : (b : Bool) (p q : ℚ) → neg_ℚ (if b then p else q) ≡ (if b then neg_ℚ p else neg_ℚ q)
neg_if true p q = refl
neg_if false p q = refl

value-negated : (basis : List ℕ) (vs : List ℚ) (j : ℕ) → neg_ℚ (value_of_column basis vs j) ≡ value_of_column basis (map neg_ℚ vs) j
value-negated [] vs j = neg_zero
value-negated (c ∷ basis) [] j = neg_zero
value-negated (c ∷ basis) (v ∷ vs) j =
    neg_if (c == j) v (value_of_column basis vs j) ∙ ap (λ q. if c == j then neg_ℚ v else q) (value-negated basis vs j)

-- what a number is whose sum with another one is 0
negative_is : (a b : ℚ) → a +ℚ b ≡ zero_ℚ → a ≡ neg_ℚ b
negative_is a b e = add_cancel a (neg_ℚ b) b (e ∙ sym (add_comm (neg_ℚ b) b ∙ add_neg b))

module _ (s : System) (columns : List ℕ) (vs : List ℚ) (col : ℕ) (changes : List ℚ) (ok : IsSystem s) (h : AreColumns s columns)
    (rank : HasFullRank (equation_count s) (vectors_at s columns)) (good : AreValues s columns vs) (along : IsDirection s columns col changes) where
  abbrev m' : ℕ
  m' = equation_count s

  abbrev n' : ℕ
  n' = unknown_count s

  abbrev vectors : Table
  vectors = vectors_at s columns

  abbrev one : (w : List ℚ) × Clears s columns ok h rank (first_cost s) w
  one = some_clear s columns ok h rank (first_cost s)

  abbrev two : (w : List ℚ) × Clears s columns ok h rank (second_cost s) w
  two = some_clear s columns ok h rank (second_cost s)

  abbrev e : Table
  e = whole s columns ok h rank one.0 two.0 one.1 two.1

  entry_at : (i j : ℕ) → 1 ≤ i → i ≤ m' → at e i j ≡ dot (shares_of s columns ok h rank i) (equations_at s j)
  entry_at i j l u = whole-entry s columns ok h rank one.0 two.0 one.1 two.1 i j l u

  long : length e ≡ suc (suc m')
  long = whole-long s columns ok h rank one.0 two.0 one.1 two.1

  -- the column of the right sides, and that of the direction
  value_is : (i : ℕ) → 1 ≤ i → i ≤ m' → at e i (right_column s) ≡ entry vs i
  value_is i l u =
      entry_at i (right_column s) l u ∙ ap (dot (shares_of s columns ok h rank i)) (right_is s ok ∙ sym good.solve)
      ∙ shares_read s columns ok h rank vs i l u

  -- the product of any numbers with the column and the changes of the others is 0
  level_at : (r : List ℚ) → dot r (equations_at s col) +ℚ dot r (combination m' changes vectors) ≡ zero_ℚ
  level_at r =
      ap (λ q. q +ℚ dot r (combination m' changes vectors)) (sym (dot-scaled r one_ℚ (equations_at s col) ∙ one_mul (dot r (equations_at s col))))
      ∙ sym (dot-plus r (scaled one_ℚ (equations_at s col)) (combination m' changes vectors)) ∙ ap (dot r) along.level ∙ dot-zeros r m'

  change_is : (i : ℕ) → 1 ≤ i → i ≤ m' → at e i col ≡ neg_ℚ (entry changes i)
  change_is i l u =
      let share : List ℚ = shares_of s columns ok h rank i in
      entry_at i col l u
      ∙ negative_is (dot share (equations_at s col)) (entry changes i)
      (ap (λ q. dot share (equations_at s col) +ℚ q) (sym (shares_read s columns ok h rank changes i l u)) ∙ level_at share)

  -- ---- the cost
  -- the multipliers make up for the cost of each column
  price_is : (k : ℕ) → 1 ≤ k → k ≤ m' → dot two.0 (equations_at s (basic_column columns k)) ≡ entry s.cost (basic_column columns k)
  price_is k l u =
      let c : ℕ = basic_column columns k in
      let price : ℚ = dot two.0 (equations_at s c) in
      let cost : ℚ = entry s.cost c in
      let balance : price +ℚ neg_ℚ cost ≡ zero_ℚ =
      ap (λ q. price +ℚ q) (sym (cost_entry s ok c (low s columns ok h rank k l u) (high s columns ok h rank k l u)))
      ∙ add_comm price (at (table_of s) (second_cost s) c) ∙ two.1.at_columns k l u in
      negative_is price (neg_ℚ cost) balance ∙ neg_neg cost

  prices_are : values vectors two.0 ≡ map (entry s.cost) columns
  prices_are =
      slice_eq (values vectors two.0) (map (entry s.cost) columns)
      (length-map vectors (λ r. dot r two.0) ∙ length-map columns (equations_at s) ∙ sym (length-map columns (entry s.cost)))
      (λ k a.
      let inside : k < length columns = omega (arith, a, length-map vectors (λ r. dot r two.0), length-map columns (equations_at s)) in
      value_place vectors two.0 k (omega (arith, inside, length-map columns (equations_at s)))
      ∙ ap (λ v. dot v two.0) (get_or-map (equations_at s) columns k 0 [] inside)
      ∙ dot_comm (equations_at s (slice_index_or columns k 0)) two.0
      ∙ ap (λ j. dot two.0 (equations_at s (slice_index_or columns j 0))) (sym (next k))
      ∙ price_is (1 + k) (omega arith) (omega (arith, inside, h.one_each))
      ∙ ap (λ j. entry s.cost (slice_index_or columns j 0)) (next k)
      ∙ sym (get_or-map (entry s.cost) columns k 0 zero_ℚ inside))

  betters : at e (second_cost s) col <ℚ zero_ℚ
  betters =
      let own : ℚ = entry s.cost col in
      let rest : ℚ = dot changes (map (entry s.cost) columns) in
      let price : ℚ = dot two.0 (equations_at s col) in
      let price_rest : price ≡ neg_ℚ rest =
      negative_is price rest
      (ap (λ q. price +ℚ q) (sym (dot-combination m' two.0 changes vectors ∙ ap (dot changes) prices_are)) ∙ level_at two.0) in
      let is : at e (second_cost s) col ≡ neg_ℚ (own +ℚ rest) =
      whole-second s columns ok h rank one.0 two.0 one.1 two.1 col
      ∙ ap₂ (λ a b. a +ℚ b) (cost_entry s ok col along.from_one (let inside = along.unknown in omega (arith, inside))) price_rest
      ∙ sym (neg_add own rest) in
      let sum : neg_ℚ (at e (second_cost s) col) ≡ dot (one_ℚ ∷ changes) (map (entry s.cost) (col ∷ columns)) =
      ap neg_ℚ is ∙ neg_neg (own +ℚ rest) ∙ ap (λ q. q +ℚ rest) (sym (one_mul own)) in
      negative_of_neg (at e (second_cost s) col) (subst (λ (q : ℚ). zero_ℚ <ℚ q) (sym sum) along.rises)

  -- ---- what is read
  column_place : (j k : ℕ) → k < length columns → slice_index_or (column_of e j) k zero_ℚ ≡ at e (1 + k) j
  column_place j k l = column_entry e j k (omega (arith, l, long, h.one_each)) ∙ ap (λ i. entry (slice_index_or e i []) j) (sym (next k))

  within : (j : ℕ) → length columns ≤ length (column_of e j)
  within j = omega (arith, column-long e j, long, h.one_each)

  x_read : spread s columns vs ≡ solution s columns e
  x_read =
      list_from-same 1 n' (value_of_column columns vs) (value_of_column columns (column_of e (right_column s)))
      (λ j l u. value-same columns vs (column_of e (right_column s)) j (omega (arith, good.one_each)) (within (right_column s))
      (λ k a.
      ap (λ i. slice_index_or vs i zero_ℚ) (sym (next k)) ∙ sym (value_is (1 + k) (omega arith) (omega (arith, a, h.one_each)))
      ∙ sym (column_place (right_column s) k a)))

  abbrev negatives : List ℚ
  negatives = map neg_ℚ (column_of e col)

  change_read : (j : ℕ) → value_of_column columns changes j ≡ neg_ℚ (value_of_column columns (column_of e col) j)
  change_read j =
      value-same columns changes negatives j (omega (arith, along.one_each)) (omega (arith, within col, length-map (column_of e col) neg_ℚ))
      (λ k a.
      ap (λ i. slice_index_or changes i zero_ℚ) (sym (next k))
      ∙ sym (neg_neg (entry changes (1 + k))) ∙ ap neg_ℚ (sym (change_is (1 + k) (omega arith) (omega (arith, a, h.one_each))) ∙ sym (column_place col k a))
      ∙ sym (get_or-map neg_ℚ (column_of e col) k zero_ℚ zero_ℚ (omega (arith, a, within col))))
      ∙ sym (value-negated columns (column_of e col) j)

  along_read : spread s (col ∷ columns) (one_ℚ ∷ changes) ≡ ray s columns e col
  along_read =
      list_from-same 1 n' (value_of_column (col ∷ columns) (one_ℚ ∷ changes))
      (λ j. if j == col then one_ℚ else neg_ℚ (value_of_column columns (column_of e col) j)) (λ j l u. place j)
    where
      place : (j : ℕ) → value_of_column (col ∷ columns) (one_ℚ ∷ changes) j ≡ (if j == col then one_ℚ else neg_ℚ (value_of_column columns (column_of e col) j))
      place j =
          let new : ℚ = value_of_column columns changes j in
          let old : ℚ = neg_ℚ (value_of_column columns (column_of e col) j) in
          elim (same_or_other col j) [
            | inl a ↦ elim (same_or_other j col) [
              | inl b ↦ if_true (col == j) one_ℚ new a.1 ∙ sym (if_true (j == col) one_ℚ old b.1)
              | inr b ↦ absurd (b.0 (sym a.0))
            ]
            | inr a ↦ elim (same_or_other j col) [
              | inl b ↦ absurd (a.0 (sym b.0))
              | inr b ↦ if_false (col == j) one_ℚ new a.1 ∙ change_read j ∙ sym (if_false (j == col) one_ℚ old b.1)
            ]
          ]

  pub unbounded_at : UnboundedAt s columns e col (spread s columns vs) (spread s (col ∷ columns) (one_ℚ ∷ changes))
  unbounded_at = record {
    feasible = record {
      full = whole-dictionary s columns ok h rank one.0 two.0 one.1 two.1;
      right = λ i l u. subst (λ (q : ℚ). zero_ℚ ≤ℚ q) (sym (value_is i l u))
          (All-get_or (λ q. zero_ℚ ≤ℚ q) vs (i - 1) zero_ℚ (omega (arith, l, u, good.one_each, h.one_each)) good.at_least_zero);
      artificial = λ i l u over. value_is i l u ∙ good.artificial i l (omega (arith, u, h.one_each)) over;
    };
    from_one = along.from_one;
    unknown = along.unknown;
    betters = betters;
    unlimited = λ i l u. subst (λ (q : ℚ). q ≤ℚ zero_ℚ) (sym (change_is i l u))
        (nonpositive (entry changes i)
        (All-get_or (λ q. zero_ℚ ≤ℚ q) changes (i - 1) zero_ℚ (omega (arith, l, u, along.one_each, h.one_each)) along.at_least_zero));
    artificial = λ i l u over. change_is i l u ∙ ap neg_ℚ (along.artificial i l (omega (arith, u, h.one_each)) over) ∙ neg_zero;
    x_read = x_read;
    along_read = along_read;
  }
    where
      nonpositive : (q : ℚ) → zero_ℚ ≤ℚ q → neg_ℚ q ≤ℚ zero_ℚ
      nonpositive q k = le_of_difference (neg_ℚ q) zero_ℚ q k (add_comm (neg_ℚ q) q ∙ add_neg q)

pub ray_is_shown : RayIsShown
ray_is_shown s columns order vs col changes ok h shown good along =
    let rank = full_rank s columns order ok shown in
    let at = unbounded_at s columns vs col changes ok h rank good along in
    (ends_are_right.unbounded s columns _ col (spread s columns vs) (spread s (col ∷ columns) (one_ℚ ∷ changes)) ok at, (_, at))
