-- What passes the tests is an end of the system that the columns stand for.
use Rattle.std.proofs.Common.{◌≡◌, ℕ, List, ◌∷◌, length, map, All, sym, ap, ap₂, ◌∙◌, subst, arith, ◌<◌, ◌≤◌, ◌-◌, ◌+◌, inl, inr, ◌⊎◌, slice_index_or}
use Rattle.std.proofs.lemmas.Bool.{cases_lt}
use Rattle.std.proofs.lemmas.List.{length-map}
use Rattle.std.proofs.lemmas.List.Elements.{All-cons}
use Rattle.exact_field.specs.Rational.{ℚ, zero_ℚ, one_ℚ, ◌+ℚ◌, neg_ℚ, ◌≤ℚ◌, ◌<ℚ◌}
use Rattle.exact_field.specs.Vector.{entry, dot}
use Rattle.exact_field.proofs.Rationals.{add_comm_ℚ, add-neg_ℚ, zero-add_ℚ}
use Rattle.polyhedra.specs.Vectors.{combination, zeros}
use Rattle.tableaux.specs.Table.{Table, System, at, listed, table_of, equation_count, unknown_count, first_cost}
use Rattle.tableaux.specs.Dictionary.{value_of_column}
use Rattle.tableaux.specs.Optimum.{AreColumns, ArePrices, equations_at}
use Rattle.tableaux.specs.Simplex.{BoundsColumns, InfeasibleAt, IsInfeasible, IsOptimal, IsUnbounded, OptimalAt, UnboundedAt}
use Rattle.tableaux.proofs.Entries.{first-unknown, first-artificial}
use Rattle.tableaux.proofs.Optima.{column-unknown}
use Rattle.shown_bases.specs.Laws.{AreFirstPrices, AreValues, IsDirection, vectors_at, spread}
use Rattle.shown_bases.specs.Orders.{Order, ShowsRank}
use Rattle.shown_bases.proofs.Ends.{empty_is_shown, ray_is_shown}
use Rattle.shown_bases.proofs.Optima.{optimum_is_shown}
use Rattle.shown_bases.proofs.Whole.{cost_entry}
use Rattle.program_columns.proofs.Listed.{same_maps}
use Rattle.program_columns.specs.Program.{AreInRange, IsProgramOf, column_in, vectors_in}
use Rattle.program_columns.specs.declared.columns.Columns.{Columns}
use Rattle.shown_program.specs.Tests.{AreAllowed, IsFirstPrice, Passes, PassesAlong, PassesEmpty, SumTo}

module _ {F : Type 0} (value : F → ℚ) (s : System) (p : Columns F) (of : IsProgramOf value s p) where
  rows : length p.right ≡ equation_count s
  rows = sym (length-map p.right value) ∙ ap length of.right ∙ of.system.right_each

  unknowns : length p.cost ≡ unknown_count s
  unknowns = sym (length-map p.cost value) ∙ ap length of.cost

  -- some columns
  same_vectors : (columns : List ℕ) → All (λ c. 1 ≤ c) columns →
      All (λ c. c ≤ unknown_count s + equation_count s) columns →
      vectors_in value p columns ≡ vectors_at s columns
  same_vectors columns low high =
      same_maps (column_in value p) (equations_at s) columns
      (λ k d l. of.columns (slice_index_or columns k d) (low k d l) (high k d l))

  same_sums : (columns : List ℕ) (values total : List ℚ) → All (λ c. 1 ≤ c) columns →
      All (λ c. c ≤ unknown_count s + equation_count s) columns →
      SumTo value p columns values total →
      combination (equation_count s) values (vectors_at s columns) ≡ total
  same_sums columns values total low high h =
      sym (ap₂ (λ n t. combination n values t) rows (same_vectors columns low high)) ∙ h

  module _ (columns : List ℕ) (range : AreInRange p columns) where
    to_end : All (λ c. c ≤ unknown_count s + equation_count s) columns
    to_end =
        subst (λ (k : ℕ). All (λ c. c ≤ k) columns) (ap₂ (λ a b. a + b) unknowns rows)
        range.to_end

    are_columns : AreColumns s columns
    are_columns = record {
      one_each = range.one_each ∙ rows;
      from_one = range.from_one;
      to_end = to_end;
    }

    rank : (order : Order) → ShowsRank (length p.right) (vectors_in value p columns) order →
        ShowsRank (equation_count s) (vectors_at s columns) order
    rank order h =
        subst (λ (n : ℕ). ShowsRank n (vectors_at s columns) order) rows
        (subst (λ (t : Table). ShowsRank (length p.right) t order)
        (same_vectors columns range.from_one to_end) h)

    are_values : (values : List ℚ) → length values ≡ length columns →
        AreAllowed (length p.cost) columns values →
        SumTo value p columns values (map value p.right) → AreValues s columns values
    are_values values each allowed sum = record {
      one_each = each;
      at_least_zero = allowed.at_least_zero;
      artificial = λ k l u over. allowed.artificial k l u (omega (arith, over, unknowns));
      solve = same_sums columns values (map value p.right) range.from_one to_end sum ∙ of.right;
    }

  -- a solution of the large program is spread alike
  spread_same : (columns : List ℕ) (values : List ℚ) (xs : List F) →
      map value xs ≡ listed (length p.cost) (value_of_column columns values) →
      spread s columns values ≡ map value xs
  spread_same columns values xs is =
      sym (is ∙ ap (λ (k : ℕ). listed k (value_of_column columns values)) unknowns)

  -- ---- an optimum
  module _ (columns : List ℕ) (values y : List ℚ) (order : Order)
      (h : Passes value p columns values y order) where
    bounds : BoundsColumns s (entry s.cost) y
    bounds = λ j l u.
        subst (λ (v : List ℚ). entry s.cost j ≤ℚ dot y v)
        (of.columns j l (omega arith) ∙ column-unknown s of.system j l u)
        (subst (λ (v : List ℚ). entry v j ≤ℚ dot y (column_in value p j)) of.cost
        (h.bound j l (omega (arith, unknowns))))

    prices : ArePrices s columns y
    prices = record {
      one_each = h.multipliers_each ∙ rows;
      equal = λ k d l.
          let c = slice_index_or columns k d in
          let from_one : 1 ≤ c = h.range.from_one k d l in
          let high = to_end columns h.range k d l in
          let product : dot y (equations_at s c) ≡ entry s.cost c =
          ap (dot y) (sym (of.columns c from_one high)) ∙ h.tight k d l
          ∙ ap (λ (v : List ℚ). entry v c) of.cost in
          ap₂ (λ a b. a +ℚ b) (cost_entry s of.system c from_one high) product
          ∙ add_comm_ℚ (neg_ℚ (entry s.cost c)) (entry s.cost c) ∙ add-neg_ℚ (entry s.cost c);
    }

    shows : IsOptimal s (spread s columns values) y
        × ((d : Table) × OptimalAt s columns d (spread s columns values) y)
    shows =
        optimum_is_shown s columns order values y of.system (are_columns columns h.range)
        (rank columns h.range order h.rank)
        (are_values columns h.range values h.values_each h.allowed h.solve) prices bounds

    -- .. at copies of the values and the multipliers
    pub shows_at : (xs ys : List F) (basis : List ℕ) →
        map value xs ≡ listed (length p.cost) (value_of_column columns values) →
        map value ys ≡ y → basis ≡ columns →
        IsOptimal s (map value xs) (map value ys)
        × ((d : Table) × OptimalAt s basis d (map value xs) (map value ys))
    shows_at xs ys basis x_is y_is basis_is =
        subst (λ (x : List ℚ). IsOptimal s x (map value ys)
        × ((d : Table) × OptimalAt s basis d x (map value ys))) (spread_same columns values xs x_is)
        (subst (λ (v : List ℚ). IsOptimal s (spread s columns values) v
        × ((d : Table) × OptimalAt s basis d (spread s columns values) v)) (sym y_is)
        (subst (λ (b : List ℕ). IsOptimal s (spread s columns values) y
        × ((d : Table) × OptimalAt s b d (spread s columns values) y)) (sym basis_is) shows))

  -- ---- solutions of any cost
  module _ (columns : List ℕ) (values : List ℚ) (col : ℕ) (changes : List ℚ) (order : Order)
      (h : PassesAlong value p columns values col changes order) where
    direction : IsDirection s columns col changes
    direction = record {
      from_one = h.along.from_one;
      unknown = omega (arith, h.along.unknown, unknowns);
      one_each = h.along.one_each;
      at_least_zero = h.along.allowed.at_least_zero;
      artificial = λ k l u over. h.along.allowed.artificial k l u (omega (arith, over, unknowns));
      level =
          same_sums (col ∷ columns) (one_ℚ ∷ changes) (zeros (length p.right)) low high h.along.level
          ∙ ap zeros rows;
      rises = subst (λ (v : List ℚ). zero_ℚ <ℚ dot (one_ℚ ∷ changes)
          (map (entry v) (col ∷ columns))) of.cost h.along.rises;
    }
      where
        low : All (λ c. 1 ≤ c) (col ∷ columns)
        low = All-cons (λ c. 1 ≤ c) col columns h.along.from_one h.range.from_one

        high : All (λ c. c ≤ unknown_count s + equation_count s) (col ∷ columns)
        high = All-cons (λ c. c ≤ unknown_count s + equation_count s) col columns
            (omega (arith, h.along.unknown, unknowns)) (to_end columns h.range)

    shows_ray : IsUnbounded s (spread s columns values) (spread s (col ∷ columns) (one_ℚ ∷ changes))
        × ((d : Table) × UnboundedAt s columns d col (spread s columns values)
        (spread s (col ∷ columns) (one_ℚ ∷ changes)))
    shows_ray =
        ray_is_shown s columns order values col changes of.system (are_columns columns h.range)
        (rank columns h.range order h.rank)
        (are_values columns h.range values h.values_each h.allowed h.solve) direction

    -- .. at copies
    pub shows_ray_at : (xs rs : List F) (basis : List ℕ) →
        map value xs ≡ listed (length p.cost) (value_of_column columns values) →
        map value rs ≡ listed (length p.cost) (value_of_column (col ∷ columns) (one_ℚ ∷ changes)) →
        basis ≡ columns →
        IsUnbounded s (map value xs) (map value rs)
        × ((d : Table) × (k : ℕ) × UnboundedAt s basis d k (map value xs) (map value rs))
    shows_ray_at xs rs basis x_is r_is basis_is =
        let x : List ℚ = spread s columns values in
        let found = shows_ray in
        subst (λ (x : List ℚ). IsUnbounded s x (map value rs)
        × ((d : Table) × (k : ℕ) × UnboundedAt s basis d k x (map value rs)))
        (spread_same columns values xs x_is)
        (subst (λ (r : List ℚ). IsUnbounded s x r
        × ((d : Table) × (k : ℕ) × UnboundedAt s basis d k x r))
        (spread_same (col ∷ columns) (one_ℚ ∷ changes) rs r_is)
        (subst (λ (b : List ℕ). IsUnbounded s x (spread s (col ∷ columns) (one_ℚ ∷ changes))
        × ((d : Table) × (k : ℕ) × UnboundedAt s b d k x
        (spread s (col ∷ columns) (one_ℚ ∷ changes)))) (sym basis_is)
        (found.0, (found.1.0, col, found.1.1))))

  -- ---- no solution
  module _ (columns : List ℕ) (y : List ℚ) (order : Order)
      (h : PassesEmpty value p columns y order) where
    first_prices : AreFirstPrices s columns y
    first_prices = record {
      one_each = h.multipliers_each ∙ rows;
      equal = λ k d l.
          let c = slice_index_or columns k d in
          balance c (h.range.from_one k d l) (to_end columns h.range k d l) (h.prices k d l)
          (cases_lt (unknown_count s) c);
    }
      where
        balance : (c : ℕ) → 1 ≤ c → c ≤ unknown_count s + equation_count s →
            IsFirstPrice value p y c → (unknown_count s < c) ⊎ (c ≤ unknown_count s) →
            at (table_of s) (first_cost s) c +ℚ dot y (equations_at s c) ≡ zero_ℚ
        balance c low high price (inr own) =
            ap₂ (λ a b. a +ℚ b) (first-unknown s of.system c low own)
            (ap (dot y) (sym (of.columns c low high)) ∙ price.unknown (omega (arith, own, unknowns)))
            ∙ zero-add_ℚ zero_ℚ
        balance c low high price (inl over) =
            let n = unknown_count s in
            ap₂ (λ a b. a +ℚ b)
            (ap (at (table_of s) (first_cost s)) (let same : c ≡ n + (c - n) = omega arith in same)
            ∙ first-artificial s of.system (c - n) (omega arith) (omega arith))
            (ap (dot y) (sym (of.columns c low high)) ∙ price.artificial (omega (arith, over, unknowns)))
            ∙ add-neg_ℚ one_ℚ

    not_below : BoundsColumns s (λ j. zero_ℚ) y
    not_below = λ j l u.
        subst (λ (v : List ℚ). zero_ℚ ≤ℚ dot y v)
        (of.columns j l (omega arith) ∙ column-unknown s of.system j l u)
        (h.bound j l (omega (arith, unknowns)))

    shows_empty : IsInfeasible s y × ((d : Table) × InfeasibleAt s columns d y)
    shows_empty =
        empty_is_shown s columns order y of.system (are_columns columns h.range)
        (rank columns h.range order h.rank) first_prices not_below
        (subst (λ (v : List ℚ). dot y v <ℚ zero_ℚ) of.right h.below)

    -- .. at copies
    pub shows_empty_at : (ys : List F) (basis : List ℕ) → map value ys ≡ y → basis ≡ columns →
        IsInfeasible s (map value ys) × ((d : Table) × InfeasibleAt s basis d (map value ys))
    shows_empty_at ys basis y_is basis_is =
        subst (λ (v : List ℚ). IsInfeasible s v × ((d : Table) × InfeasibleAt s basis d v)) (sym y_is)
        (subst (λ (b : List ℕ). IsInfeasible s y × ((d : Table) × InfeasibleAt s b d y))
        (sym basis_is) shows_empty)
