-- The dictionary of the whole table at columns of full rank, with multipliers that clear its cost rows.
use Rattle.std.proofs.Common.{◌≡◌, ℕ, suc, List, [], ◌∷◌, ◌++◌, length, sym, ap, ap₂, ◌∙◌, subst, arith, ◌<◌, ◌≤◌, ◌-◌, ◌+◌, inl, inr, slice_index_or}
use Rattle.std.specs.Prelude.{◌==◌}
use Rattle.std.proofs.lemmas.Bool.{cases_lt}
use Rattle.std.proofs.lemmas.List.{append_assoc, get_or-map, get_or_past, length-map, map-append}
use Rattle.exact_field.specs.Rational.{ℚ, zero_ℚ, ◌+ℚ◌, neg_ℚ}
use Rattle.exact_field.specs.Vector.{entry, dot}
use Rattle.polyhedra.specs.Vectors.{AreWide, plus, values, combination}
use Rattle.polyhedra.specs.Cone.{HasFullRank}
use Rattle.polyhedra.proofs.Algebra.{neg_zero}
use Rattle.polyhedra.proofs.Linear.{dot_comm, dot-combination, length-combination}
use Rattle.tableaux.specs.Chosen.{IsCleared}
use Rattle.tableaux.specs.Dictionary.{basic_column, AreBasicMultipliers, IsDictionary, IsFullDictionaryOf}
use Rattle.tableaux.specs.Optimum.{AreColumns, equation_table, equations_at}
use Rattle.tableaux.specs.Table.{Table, System, IsSystem, row_of, at, column_of, listed, unit, first_cost_row, second_cost_row, table_of, equation_count, unknown_count, right_column, first_cost, second_cost}
use Rattle.tableaux.proofs.AddedRow.{added, cleared, long_more, more_before, more_last, none_more, wide_more}
use Rattle.tableaux.proofs.Definition.{dictionary_of, same_default, slice_eq, unit_entry, value_at as value_place}
use Rattle.tableaux.proofs.Entries.{equation-right, second-artificial, second-unknown, table-long, table-wide}
use Rattle.tableaux.proofs.Matrix.{HasMatrix, test}
use Rattle.tableaux.proofs.Optima.{column-at, column-long_m, eqs-long, eqs-row}
use Rattle.tableaux.proofs.Places.{length-list_from, listed-place, entry-plus, row-wide, same_or_other, if_false, delta}
use Rattle.tableaux.proofs.Unique.{dot-unit, entry-combination}
use Rattle.shown_bases.specs.Laws.{vectors_at}
use Rattle.shown_bases.specs.Orders.{Order, ShowsRank}
use Rattle.shown_bases.proofs.Ranks.{order_shows_rank}
use Rattle.shown_bases.proofs.Solving.{listed_wide, multipliers_of, multipliers_long, multipliers_meet}

next : (k : ℕ) → 1 + k - 1 ≡ k
next k = omega arith

-- the right sides are a column of the equations
pub right_is : (s : System) → IsSystem s → equations_at s (right_column s) ≡ s.right
right_is s ok =
    slice_eq (equations_at s (right_column s)) s.right (column-long_m s ok (right_column s) ∙ sym ok.right_each)
    (λ k l.
    let inside : k < equation_count s = omega (arith, l, column-long_m s ok (right_column s)) in
    ap (λ i. slice_index_or (equations_at s (right_column s)) i zero_ℚ) (sym (next k))
    ∙ column-at s ok (1 + k) (right_column s) (omega arith) (omega (arith, inside)) ∙ equation-right s ok (1 + k) (omega arith) (omega (arith, inside))
    ∙ ap (λ i. slice_index_or s.right i zero_ℚ) (next k))

-- the second cost row has the negated costs, and 0 at the artificial columns
pub cost_entry : (s : System) (ok : IsSystem s) (c : ℕ) → 1 ≤ c → c ≤ unknown_count s + equation_count s →
    at (table_of s) (second_cost s) c ≡ neg_ℚ (entry s.cost c)
cost_entry s ok c l u =
    elim (cases_lt (unknown_count s) c) [
      | inl over ↦
          let n : ℕ = unknown_count s in
          let back : n + (c - n) ≡ c = omega arith in
          ap (at (table_of s) (second_cost s)) (sym back) ∙ second-artificial s ok (c - n) (omega arith) (omega arith)
          ∙ sym neg_zero ∙ ap neg_ℚ (sym (get_or_past s.cost (c - 1) zero_ℚ (omega arith)))
      | inr inside ↦ second-unknown s ok c l inside ∙ get_or-map neg_ℚ s.cost (c - 1) zero_ℚ zero_ℚ (omega arith)
    ]

-- an order shows that columns of a system are of full rank
pub full_rank : (s : System) (columns : List ℕ) (order : Order) → IsSystem s → ShowsRank (equation_count s) (vectors_at s columns) order →
    HasFullRank (equation_count s) (vectors_at s columns)
full_rank s columns order ok shown =
    order_shows_rank (equation_count s) (vectors_at s columns) order
    (record {
      wide = λ i e l.
          let inside : i < length columns = omega (arith, l, length-map columns (equations_at s)) in
          ap length (get_or-map (equations_at s) columns i 0 e inside) ∙ column-long_m s ok (slice_index_or columns i 0);
    })
    shown

module _ (s : System) (columns : List ℕ) (ok : IsSystem s) (h : AreColumns s columns) (rank : HasFullRank (equation_count s) (vectors_at s columns)) where
  abbrev m : ℕ
  m = equation_count s

  abbrev c : Table
  c = vectors_at s columns

  abbrev eqs : Table
  eqs = equation_table s

  abbrev wide : ℕ
  wide = right_column s

  abbrev pub shares_of : ℕ → List ℚ
  shares_of i = multipliers_of s columns ok h rank i

  c_long : length c ≡ m
  c_long = length-map columns (equations_at s) ∙ h.one_each

  -- what the multipliers make of a combination of the columns
  pub shares_read : (vs : List ℚ) (i : ℕ) → 1 ≤ i → i ≤ m → dot (shares_of i) (combination m vs c) ≡ entry vs i
  shares_read vs i l u =
      dot-combination m (shares_of i) vs c ∙ ap (dot vs) products ∙ dot_comm vs (unit m i) ∙ dot-unit m i vs l u
    where
      products : values c (shares_of i) ≡ unit m i
      products =
          let ms : List ℚ = shares_of i in
          slice_eq (values c ms) (unit m i) (length-map c (λ r. dot r ms) ∙ c_long ∙ sym (length-list_from 1 m (λ j. delta j i)))
          (λ k a.
          let inside : k < m = omega (arith, a, length-map c (λ r. dot r ms), c_long) in
          let column : ℕ = slice_index_or columns k 0 in
          value_place c ms k (omega (arith, inside, c_long))
          ∙ ap (λ v. dot v ms) (get_or-map (equations_at s) columns k 0 [] (omega (arith, inside, h.one_each)))
          ∙ dot_comm (equations_at s column) ms
          ∙ ap (λ j. dot ms (equations_at s (slice_index_or columns j 0))) (sym (next k))
          ∙ multipliers_meet s columns ok h rank i (1 + k) l u (omega arith) (omega (arith, inside))
          ∙ sym (unit_entry m i (1 + k) (omega arith) (omega (arith, inside)))
          ∙ ap (λ j. slice_index_or (unit m i) j zero_ℚ) (next k))

  eqs-wide : AreWide wide eqs
  eqs-wide = record {
    wide = λ i e l.
        ap length (same_default eqs i e [] l ∙ ap (λ k. slice_index_or eqs k []) (sym (next i)) ∙ eqs-row s ok (1 + i) (omega arith) (omega (arith, l, eqs-long s ok)))
        ∙ row-wide wide (table_of s) (1 + i) (table-wide s ok) (omega arith) (omega (arith, l, eqs-long s ok, table-long s ok));
  }

  -- ---- the equations
  pub low : (i : ℕ) → 1 ≤ i → i ≤ m → 1 ≤ basic_column columns i
  low i l u = h.from_one (i - 1) 0 (omega (arith, l, u, h.one_each))

  pub high : (i : ℕ) → 1 ≤ i → i ≤ m → basic_column columns i ≤ unknown_count s + m
  high i l u = h.to_end (i - 1) 0 (omega (arith, l, u, h.one_each))

  none_past : (i : ℕ) → m < i → basic_column columns i ≡ 0
  none_past i l = get_or_past columns (i - 1) 0 (omega (arith, l, h.one_each))

  abbrev first_row : ℕ → List ℚ
  first_row i = combination wide (shares_of i) eqs

  abbrev first : Table
  first = listed m first_row

  first-entry : (i j : ℕ) → 1 ≤ i → i ≤ m → at first i j ≡ dot (shares_of i) (equations_at s j)
  first-entry i j l u = ap (λ r. entry r j) (listed-place m first_row i [] l u) ∙ entry-combination wide (shares_of i) eqs j

  first-matrix : HasMatrix wide eqs columns first (listed m shares_of)
  first-matrix = record {
    d_many = length-list_from 1 m first_row ∙ sym (eqs-long s ok);
    m_many = length-list_from 1 m shares_of ∙ sym (eqs-long s ok);
    d_wide = listed_wide s columns ok h rank wide first_row (λ i. length-combination wide (shares_of i) eqs eqs-wide);
    m_wide = listed_wide s columns ok h rank (length eqs) shares_of (λ i. multipliers_long s columns ok h rank i ∙ sym (eqs-long s ok));
    rows = λ i l u. (let inside : i ≤ m = omega (arith, u, eqs-long s ok) in
        listed-place m first_row i [] l inside ∙ ap (λ v. combination wide v eqs) (sym (listed-place m shares_of i [] l inside)));
    tests = λ i k l u a b. (let inside : i ≤ m = omega (arith, u, eqs-long s ok) in let within : k ≤ m = omega (arith, b, eqs-long s ok) in tested i k l inside a within);
  }
    where
      tested : (i k : ℕ) → 1 ≤ i → i ≤ m → 1 ≤ k → k ≤ m → test columns first (listed m shares_of) i k ≡ delta i k
      tested i k l u a b =
          elim (same_or_other (basic_column columns k) 0) [
            | inl z ↦ (let none = z.0 in let some = low k a b in absurd (omega (arith, none, some)))
            | inr o ↦
                if_false (basic_column columns k == 0) (at (listed m shares_of) i k) (at first i (basic_column columns k)) o.1
                ∙ first-entry i (basic_column columns k) l u ∙ multipliers_meet s columns ok h rank i k l u a b
          ]

  first-dictionary : IsDictionary wide eqs columns first
  first-dictionary = dictionary_of wide eqs columns first (listed m shares_of) eqs-wide first-matrix

  first-long : length first ≡ m
  first-long = length-list_from 1 m first_row

  -- ---- multipliers that clear row i of the table, a cost row
  pub record Clears (i : ℕ) (y : List ℚ) : Type 0 where
    pub one_each : length y ≡ m
    pub at_columns : (k : ℕ) → 1 ≤ k → k ≤ m → at (table_of s) i (basic_column columns k) +ℚ dot y (equations_at s (basic_column columns k)) ≡ zero_ℚ

  -- each row has some
  pub some_clear : (i : ℕ) → (y : List ℚ) × Clears i y
  some_clear i =
      let found = cleared wide eqs columns first (row_of (table_of s) i) eqs-wide first-dictionary in (
        found.0,
        record {
          one_each = found.1.one_each ∙ eqs-long s ok;
          at_columns = λ k l u. found.2 k l (omega (arith, u, eqs-long s ok)) (λ e. let some = low k l u in omega (arith, some, e));
        },
      )

  abbrev v₁ : List ℚ
  v₁ = first_cost_row s

  abbrev v₂ : List ℚ
  v₂ = second_cost_row s

  abbrev t₁ : Table
  t₁ = eqs ++ v₁ ∷ []

  whole-is : t₁ ++ v₂ ∷ [] ≡ table_of s
  whole-is = append_assoc eqs (v₁ ∷ []) (v₂ ∷ [])

  t₁-long : length t₁ ≡ suc m
  t₁-long = long_more eqs v₁ ∙ ap suc (eqs-long s ok)

  v₁-is : row_of (table_of s) (first_cost s) ≡ v₁
  v₁-is =
      ap (λ (t : Table). row_of t (first_cost s)) (sym whole-is) ∙ more_before t₁ v₂ [] (first_cost s) (omega arith) (omega (arith, t₁-long))
      ∙ more_last eqs v₁ [] (first_cost s) (omega (arith, eqs-long s ok))

  v₂-is : row_of (table_of s) (second_cost s) ≡ v₂
  v₂-is = ap (λ (t : Table). row_of t (second_cost s)) (sym whole-is) ∙ more_last t₁ v₂ [] (second_cost s) (omega (arith, t₁-long))

  v₁-wide : length v₁ ≡ wide
  v₁-wide = ap length (sym v₁-is) ∙ row-wide wide (table_of s) (first_cost s) (table-wide s ok) (omega arith) (omega (arith, table-long s ok))

  v₂-wide : length v₂ ≡ wide
  v₂-wide = ap length (sym v₂-is) ∙ row-wide wide (table_of s) (second_cost s) (table-wide s ok) (omega arith) (omega (arith, table-long s ok))

  t₁-wide : AreWide wide t₁
  t₁-wide = wide_more wide eqs v₁ eqs-wide v₁-wide

  -- ---- the whole table
  module _ (y₁ y₂ : List ℚ) (clear₁ : Clears (first_cost s) y₁) (clear₂ : Clears (second_cost s) y₂) where
    y₁-basic : AreBasicMultipliers (length eqs) columns y₁
    y₁-basic = record {
      one_each = clear₁.one_each ∙ sym (eqs-long s ok);
      basic = λ i l u e. let some = low i l (omega (arith, u, eqs-long s ok)) in absurd (omega (arith, some, e));
    }

    y₁-clears : IsCleared eqs columns v₁ y₁
    y₁-clears k l u some =
        ap (λ r. entry r (basic_column columns k) +ℚ dot y₁ (equations_at s (basic_column columns k))) (sym v₁-is)
        ∙ clear₁.at_columns k l (omega (arith, u, eqs-long s ok))

    abbrev first_costs : List ℚ
    first_costs = plus v₁ (combination wide y₁ eqs)

    abbrev d₁ : Table
    d₁ = first ++ first_costs ∷ []

    d₁-dictionary : IsDictionary wide t₁ columns d₁
    d₁-dictionary = added wide eqs columns first v₁ y₁ eqs-wide v₁-wide first-dictionary (none_past (suc (length eqs)) (omega (arith, eqs-long s ok))) y₁-basic y₁-clears

    abbrev y₂' : List ℚ
    y₂' = y₂ ++ zero_ℚ ∷ []

    y₂-basic : AreBasicMultipliers (length t₁) columns y₂'
    y₂-basic = record {
      one_each = long_more y₂ zero_ℚ ∙ ap suc clear₂.one_each ∙ sym t₁-long;
      basic = λ i l u e. elim (cases_lt m i) [
        | inl over ↦ more_last y₂ zero_ℚ zero_ℚ i (omega (arith, over, u, t₁-long, clear₂.one_each))
        | inr inside ↦ let some = low i l inside in absurd (omega (arith, some, e))
      ];
    }

    product₂ : (j : ℕ) → dot y₂' (column_of t₁ j) ≡ dot y₂ (equations_at s j)
    product₂ j = ap (dot y₂') (map-append (λ r. entry r j) eqs (v₁ ∷ [])) ∙ none_more y₂ (equations_at s j) (entry v₁ j) (column-long_m s ok j ∙ sym clear₂.one_each)

    y₂-clears : IsCleared t₁ columns v₂ y₂'
    y₂-clears k l u some =
        elim (cases_lt m k) [
          | inl over ↦ absurd (some (none_past k over))
          | inr inside ↦ ap₂ (λ r q. entry r (basic_column columns k) +ℚ q) (sym v₂-is) (product₂ (basic_column columns k)) ∙ clear₂.at_columns k l inside
        ]

    abbrev second_costs : List ℚ
    second_costs = plus v₂ (combination wide y₂' t₁)

    abbrev pub whole : Table
    whole = d₁ ++ second_costs ∷ []

    d₁-long : length d₁ ≡ suc m
    d₁-long = long_more first first_costs ∙ ap suc first-long

    pub whole-long : length whole ≡ suc (suc m)
    whole-long = long_more d₁ second_costs ∙ ap suc d₁-long

    pub whole-dictionary : IsFullDictionaryOf s columns whole
    whole-dictionary = record {
      dictionary = record {
        columns = record {
          within = λ i l. elim (cases_lt m i) [
            | inl over ↦ let none = none_past i over in omega (arith, none)
            | inr inside ↦ let most = high i l inside in omega (arith, most)
          ];
          equations_only = none_past;
        };
        dictionary = subst (λ (t : Table). IsDictionary wide t columns whole) whole-is
            (added wide t₁ columns d₁ v₂ y₂' t₁-wide v₂-wide d₁-dictionary (none_past (suc (length t₁)) (omega (arith, t₁-long))) y₂-basic y₂-clears);
      };
      full = λ i l u e. let some = low i l u in omega (arith, some, e);
    }

    -- its entries
    pub whole-entry : (i j : ℕ) → 1 ≤ i → i ≤ m → at whole i j ≡ dot (shares_of i) (equations_at s j)
    whole-entry i j l u =
        ap (λ r. entry r j) (more_before d₁ second_costs [] i l (omega (arith, u, d₁-long)) ∙ more_before first first_costs [] i l (omega (arith, u, first-long)))
        ∙ first-entry i j l u

    pub whole-first : (j : ℕ) → at whole (first_cost s) j ≡ at (table_of s) (first_cost s) j +ℚ dot y₁ (equations_at s j)
    whole-first j =
        ap (λ r. entry r j)
        (more_before d₁ second_costs [] (first_cost s) (omega arith) (omega (arith, d₁-long)) ∙ more_last first first_costs [] (first_cost s) (omega (arith, first-long)))
        ∙ entry-plus v₁ (combination wide y₁ eqs) j
        ∙ ap₂ (λ a b. a +ℚ b) (ap (λ r. entry r j) (sym v₁-is)) (entry-combination wide y₁ eqs j)

    pub whole-second : (j : ℕ) → at whole (second_cost s) j ≡ at (table_of s) (second_cost s) j +ℚ dot y₂ (equations_at s j)
    whole-second j =
        ap (λ r. entry r j) (more_last d₁ second_costs [] (second_cost s) (omega (arith, d₁-long)))
        ∙ entry-plus v₂ (combination wide y₂' t₁) j
        ∙ ap₂ (λ a b. a +ℚ b) (ap (λ r. entry r j) (sym v₂-is)) (entry-combination wide y₂' t₁ j ∙ product₂ j)
