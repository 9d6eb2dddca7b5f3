-- The optimal end is read off the columns of a basis.
use Rattle.std.proofs.Common.{◌≡◌, ◌≢◌, ℕ, zero, suc, List, [], ◌∷◌, ◌++◌, length, map, All, refl, sym, ap, ap₂, ◌∙◌, subst, arith, ◌<◌, ◌≤◌, ◌+◌, ◌-◌, inl, inr, slice_index_or}
use Rattle.std.specs.Prelude.{◌==◌, if◌then◌else◌}
use Rattle.std.proofs.lemmas.Bool.{cases_lt}
use Rattle.std.proofs.lemmas.List.{append_assoc, get_or_append_left, get_or-map, get_or_past, length-map, map-append}
use Rattle.std.proofs.Math.ListN.{length-append}
use Rattle.exact_field.specs.Rational.{ℚ, zero_ℚ, ◌+ℚ◌, ◌*ℚ◌, neg_ℚ, ◌≤ℚ◌}
use Rattle.exact_field.specs.Vector.{entry, dot}
use Rattle.polyhedra.specs.Vectors.{AreWide, plus, scaled, combination}
use Rattle.polyhedra.proofs.Laws.{add_comm}
use Rattle.polyhedra.proofs.Algebra.{zero_add, mul_zero}
use Rattle.polyhedra.proofs.Linear.{dot_comm, dot-scaled, length-scaled}
use Rattle.polyhedra.proofs.Order.{difference_nonneg}
use Rattle.tableaux.specs.Table.{Table, System, IsSystem, row_of, at, column_of, listed, unit, first_cost_row, second_cost_row, table_of, equation_count, unknown_count, right_column, second_cost}
use Rattle.tableaux.specs.Dictionary.{basic_column, AreBasicMultipliers, IsDictionary, IsFullDictionaryOf, value_of_column, solution, multipliers}
use Rattle.tableaux.specs.Elimination.{named_count}
use Rattle.tableaux.specs.Simplex.{BoundsColumns, IsBest, OptimalAt}
use Rattle.tableaux.proofs.Definition.{same_default, slice_eq, unit_entry, delta_sym}
use Rattle.tableaux.proofs.Eliminated.{all_named}
use Rattle.tableaux.proofs.Entries.{sign_of, table-long, table-wide, equation-unknown, equation-artificial, second-unknown, second-artificial}
use Rattle.tableaux.proofs.Found.{list_from-same}
use Rattle.tableaux.proofs.Places.{length-list_from, listed-is, entry-plus, entry-scaled, row-wide, same_or_other, delta, delta-other}
use Rattle.tableaux.proofs.Reading.{sign_twice}
use Rattle.tableaux.proofs.Ties.{column_entry}
use Rattle.tableaux.proofs.Unique.{dot-unit, entry-combination, column-long}
use Rattle.tableaux.specs.Chosen.{chosen, chosen_row, name_of, named, IsCleared}
use Rattle.tableaux.specs.Optimum.{AreColumns, ArePrices, IsAllowed, IsSolved, OptimumIsRead, beside_right, equation_table, equations_at, value_at}
use Rattle.tableaux.proofs.AddedRow.{added, cleared, long_more, more_before, more_last, none_more, wide_more}
use Rattle.tableaux.proofs.Choosing.{chosen-at, chosen_whole, named-column, name-some, whole, whole_dictionary}

next : (k : ℕ) → 1 + k - 1 ≡ k
next k = omega arith

-- values after the last place of a basis count for nothing
value-front : (basis : List ℕ) (vs more : List ℚ) (j : ℕ) → length basis ≡ length vs → value_of_column basis (vs ++ more) j ≡ value_of_column basis vs j
value-front [] [] more j l = refl
value-front [] (v ∷ vs) more j l = absurd (omega arith)
value-front (c ∷ basis) [] more j l = absurd (omega arith)
value-front (c ∷ basis) (v ∷ vs) more j l = ap (λ q. if c == j then v else q) (value-front basis vs more j (omega arith))

-- ---- the equations of a system
module _ (s : System) (ok : IsSystem s) where
  abbrev n : ℕ
  n = unknown_count s

  abbrev m : ℕ
  m = equation_count s

  abbrev eqs : Table
  eqs = equation_table s

  abbrev wide : ℕ
  wide = right_column s

  pub eqs-long : length eqs ≡ m
  eqs-long = omega (arith, length-append eqs (first_cost_row s ∷ second_cost_row s ∷ []), table-long s ok)

  pub eqs-row : (i : ℕ) → 1 ≤ i → i ≤ m → row_of eqs i ≡ row_of (table_of s) i
  eqs-row i l u = sym (get_or_append_left eqs (first_cost_row s ∷ second_cost_row s ∷ []) [] (i - 1) (omega (arith, l, u, eqs-long)))

  pub eqs-wide : AreWide wide eqs
  eqs-wide = record {
    wide = λ i e l.
        ap length (same_default eqs i e [] l ∙ ap (λ k. slice_index_or eqs k []) (sym (next i)) ∙ eqs-row (1 + i) (omega arith) (omega (arith, l, eqs-long)))
        ∙ row-wide wide (table_of s) (1 + i) (table-wide s ok) (omega arith) (omega (arith, l, eqs-long, table-long s ok));
  }

  pub column-at : (i j : ℕ) → 1 ≤ i → i ≤ m → entry (equations_at s j) i ≡ at (table_of s) i j
  column-at i j l u = column_entry eqs j (i - 1) (omega (arith, l, u, eqs-long)) ∙ ap (λ r. entry r j) (eqs-row i l u)

  pub column-long_m : (j : ℕ) → length (equations_at s j) ≡ m
  column-long_m j = column-long eqs j ∙ eqs-long

  -- a column by its entries
  column_is : (j : ℕ) (u : List ℚ) → length u ≡ m → ((i : ℕ) → 1 ≤ i → i ≤ m → at (table_of s) i j ≡ entry u i) → equations_at s j ≡ u
  column_is j u l e =
      slice_eq (equations_at s j) u (column-long_m j ∙ sym l)
      (λ i inside.
      let here : 1 + i ≤ m = omega (arith, inside, column-long_m j) in
      ap (λ k. slice_index_or (equations_at s j) k zero_ℚ) (sym (next i)) ∙ column-at (1 + i) j (omega arith) here ∙ e (1 + i) (omega arith) here
      ∙ ap (λ k. slice_index_or u k zero_ℚ) (next i))

  pub column-unknown : (j : ℕ) → 1 ≤ j → j ≤ n → equations_at s j ≡ column_of s.equations j
  column-unknown j l u =
      column_is j (column_of s.equations j) (column-long s.equations j)
      (λ i a b. equation-unknown s ok i j a b l u ∙ sym (column_entry s.equations j (i - 1) (omega (arith, a, b))))

  pub column-artificial : (k : ℕ) → 1 ≤ k → k ≤ m → equations_at s (n + k) ≡ scaled (sign_of s ok k) (unit m k)
  column-artificial k l u =
      let σ : ℚ = sign_of s ok k in
      column_is (n + k) (scaled σ (unit m k)) (length-scaled σ (unit m k) ∙ length-list_from 1 m (λ x. delta x k))
      (λ i a b. equation-artificial s ok i k a b l u ∙ signs i ∙ sym (entry-scaled σ (unit m k) i ∙ ap (λ q. σ *ℚ q) (unit_entry m k i a b)))
    where
      signs : (x : ℕ) → sign_of s ok x *ℚ delta x k ≡ sign_of s ok k *ℚ delta k x
      signs x =
          elim (same_or_other k x) [
            | inl e ↦ ap₂ (λ a b. sign_of s ok a *ℚ b) (sym e.0) (delta_sym x k)
            | inr o ↦ ap (λ b. sign_of s ok x *ℚ b) (delta-other x k (λ e. o.0 (sym e))) ∙ mul_zero (sign_of s ok x)
                ∙ sym (ap (λ b. sign_of s ok k *ℚ b) (delta-other k x o.0) ∙ mul_zero (sign_of s ok k))
          ]

  pub product-artificial : (k : ℕ) (y : List ℚ) → 1 ≤ k → k ≤ m → dot y (equations_at s (n + k)) ≡ sign_of s ok k *ℚ entry y k
  product-artificial k y l u =
      let σ : ℚ = sign_of s ok k in
      ap (dot y) (column-artificial k l u) ∙ dot-scaled y σ (unit m k) ∙ ap (λ q. σ *ℚ q) (dot_comm y (unit m k) ∙ dot-unit m k y l u)

  -- ---- the dictionary of the whole table
  module _ (columns basis : List ℕ) (d : Table) (x y : List ℚ) (c : AreColumns s columns) (h : IsSolved s columns basis d)
      (allowed : IsAllowed s (named columns basis) d) (prices : ArePrices s columns y) where
    abbrev beside : List ℕ
    beside = beside_right s columns

    abbrev nb : List ℕ
    nb = named columns basis

    beside-long : length beside ≡ suc m
    beside-long = long_more columns wide ∙ ap suc c.one_each

    within : (i : ℕ) → basic_column basis i ≤ m
    within i = h.eliminated.within i

    full : (i : ℕ) → 1 ≤ i → i ≤ m → basic_column basis i ≢ 0
    full i l u =
        let count : named_count basis ≡ length basis = omega (arith, h.eliminated.count, h.one_each) in
        all_named basis count (i - 1) (omega (arith, l, u, h.one_each))

    -- the columns themselves
    column_of_row : ℕ → ℕ
    column_of_row i = slice_index_or columns (basic_column basis i - 1) 0

    nb-is : (i : ℕ) → 1 ≤ i → i ≤ m → basic_column nb i ≡ column_of_row i
    unfolding column_of_row
    nb-is i l u = named-column columns basis i ∙ name-some columns (basic_column basis i) (let some = full i l u in omega (arith, some))

    place_inside : (i : ℕ) → 1 ≤ i → i ≤ m → basic_column basis i - 1 < length columns
    place_inside i l u = let some = full i l u in omega (arith, some, within i, c.one_each)

    nb-low : (i : ℕ) → 1 ≤ i → i ≤ m → 1 ≤ basic_column nb i
    unfolding column_of_row
    nb-low i l u =
        let low : 1 ≤ column_of_row i = c.from_one (basic_column basis i - 1) 0 (place_inside i l u) in
        omega (arith, low, nb-is i l u)

    nb-high : (i : ℕ) → 1 ≤ i → i ≤ m → basic_column nb i ≤ n + m
    unfolding column_of_row
    nb-high i l u =
        let high : column_of_row i ≤ n + m = c.to_end (basic_column basis i - 1) 0 (place_inside i l u) in
        omega (arith, high, nb-is i l u)

    nb-long : length nb ≡ m
    nb-long = length-map basis (name_of columns) ∙ h.one_each

    nb-none : (i : ℕ) → m < i → basic_column nb i ≡ 0
    nb-none i l = get_or_past nb (i - 1) 0 (omega (arith, l, nb-long))

    -- the names are the same with the right sides after them
    name-same : (k : ℕ) → k ≤ length columns → name_of beside k ≡ name_of columns k
    name-same zero l = refl
    name-same (suc k) l = get_or_append_left columns (wide ∷ []) 0 k (omega arith)

    named-same : (xs : List ℕ) → ((k : ℕ) → slice_index_or xs k 0 ≤ length columns) → named beside xs ≡ named columns xs
    named-same [] l = refl
    named-same (k ∷ xs) l = ap₂ (λ a b. a ∷ b) (name-same k (l 0)) (named-same xs (λ i. l (suc i)))

    nb-same : named beside basis ≡ nb
    nb-same = named-same basis (λ k. let inside = within (1 + k) in let same = next k in subst (λ (i : ℕ). slice_index_or basis i 0 ≤ length columns) same (omega (arith, inside, c.one_each)))

    pub own : IsDictionary (length beside) (chosen beside eqs) basis d
    own = subst (λ (w : ℕ). IsDictionary w (chosen beside eqs) basis d) (sym beside-long) h.dictionary

    pub beside-low : All (λ k. 1 ≤ k) beside
    beside-low i e l =
        elim (cases_lt i (length columns)) [
          | inl front ↦ subst (λ (q : ℕ). 1 ≤ q) (sym (get_or_append_left columns (wide ∷ []) e i front)) (c.from_one i e front)
          | inr past ↦
              let last : slice_index_or beside i e ≡ wide =
              (let same : i ≡ suc i - 1 = omega arith in ap (λ k. slice_index_or beside k e) same)
              ∙ more_last columns wide e (suc i) (omega (arith, past, l, long_more columns wide)) in
              subst (λ (q : ℕ). 1 ≤ q) (sym last) (omega arith)
        ]

    pub beside-within : (i : ℕ) → basic_column basis i ≤ length beside
    beside-within i = omega (arith, within i, beside-long)

    abbrev first : Table
    first = whole wide eqs beside basis d eqs-wide beside-low beside-within own

    first-dictionary : IsDictionary wide eqs nb first
    first-dictionary =
        subst (λ (b : List ℕ). IsDictionary wide eqs b first) nb-same (whole_dictionary wide eqs beside basis d eqs-wide beside-low beside-within own)

    first-long : length first ≡ m
    first-long = first-dictionary.one_each ∙ eqs-long

    first-chosen : chosen beside first ≡ d
    first-chosen = chosen_whole wide eqs beside basis d eqs-wide beside-low beside-within own

    -- the right sides
    right-same : (i : ℕ) → 1 ≤ i → i ≤ m → at first i wide ≡ value_at s d i
    right-same i l u =
        let last : slice_index_or beside (suc m - 1) 0 ≡ wide = more_last columns wide 0 (suc m) (omega (arith, c.one_each)) in
        ap (at first i) (sym last)
        ∙ sym (chosen-at beside first i (suc m) l (omega (arith, u, first-long)) (omega arith) (omega (arith, beside-long)))
        ∙ ap (λ (t : Table). at t i (suc m)) first-chosen

    -- ---- with the first cost
    abbrev v₁ : List ℚ
    v₁ = first_cost_row s

    abbrev t₁ : Table
    t₁ = eqs ++ v₁ ∷ []

    v₁-wide : length v₁ ≡ wide
    v₁-wide =
        ap length (sym (last-row v₁ (second_cost_row s)))
        ∙ row-wide wide (table_of s) (suc m) (table-wide s ok) (omega arith) (omega (arith, table-long s ok))
      where
        last-row : (a b : List ℚ) → row_of (eqs ++ a ∷ b ∷ []) (suc m) ≡ a
        last-row a b = ap (λ (t : Table). row_of t (suc m)) (sym (append_assoc eqs (a ∷ []) (b ∷ [])))
            ∙ get_or_append_left (eqs ++ a ∷ []) (b ∷ []) [] (suc m - 1) (omega (arith, long_more eqs a, eqs-long))
            ∙ more_last eqs a [] (suc m) (omega (arith, eqs-long))

    pub v₁-cleared : (ms : List ℚ) × AreBasicMultipliers (length eqs) nb ms × IsCleared eqs nb v₁ ms
    v₁-cleared = cleared wide eqs nb first v₁ eqs-wide first-dictionary

    abbrev d₁ : Table
    d₁ = first ++ plus v₁ (combination wide v₁-cleared.0 eqs) ∷ []

    dictionary₁ : IsDictionary wide t₁ nb d₁
    dictionary₁ = added wide eqs nb first v₁ v₁-cleared.0 eqs-wide v₁-wide first-dictionary (nb-none (suc (length eqs)) (omega (arith, eqs-long))) v₁-cleared.1 v₁-cleared.2

    t₁-long : length t₁ ≡ suc m
    t₁-long = long_more eqs v₁ ∙ ap suc eqs-long

    t₁-wide : AreWide wide t₁
    t₁-wide = wide_more wide eqs v₁ eqs-wide v₁-wide

    -- ---- with the second cost
    abbrev v₂ : List ℚ
    v₂ = second_cost_row s

    abbrev y₂ : List ℚ
    y₂ = y ++ zero_ℚ ∷ []

    whole-is : t₁ ++ v₂ ∷ [] ≡ table_of s
    whole-is = append_assoc eqs (v₁ ∷ []) (v₂ ∷ [])

    v₂-is : row_of (table_of s) (second_cost s) ≡ v₂
    v₂-is = ap (λ (t : Table). row_of t (second_cost s)) (sym whole-is) ∙ more_last t₁ v₂ [] (second_cost s) (omega (arith, t₁-long))

    v₂-wide : length v₂ ≡ wide
    v₂-wide = ap length (sym v₂-is) ∙ row-wide wide (table_of s) (second_cost s) (table-wide s ok) (omega arith) (omega (arith, table-long s ok))

    y₂-basic : AreBasicMultipliers (length t₁) nb y₂
    y₂-basic = record {
      one_each = long_more y zero_ℚ ∙ ap suc prices.one_each ∙ sym t₁-long;
      basic = λ i l u e. elim (cases_lt m i) [
        | inl over ↦ more_last y zero_ℚ zero_ℚ i (omega (arith, over, u, t₁-long, prices.one_each))
        | inr low ↦ let some = nb-low i l low in absurd (omega (arith, some, e))
      ];
    }

    product₂ : (j : ℕ) → dot y₂ (column_of t₁ j) ≡ dot y (equations_at s j)
    product₂ j = ap (dot y₂) (map-append (λ r. entry r j) eqs (v₁ ∷ [])) ∙ none_more y (equations_at s j) (entry v₁ j) (column-long_m j ∙ sym prices.one_each)

    priced : (k : ℕ) → 1 ≤ k → k ≤ m → entry v₂ (basic_column nb k) +ℚ dot y (equations_at s (basic_column nb k)) ≡ zero_ℚ
    unfolding column_of_row
    priced k l u =
        let b : ℕ = basic_column nb k in
        let here = prices.equal (basic_column basis k - 1) 0 (place_inside k l u) in
        ap (λ r. entry r b +ℚ dot y (equations_at s b)) (sym v₂-is)
        ∙ ap (λ j. at (table_of s) (second_cost s) j +ℚ dot y (equations_at s j)) (nb-is k l u) ∙ here

    y₂-clears : IsCleared t₁ nb v₂ y₂
    y₂-clears k l u some =
        elim (cases_lt m k) [
          | inl over ↦ absurd (some (nb-none k over))
          | inr low ↦ ap (λ q. entry v₂ (basic_column nb k) +ℚ q) (product₂ (basic_column nb k)) ∙ priced k l low
        ]

    abbrev costs : List ℚ
    costs = plus v₂ (combination wide y₂ t₁)

    abbrev pub all : Table
    all = d₁ ++ costs ∷ []

    all-dictionary : IsDictionary wide (table_of s) nb all
    all-dictionary =
        subst (λ (t : Table). IsDictionary wide t nb all) whole-is
        (added wide t₁ nb d₁ v₂ y₂ t₁-wide v₂-wide dictionary₁ (nb-none (suc (length t₁)) (omega (arith, t₁-long))) y₂-basic y₂-clears)

    d₁-long : length d₁ ≡ suc m
    d₁-long = dictionary₁.one_each ∙ t₁-long

    all-row : (i : ℕ) → 1 ≤ i → i ≤ m → row_of all i ≡ row_of first i
    all-row i l u =
        more_before d₁ costs [] i l (omega (arith, u, d₁-long))
        ∙ more_before first (plus v₁ (combination wide v₁-cleared.0 eqs)) [] i l (omega (arith, u, first-long))

    all-cost : (j : ℕ) → at all (second_cost s) j ≡ at (table_of s) (second_cost s) j +ℚ dot y (equations_at s j)
    all-cost j =
        ap (λ r. entry r j) (more_last d₁ costs [] (second_cost s) (omega (arith, d₁-long)))
        ∙ entry-plus v₂ (combination wide y₂ t₁) j
        ∙ ap₂ (λ a b. a +ℚ b) (ap (λ r. entry r j) (sym v₂-is)) (entry-combination wide y₂ t₁ j ∙ product₂ j)

    all-full : IsFullDictionaryOf s nb all
    all-full = record {
      dictionary = record {
        columns = record {
          within = λ i l. elim (cases_lt m i) [
            | inl over ↦ let none = nb-none i over in omega (arith, none)
            | inr low ↦ let high = nb-high i l low in omega (arith, high)
          ];
          equations_only = nb-none;
        };
        dictionary = all-dictionary;
      };
      full = λ i l u e. let low = nb-low i l u in omega (arith, low, e);
    }

    all-right : (i : ℕ) → 1 ≤ i → i ≤ m → at all i wide ≡ value_at s d i
    all-right i l u = ap (λ r. entry r wide) (all-row i l u) ∙ right-same i l u

    -- ---- what is read
    dual-read : y ≡ multipliers s all
    dual-read =
        sym (listed-is m (λ i. at (table_of s) i (n + i) *ℚ at all (second_cost s) (n + i)) y prices.one_each
        (λ i l u.
        ap (λ q. at (table_of s) i (n + i) *ℚ q)
        (all-cost (n + i) ∙ ap₂ (λ a b. a +ℚ b) (second-artificial s ok i l u) (product-artificial i y l u) ∙ zero_add (sign_of s ok i *ℚ entry y i))
        ∙ sign_twice s ok nb all all-full i (entry y i) l u))

    values-same : (j : ℕ) → value_of_column nb (column_of d (suc m)) j ≡ value_of_column nb (column_of all wide) j
    values-same j =
        ap (λ v. value_of_column nb v j) right-column ∙ sym (value-front nb (column_of first wide) more j (nb-long ∙ sym (column-long first wide ∙ first-long)))
        ∙ ap (λ v. value_of_column nb v j) (sym split)
      where
        v₁' : List ℚ
        v₁' = plus v₁ (combination wide v₁-cleared.0 eqs)

        more : List ℚ
        more = entry v₁' wide ∷ entry costs wide ∷ []

        d-long : length d ≡ m
        d-long = ap length (sym first-chosen) ∙ length-map first (chosen_row beside) ∙ first-long

        right-column : column_of d (suc m) ≡ column_of first wide
        right-column =
            slice_eq (column_of d (suc m)) (column_of first wide) (column-long d (suc m) ∙ d-long ∙ sym (column-long first wide ∙ first-long))
            (λ i l.
            let here : i < m = omega (arith, l, column-long d (suc m), d-long) in
            column_entry d (suc m) i (omega (arith, here, d-long)) ∙ ap (λ k. entry (slice_index_or d k []) (suc m)) (sym (next i))
            ∙ sym (right-same (1 + i) (omega arith) (omega arith))
            ∙ ap (λ k. entry (slice_index_or first k []) wide) (next i) ∙ sym (column_entry first wide i (omega (arith, here, first-long))))

        split : column_of all wide ≡ column_of first wide ++ more
        split =
            ap (λ (t : Table). column_of t wide) (append_assoc first (v₁' ∷ []) (costs ∷ []))
            ∙ map-append (λ r. entry r wide) first (v₁' ∷ costs ∷ [])

    x-read : x ≡ listed n (value_of_column nb (column_of d (suc m))) → x ≡ solution s nb all
    x-read e = e ∙ list_from-same 1 n (value_of_column nb (column_of d (suc m))) (value_of_column nb (column_of all wide)) (λ j l u. values-same j)

    best : BoundsColumns s (entry s.cost) y → IsBest s (second_cost s) all
    best bounds j l u =
        subst (λ (q : ℚ). zero_ℚ ≤ℚ q)
        (sym (all-cost j
        ∙ ap₂ (λ a b. a +ℚ b) (second-unknown s ok j l u ∙ negated j l u) (ap (dot y) (column-unknown j l u))
        ∙ add_comm (neg_ℚ (entry s.cost j)) (dot y (column_of s.equations j))))
        (difference_nonneg (entry s.cost j) (dot y (column_of s.equations j)) (bounds j l u))
      where
        negated : (j : ℕ) → 1 ≤ j → j ≤ n → entry (map neg_ℚ s.cost) j ≡ neg_ℚ (entry s.cost j)
        negated j l u = get_or-map neg_ℚ s.cost (j - 1) zero_ℚ zero_ℚ (omega arith)

    pub optimal_at : x ≡ listed n (value_of_column nb (column_of d (suc m))) → BoundsColumns s (entry s.cost) y → OptimalAt s nb all x y
    optimal_at e bounds = record {
      feasible = record {
        full = all-full;
        right = λ i l u. subst (λ (q : ℚ). zero_ℚ ≤ℚ q) (sym (all-right i l u)) (allowed.at_least_zero i l u);
        artificial = λ i l u over. all-right i l u ∙ allowed.artificial i l u over;
      };
      best = best bounds;
      x_read = x-read e;
      dual_read = dual-read;
    }

pub optimum_read : OptimumIsRead
optimum_read s columns basis d x y ok c h allowed prices bounds e =
    (all s ok columns basis d x y c h allowed prices, optimal_at s ok columns basis d x y c h allowed prices e bounds)
