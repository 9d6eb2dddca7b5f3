-- The sparse rows of the table of a system, spot by spot.
use Rattle.std.proofs.Common.{◌≡◌, ◌≢◌, ℕ, suc, List, [], ◌∷◌, ◌++◌, length, map, take, sym, refl, ap, ◌∙◌, subst, arith, ◌<◌, ◌≤◌, ◌+◌, ◌-◌, inl, inr, slice_index_or}
use Rattle.std.proofs.Math.ListN.{length-append}
use Rattle.std.proofs.lemmas.Bool.{cases_lt}
use Rattle.std.proofs.lemmas.List.{get_or-take, length-take, take_all, take_at, take-append-le}
use Rattle.exact_field.specs.Rational.{ℚ, zero_ℚ, one_ℚ, ◌*ℚ◌, neg_ℚ}
use Rattle.exact_field.specs.Vector.{entry}
use Rattle.polyhedra.specs.Sparse.{Entry}
use Rattle.polyhedra.specs.Vectors.{scaled}
use Rattle.polyhedra.proofs.Algebra.{mul_zero}
use Rattle.polyhedra.proofs.Laws.{mul_one}
use Rattle.tableaux.specs.Table.{Table, System, IsSystem, row_of, at, unit, table_of, equation_count, unknown_count, right_column, first_cost, second_cost}
use Rattle.tableaux.proofs.Places.{row-wide, delta-same, delta-other}
use Rattle.tableaux.proofs.Reading.{slice-past}
use Rattle.tableaux.proofs.Entries.{sign_of, table-long, table-wide, row-equation, equation-artificial, equation-right, first-unknown, first-artificial, first-right, second-unknown, second-artificial, second-right}
use Rattle.lin_rows.specs.Clear.{Writes}
use Rattle.lin_rows.specs.Lines.{last_place}
use Rattle.lin_rows.specs.Read.{IsLineOf}
use Rattle.lin_rows.proofs.Building.{line_pushed, last_pushed}
use Rattle.lin_rows.proofs.Merging.{rises-wider, last_within}

-- the sparse row stands for the first i entries of a row of at most n, and has no spot after them
pub record IsLineTo (n i : ℕ) (xs : List ℚ) (es : List Entry) : Type 0 where
  pub line : IsLineOf n (take i xs) es
  pub last : last_place 0 es ≤ i

take_before : (xs : List ℚ) (i k : ℕ) → k < i → slice_index_or (take i xs) k zero_ℚ ≡ slice_index_or xs k zero_ℚ
take_before xs i k l = get_or-take i xs k zero_ℚ l

take_after : (xs : List ℚ) (i k : ℕ) → i ≤ k → slice_index_or (take i xs) k zero_ℚ ≡ zero_ℚ
take_after xs i k l = slice-past (take i xs) k (omega (arith, l, length-take i xs))

-- further entries that are 0
pub line_skipped : (n i j : ℕ) (xs : List ℚ) (es : List Entry) → IsLineTo n i xs es → i ≤ j → ((k : ℕ) → i ≤ k → k < j → slice_index_or xs k zero_ℚ ≡ zero_ℚ) → IsLineTo n j xs es
line_skipped n i j xs es h l none =
    record {
      line = record {
        rises = h.line.rises;
        sums = λ a low.
            h.line.sums a low
            ∙ elim (cases_lt (a - 1) i) [
              | inl before ↦ take_before xs i (a - 1) before ∙ sym (take_before xs j (a - 1) (omega (arith, before, l)))
              | inr after ↦ take_after xs i (a - 1) after
                  ∙ sym (elim (cases_lt (a - 1) j) [ inl inside ↦ take_before xs j (a - 1) inside ∙ none (a - 1) after inside | inr past ↦ take_after xs j (a - 1) past ])
            ];
      };
      last = omega (arith, h.last, l);
    }

pub line_none : (n j : ℕ) (xs : List ℚ) → ((k : ℕ) → k < j → slice_index_or xs k zero_ℚ ≡ zero_ℚ) → IsLineTo n j xs []
line_none n j xs none = line_skipped n 0 j xs [] (record { line = record { rises = tt; sums = λ a low. refl }; last = omega arith }) (omega arith) (λ k l u. none k u)

-- one entry more, after some that are 0
pub line_after : (n i j : ℕ) (xs : List ℚ) (x : ℚ) (old new : List Entry) → IsLineTo n i xs old → i ≤ j → ((k : ℕ) → i ≤ k → k < j → slice_index_or xs k zero_ℚ ≡ zero_ℚ) →
    j < length xs → length xs ≤ n → slice_index_or xs j zero_ℚ ≡ x → Writes (j + 1) x old new → IsLineTo n (j + 1) xs new
line_after n i j xs x old new h l none inside high is w =
    let skipped = line_skipped n i j xs old h l none in
    record { line = line_pushed n j xs x old new skipped.line skipped.last inside high is w; last = last_pushed j x old new skipped.last w }

pub line_whole : (n i : ℕ) (xs : List ℚ) (es : List Entry) → IsLineTo n i xs es → i ≤ length xs → ((k : ℕ) → i ≤ k → k < length xs → slice_index_or xs k zero_ℚ ≡ zero_ℚ) → IsLineOf n xs es
line_whole n i xs es h l none =
    subst (λ (v : List ℚ). IsLineOf n v es) (take_all (length xs) xs (omega arith)) (line_skipped n i (length xs) xs es h l none).line

-- a shorter row is its beginning
pub line_front : (n i : ℕ) (xs front : List ℚ) (es : List Entry) → IsLineOf i front es → front ≡ take i xs → i ≤ n → IsLineTo n i xs es
line_front n i xs front es h is l =
    record {
      line = subst (λ (v : List ℚ). IsLineOf n v es) is (record { rises = rises-wider i n 0 es l h.rises; sums = h.sums });
      last = last_within i 0 es (omega arith) h.rises;
    }

module _ (s : System) (ok : IsSystem s) where
  abbrev n : ℕ
  n = unknown_count s

  abbrev m : ℕ
  m = equation_count s

  abbrev t : Table
  t = table_of s

  abbrev w : ℕ
  w = right_column s

  pub row_long : (i : ℕ) → 1 ≤ i → i ≤ suc (suc m) → length (row_of t i) ≡ w
  row_long i l u = row-wide w t i (table-wide s ok) l (omega (arith, u, table-long s ok))

  read : (i k j : ℕ) (x : ℚ) → j ≡ k + 1 → at t i j ≡ x → slice_index_or (row_of t i) k zero_ℚ ≡ x
  read i k j x e is = let same : k ≡ j - 1 = omega (arith, e) in ap (λ a. slice_index_or (row_of t i) a zero_ℚ) same ∙ is

  -- ---- an equation, counted from 0
  module _ (i : ℕ) (inside : i < m) where
    pub equation_front : take n (row_of t (i + 1)) ≡ row_of s.equations (i + 1)
    equation_front =
        let front : List ℚ = row_of s.equations (i + 1) in
        let middle : List ℚ = scaled (sign_of s ok (i + 1)) (unit m (i + 1)) in
        let front_long : length front ≡ n = row-wide n s.equations (i + 1) ok.wide (omega arith) (omega arith) in
        ap (take n) (row-equation s ok (i + 1) (omega arith) (omega arith))
        ∙ take-append-le n (front ++ middle) (entry s.right (i + 1) ∷ []) (omega (arith, front_long, length-append front middle))
        ∙ take_at front middle n front_long

    pub equation_none : (k : ℕ) → n ≤ k → k < n + m → k ≢ n + i → slice_index_or (row_of t (i + 1)) k zero_ℚ ≡ zero_ℚ
    equation_none k l u o =
        read (i + 1) k (n + (k + 1 - n)) zero_ℚ (omega arith)
        (equation-artificial s ok (i + 1) (k + 1 - n) (omega arith) (omega arith) (omega arith) (omega arith)
        ∙ ap (λ q. sign_of s ok (i + 1) *ℚ q) (delta-other (i + 1) (k + 1 - n) (λ e. o (omega (arith, e, l)))) ∙ mul_zero (sign_of s ok (i + 1)))

    pub equation_sign : slice_index_or (row_of t (i + 1)) (n + i) zero_ℚ ≡ sign_of s ok (i + 1)
    equation_sign =
        read (i + 1) (n + i) (n + (i + 1)) (sign_of s ok (i + 1)) (omega arith)
        (equation-artificial s ok (i + 1) (i + 1) (omega arith) (omega arith) (omega arith) (omega arith)
        ∙ ap (λ q. sign_of s ok (i + 1) *ℚ q) (delta-same (i + 1) (i + 1) refl) ∙ mul_one (sign_of s ok (i + 1)))

    pub equation_last : slice_index_or (row_of t (i + 1)) (n + m) zero_ℚ ≡ entry s.right (i + 1)
    equation_last = read (i + 1) (n + m) w (entry s.right (i + 1)) (omega arith) (equation-right s ok (i + 1) (omega arith) (omega arith))

  -- ---- the cost rows
  pub first_none : (k : ℕ) → k < n → slice_index_or (row_of t (first_cost s)) k zero_ℚ ≡ zero_ℚ
  first_none k l = read (first_cost s) k (k + 1) zero_ℚ refl (first-unknown s ok (k + 1) (omega arith) (omega arith))

  pub first_one : (i : ℕ) → i < m → slice_index_or (row_of t (first_cost s)) (n + i) zero_ℚ ≡ one_ℚ
  first_one i l = read (first_cost s) (n + i) (n + (i + 1)) one_ℚ (omega arith) (first-artificial s ok (i + 1) (omega arith) (omega arith))

  pub first_last : (k : ℕ) → n + m ≤ k → k < w → slice_index_or (row_of t (first_cost s)) k zero_ℚ ≡ zero_ℚ
  first_last k l u = read (first_cost s) k w zero_ℚ (omega arith) (first-right s ok)

  pub second_cost_at : (k : ℕ) (x : ℚ) → k < n → entry (map neg_ℚ s.cost) (k + 1) ≡ x → slice_index_or (row_of t (second_cost s)) k zero_ℚ ≡ x
  second_cost_at k x l is = read (second_cost s) k (k + 1) x refl (second-unknown s ok (k + 1) (omega arith) (omega arith) ∙ is)

  pub second_none : (k : ℕ) → n ≤ k → k < w → slice_index_or (row_of t (second_cost s)) k zero_ℚ ≡ zero_ℚ
  second_none k l u =
      elim (cases_lt k (n + m)) [
        | inl inside ↦ read (second_cost s) k (n + (k + 1 - n)) zero_ℚ (omega arith) (second-artificial s ok (k + 1 - n) (omega arith) (omega arith))
        | inr past ↦ read (second_cost s) k w zero_ℚ (omega arith) (second-right s ok)
      ]
