-- The entries of the table of a system.
use Rattle.std.proofs.Common.{◌≡◌, ℕ, zero, suc, List, [], ◌∷◌, ◌++◌, length, map, replicate, refl, ap, ap₂, ◌∙◌, arith, ◌<◌, ◌≤◌, ◌+◌, ◌-◌, inl, inr, slice_index_or, Bool, true, false}
use Rattle.std.specs.Prelude.{if◌then◌else◌}
use Rattle.std.proofs.lemmas.List.{get_or_append_left, get_or-append-add, get_or-replicate}
use Rattle.std.proofs.Math.ListN.{length-append, length-replicate, length-map}
use Rattle.std.proofs.lemmas.Bool.{cases_lt}
use Rattle.exact_field.specs.Rational.{ℚ, zero_ℚ, one_ℚ, ◌*ℚ◌, neg_ℚ, lt_ℚ}
use Rattle.exact_field.specs.Vector.{entry}
use Rattle.polyhedra.specs.Vectors.{AreWide, zeros, scaled}
use Rattle.polyhedra.proofs.Laws.{mul_one}
use Rattle.polyhedra.proofs.Algebra.{neg_neg, neg_mul, one_mul}
use Rattle.polyhedra.proofs.Linear.{length-scaled, length-zeros}
use Rattle.tableaux.specs.Table.{Table, System, IsSystem, row_of, at, unit, equation_rows, artificial_sign, first_cost_row, second_cost_row, table_of, equation_count, unknown_count, right_column, first_cost, second_cost}
use Rattle.tableaux.proofs.Places.{length-list_from, entry-scaled, row-wide, delta}
use Rattle.tableaux.proofs.Unique.{slice-zeros}
use Rattle.tableaux.proofs.Definition.{unit_entry, same_default}

-- ---- rows of three parts
abbrev pub parted : List ℚ → List ℚ → ℚ → List ℚ
parted front middle last = (front ++ middle) ++ last ∷ []

pub length-parted : (front middle : List ℚ) (last : ℚ) → length (parted front middle last) ≡ suc (length front + length middle)
length-parted front middle last = omega (arith, length-append front middle, length-append (front ++ middle) (last ∷ []))

parted-front : (n : ℕ) (front middle : List ℚ) (last : ℚ) (j : ℕ) → length front ≡ n → 1 ≤ j → j ≤ n → entry (parted front middle last) j ≡ entry front j
parted-front n front middle last j h l u =
    get_or_append_left (front ++ middle) (last ∷ []) zero_ℚ (j - 1) (omega (arith, length-append front middle))
    ∙ get_or_append_left front middle zero_ℚ (j - 1) (omega arith)

parted-middle : (n m : ℕ) (front middle : List ℚ) (last : ℚ) (k : ℕ) → length front ≡ n → length middle ≡ m → 1 ≤ k → k ≤ m →
    entry (parted front middle last) (n + k) ≡ entry middle k
parted-middle n m front middle last k h e l u =
    get_or_append_left (front ++ middle) (last ∷ []) zero_ℚ (n + k - 1) (omega (arith, length-append front middle))
    ∙ ap (λ i. slice_index_or (front ++ middle) i zero_ℚ) (omega arith) ∙ get_or-append-add front middle (k - 1) zero_ℚ

parted-last : (n m : ℕ) (front middle : List ℚ) (last : ℚ) → length front ≡ n → length middle ≡ m → entry (parted front middle last) (suc (n + m)) ≡ last
parted-last n m front middle last h e =
    ap (λ i. slice_index_or (parted front middle last) i zero_ℚ) (omega (arith, length-append front middle))
    ∙ get_or-append-add (front ++ middle) (last ∷ []) 0 zero_ℚ

-- ---- the rows of the equations
length-equation_rows : (m i : ℕ) (rows : Table) (right : List ℚ) → length right ≡ length rows → length (equation_rows m i rows right) ≡ length rows
length-equation_rows m i [] right h = refl
length-equation_rows m i (a ∷ rows) [] h = absurd (omega arith)
length-equation_rows m i (a ∷ rows) (b ∷ right) h = ap suc (length-equation_rows m (suc i) rows right (omega arith))

equation_rows-place : (m i : ℕ) (rows : Table) (right : List ℚ) (k : ℕ) → length right ≡ length rows → k < length rows →
    slice_index_or (equation_rows m i rows right) k []
    ≡ parted (slice_index_or rows k []) (scaled (artificial_sign (slice_index_or right k zero_ℚ)) (unit m (i + k))) (slice_index_or right k zero_ℚ)
equation_rows-place m i [] right k h l = absurd (omega arith)
equation_rows-place m i (a ∷ rows) [] k h l = absurd (omega arith)
equation_rows-place m i (a ∷ rows) (b ∷ right) zero h l = ap (λ s. parted a (scaled (artificial_sign b) (unit m s)) b) (omega arith)
equation_rows-place m i (a ∷ rows) (b ∷ right) (suc k) h l =
    equation_rows-place m (suc i) rows right k (omega arith) (omega arith)
    ∙ ap (λ s. parted (slice_index_or rows k []) (scaled (artificial_sign (slice_index_or right k zero_ℚ)) (unit m s)) (slice_index_or right k zero_ℚ)) (omega arith)

sign_squared : (b : Bool) → (if b then neg_ℚ one_ℚ else one_ℚ) *ℚ (if b then neg_ℚ one_ℚ else one_ℚ) ≡ one_ℚ
sign_squared true = neg_mul one_ℚ (neg_ℚ one_ℚ) ∙ ap neg_ℚ (one_mul (neg_ℚ one_ℚ)) ∙ neg_neg one_ℚ
sign_squared false = mul_one one_ℚ

module _ (s : System) (ok : IsSystem s) where
  abbrev n : ℕ
  n = unknown_count s

  abbrev m : ℕ
  m = equation_count s

  -- the artificial sign of an equation
  abbrev pub sign_of : ℕ → ℚ
  sign_of i = artificial_sign (entry s.right i)

  pub sign-squared : (i : ℕ) → sign_of i *ℚ sign_of i ≡ one_ℚ
  sign-squared i = sign_squared (lt_ℚ (entry s.right i) zero_ℚ)

  abbrev equation_part : Table
  equation_part = equation_rows m 1 s.equations s.right

  part_long : length equation_part ≡ m
  part_long = length-equation_rows m 1 s.equations s.right ok.right_each

  pub table-long : length (table_of s) ≡ suc (suc m)
  table-long = omega (arith, length-append equation_part (first_cost_row s ∷ second_cost_row s ∷ []), part_long)

  pub row-equation : (i : ℕ) → 1 ≤ i → i ≤ m → row_of (table_of s) i ≡ parted (row_of s.equations i) (scaled (sign_of i) (unit m i)) (entry s.right i)
  row-equation i l u =
      get_or_append_left equation_part (first_cost_row s ∷ second_cost_row s ∷ []) [] (i - 1) (omega (arith, part_long))
      ∙ equation_rows-place m 1 s.equations s.right (i - 1) ok.right_each (omega arith)
      ∙ ap (λ k. parted (row_of s.equations i) (scaled (sign_of i) (unit m k)) (entry s.right i)) (omega arith)

  pub row-first : row_of (table_of s) (first_cost s) ≡ parted (zeros n) (replicate m one_ℚ) zero_ℚ
  row-first =
      ap (λ k. slice_index_or (table_of s) k []) (omega (arith, part_long))
      ∙ get_or-append-add equation_part (first_cost_row s ∷ second_cost_row s ∷ []) 0 []

  pub row-second : row_of (table_of s) (second_cost s) ≡ parted (map neg_ℚ s.cost) (zeros m) zero_ℚ
  row-second =
      ap (λ k. slice_index_or (table_of s) k []) (omega (arith, part_long))
      ∙ get_or-append-add equation_part (first_cost_row s ∷ second_cost_row s ∷ []) 1 []

  front-long : (i : ℕ) → 1 ≤ i → i ≤ m → length (row_of s.equations i) ≡ n
  front-long i l u = row-wide n s.equations i ok.wide l u

  middle-long : (i : ℕ) → length (scaled (sign_of i) (unit m i)) ≡ m
  middle-long i = length-scaled (sign_of i) (unit m i) ∙ length-list_from 1 m (λ j. delta j i)

  ones-long : length (replicate m one_ℚ) ≡ m
  ones-long = length-replicate m one_ℚ

  costs-long : length (map neg_ℚ s.cost) ≡ n
  costs-long = length-map s.cost neg_ℚ

  -- ---- entries of equations
  pub equation-unknown : (i j : ℕ) → 1 ≤ i → i ≤ m → 1 ≤ j → j ≤ n → at (table_of s) i j ≡ at s.equations i j
  equation-unknown i j l u a b =
      ap (λ r. entry r j) (row-equation i l u)
      ∙ parted-front n (row_of s.equations i) (scaled (sign_of i) (unit m i)) (entry s.right i) j (front-long i l u) a b

  pub equation-artificial : (i k : ℕ) → 1 ≤ i → i ≤ m → 1 ≤ k → k ≤ m → at (table_of s) i (n + k) ≡ sign_of i *ℚ delta i k
  equation-artificial i k l u a b =
      ap (λ r. entry r (n + k)) (row-equation i l u)
      ∙ parted-middle n m (row_of s.equations i) (scaled (sign_of i) (unit m i)) (entry s.right i) k (front-long i l u) (middle-long i) a b
      ∙ entry-scaled (sign_of i) (unit m i) k ∙ ap (λ q. sign_of i *ℚ q) (unit_entry m i k a b)

  pub equation-right : (i : ℕ) → 1 ≤ i → i ≤ m → at (table_of s) i (right_column s) ≡ entry s.right i
  equation-right i l u =
      ap (λ r. entry r (right_column s)) (row-equation i l u)
      ∙ parted-last n m (row_of s.equations i) (scaled (sign_of i) (unit m i)) (entry s.right i) (front-long i l u) (middle-long i)

  -- ---- entries of cost rows
  pub first-unknown : (j : ℕ) → 1 ≤ j → j ≤ n → at (table_of s) (first_cost s) j ≡ zero_ℚ
  first-unknown j a b = ap (λ r. entry r j) row-first ∙ parted-front n (zeros n) (replicate m one_ℚ) zero_ℚ j (length-zeros n) a b ∙ slice-zeros n (j - 1)

  pub first-artificial : (k : ℕ) → 1 ≤ k → k ≤ m → at (table_of s) (first_cost s) (n + k) ≡ one_ℚ
  first-artificial k a b =
      ap (λ r. entry r (n + k)) row-first ∙ parted-middle n m (zeros n) (replicate m one_ℚ) zero_ℚ k (length-zeros n) ones-long a b
      ∙ get_or-replicate m (k - 1) one_ℚ zero_ℚ (omega arith)

  pub first-right : at (table_of s) (first_cost s) (right_column s) ≡ zero_ℚ
  first-right = ap (λ r. entry r (right_column s)) row-first ∙ parted-last n m (zeros n) (replicate m one_ℚ) zero_ℚ (length-zeros n) ones-long

  pub second-unknown : (j : ℕ) → 1 ≤ j → j ≤ n → at (table_of s) (second_cost s) j ≡ entry (map neg_ℚ s.cost) j
  second-unknown j a b = ap (λ r. entry r j) row-second ∙ parted-front n (map neg_ℚ s.cost) (zeros m) zero_ℚ j costs-long a b

  pub second-artificial : (k : ℕ) → 1 ≤ k → k ≤ m → at (table_of s) (second_cost s) (n + k) ≡ zero_ℚ
  second-artificial k a b =
      ap (λ r. entry r (n + k)) row-second ∙ parted-middle n m (map neg_ℚ s.cost) (zeros m) zero_ℚ k costs-long (length-zeros m) a b ∙ slice-zeros m (k - 1)

  pub second-right : at (table_of s) (second_cost s) (right_column s) ≡ zero_ℚ
  second-right = ap (λ r. entry r (right_column s)) row-second ∙ parted-last n m (map neg_ℚ s.cost) (zeros m) zero_ℚ costs-long (length-zeros m)

  -- ---- widths
  part-long : (r front middle : List ℚ) (last : ℚ) → r ≡ parted front middle last → length front ≡ n → length middle ≡ m → length r ≡ right_column s
  part-long r front middle last e h l = ap length e ∙ length-parted front middle last ∙ ap₂ (λ a b. suc (a + b)) h l

  row-long : (i : ℕ) → 1 ≤ i → i ≤ suc (suc m) → length (row_of (table_of s) i) ≡ right_column s
  row-long i l u =
      elim (cases_lt m i) [
        | inl over ↦ elim (cases_lt (suc m) i) [
          | inl last ↦ ap (λ k. length (row_of (table_of s) k)) (omega arith)
              ∙ part-long (row_of (table_of s) (second_cost s)) (map neg_ℚ s.cost) (zeros m) zero_ℚ row-second costs-long (length-zeros m)
          | inr not ↦ ap (λ k. length (row_of (table_of s) k)) (omega arith)
              ∙ part-long (row_of (table_of s) (first_cost s)) (zeros n) (replicate m one_ℚ) zero_ℚ row-first (length-zeros n) ones-long
        ]
        | inr below ↦ part-long (row_of (table_of s) i) (row_of s.equations i) (scaled (sign_of i) (unit m i)) (entry s.right i) (row-equation i l below)
            (front-long i l below) (middle-long i)
      ]

  pub table-wide : AreWide (right_column s) (table_of s)
  table-wide = record {
    wide = λ i e h.
        let inside : 1 + i ≤ suc (suc m) = omega (arith, h, table-long) in
        ap length (same_default (table_of s) i e [] h ∙ ap (λ k. slice_index_or (table_of s) k []) (omega arith)) ∙ row-long (1 + i) (omega arith) inside;
  }
