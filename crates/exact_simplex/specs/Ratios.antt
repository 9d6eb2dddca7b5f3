-- The quotients of a row that the ratio test compares, over sparse rows.
use Rattle.std.specs.Prelude.{ℕ, ◌<◌, ◌≤◌, ◌≡◌, false, Bool, List, [], map, length, slice_index_or, Option, None, Some}
use Rattle.exact_field.specs.Field.{IsLeftOf}
use Rattle.exact_field.specs.Rational.{ℚ, zero_ℚ, ◌/ℚ◌, ◌≤ℚ◌, ◌<ℚ◌}
use Rattle.exact_field.specs.declared.op.Op.TheVariants.{Div}
use Rattle.exact_field.specs.declared.op.Left.{Left}
use Rattle.polyhedra.specs.Sparse.{Entry}
use Rattle.exact_simplex.specs.declared.ratio.TestLeft.{TestLeft}
use Rattle.exact_simplex.specs.declared.ratio.Either.{Either}
use Rattle.exact_simplex.specs.declared.ratio.Either.TheVariants.{First, Second}
use Rattle.tableaux.specs.Lex.{lex_less}
use Rattle.lin_rows.specs.Lines.{sum_at}

-- the entries at these columns, divided by p
abbrev pub ratios : ℚ → List Entry → List ℕ → List ℚ
ratios p es columns = map (λ c. sum_at es c /ℚ p) columns

-- a quotient of an entry at one of these columns is not held
abbrev pub IsRatioLeft : {F : Type 0} → (F → ℚ) → (ℚ → Bool) → ℚ → List Entry → List ℕ → Left F → Type 0
IsRatioLeft value holds p es columns left =
    (k : ℕ) × (k < length columns) × IsLeftOf value holds Div (sum_at es (slice_index_or columns k 0)) p left

-- a quotient of one of two rows is not held at this column
abbrev pub IsEitherAt : {F : Type 0} → (F → ℚ) → (ℚ → Bool) → ℚ → List Entry → ℚ → List Entry → ℕ → Either F → Type 0
IsEitherAt value holds p us r vs col (First left) = IsLeftOf value holds Div (sum_at us col) p left
IsEitherAt value holds p us r vs col (Second left) = IsLeftOf value holds Div (sum_at vs col) r left

-- a quotient of one of two rows is not held at one of these columns
abbrev pub IsEither : {F : Type 0} → (F → ℚ) → (ℚ → Bool) → ℚ → List Entry → ℚ → List Entry → List ℕ → Either F → Type 0
IsEither value holds p us r vs columns (First left) = IsRatioLeft value holds p us columns left
IsEither value holds p us r vs columns (Second left) = IsRatioLeft value holds r vs columns left

-- of the first n rows none has a positive entry, or `best` has one and no such row's quotients stand before its own
abbrev pub IsLeast : (ℕ → ℚ) → (ℕ → List ℚ) → ℕ → Option ℕ → Type 0
IsLeast entry_of ratios_of n None = (i : ℕ) → i < n → entry_of i ≤ℚ zero_ℚ
IsLeast entry_of ratios_of n (Some r) =
    (r < n) × (zero_ℚ <ℚ entry_of r) × ((i : ℕ) → i < n → zero_ℚ <ℚ entry_of i → lex_less (ratios_of i) (ratios_of r) ≡ false)

-- the entry of sparse row i in a column, and its quotients by this entry
abbrev pub entry_in : List (List Entry) → ℕ → ℕ → ℚ
entry_in ls col i = sum_at (slice_index_or ls i []) col

abbrev pub ratios_in : List (List Entry) → ℕ → List ℕ → ℕ → List ℚ
ratios_in ls col columns i = ratios (entry_in ls col i) (slice_index_or ls i []) columns

-- the ratio test over the first n sparse rows
abbrev pub IsLeaving : List (List Entry) → ℕ → List ℕ → ℕ → Option ℕ → Type 0
IsLeaving ls col columns n best = IsLeast (entry_in ls col) (ratios_in ls col columns) n best

-- a quotient of the ratio test is not held
abbrev pub IsTestLeft : {F : Type 0} → (F → ℚ) → (ℚ → Bool) → List (List Entry) → ℕ → List ℕ → ℕ → Left F → Type 0
IsTestLeft value holds ls col columns row left =
    (row < length ls) × IsRatioLeft value holds (entry_in ls col row) (slice_index_or ls row []) columns left

-- the overflow of one of two rows, with this row
abbrev pub IsTestOf : {F : Type 0} → ℕ → ℕ → Either F → TestLeft F → Type 0
IsTestOf first second (First left) test = test ≡ record { row = first; left = left }
IsTestOf first second (Second left) test = test ≡ record { row = second; left = left }

-- the entries at the columns from 1 to n are at least 0, or that at this column is negative
abbrev pub IsEntering : List Entry → ℕ → Option ℕ → Type 0
IsEntering es n None = (j : ℕ) → 1 ≤ j → j ≤ n → zero_ℚ ≤ℚ sum_at es j
IsEntering es n (Some c) = (1 ≤ c) × (c ≤ n) × (sum_at es c <ℚ zero_ℚ)
