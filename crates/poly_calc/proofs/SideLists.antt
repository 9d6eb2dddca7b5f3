-- Rows of sides, as loops come to them.
use Rattle.std.proofs.Common.{◌≡◌, ℕ, suc, ◌+◌, ◌<◌, ◌≤◌, Bool, true, false, cond, List, [], ◌∷◌, ◌++◌, take, length, slice_index_or, sym, ap, ap₂, ◌∙◌, arith, append-nil, append_assoc, length-append}
use Rattle.std.proofs.lemmas.List.{take_more, length-take-le}
use Rattle.exact_field.specs.Rational.{ℚ}
use Rattle.frac128.specs.Sparse.{is_zero}
use Rattle.polyhedra.specs.Inequality.{Inequality}
use Rattle.vlp_problem.specs.Sides.{sides_of, sides_from}
use Rattle.vlp_problem.specs.declared.problem.Bound.{Bound}
use Rattle.vlp_problem.specs.declared.problem.Cell.{Cell}
use Rattle.projection.specs.Associated.{cell}
use Rattle.poly_calc.specs.Made.{row_cells, side_row, side_rows}

-- ---- entries of a row
row_cells-append : (row col : ℕ) (xs ys : List ℚ) → row_cells row col (xs ++ ys) ≡ row_cells row col xs ++ row_cells row (col + length xs) ys
row_cells-append row col [] ys = ap (λ (k : ℕ). row_cells row k ys) (none col)
  where
    none : (k : ℕ) → k ≡ k + 0
    none k = omega arith
row_cells-append row col (x ∷ xs) ys = go (is_zero x) (row_cells-append row (suc col) xs ys ∙ ap (λ (k : ℕ). row_cells row (suc col) xs ++ row_cells row k ys) (next col (length xs)))
  where
    next : (k m : ℕ) → suc k + m ≡ k + suc m
    next k m = omega arith

    go : (b : Bool) → row_cells row (suc col) (xs ++ ys) ≡ row_cells row (suc col) xs ++ row_cells row (col + length (x ∷ xs)) ys →
        cond b (row_cells row (suc col) (xs ++ ys)) (cell row col x ∷ row_cells row (suc col) (xs ++ ys))
        ≡ cond b (row_cells row (suc col) xs) (cell row col x ∷ row_cells row (suc col) xs) ++ row_cells row (col + length (x ∷ xs)) ys
    go true h = h
    go false h = ap (λ cs. cell row col x ∷ cs) h

pub entries-more : (row col at i : ℕ) (v : List ℚ) (x : ℚ) → i < length v → x ≡ slice_index_or v i x → at ≡ col + i →
    row_cells row col (take (i + 1) v) ≡ row_cells row col (take i v) ++ cond (is_zero x) [] (cell row at x ∷ [])
entries-more row col at i v x l e f =
    ap (row_cells row col) (take_more v i x l ∙ ap (λ y. take i v ++ y ∷ []) (sym e))
    ∙ row_cells-append row col (take i v) (x ∷ [])
    ∙ ap (λ (k : ℕ). row_cells row col (take i v) ++ row_cells row k (x ∷ [])) (ap (λ m. col + m) (length-take-le i v (below (length v) l)) ∙ sym f)
  where
    below : (m : ℕ) → i < m → i ≤ m
    below m h = omega arith

-- ---- rows of sides
side_rows-append : (row col m : ℕ) (xs ys : List Inequality) → side_rows row col m (xs ++ ys) ≡ side_rows row col m xs ++ side_rows (row + length xs) col m ys
side_rows-append row col m [] ys = ap (λ (k : ℕ). side_rows k col m ys) (none row)
  where
    none : (k : ℕ) → k ≡ k + 0
    none k = omega arith
side_rows-append row col m (e ∷ xs) ys =
    ap (λ cs. side_row row col m e ++ cs) (side_rows-append (suc row) col m xs ys ∙ ap (λ (k : ℕ). side_rows (suc row) col m xs ++ side_rows k col m ys) (next row (length xs)))
    ∙ sym (append_assoc (side_row row col m e) (side_rows (suc row) col m xs) (side_rows (row + length (e ∷ xs)) col m ys))
  where
    next : (k n : ℕ) → suc k + n ≡ k + suc n
    next k n = omega arith

pub rows_then : (start before after : List Cell) (from next col m : ℕ) (xs ys : List Inequality) → after ≡ before ++ side_rows next col m ys → before ≡ start ++ side_rows from col m xs →
    next ≡ from + length xs → after ≡ start ++ side_rows from col m (xs ++ ys)
rows_then start before after from next col m xs ys e f g =
    e ∙ ap₂ (λ cs (k : ℕ). cs ++ side_rows k col m ys) f g ∙ append_assoc start (side_rows from col m xs) (side_rows (from + length xs) col m ys)
    ∙ ap (λ cs. start ++ cs) (sym (side_rows-append from col m xs ys))

pub number_then : (from next after : ℕ) (xs ys : List Inequality) → after ≡ next + length ys → next ≡ from + length xs → after ≡ from + length (xs ++ ys)
number_then from next after xs ys e f = go (length xs) (length ys) (length (xs ++ ys)) e f (length-append xs ys)
  where
    go : (p q r : ℕ) → after ≡ next + q → next ≡ from + p → r ≡ p + q → after ≡ from + r
    go p q r a b d = omega arith

-- one bound more
sides_from-append : (v : ℕ → List ℚ) (k : ℕ) (xs ys : List Bound) → sides_from v k (xs ++ ys) ≡ sides_from v k xs ++ sides_from v (k + length xs) ys
sides_from-append v k [] ys = ap (λ (n : ℕ). sides_from v n ys) (none k)
  where
    none : (m : ℕ) → m ≡ m + 0
    none m = omega arith
sides_from-append v k (b ∷ xs) ys = ap (λ es. sides_of (v k) b ++ es) (sides_from-append v (suc k) xs ys ∙ ap (λ (n : ℕ). sides_from v (suc k) xs ++ sides_from v n ys) (next k (length xs)))
    ∙ sym (append_assoc (sides_of (v k) b) (sides_from v (suc k) xs) (sides_from v (k + length (b ∷ xs)) ys))
  where
    next : (m n : ℕ) → suc m + n ≡ m + suc n
    next m n = omega arith

pub sides-more : (v : ℕ → List ℚ) (bs : List Bound) (b : Bound) (i : ℕ) → i < length bs → b ≡ slice_index_or bs i b →
    sides_from v 1 (take (i + 1) bs) ≡ sides_from v 1 (take i bs) ++ sides_of (v (i + 1)) b
sides-more v bs b i l e =
    ap (sides_from v 1) (take_more bs i b l ∙ ap (λ c. take i bs ++ c ∷ []) (sym e))
    ∙ sides_from-append v 1 (take i bs) (b ∷ [])
    ∙ ap (λ es. sides_from v 1 (take i bs) ++ es) (append-nil (sides_of (v (1 + length (take i bs))) b)
    ∙ ap (λ (k : ℕ). sides_of (v k) b) (ap (λ m. 1 + m) (length-take-le i bs (below (length bs) l)) ∙ turn i))
  where
    below : (m : ℕ) → i < m → i ≤ m
    below m h = omega arith

    turn : (k : ℕ) → 1 + k ≡ k + 1
    turn k = omega arith
