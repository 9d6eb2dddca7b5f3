-- Cells that rise, in blocks of rows.
use Rattle.std.proofs.Common.{◌≡◌, ℕ, zero, suc, ◌+◌, ◌<◌, ◌≤◌, ◌==◌, Bool, true, false, cond, List, [], ◌∷◌, ◌++◌, map, filter, All, refl, sym, ap, ◌∙◌, arith, append-nil, append_assoc}
use Rattle.std.specs.List.{flat_map}
use Rattle.std.proofs.lemmas.Bool.Decides.{nat_tests}
use Rattle.std.proofs.lemmas.List.Elements.{All-nil, All-cons}
use Rattle.exact_field.specs.Rational.{ℚ, whole, one_ℚ, neg_ℚ}
use Rattle.frac128.specs.Sparse.{is_zero}
use Rattle.frac128.specs.Held.{size-neg}
use Rattle.vlp_problem.specs.Cells.{cells_after, are_cells}
use Rattle.vlp_problem.specs.Sides.{numbers_from}
use Rattle.vlp_problem.specs.declared.problem.Cell.{Cell}
use Rattle.vlp_problem.specs.declared.problem.Problem.{Problem}
use Rattle.projection.specs.Associated.{cell}
use Rattle.poly_calc.specs.Made.{moved, unit_cells, meet_cells, value_row, map_cells, sum_row, sum_cells, IsNear}
use Rattle.poly_calc.proofs.Sums.{IsPlaced, AreRising, rising, of_rising}

-- ---- numbers that are not 0
pub one_not_zero : is_zero one_ℚ ≡ false
unfolding whole
one_not_zero = refl

pub negated_not_zero : (q : ℚ) → is_zero q ≡ false → is_zero (neg_ℚ q) ≡ false
unfolding neg_ℚ
negated_not_zero q h = ap (λ n. n == 0) (size-neg q.num) ∙ h

-- ---- the same cells from an earlier place
pub placed_earlier : (rows cols i j i' j' : ℕ) (c : Cell) → IsPlaced rows cols i j c → i' ≤ i → (i' ≡ i → j' ≤ j) → IsPlaced rows cols i' j' c
placed_earlier rows cols i j i' j' c h l e = record {
  row_after = below c.row h.row_after;
  col_after = to_right c.row c.col h.row_after h.col_after;
  row_low = h.row_low;
  row_high = h.row_high;
  col_low = h.col_low;
  col_high = h.col_high;
  not_zero = h.not_zero;
}
  where
    below : (r : ℕ) → i ≤ r → i' ≤ r
    below r a = omega arith

    to_right : (r k : ℕ) → i ≤ r → (i ≡ r → j < k) → i' ≡ r → j' < k
    to_right r k a b f = grind arith

pub earlier : (rows cols i j i' j' : ℕ) (cells : List Cell) → AreRising rows cols i j cells → i' ≤ i → (i' ≡ i → j' ≤ j) → AreRising rows cols i' j' cells
earlier rows cols i j i' j' [] h l e = tt
earlier rows cols i j i' j' (c ∷ cells) h l e = (placed_earlier rows cols i j i' j' c h.0 l e, h.1)

-- ---- blocks: cells in the rows after one row, up to another
abbrev pub IsBlock : ℕ → ℕ → ℕ → List Cell → Type 0
IsBlock cols after to cells = AreRising to cols after cols cells

rising-append : (rows cols i j to : ℕ) (xs ys : List Cell) → i ≤ to → to ≤ rows → j ≤ cols → AreRising to cols i j xs → IsBlock cols to rows ys → AreRising rows cols i j (xs ++ ys)
rising-append rows cols i j to [] ys l u k h g = earlier rows cols to cols i j ys g l (λ _. k)
rising-append rows cols i j to (c ∷ xs) ys l u k h g = (
  record {
    row_after = h.0.row_after;
    col_after = h.0.col_after;
    row_low = h.0.row_low;
    row_high = below c.row h.0.row_high;
    col_low = h.0.col_low;
    col_high = h.0.col_high;
    not_zero = h.0.not_zero;
  },
  rising-append rows cols c.row c.col to xs ys h.0.row_high u h.0.col_high h.1 g,
)
  where
    below : (r : ℕ) → r ≤ to → r ≤ rows
    below r a = omega arith

pub block-append : (cols after to rows : ℕ) (xs ys : List Cell) → after ≤ to → to ≤ rows → IsBlock cols after to xs → IsBlock cols to rows ys → IsBlock cols after rows (xs ++ ys)
block-append cols after to rows xs ys l u h g = rising-append rows cols after cols to xs ys l u (itself cols) h g
  where
    itself : (n : ℕ) → n ≤ n
    itself n = omega arith

pub block_cells : (rows cols : ℕ) (cells : List Cell) → IsBlock cols 0 rows cells → are_cells rows cols cells ≡ true
block_cells rows cols cells h = of_rising rows cols 0 0 cells (earlier rows cols 0 cols 0 0 cells h (omega arith) (λ _. none cols))
  where
    none : (n : ℕ) → 0 ≤ n
    none n = omega arith

pub file_block : (rows cols : ℕ) (cells : List Cell) → cells_after rows cols 0 0 cells ≡ true → IsBlock cols 0 rows cells
file_block rows cols cells h = go cells (rising rows cols 0 0 cells h)
  where
    apart : (r : ℕ) → 1 ≤ r → 0 ≡ r → ⊥
    apart r a b = omega arith

    go : (cells : List Cell) → AreRising rows cols 0 0 cells → AreRising rows cols 0 cols cells
    go [] g = tt
    go (c ∷ cells) g = (
      record {
        row_after = g.0.row_after;
        col_after = λ e. absurd (apart c.row g.0.row_low e);
        row_low = g.0.row_low;
        row_high = g.0.row_high;
        col_low = g.0.col_low;
        col_high = g.0.col_high;
        not_zero = g.0.not_zero;
      },
      g.1,
    )

-- moved cells
moved_rising : (rows cols r k wide i j : ℕ) (cells : List Cell) → cols + k ≤ wide → AreRising rows cols i j cells → AreRising (r + rows) wide (i + r) (j + k) (moved r k cells)
moved_rising rows cols r k wide i j [] l h = tt
moved_rising rows cols r k wide i j (c ∷ cells) l h = (
  record {
    row_after = row c.row h.0.row_after;
    col_after = col c.row c.col h.0.col_after;
    row_low = low c.row r h.0.row_low;
    row_high = high c.row h.0.row_high;
    col_low = low c.col k h.0.col_low;
    col_high = wide_enough c.col h.0.col_high;
    not_zero = h.0.not_zero;
  },
  moved_rising rows cols r k wide c.row c.col cells l h.1,
)
  where
    row : (x : ℕ) → i ≤ x → i + r ≤ x + r
    row x a = omega arith

    col : (x y : ℕ) → (i ≡ x → j < y) → i + r ≡ x + r → j + k < y + k
    col x y a e = let f : j < y = a (omega arith) in omega arith

    low : (x y : ℕ) → 1 ≤ x → 1 ≤ x + y
    low x y a = omega arith

    high : (x : ℕ) → x ≤ rows → x + r ≤ r + rows
    high x a = omega arith

    wide_enough : (x : ℕ) → x ≤ cols → x + k ≤ wide
    wide_enough x a = omega arith

pub moved_block : (rows cols r k wide : ℕ) (cells : List Cell) → cells_after rows cols 0 0 cells ≡ true → cols + k ≤ wide → IsBlock wide r (r + rows) (moved r k cells)
moved_block rows cols r k wide cells h l = go cells (rising rows cols 0 0 cells h)
  where
    apart : (x : ℕ) → 1 ≤ x → r ≡ x + r → ⊥
    apart x a b = omega arith

    row : (x : ℕ) → r ≤ x + r
    row x = omega arith

    low : (x y : ℕ) → 1 ≤ x → 1 ≤ x + y
    low x y a = omega arith

    high : (x : ℕ) → x ≤ rows → x + r ≤ r + rows
    high x a = omega arith

    wide_enough : (x : ℕ) → x ≤ cols → x + k ≤ wide
    wide_enough x a = omega arith

    go : (cells : List Cell) → AreRising rows cols 0 0 cells → AreRising (r + rows) wide r wide (moved r k cells)
    go [] g = tt
    go (c ∷ cells) g = (
      record {
        row_after = row c.row;
        col_after = λ e. absurd (apart c.row g.0.row_low e);
        row_low = low c.row r g.0.row_low;
        row_high = high c.row g.0.row_high;
        col_low = low c.col k g.0.col_low;
        col_high = wide_enough c.col g.0.col_high;
        not_zero = g.0.not_zero;
      },
      moved_rising rows cols r k wide c.row c.col cells l g.1,
    )

-- unit rows
units_from : (r t n rows cols : ℕ) → r + (t + n) ≤ rows → t + n ≤ cols → AreRising rows cols (r + t) cols (map (λ j. cell (r + j) j one_ℚ) (numbers_from (suc t) n))
units_from r t zero rows cols u l = tt
units_from r t (suc n) rows cols u l = (
  record {
    row_after = omega arith;
    col_after = λ e. absurd (apart e);
    row_low = omega arith;
    row_high = omega arith;
    col_low = omega arith;
    col_high = omega arith;
    not_zero = one_not_zero;
  },
  earlier rows cols (r + suc t) cols (r + suc t) (suc t) (map (λ j. cell (r + j) j one_ℚ) (numbers_from (suc (suc t)) n)) (units_from r (suc t) n rows cols (omega arith) (omega arith))
      (omega arith) (λ _. within),
)
  where
    apart : r + t ≡ r + suc t → ⊥
    apart e = omega arith

    within : suc t ≤ cols
    within = omega arith

pub unit_block : (r n cols : ℕ) → n ≤ cols → IsBlock cols r (r + n) (unit_cells r n)
unit_block r n cols l = earlier (r + n) cols (r + 0) cols r cols (map (λ j. cell (r + j) j one_ℚ) (numbers_from 1 n)) (units_from r 0 n (r + n) cols (omega arith) (omega arith))
    (omega arith) (λ _. itself cols)
  where
    itself : (m : ℕ) → m ≤ m
    itself m = omega arith

-- rows that are made one by one
pub row_blocks : (f : ℕ → List Cell) (cols t m rows : ℕ) → ((i : ℕ) → t ≤ i → i < t + m → IsBlock cols i (suc i) (f (suc i))) → t + m ≤ rows →
    IsBlock cols t rows (flat_map f (numbers_from (suc t) m))
row_blocks f cols t zero rows h u = tt
row_blocks f cols t (suc m) rows h u = block-append cols t (suc t) rows (f (suc t)) (flat_map f (numbers_from (suc (suc t)) m)) (omega arith) (omega arith)
    (h t (omega arith) (omega arith)) (row_blocks f cols (suc t) m rows (λ i a b. h i (omega arith) (omega arith)) (omega arith))

-- ---- the matrix of the problem for both
pub meet_block : (a b : Problem) → a.cols ≡ b.cols → are_cells (a.rows + b.rows + b.cols) a.cols (meet_cells a b) ≡ true
meet_block a b e = block_cells (a.rows + b.rows + b.cols) a.cols (meet_cells a b)
    (block-append a.cols 0 a.rows (a.rows + b.rows + b.cols) a.a (moved a.rows 0 b.a ++ unit_cells (a.rows + b.rows) b.cols) (omega arith) (omega arith)
    (file_block a.rows a.cols a.a a.a_cells)
    (block-append a.cols a.rows (a.rows + b.rows) (a.rows + b.rows + b.cols) (moved a.rows 0 b.a) (unit_cells (a.rows + b.rows) b.cols) (omega arith) (omega arith)
    (moved_block b.rows b.cols a.rows 0 a.cols b.a b.a_cells (omega arith)) (unit_block (a.rows + b.rows) b.cols a.cols (omega arith))))

-- ---- the matrix of the problem for an image
taken_rising : (objs width q row cols i j k : ℕ) (o : List Cell) → AreRising objs width i j o → q + width ≤ cols → 1 ≤ row → (q < k → row ≤ i) → (q < k → i ≡ row → k ≤ q + j) →
    AreRising row cols row k (map (λ c. cell row (q + c.col) (neg_ℚ c.value)) (filter (λ c. c.row == row) o))
taken_rising objs width q row cols i j k [] h w l e f = tt
taken_rising objs width q row cols i j k (c ∷ o) h w l e f =
    go (c.row == row) refl (λ r n a b. taken_rising objs width q row cols c.row c.col n o h.1 w l a b)
  where
    equal : (x : ℕ) → (x == row) ≡ true → x ≡ row
    equal x g = grind (arith, nat_tests)

    unequal : (x : ℕ) → (x == row) ≡ false → x ≡ row → ⊥
    unequal x g = grind (arith, nat_tests)

    to_right : (x y : ℕ) → i ≤ x → (i ≡ x → j < y) → 1 ≤ y → x ≡ row → row ≡ row → k < q + y
    to_right x y a b d g _ = grind arith

    low : (y : ℕ) → 1 ≤ y → 1 ≤ q + y
    low y a = omega arith

    high : (y : ℕ) → y ≤ width → q + y ≤ cols
    high y a = omega arith

    itself : (n : ℕ) → n ≤ n
    itself n = omega arith

    from : (x : ℕ) → x ≡ row → row ≤ x
    from x g = omega arith

    past : (x : ℕ) → i ≤ x → q < k → row ≤ x
    past x a g = let b : row ≤ i = e g in omega arith

    never : (x : ℕ) → (x ≡ row → ⊥) → x ≡ row → (n : ℕ) → n ≤ q + c.col
    never x a b n = absurd (a b)

    go : (b : Bool) → (c.row == row) ≡ b →
        ((r n : ℕ) → (q < n → row ≤ c.row) → (q < n → c.row ≡ row → n ≤ q + c.col) →
        AreRising row cols row n (map (λ c. cell row (q + c.col) (neg_ℚ c.value)) (filter (λ c. c.row == row) o))) →
        AreRising row cols row k (map (λ c. cell row (q + c.col) (neg_ℚ c.value)) (cond b (c ∷ filter (λ c. c.row == row) o) (filter (λ c. c.row == row) o)))
    go true g again = (
      record {
        row_after = itself row;
        col_after = to_right c.row c.col h.0.row_after h.0.col_after h.0.col_low (equal c.row g);
        row_low = l;
        row_high = itself row;
        col_low = low c.col h.0.col_low;
        col_high = high c.col h.0.col_high;
        not_zero = negated_not_zero c.value h.0.not_zero;
      },
      again 0 (q + c.col) (λ _. from c.row (equal c.row g)) (λ _ _. itself (q + c.col)),
    )
    go false g again = again 0 k (past c.row h.0.row_after) (λ _ b. never c.row (unequal c.row g) b k)

value_block : (a : Problem) (i : ℕ) → i < a.objs → IsBlock (a.objs + a.cols) i (suc i) (value_row a (suc i))
value_block a i l = (
  record {
    row_after = omega arith;
    col_after = λ e. absurd (apart e);
    row_low = omega arith;
    row_high = omega arith;
    col_low = omega arith;
    col_high = omega arith;
    not_zero = one_not_zero;
  },
  taken_rising a.objs a.cols a.objs (suc i) (a.objs + a.cols) 0 0 (suc i) a.o (rising a.objs a.cols 0 0 a.o a.o_cells) (omega arith) (omega arith)
      (λ e. absurd (past e)) (λ e. absurd (past e)),
)
  where
    apart : i ≡ suc i → ⊥
    apart e = omega arith

    past : a.objs < suc i → ⊥
    past e = omega arith

pub map_block : (a : Problem) → are_cells (a.objs + a.rows) (a.objs + a.cols) (map_cells a) ≡ true
map_block a = block_cells (a.objs + a.rows) (a.objs + a.cols) (map_cells a)
    (block-append (a.objs + a.cols) 0 a.objs (a.objs + a.rows) (flat_map (value_row a) (numbers_from 1 a.objs)) (moved a.objs a.objs a.a) (omega arith) (omega arith)
    (row_blocks (value_row a) (a.objs + a.cols) 0 a.objs a.objs (λ i _ u. value_block a i (bound i u)) (omega arith))
    (moved_block a.rows a.cols a.objs a.objs (a.objs + a.cols) a.a a.a_cells (omega arith)))
  where
    bound : (i : ℕ) → i < 0 + a.objs → i < a.objs
    bound i u = omega arith

-- ---- the matrix of the problem for a sum
pub sum_row_block : (n i cols : ℕ) → i < n → n + n + n ≤ cols → IsBlock cols i (suc i) (sum_row n (suc i))
sum_row_block n i cols l u = (
  placed i cols (suc i) one_ℚ one_not_zero (omega arith) (λ e. absurd (apart e)) (omega arith) (omega arith),
  (
    placed (suc i) (suc i) (n + suc i) (neg_ℚ one_ℚ) (negated_not_zero one_ℚ one_not_zero) (omega arith) (λ _. within) (omega arith) (omega arith),
    (placed (suc i) (n + suc i) (n + n + suc i) (neg_ℚ one_ℚ) (negated_not_zero one_ℚ one_not_zero) (omega arith) (λ _. within_too) (omega arith) (omega arith), tt),
  ),
)
  where
    apart : i ≡ suc i → ⊥
    apart e = omega arith

    within : suc i < n + suc i
    within = omega arith

    within_too : n + suc i < n + n + suc i
    within_too = omega arith

    placed : (r k j : ℕ) (v : ℚ) → is_zero v ≡ false → r ≤ suc i → (r ≡ suc i → k < j) → 1 ≤ j → j ≤ cols → IsPlaced (suc i) cols r k (cell (suc i) j v)
    placed r k j v z a b d e = record {
      row_after = a;
      col_after = b;
      row_low = omega arith;
      row_high = omega arith;
      col_low = d;
      col_high = e;
      not_zero = z;
    }

pub sum_block : (a b : Problem) → a.cols ≡ b.cols → are_cells (a.cols + a.rows + b.rows) (a.cols + a.cols + a.cols) (sum_cells a b) ≡ true
sum_block a b e = block_cells (a.cols + a.rows + b.rows) (a.cols + a.cols + a.cols) (sum_cells a b)
    (block-append (a.cols + a.cols + a.cols) 0 a.cols (a.cols + a.rows + b.rows) (flat_map (sum_row a.cols) (numbers_from 1 a.cols))
    (moved a.cols a.cols a.a ++ moved (a.cols + a.rows) (a.cols + a.cols) b.a) (omega arith) (omega arith)
    (row_blocks (sum_row a.cols) (a.cols + a.cols + a.cols) 0 a.cols a.cols (λ i _ u. sum_row_block a.cols i (a.cols + a.cols + a.cols) (bound i u) (itself (a.cols + a.cols + a.cols))) (omega arith))
    (block-append (a.cols + a.cols + a.cols) a.cols (a.cols + a.rows) (a.cols + a.rows + b.rows) (moved a.cols a.cols a.a) (moved (a.cols + a.rows) (a.cols + a.cols) b.a)
    (omega arith) (omega arith) (moved_block a.rows a.cols a.cols a.cols (a.cols + a.cols + a.cols) a.a a.a_cells (omega arith))
    (moved_block b.rows b.cols (a.cols + a.rows) (a.cols + a.cols) (a.cols + a.cols + a.cols) b.a b.a_cells (omega arith))))
  where
    bound : (i : ℕ) → i < 0 + a.cols → i < a.cols
    bound i u = omega arith

    itself : (n : ℕ) → n ≤ n
    itself n = omega arith

-- ---- small numbers
pub near : (rows cols : ℕ) (cells : List Cell) → cells_after rows cols 0 0 cells ≡ true → rows ≤ 100000 → cols ≤ 100000 → All IsNear cells
near rows cols cells h l u = go 0 0 cells (rising rows cols 0 0 cells h)
  where
    below : (x y : ℕ) → x ≤ y → y ≤ 100000 → x ≤ 100000
    below x y a b = omega arith

    go : (i j : ℕ) (cells : List Cell) → AreRising rows cols i j cells → All IsNear cells
    go i j [] g = All-nil IsNear
    go i j (c ∷ cells) g = All-cons IsNear c cells (record { row = below c.row rows g.0.row_high l; col = below c.col cols g.0.col_high u }) (go c.row c.col cells g.1)

-- ---- one row more
pub rows-more : (f : ℕ → List Cell) (s n : ℕ) → flat_map f (numbers_from s (n + 1)) ≡ flat_map f (numbers_from s n) ++ f (s + n)
rows-more f s n = ap (λ (m : ℕ). flat_map f (numbers_from s m)) (next n) ∙ go s n
  where
    next : (m : ℕ) → m + 1 ≡ suc m
    next m = omega arith

    go : (s n : ℕ) → flat_map f (numbers_from s (suc n)) ≡ flat_map f (numbers_from s n) ++ f (s + n)
    go s zero = append-nil (f s) ∙ ap f (omega arith)
    go s (suc n) = ap (λ w. f s ++ w) (go (suc s) n) ∙ sym (append_assoc (f s) (flat_map f (numbers_from (suc s) n)) (f (suc s + n)))
        ∙ ap (λ (m : ℕ). (f s ++ flat_map f (numbers_from (suc s) n)) ++ f m) (omega arith)
