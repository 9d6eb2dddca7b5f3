-- The matrix of the problem for a join rises.
use Rattle.std.proofs.Common.{◌≡◌, ℕ, suc, ◌+◌, ◌<◌, ◌≤◌, Bool, true, false, cond, List, [], ◌∷◌, ◌++◌, length, refl, sym, subst, arith, append-nil}
use Rattle.std.specs.List.{flat_map}
use Rattle.std.proofs.lemmas.List.Elements.{All-head, All-tail}
use Rattle.exact_field.specs.Rational.{ℚ, one_ℚ, neg_ℚ}
use Rattle.frac128.specs.Sparse.{is_zero}
use Rattle.polyhedra.specs.Inequality.{Inequality}
use Rattle.vlp_problem.specs.Cells.{are_cells}
use Rattle.vlp_problem.specs.Sides.{numbers_from, sides}
use Rattle.vlp_problem.specs.declared.problem.Cell.{Cell}
use Rattle.vlp_problem.specs.declared.problem.Problem.{Problem}
use Rattle.projection.specs.Associated.{cell}
use Rattle.poly_calc.specs.Made.{sum_row, row_cells, side_row, side_rows, weights_row, join_cells}
use Rattle.poly_calc.proofs.Sums.{IsPlaced, AreRising}
use Rattle.poly_calc.proofs.SideRows.{AreOfWidth, sides_wide}
use Rattle.poly_calc.proofs.Blocks.{one_not_zero, IsBlock, earlier, block-append, block_cells, row_blocks, sum_row_block}

-- a cell after another one of its row
placed_after : (row cols j k : ℕ) (v : ℚ) → 1 ≤ row → j < k → k ≤ cols → is_zero v ≡ false → IsPlaced row cols row j (cell row k v)
placed_after row cols j k v l u h z = record {
  row_after = omega arith;
  col_after = λ _. u;
  row_low = l;
  row_high = omega arith;
  col_low = omega arith;
  col_high = h;
  not_zero = z;
}

-- entries of a row before the rest of it
entries_then : (row cols col j : ℕ) (v : List ℚ) (rest : List Cell) → 1 ≤ row → j < col → col + length v ≤ suc cols →
    ((k : ℕ) → k < col + length v → AreRising row cols row k rest) → AreRising row cols row j (row_cells row col v ++ rest)
entries_then row cols col j [] rest l u h g = g j (omega arith)
entries_then row cols col j (x ∷ v) rest l u h g =
    go (is_zero x) refl (λ k a. entries_then row cols (suc col) k v rest l a (omega arith) (λ m b. g m (omega arith)))
  where
    go : (b : Bool) → is_zero x ≡ b → ((k : ℕ) → k < suc col → AreRising row cols row k (row_cells row (suc col) v ++ rest)) →
        AreRising row cols row j (cond b (row_cells row (suc col) v) (cell row col x ∷ row_cells row (suc col) v) ++ rest)
    go true e again = again j (omega arith)
    go false e again = (placed_after row cols j col x l u (omega arith) e, again col (omega arith))

side_row_block : (t col m cols : ℕ) (e : Inequality) → 1 ≤ col → col + length e.normal ≤ m → m ≤ cols → IsBlock cols t (suc t) (side_row (suc t) col m e)
side_row_block t col m cols e l u h =
    earlier (suc t) cols (suc t) 0 t cols (side_row (suc t) col m e)
    (entries_then (suc t) cols col 0 e.normal (row_cells (suc t) m (neg_ℚ e.bound ∷ [])) (omega arith) (omega arith) (omega arith)
    (λ k a. subst (AreRising (suc t) cols (suc t) k) (append-nil (row_cells (suc t) m (neg_ℚ e.bound ∷ [])))
    (entries_then (suc t) cols m k (neg_ℚ e.bound ∷ []) [] (omega arith) (omega arith) (omega arith) (λ _ _. tt))))
    (omega arith) (λ p. absurd (apart p))
  where
    apart : t ≡ suc t → ⊥
    apart p = omega arith

side_blocks : (t w col m cols to : ℕ) (es : List Inequality) → AreOfWidth w es → 1 ≤ col → col + w ≤ m → m ≤ cols → to ≡ t + length es → IsBlock cols t to (side_rows (suc t) col m es)
side_blocks t w col m cols to [] a l u h f = tt
side_blocks t w col m cols to (e ∷ es) a l u h f =
    block-append cols t (suc t) to (side_row (suc t) col m e) (side_rows (suc (suc t)) col m es) (omega arith) (omega arith)
    (side_row_block t col m cols e l (subst (λ (n : ℕ). col + n ≤ m) (sym (All-head (λ (e : Inequality). length e.normal ≡ w) e es a)) u) h)
    (side_blocks (suc t) w col m cols to es (All-tail (λ (e : Inequality). length e.normal ≡ w) e es a) l u h (omega arith))

weights_block : (n : ℕ) → IsBlock (n + n + n + 2) n (n + 1) (weights_row n)
weights_block n = (
  record {
    row_after = omega arith;
    col_after = λ e. absurd (apart e);
    row_low = omega arith;
    row_high = omega arith;
    col_low = omega arith;
    col_high = omega arith;
    not_zero = one_not_zero;
  },
  (placed_after (n + 1) (n + n + n + 2) (n + n + n + 1) (n + n + n + 2) one_ℚ (omega arith) (omega arith) (omega arith) one_not_zero, tt),
)
  where
    apart : n ≡ n + 1 → ⊥
    apart e = omega arith

pub join_block : (a b : Problem) → a.cols ≡ b.cols → are_cells (a.cols + 1 + length (sides a) + length (sides b)) (a.cols + a.cols + a.cols + 2) (join_cells a b) ≡ true
join_block a b same =
    let n : ℕ = a.cols in
    let wide : ℕ = n + n + n + 2 in
    let first : ℕ = length (sides a) in
    let rows : ℕ = n + 1 + first + length (sides b) in
    block_cells rows wide (join_cells a b)
    (block-append wide 0 n rows (flat_map (sum_row n) (numbers_from 1 n))
    (weights_row n ++ (side_rows (n + 2) (n + 1) (n + n + n + 1) (sides a) ++ side_rows (n + 2 + first) (n + n + 1) (n + n + n + 2) (sides b))) (omega arith) (omega arith)
    (row_blocks (sum_row n) wide 0 n n (λ i _ u. sum_row_block n i wide (bound i u) (omega arith)) (omega arith))
    (block-append wide n (n + 1) rows (weights_row n) (side_rows (n + 2) (n + 1) (n + n + n + 1) (sides a) ++ side_rows (n + 2 + first) (n + n + 1) (n + n + n + 2) (sides b))
    (omega arith) (omega arith) (weights_block n)
    (block-append wide (n + 1) (n + 1 + first) rows (side_rows (n + 2) (n + 1) (n + n + n + 1) (sides a)) (side_rows (n + 2 + first) (n + n + 1) (n + n + n + 2) (sides b))
    (omega arith) (omega arith)
    (subst (λ (k : ℕ). IsBlock wide (n + 1) (n + 1 + first) (side_rows k (n + 1) (n + n + n + 1) (sides a))) (next_first n)
    (side_blocks (n + 1) n (n + 1) (n + n + n + 1) wide (n + 1 + first) (sides a) (sides_wide a) (omega arith) (omega arith) (omega arith) refl))
    (subst (λ (k : ℕ). IsBlock wide (n + 1 + first) rows (side_rows k (n + n + 1) (n + n + n + 2) (sides b))) (next_second n first)
    (side_blocks (n + 1 + first) n (n + n + 1) (n + n + n + 2) wide rows (sides b) (subst (λ (m : ℕ). AreOfWidth m (sides b)) (sym same) (sides_wide b)) (omega arith) (omega arith) (omega arith) refl)))))
  where
    bound : (i : ℕ) → i < 0 + a.cols → i < a.cols
    bound i u = omega arith

    next_first : (m : ℕ) → suc (m + 1) ≡ m + 2
    next_first m = omega arith

    next_second : (m k : ℕ) → suc (m + 1 + k) ≡ m + 2 + k
    next_second m k = omega arith
