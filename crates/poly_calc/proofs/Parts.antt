-- The parts of a made matrix, and of a vector of its columns.
use Rattle.std.proofs.Common.{◌≡◌, ℕ, zero, suc, ◌+◌, ◌-◌, ◌<◌, ◌≤◌, ◌==◌, Bool, true, false, cond, List, [], ◌∷◌, ◌++◌, map, length, take, drop, All, slice_index_or, refl, sym, ap, ap₂, ◌∙◌, subst, arith, length-drop}
use Rattle.std.specs.List.{flat_map}
use Rattle.std.proofs.lemmas.Bool.Decides.{nat_tests}
use Rattle.std.proofs.lemmas.List.{take-append-drop, length-take-le, get_or_append_left, get_or-append_right}
use Rattle.std.proofs.lemmas.List.Elements.{All-nil, All-cons, All-append, All-map}
use Rattle.std.proofs.Math.Seq.{take-append_seam, take-length}
use Rattle.exact_field.specs.Rational.{ℚ, zero_ℚ, one_ℚ, ◌+ℚ◌, ◌*ℚ◌}
use Rattle.exact_field.specs.Vector.{entry}
use Rattle.polyhedra.proofs.Laws.{add_zero}
use Rattle.polyhedra.proofs.Algebra.{zero_add, one_mul}
use Rattle.polyhedra.proofs.Members.{all_of_members, member_of}
use Rattle.vlp_problem.specs.Cells.{cells_after}
use Rattle.vlp_problem.specs.Sides.{numbers_from, IsFeasible}
use Rattle.vlp_problem.specs.declared.problem.Bound.{Bound}
use Rattle.vlp_problem.specs.declared.problem.Cell.{Cell}
use Rattle.vlp_problem.specs.declared.problem.Problem.{Problem}
use Rattle.projection.specs.Associated.{cell}
use Rattle.poly_calc.specs.Made.{moved, unit_cells, IsMade}
use Rattle.poly_calc.proofs.Sums.{NoneIn, IsInColumns, AreRising, rising, cell_sum, cell_sum-append, cell_sum-none, cell_sum-same, cell_sum-moved}
use Rattle.poly_calc.proofs.Bounds.{AreWithin, IsInBounds, in_bounds, of_bounds}

-- a made problem of equal parts
pub same_parts : (made : Problem) (rows cols : ℕ) (cs ds : List Cell) (of_rows rows_too of_cols cols_too : List Bound) → IsMade made rows cols cs of_rows of_cols →
    cs ≡ ds → of_rows ≡ rows_too → of_cols ≡ cols_too → IsMade made rows cols ds rows_too cols_too
same_parts made rows cols cs ds of_rows rows_too of_cols cols_too m e f g = record {
  dir = m.dir;
  rows = m.rows;
  cols = m.cols;
  objs = m.objs;
  a = m.a ∙ e;
  o = m.o;
  row_bounds = m.row_bounds ∙ f;
  col_bounds = m.col_bounds ∙ g;
  cone = m.cone;
  duality = m.duality;
}

-- ---- a made problem's feasible vectors
pub record Fits (cols : ℕ) (cells : List Cell) (of_rows of_cols : List Bound) (u : List ℚ) : Type 0 where
  pub width : length u ≡ cols
  pub rows_within : AreWithin (λ i. cell_sum cells i (entry u)) 1 of_rows
  pub cols_within : AreWithin (entry u) 1 of_cols

pub fits : (made : Problem) (rows cols : ℕ) (cells : List Cell) (of_rows of_cols : List Bound) (u : List ℚ) → IsMade made rows cols cells of_rows of_cols →
    IsFeasible made u → Fits cols cells of_rows of_cols u
fits made rows cols cells of_rows of_cols u m h =
    let b : IsInBounds made u = in_bounds made u h in
    record {
      width = b.width ∙ m.cols;
      rows_within = subst (AreWithin (λ i. cell_sum cells i (entry u)) 1) m.row_bounds
          (subst (λ (cs : List Cell). AreWithin (λ i. cell_sum cs i (entry u)) 1 made.row_bounds) m.a b.of_rows);
      cols_within = subst (AreWithin (entry u) 1) m.col_bounds b.of_cols;
    }

pub fitting : (made : Problem) (rows cols : ℕ) (cells : List Cell) (of_rows of_cols : List Bound) (u : List ℚ) → IsMade made rows cols cells of_rows of_cols →
    Fits cols cells of_rows of_cols u → IsFeasible made u
fitting made rows cols cells of_rows of_cols u m b = of_bounds made u (record {
  width = b.width ∙ sym m.cols;
  of_rows = subst (λ (cs : List Cell). AreWithin (λ i. cell_sum cs i (entry u)) 1 made.row_bounds) (sym m.a)
      (subst (AreWithin (λ i. cell_sum cells i (entry u)) 1) (sym m.row_bounds) b.rows_within);
  of_cols = subst (AreWithin (entry u) 1) (sym m.col_bounds) b.cols_within;
})

-- ---- the rows and columns of a file's cells
pub record IsInside (rows cols : ℕ) (c : Cell) : Type 0 where
  pub row_low : 1 ≤ c.row
  pub row_high : c.row ≤ rows
  pub columns : IsInColumns cols c

inside_rising : (rows cols i j : ℕ) (cells : List Cell) → AreRising rows cols i j cells → All (IsInside rows cols) cells
inside_rising rows cols i j [] h = All-nil (IsInside rows cols)
inside_rising rows cols i j (c ∷ cells) h = All-cons (IsInside rows cols) c cells
    (record { row_low = h.0.row_low; row_high = h.0.row_high; columns = record { low = h.0.col_low; high = h.0.col_high } })
    (inside_rising rows cols c.row c.col cells h.1)

pub inside : (rows cols : ℕ) (cells : List Cell) → cells_after rows cols 0 0 cells ≡ true → All (IsInside rows cols) cells
inside rows cols cells h = inside_rising rows cols 0 0 cells (rising rows cols 0 0 cells h)

pub in_columns : (rows cols : ℕ) (cells : List Cell) → All (IsInside rows cols) cells → All (IsInColumns cols) cells
in_columns rows cols cells h = all_of_members (IsInColumns cols) cells (λ c m. (member_of (IsInside rows cols) cells c h m).columns)

pub none_past : (rows cols i : ℕ) (cells : List Cell) → All (IsInside rows cols) cells → rows < i → NoneIn i cells
none_past rows cols i cells h l = all_of_members (λ (c : Cell). c.row ≡ i → ⊥) cells (λ c m e. apart c.row (member_of (IsInside rows cols) cells c h m).row_high e)
  where
    apart : (r : ℕ) → r ≤ rows → r ≡ i → ⊥
    apart r a b = omega arith

pub none_before : (rows cols r k i : ℕ) (cells : List Cell) → All (IsInside rows cols) cells → i ≤ r → NoneIn i (moved r k cells)
none_before rows cols r k i cells h l = All-map (λ (c : Cell). c.row ≡ i → ⊥) (λ c. cell (c.row + r) (c.col + k) c.value) cells
    (all_of_members (λ (c : Cell). c.row + r ≡ i → ⊥) cells (λ c m e. apart c.row (member_of (IsInside rows cols) cells c h m).row_low e))
  where
    apart : (q : ℕ) → 1 ≤ q → q + r ≡ i → ⊥
    apart q a b = omega arith

pub none_after : (rows cols r k i : ℕ) (cells : List Cell) → All (IsInside rows cols) cells → rows + r < i → NoneIn i (moved r k cells)
none_after rows cols r k i cells h l = All-map (λ (c : Cell). c.row ≡ i → ⊥) (λ c. cell (c.row + r) (c.col + k) c.value) cells
    (all_of_members (λ (c : Cell). c.row + r ≡ i → ⊥) cells (λ c m e. apart c.row (member_of (IsInside rows cols) cells c h m).row_high e))
  where
    apart : (q : ℕ) → q ≤ rows → q + r ≡ i → ⊥
    apart q a b = omega arith

-- a row of moved cells
pub moved_at : (rows cols r k i i' : ℕ) (cells : List Cell) (u w : ℕ → ℚ) → All (IsInside rows cols) cells → i' ≡ i + r →
    ((j : ℕ) → 1 ≤ j → j ≤ cols → u (j + k) ≡ w j) → cell_sum (moved r k cells) i' u ≡ cell_sum cells i w
moved_at rows cols r k i i' cells u w h e same = cell_sum-moved r k i i' cells u e
    ∙ cell_sum-same cols cells i (λ j. u (j + k)) w (in_columns rows cols cells h) same

-- ---- sums of two parts
pub left_part : (xs ys : List Cell) (i : ℕ) (u : ℕ → ℚ) → NoneIn i ys → cell_sum (xs ++ ys) i u ≡ cell_sum xs i u
left_part xs ys i u h = cell_sum-append xs ys i u ∙ ap (λ q. cell_sum xs i u +ℚ q) (cell_sum-none ys i u h) ∙ add_zero (cell_sum xs i u)

pub right_part : (xs ys : List Cell) (i : ℕ) (u : ℕ → ℚ) → NoneIn i xs → cell_sum (xs ++ ys) i u ≡ cell_sum ys i u
right_part xs ys i u h = cell_sum-append xs ys i u ∙ ap (λ q. q +ℚ cell_sum ys i u) (cell_sum-none xs i u h) ∙ zero_add (cell_sum ys i u)

pub none_append : (xs ys : List Cell) (i : ℕ) → NoneIn i xs → NoneIn i ys → NoneIn i (xs ++ ys)
none_append xs ys i h k = All-append (λ (c : Cell). c.row ≡ i → ⊥) xs ys h k

-- ---- unit rows
units_before : (r s n i : ℕ) → i < r + s → NoneIn i (map (λ j. cell (r + j) j one_ℚ) (numbers_from s n))
units_before r s zero i h = All-nil (λ (c : Cell). c.row ≡ i → ⊥)
units_before r s (suc n) i h = All-cons (λ (c : Cell). c.row ≡ i → ⊥) (cell (r + s) s one_ℚ) (map (λ j. cell (r + j) j one_ℚ) (numbers_from (suc s) n))
    (λ e. absurd (apart (r + s) i h e)) (units_before r (suc s) n i (omega arith))
  where
    apart : (a b : ℕ) → b < a → a ≡ b → ⊥
    apart a b u e = omega arith

pub none_units : (r n i : ℕ) → i ≤ r → NoneIn i (unit_cells r n)
none_units r n i h = units_before r 1 n i (omega arith)

unit_from : (r s n i i' : ℕ) (u : ℕ → ℚ) → i' ≡ r + i → s ≤ i → i < s + n → cell_sum (map (λ j. cell (r + j) j one_ℚ) (numbers_from s n)) i' u ≡ u i
unit_from r s zero i i' u e l h = absurd (omega arith)
unit_from r s (suc n) i i' u e l h = go (s == i) refl (λ m. unit_from r (suc s) n i i' u e m (omega arith))
  where
    unequal : (s == i) ≡ false → s ≡ i → ⊥
    unequal f = grind (arith, nat_tests)

    equal : (s == i) ≡ true → s ≡ i
    equal f = grind (arith, nat_tests)

    go : (b : Bool) → (s == i) ≡ b → (suc s ≤ i → cell_sum (map (λ j. cell (r + j) j one_ℚ) (numbers_from (suc s) n)) i' u ≡ u i) →
        cond (r + s == i') (one_ℚ *ℚ u s) zero_ℚ +ℚ cell_sum (map (λ j. cell (r + j) j one_ℚ) (numbers_from (suc s) n)) i' u ≡ u i
    go true f again =
        ap₂ (λ b q. cond b (one_ℚ *ℚ u s) zero_ℚ +ℚ q) (test (equal f))
        (cell_sum-none (map (λ j. cell (r + j) j one_ℚ) (numbers_from (suc s) n)) i' u (units_before r (suc s) n i' (bound (equal f))))
        ∙ add_zero (one_ℚ *ℚ u s) ∙ one_mul (u s) ∙ ap u (equal f)
      where
        test : s ≡ i → (r + s == i') ≡ true
        test g = grind (arith, nat_tests)

        bound : s ≡ i → i' < r + suc s
        bound g = omega arith
    go false f again =
        ap₂ (λ b q. cond b (one_ℚ *ℚ u s) zero_ℚ +ℚ q) (test (unequal f)) (again (next (unequal f))) ∙ zero_add (u i)
      where
        test : (s ≡ i → ⊥) → (r + s == i') ≡ false
        test g = grind (arith, nat_tests)

        next : (s ≡ i → ⊥) → suc s ≤ i
        next g = omega arith

pub unit_at : (r n i i' : ℕ) (u : ℕ → ℚ) → i' ≡ r + i → 1 ≤ i → i ≤ n → cell_sum (unit_cells r n) i' u ≡ u i
unit_at r n i i' u e l h = unit_from r 1 n i i' u e l (omega arith)

-- ---- rows that are made one by one
abbrev pub AllIn : ℕ → List Cell → Type 0
AllIn i cells = All (λ (c : Cell). c.row ≡ i) cells

pub in_no_other : (i k : ℕ) (cells : List Cell) → AllIn i cells → (i ≡ k → ⊥) → NoneIn k cells
in_no_other i k cells h away = all_of_members (λ (c : Cell). c.row ≡ k → ⊥) cells (λ c m e. away (sym (member_of (λ (c : Cell). c.row ≡ i) cells c h m) ∙ e))

pub none_rows : (f : ℕ → List Cell) → ((i : ℕ) → AllIn i (f i)) → (s n k : ℕ) → ((i : ℕ) → s ≤ i → i < s + n → i ≡ k → ⊥) → NoneIn k (flat_map f (numbers_from s n))
none_rows f own s zero k h = All-nil (λ (c : Cell). c.row ≡ k → ⊥)
none_rows f own s (suc n) k h = none_append (f s) (flat_map f (numbers_from (suc s) n)) k
    (in_no_other s k (f s) (own s) (h s (omega arith) (omega arith))) (none_rows f own (suc s) n k (λ i l u. h i (omega arith) (omega arith)))

pub row_at : (f : ℕ → List Cell) → ((i : ℕ) → AllIn i (f i)) → (s n k : ℕ) (u : ℕ → ℚ) → s ≤ k → k < s + n → cell_sum (flat_map f (numbers_from s n)) k u ≡ cell_sum (f k) k u
row_at f own s zero k u l h = absurd (omega arith)
row_at f own s (suc n) k u l h = go (s == k) refl (λ m. row_at f own (suc s) n k u m (omega arith))
  where
    unequal : (s == k) ≡ false → s ≡ k → ⊥
    unequal e = grind (arith, nat_tests)

    equal : (s == k) ≡ true → s ≡ k
    equal e = grind (arith, nat_tests)

    go : (b : Bool) → (s == k) ≡ b → (suc s ≤ k → cell_sum (flat_map f (numbers_from (suc s) n)) k u ≡ cell_sum (f k) k u) →
        cell_sum (f s ++ flat_map f (numbers_from (suc s) n)) k u ≡ cell_sum (f k) k u
    go true e again = left_part (f s) (flat_map f (numbers_from (suc s) n)) k u (none_rows f own (suc s) n k (λ i a b g. away i a g (equal e)))
        ∙ ap (λ i. cell_sum (f i) k u) (equal e)
      where
        away : (i : ℕ) → suc s ≤ i → i ≡ k → s ≡ k → ⊥
        away i a g q = omega arith
    go false e again = right_part (f s) (flat_map f (numbers_from (suc s) n)) k u (in_no_other s k (f s) (own s) (unequal e)) ∙ again (next (unequal e))
      where
        next : (s ≡ k → ⊥) → suc s ≤ k
        next g = omega arith

-- ---- vectors of two parts
pub record AreParts (k n : ℕ) (u : List ℚ) : Type 0 where
  pub front_width : length (take k u) ≡ k
  pub back_width : length (drop k u) ≡ n
  pub same : u ≡ take k u ++ drop k u

pub parts : (k n : ℕ) (u : List ℚ) → length u ≡ k + n → AreParts k n u
parts k n u h = record {
  front_width = length-take-le k u (front (length u) h);
  back_width = length-drop k u ∙ back (length u) h;
  same = sym (take-append-drop k u);
}
  where
    front : (m : ℕ) → m ≡ k + n → k ≤ m
    front m e = omega arith

    back : (m : ℕ) → m ≡ k + n → m - k ≡ n
    back m e = omega arith

pub entry-left : (k j : ℕ) (z x : List ℚ) → length z ≡ k → 1 ≤ j → j ≤ k → entry (z ++ x) j ≡ entry z j
entry-left k j z x e l u = get_or_append_left z x zero_ℚ (j - 1) (below (length z) e)
  where
    below : (m : ℕ) → m ≡ k → j - 1 < m
    below m f = omega arith

pub entry-right : (k j m : ℕ) (z x : List ℚ) → length z ≡ k → 1 ≤ j → m ≡ j + k → entry (z ++ x) m ≡ entry x j
entry-right k j m z x e l f = get_or-append_right z x k (m - 1) zero_ℚ e (omega arith) ∙ ap (λ (n : ℕ). slice_index_or x n zero_ℚ) (omega arith)

pub take-all : (k : ℕ) (z : List ℚ) → length z ≡ k → take k z ≡ z
take-all k z e = ap (λ n. take n z) (sym e) ∙ take-length z

pub take-first : (k : ℕ) (z x : List ℚ) → length z ≡ k → take k (z ++ x) ≡ z
take-first k z x e = ap (λ n. take n (z ++ x)) (sym e) ∙ take-append_seam z x

-- vectors are equal where their entries are
pub same_entries : (f : ℕ → ℚ) (s n : ℕ) (z : List ℚ) → length z ≡ n → ((t : ℕ) → t < n → slice_index_or z t zero_ℚ ≡ f (s + t)) → z ≡ map f (numbers_from s n)
same_entries f s zero [] e h = refl
same_entries f s zero (a ∷ z) e h = absurd (omega arith)
same_entries f s (suc n) [] e h = absurd (omega arith)
same_entries f s (suc n) (a ∷ z) e h = ap₂ (λ p w. p ∷ w) (h 0 (omega arith) ∙ ap f (omega arith))
    (same_entries f (suc s) n z (omega arith) (λ t l. h (suc t) (omega arith) ∙ ap f (omega arith)))

pub number_at : (f : ℕ → ℚ) (s n t : ℕ) → t < n → slice_index_or (map f (numbers_from s n)) t zero_ℚ ≡ f (s + t)
number_at f s zero t h = absurd (omega arith)
number_at f s (suc n) zero h = ap f (omega arith)
number_at f s (suc n) (suc t) h = number_at f (suc s) n t (omega arith) ∙ ap f (omega arith)

pub numbers_length : (f : ℕ → ℚ) (s n : ℕ) → length (map f (numbers_from s n)) ≡ n
numbers_length f s zero = refl
numbers_length f s (suc n) = ap suc (numbers_length f (suc s) n)
