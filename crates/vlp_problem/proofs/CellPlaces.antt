-- Where a place stands among cells that rise by place.
use Rattle.std.proofs.Common.{◌≡◌, refl, ℕ, zero, suc, ◌<◌, ◌≤◌, true, false, not, ◌&&◌, ◌==◌, cond, IsTrue, List, [], ◌∷◌, length, get_or, arith, ◌∙◌, ap}
use Rattle.std.proofs.lemmas.Bool.{and_parts, and_from, cond-false}
use Rattle.std.proofs.lemmas.Bool.Decides.{nat_tests}
use Rattle.std.specs.List.Sorted.{IsPartitionedBy}
use Rattle.exact_field.specs.Rational.{zero_ℚ}
use Rattle.frac128.specs.Sparse.{is_zero}
use Rattle.vlp_problem.specs.Cells.{place_before, is_within, cells_after, rises_after, coefficient}
use Rattle.vlp_problem.specs.declared.problem.Cell.{Cell}

-- a place that is not after (i, j) is not that of a cell after (i, j), and not after it
not_at : (i j m n row col : ℕ) → place_before i j m n ≡ true → place_before i j row col ≡ false → ((m == row && n == col) ≡ false) × (place_before m n row col ≡ false)
not_at i j m n row col h k = (grind (arith, nat_tests), grind (arith, nat_tests))

pub coefficient_after : (i j row col : ℕ) (cells : List Cell) → IsTrue (rises_after i j cells) → place_before i j row col ≡ false → coefficient cells row col ≡ zero_ℚ
coefficient_after i j row col [] h k = refl
coefficient_after i j row col (c ∷ cells) h k =
    let parts = and_parts (place_before i j c.row c.col) (rises_after c.row c.col cells) h in
    let off = not_at i j c.row c.col row col parts.0 k in
    cond-false _ c.value (coefficient cells row col) off.0 ∙ coefficient_after c.row c.col row col cells parts.1 off.1

-- a place is not before itself
pub not_before_itself : (m n row col : ℕ) → (m == row && n == col) ≡ true → place_before m n row col ≡ false
not_before_itself m n row col h = grind (arith, nat_tests)

before_not_same : (m n row col : ℕ) → place_before m n row col ≡ true → (m == row && n == col) ≡ false
before_not_same m n row col h = grind (arith, nat_tests)

-- not before: there, or after it
pub coefficient_found : (i j row col at : ℕ) (cells : List Cell) → IsTrue (rises_after i j cells)
    → ((k : ℕ) (d : Cell) → k < at → place_before (get_or cells k d).row (get_or cells k d).col row col ≡ true)
    → ((k : ℕ) (d : Cell) → at ≤ k → k < length cells → place_before (get_or cells k d).row (get_or cells k d).col row col ≡ false)
    → (d : Cell) → at < length cells → coefficient cells row col ≡ coefficient (get_or cells at d ∷ []) row col
coefficient_found i j row col at [] h front back d within = absurd (omega arith)
coefficient_found i j row col zero (c ∷ cells) h front back d within =
    let parts = and_parts (place_before i j c.row c.col) (rises_after c.row c.col cells) h in
    let here : place_before c.row c.col row col ≡ false = back 0 d (omega arith) (omega arith) in
    ap (λ q. cond (c.row == row && c.col == col) c.value q) (coefficient_after c.row c.col row col cells parts.1 here)
coefficient_found i j row col (suc at) (c ∷ cells) h front back d within =
    let parts = and_parts (place_before i j c.row c.col) (rises_after c.row c.col cells) h in
    let here : place_before c.row c.col row col ≡ true = front 0 d (omega arith) in
    cond-false _ c.value (coefficient cells row col) (before_not_same c.row c.col row col here)
    ∙ coefficient_found c.row c.col row col at cells parts.1
    (λ k e lt. front (suc k) e (omega arith))
    (λ k e le lt. back (suc k) e (omega arith) (omega arith))
    d (omega arith)

pub coefficient_past : (row col : ℕ) (cells : List Cell)
    → ((k : ℕ) (d : Cell) → k < length cells → place_before (get_or cells k d).row (get_or cells k d).col row col ≡ true)
    → coefficient cells row col ≡ zero_ℚ
coefficient_past row col [] front = refl
coefficient_past row col (c ∷ cells) front =
    cond-false _ c.value (coefficient cells row col) (before_not_same c.row c.col row col (front 0 c (omega arith)))
    ∙ coefficient_past row col cells (λ k e lt. front (suc k) e (omega arith))

-- the cells of a matrix rise
pub rises_from_cells : (rows cols i j : ℕ) (cells : List Cell) → IsTrue (cells_after rows cols i j cells) → IsTrue (rises_after i j cells)
rises_from_cells rows cols i j [] h = h
rises_from_cells rows cols i j (c ∷ cells) h =
    let within = is_within rows cols c.row c.col in
    let rest = not (is_zero c.value) && cells_after rows cols c.row c.col cells in
    let first = and_parts (place_before i j c.row c.col) (within && rest) h in
    let second = and_parts within rest first.1 in
    let third = and_parts (not (is_zero c.value)) (cells_after rows cols c.row c.col cells) second.1 in
    and_from _ _ first.0 (rises_from_cells rows cols c.row c.col cells third.1)

pub before_twice : (i j m n row col : ℕ) → place_before i j m n ≡ true → place_before m n row col ≡ true → place_before i j row col ≡ true
before_twice i j m n row col h k = grind (arith, nat_tests)

-- of rising cells those before a place come first
all_after : (i j : ℕ) (cells : List Cell) → IsTrue (rises_after i j cells) → (k : ℕ) (d : Cell) → k < length cells → place_before i j (get_or cells k d).row (get_or cells k d).col ≡ true
all_after i j [] h k d lt = absurd (omega arith)
all_after i j (c ∷ cells) h zero d lt = (and_parts (place_before i j c.row c.col) (rises_after c.row c.col cells) h).0
all_after i j (c ∷ cells) h (suc k) d lt =
    let parts = and_parts (place_before i j c.row c.col) (rises_after c.row c.col cells) h in
    before_twice i j c.row c.col _ _ parts.0 (all_after c.row c.col cells parts.1 k d (omega arith))

pub partitioned : (i j row col : ℕ) (cells : List Cell) → IsTrue (rises_after i j cells) → IsPartitionedBy (λ c. place_before c.row c.col row col) cells
partitioned i j row col [] h m n d le lt k = absurd (omega arith)
partitioned i j row col (c ∷ cells) h zero zero d le lt k = k
partitioned i j row col (c ∷ cells) h zero (suc n) d le lt k =
    let parts = and_parts (place_before i j c.row c.col) (rises_after c.row c.col cells) h in
    before_twice c.row c.col _ _ row col (all_after c.row c.col cells parts.1 n d (omega arith)) k
partitioned i j row col (c ∷ cells) h (suc m) zero d le lt k = absurd (omega arith)
partitioned i j row col (c ∷ cells) h (suc m) (suc n) d le lt k =
    let parts = and_parts (place_before i j c.row c.col) (rises_after c.row c.col cells) h in
    partitioned c.row c.col row col cells parts.1 m n d (omega arith) (omega arith) k
