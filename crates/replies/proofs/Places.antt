-- Cells by the entries of their matrix, and how many they are.
use Rattle.std.proofs.Common.{◌≡◌, ℕ, ◌+◌, ◌*◌, ◌<◌, ◌≤◌, ◌==◌, ◌&&◌, true, false, not, List, [], ◌∷◌, map, length, subst, arith, All}
use Rattle.std.proofs.lemmas.Bool.{and_parts, cond-true, cond-false}
use Rattle.std.proofs.lemmas.Bool.Decides.{nat_tests}
use Rattle.std.proofs.lemmas.List.Elements.{All-nil, All-cons}
use Rattle.exact_field.specs.Rational.{ℚ}
use Rattle.frac128.specs.Sparse.{is_zero}
use Rattle.vlp_problem.specs.Cells.{place_before, is_within, cells_after, coefficient}
use Rattle.vlp_problem.specs.declared.problem.Cell.{Cell}
use Rattle.vlp_problem.proofs.CellPlaces.{before_twice}

-- what the test of the first of some cells says
record First (rows cols i j : ℕ) (c : Cell) (cells : List Cell) : Type 0 where
  before : place_before i j c.row c.col ≡ true
  within : is_within rows cols c.row c.col ≡ true
  later : cells_after rows cols c.row c.col cells ≡ true

first_of_cells : (rows cols i j : ℕ) (c : Cell) (cells : List Cell) → cells_after rows cols i j (c ∷ cells) ≡ true → First rows cols i j c cells
first_of_cells rows cols i j c cells h =
    let one = and_parts (place_before i j c.row c.col) (is_within rows cols c.row c.col && (not (is_zero c.value) && cells_after rows cols c.row c.col cells)) h in
    let two = and_parts (is_within rows cols c.row c.col) (not (is_zero c.value) && cells_after rows cols c.row c.col cells) one.1 in
    let three = and_parts (not (is_zero c.value)) (cells_after rows cols c.row c.col cells) two.1 in
    record { before = one.0; within = two.0; later = three.1 }

same_place : (i j : ℕ) → (i == i && j == j) ≡ true
same_place i j = grind (arith, nat_tests)

other_place : (m n i j : ℕ) → place_before m n i j ≡ true → (m == i && n == j) ≡ false
other_place m n i j h = grind (arith, nat_tests)

-- what holds of each entry after a place holds of the value of each cell
pub each_value : (P : ℚ → Type 0) (rows cols i j : ℕ) (cells : List Cell) → cells_after rows cols i j cells ≡ true →
    ((row col : ℕ) → is_within rows cols row col ≡ true → place_before i j row col ≡ true → P (coefficient cells row col)) →
    All P (map (λ c. c.value) cells)
each_value P rows cols i j [] h p = All-nil P
each_value P rows cols i j (c ∷ cells) h p =
    let f = first_of_cells rows cols i j c cells h in
    All-cons P c.value (map (λ d. d.value) cells)
    (subst P (cond-true (c.row == c.row && c.col == c.col) c.value (coefficient cells c.row c.col) (same_place c.row c.col)) (p c.row c.col f.within f.before))
    (each_value P rows cols c.row c.col cells f.later
    (λ row col w b. subst P (cond-false (c.row == row && c.col == col) c.value (coefficient cells row col) (other_place c.row c.col row col b))
    (p row col w (before_twice i j c.row c.col row col f.before b))))

-- ---- how many cells there are in three rows of at most 24 columns
step : (i j m n : ℕ) → j ≤ 24 → place_before i j m n ≡ true → i * 25 + j < m * 25 + n
step i j m n l h = grind (arith, nat_tests)

last_place : (cols i j : ℕ) → cols ≤ 24 → is_within 3 cols i j ≡ true → (i ≤ 3) × (j ≤ 24)
last_place cols i j l h = (grind (arith, nat_tests), grind (arith, nat_tests))

pub few_cells : (cols i j : ℕ) (cells : List Cell) → cols ≤ 24 → i ≤ 3 → j ≤ 24 → cells_after 3 cols i j cells ≡ true → length cells + (i * 25 + j) ≤ 99
few_cells cols i j [] l a b h = omega (arith, a, b)
few_cells cols i j (c ∷ cells) l a b h =
    let f = first_of_cells 3 cols i j c cells h in
    let on = step i j c.row c.col b f.before in
    let at = last_place cols c.row c.col l f.within in
    let more = few_cells cols c.row c.col cells l at.0 at.1 f.later in
    omega (arith, on, more)
