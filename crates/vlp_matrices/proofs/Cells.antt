-- Matrices by their cells: the sparse vectors of their rows and columns.
use Rattle.std.proofs.Common.{◌≡◌, ◌≢◌, ℕ, zero, suc, ◌+◌, ◌*◌, ◌-◌, ◌<◌, ◌≤◌, List, [], ◌∷◌, ◌++◌, refl, sym, ap, ap₂, ◌∙◌, subst, arith, Bool, true, false, not, ◌&&◌, ◌||◌, length, length-append, map, if◌then◌else◌, slice_index_or, All, IsTrue, nat_eq, nat_lt, nat_le, ◌==◌, replicate, take, inl, inr, ◌⊎◌}
use Rattle.std.proofs.Math.ListN.{set}
use Rattle.std.proofs.lemmas.Bool.{eq-eqb, ne_eqb, eqb-true, ltb-true, lt-ltb, leb-true, le-leb, and_parts, and_from}
use Rattle.std.proofs.lemmas.Bool.Decides.{eqb_tells}
use Rattle.std.proofs.lemmas.List.{length-map, length-take, take_more, map-append, append_assoc}
use Rattle.std.proofs.lemmas.Grind.{flat_map-append}
use Rattle.std.specs.List.{flat_map}
use Rattle.polyhedra.proofs.Tests.{or_right}
use Rattle.std.proofs.lemmas.List.Elements.{All-nil, All-cons, All-head, All-tail, All-append, All-map, All-from_recursion}
use Rattle.std.specs.List.{AllByRecursion}
use Rattle.exact_field.specs.Rational.{ℚ, zero_ℚ, one_ℚ, whole, neg_ℚ}
use Rattle.exact_field.specs.Vector.{entry}
use Rattle.exact_field.proofs.Rationals.{neg-zero_ℚ}
use Rattle.frac128.specs.Held.{size-neg}
use Rattle.frac128.specs.Sparse.{is_zero, rises_above}
use Rattle.frac128.specs.declared.vectors.Spot.{Spot}
use Rattle.polyhedra.specs.Sparse.{value_at, values_from}
use Rattle.upper_image.specs.Spots.{IsVector, dense, column, entry_of}
use Rattle.upper_image.specs.UpperImage.{signed, normals, objectives, objective_column}
use Rattle.upper_image.proofs.Widths.{entry-made, side_columns}
use Rattle.vlp_problem.specs.Cells.{are_cells, cells_after, place_before, is_within, coefficient}
use Rattle.vlp_problem.specs.Sides.{numbers_from, sides, sides_of, sides_from, side_column, side_bounds, row_vector, unit}
use Rattle.vlp_problem.specs.declared.problem.Problem.{Problem}
use Rattle.vlp_problem.specs.declared.problem.Bound.{Bound}
use Rattle.vlp_problem.specs.declared.problem.Bound.TheVariants.{Unsaid, Free, Lower, Upper, Double, Fixed}
use Rattle.vlp_problem.specs.declared.problem.Cell.{Cell}
use Rattle.vlp_problem.specs.declared.problem.Dir.{Dir}
use Rattle.vlp_problem.specs.declared.problem.Dir.TheVariants.{Min, Max}
use Rattle.vlp_problem.specs.declared.problem.Axis.{Axis}
use Rattle.vlp_problem.specs.declared.problem.Axis.TheVariants.{Row, Column}
use Rattle.vlp_matrices.specs.declared.matrices.Matrices.{Matrices}
use Rattle.vlp_matrices.specs.Matrices.{AreMatricesOf, StandFor, key_of, place_of, spot_of, spots_in, row_cells, cells_from, turned_spot, side_spots, side_values, all_side_spots, unit_spots}

-- ---- lists by number
pub none-lists : {X : Type 0} (n k : ℕ) → replicate n [] ≡ map (λ (_ : ℕ). let none : List X = [] in none) (numbers_from k n)
none-lists zero k = refl
none-lists {X} (suc n) k = ap (λ (ls : List (List X)). [] ∷ ls) (none-lists {X = X} n (suc k))

set-numbers : {X : Type 0} (f g : ℕ → X) (k n p : ℕ) (v : X) → p < n → g (k + p) ≡ v → ((j : ℕ) → j ≢ k + p → g j ≡ f j) →
    set (map f (numbers_from k n)) p v ≡ map g (numbers_from k n)
set-numbers f g k zero p v h e o = absurd (omega (arith, h))
set-numbers {X} f g k (suc n) zero v h e o =
    let here : k + 0 ≡ k = omega arith in
    ap₂ (λ (a : X) (b : List X). a ∷ b) (sym e ∙ ap g here) (same (suc k) n (omega arith))
  where
    same : (m l : ℕ) → k < m → map f (numbers_from m l) ≡ map g (numbers_from m l)
    same m zero q = refl
    same m (suc l) q = ap₂ (λ (a : X) (b : List X). a ∷ b) (sym (o m (λ r. omega (arith, r, q)))) (same (suc m) l (omega (arith, q)))
set-numbers {X} f g k (suc n) (suc p) v h e o =
    let there : suc k + p ≡ k + suc p = omega arith in
    ap₂ (λ (a : X) (b : List X). a ∷ b) (sym (o k (λ r. omega (arith, r))))
    (set-numbers f g (suc k) n p v (omega (arith, h)) (ap g there ∙ e) (λ j q. o j (λ r. q (r ∙ sym there))))

-- one cell more
spots_in-push : (axis : Axis) (dir : Dir) (cells : List Cell) (c : Cell) (k : ℕ) →
    spots_in axis dir (cells ++ c ∷ []) k ≡ spots_in axis dir cells k ++ (if key_of axis c == k then spot_of axis dir c ∷ [] else [])
spots_in-push axis dir [] c k = refl
spots_in-push axis dir (d ∷ cells) c k = go (key_of axis d == k) (spots_in-push axis dir cells c k)
  where
    go : (b : Bool) → spots_in axis dir (cells ++ c ∷ []) k ≡ spots_in axis dir cells k ++ (if key_of axis c == k then spot_of axis dir c ∷ [] else []) →
        ◌≡◌ {A = List Spot} (if b then spot_of axis dir d ∷ spots_in axis dir (cells ++ c ∷ []) k else spots_in axis dir (cells ++ c ∷ []) k)
        ((if b then spot_of axis dir d ∷ spots_in axis dir cells k else spots_in axis dir cells k) ++ (if key_of axis c == k then spot_of axis dir c ∷ [] else []))
    go true h = ap (λ ss. spot_of axis dir d ∷ ss) h
    go false h = h

append-none : {X : Type 0} (xs : List X) → xs ++ [] ≡ xs
append-none [] = refl
append-none {X} (x ∷ xs) = ap (λ (ys : List X). x ∷ ys) (append-none xs)

pub spots_by-more : (axis : Axis) (dir : Dir) (cells : List Cell) (i count : ℕ) (c : Cell) (old new : List Spot) → i < length cells → c ≡ slice_index_or cells i c →
    1 ≤ key_of axis c → key_of axis c ≤ count →
    old ≡ slice_index_or (map (spots_in axis dir (take i cells)) (numbers_from 1 count)) (key_of axis c - 1) old → new ≡ old ++ spot_of axis dir c ∷ [] →
    set (map (spots_in axis dir (take i cells)) (numbers_from 1 count)) (key_of axis c - 1) new ≡ map (spots_in axis dir (take (i + 1) cells)) (numbers_from 1 count)
spots_by-more axis dir cells i count c old new h p low high o n =
    set-numbers (spots_in axis dir (take i cells)) (spots_in axis dir (take (i + 1) cells)) 1 count (key_of axis c - 1) new (omega (arith, low, high))
    (ap (λ (cs : List Cell). spots_in axis dir cs (1 + (key_of axis c - 1))) more ∙ spots_in-push axis dir (take i cells) c (1 + (key_of axis c - 1))
    ∙ ap (λ (b : Bool). spots_in axis dir (take i cells) (1 + (key_of axis c - 1)) ++ (if b then spot_of axis dir c ∷ [] else [])) (eq-eqb (key_of axis c) (1 + (key_of axis c - 1)) back)
    ∙ ap (λ (ss : List Spot). ss ++ spot_of axis dir c ∷ []) (sym (o ∙ at_number (spots_in axis dir (take i cells)) 1 count (key_of axis c - 1) old (omega (arith, low, high)))) ∙ sym n)
    (λ j q. ap (λ (cs : List Cell). spots_in axis dir cs j) more ∙ spots_in-push axis dir (take i cells) c j
    ∙ ap (λ (b : Bool). spots_in axis dir (take i cells) j ++ (if b then spot_of axis dir c ∷ [] else [])) (ne_eqb (key_of axis c) j (λ r. q (sym r ∙ back)))
    ∙ append-none (spots_in axis dir (take i cells) j))
  where
    back : key_of axis c ≡ 1 + (key_of axis c - 1)
    back = omega (arith, low)

    more : take (i + 1) cells ≡ take i cells ++ c ∷ []
    more = take_more cells i c h ∙ ap (λ (d : Cell). take i cells ++ d ∷ []) (sym p)

    at_number : {X : Type 0} (f : ℕ → X) (k m j : ℕ) (d : X) → j < m → slice_index_or (map f (numbers_from k m)) j d ≡ f (k + j)
    at_number f k zero j d l = absurd (omega (arith, l))
    at_number f k (suc m) zero d l = ap f (omega arith)
    at_number f k (suc m) (suc j) d l = at_number f (suc k) m j d (omega (arith, l)) ∙ ap f (omega arith)

-- ---- the entries of the lists
signed-zero : (dir : Dir) → zero_ℚ ≡ signed dir zero_ℚ
signed-zero Min = refl
signed-zero Max = sym neg-zero_ℚ

row-values : (dir : Dir) (cells : List Cell) (i j : ℕ) → value_at (map entry_of (spots_in Row dir cells i)) j ≡ signed dir (coefficient cells i j)
row-values dir [] i j = signed-zero dir
row-values dir (c ∷ cells) i j = go (c.row == i) (nat_eq c.col j) refl refl (row-values dir cells i j)
  where
    go : (x y : Bool) → (c.row == i) ≡ x → nat_eq c.col j ≡ y → value_at (map entry_of (spots_in Row dir cells i)) j ≡ signed dir (coefficient cells i j) →
        value_at (map entry_of (if x then spot_of Row dir c ∷ spots_in Row dir cells i else spots_in Row dir cells i)) j
        ≡ signed dir (if x && (c.col == j) then c.value else coefficient cells i j)
    go true true h k more =
        ap (λ (b : Bool). if b then signed dir c.value else value_at (map entry_of (spots_in Row dir cells i)) j) k
        ∙ ap (λ (b : Bool). signed dir (if b then c.value else coefficient cells i j)) (sym k)
    go true false h k more =
        ap (λ (b : Bool). if b then signed dir c.value else value_at (map entry_of (spots_in Row dir cells i)) j) k ∙ more
        ∙ ap (λ (b : Bool). signed dir (if b then c.value else coefficient cells i j)) (sym k)
    go false y h k more = more

column-values : (dir : Dir) (cells : List Cell) (i j : ℕ) → value_at (map entry_of (spots_in Column dir cells j)) i ≡ signed dir (coefficient cells i j)
column-values dir [] i j = signed-zero dir
column-values dir (c ∷ cells) i j = go (c.col == j) (nat_eq c.row i) refl refl (column-values dir cells i j)
  where
    other : (x : Bool) → (x && false) ≡ false
    other true = refl
    other false = refl

    go : (x y : Bool) → (c.col == j) ≡ x → nat_eq c.row i ≡ y → value_at (map entry_of (spots_in Column dir cells j)) i ≡ signed dir (coefficient cells i j) →
        value_at (map entry_of (if x then spot_of Column dir c ∷ spots_in Column dir cells j else spots_in Column dir cells j)) i
        ≡ signed dir (if (c.row == i) && x then c.value else coefficient cells i j)
    go true true h k more =
        ap (λ (b : Bool). if b then signed dir c.value else value_at (map entry_of (spots_in Column dir cells j)) i) k
        ∙ ap (λ (b : Bool). signed dir (if b && true then c.value else coefficient cells i j)) (sym k)
    go true false h k more =
        ap (λ (b : Bool). if b then signed dir c.value else value_at (map entry_of (spots_in Column dir cells j)) i) k ∙ more
        ∙ ap (λ (b : Bool). signed dir (if b && true then c.value else coefficient cells i j)) (sym k)
    go false y h k more = more ∙ ap (λ (b : Bool). signed dir (if b then c.value else coefficient cells i j)) (sym (other (c.row == i)))

values-made : (n k : ℕ) (f g : ℕ → ℚ) → ((j : ℕ) → f j ≡ g j) → values_from n k f ≡ map g (numbers_from k n)
values-made zero k f g h = refl
values-made (suc n) k f g h = ap₂ (λ a b. a ∷ b) (h k) (values-made n (suc k) f g h)

map-equal : {X Y : Type 0} (f g : X → Y) → ((x : X) → f x ≡ g x) → (xs : List X) → map f xs ≡ map g xs
map-equal f g h [] = refl
map-equal {X} {Y} f g h (x ∷ xs) = ap₂ (λ (a : Y) (b : List Y). a ∷ b) (h x) (map-equal f g h xs)

maps-again : {X Y Z : Type 0} (g : Y → Z) (f : X → Y) (xs : List X) → map g (map f xs) ≡ map (λ x. g (f x)) xs
maps-again g f [] = refl
maps-again {X} {Y} {Z} g f (x ∷ xs) = ap (λ (zs : List Z). g (f x) ∷ zs) (maps-again g f xs)

-- ---- cells in rising order

record FirstCell (R C r c : ℕ) (cell : Cell) (cells : List Cell) : Type 0 where
  before : (r < cell.row) ⊎ ((r ≡ cell.row) × (c < cell.col))
  row_low : 1 ≤ cell.row
  row_high : cell.row ≤ R
  col_low : 1 ≤ cell.col
  col_high : cell.col ≤ C
  filled : IsTrue (not (is_zero cell.value))
  rest : IsTrue (cells_after R C cell.row cell.col cells)

either : (r c row col : ℕ) → (nat_lt r row || r == row && nat_lt c col) ≡ true → (r < row) ⊎ ((r ≡ row) × (c < col))
either r c row col h = go (nat_lt r row) refl
  where
    go : (x : Bool) → nat_lt r row ≡ x → (r < row) ⊎ ((r ≡ row) × (c < col))
    go true k = inl (ltb-true r row k)
    go false k =
        let b = and_parts (r == row) (nat_lt c col) (ap (λ (y : Bool). y || (r == row && nat_lt c col)) (sym k) ∙ h) in
        inr (eqb-true r row b.0, ltb-true c col b.1)

first_cell : (R C r c : ℕ) (cell : Cell) (cells : List Cell) → IsTrue (cells_after R C r c (cell ∷ cells)) → FirstCell R C r c cell cells
first_cell R C r c cell cells h =
    let a = and_parts (place_before r c cell.row cell.col) (is_within R C cell.row cell.col && (not (is_zero cell.value) && cells_after R C cell.row cell.col cells)) h in
    let b = and_parts (is_within R C cell.row cell.col) (not (is_zero cell.value) && cells_after R C cell.row cell.col cells) a.1 in
    let d = and_parts (not (is_zero cell.value)) (cells_after R C cell.row cell.col cells) b.1 in
    let w = and_parts (nat_lt 0 cell.row) (nat_le cell.row R && (nat_lt 0 cell.col && nat_le cell.col C)) b.0 in
    let x = and_parts (nat_le cell.row R) (nat_lt 0 cell.col && nat_le cell.col C) w.1 in
    let y = and_parts (nat_lt 0 cell.col) (nat_le cell.col C) x.1 in
    record {
      before = either r c cell.row cell.col a.0;
      row_low = ltb-true 0 cell.row w.0;
      row_high = leb-true cell.row R x.0;
      col_low = ltb-true 0 cell.col y.0;
      col_high = leb-true cell.col C y.1;
      filled = d.0;
      rest = d.1;
    }

zero-signed : (dir : Dir) (q : ℚ) → is_zero (signed dir q) ≡ is_zero q
unfolding neg_ℚ
zero-signed Min q = refl
zero-signed Max q = ap (λ (n : ℕ). n == 0) (size-neg q.num)

before_trans : (r c r' c' row col : ℕ) → ((r < r') ⊎ ((r ≡ r') × (c < c'))) → ((r' < row) ⊎ ((r' ≡ row) × (c' < col))) → (r < row) ⊎ ((r ≡ row) × (c < col))
before_trans r c r' c' row col (inl a) (inl b) = inl (omega (arith, a, b))
before_trans r c r' c' row col (inl a) (inr b) = inl (omega (arith, a, b))
before_trans r c r' c' row col (inr a) (inl b) = inl (omega (arith, a, b))
before_trans r c r' c' row col (inr a) (inr b) = inr (omega (arith, a, b), omega (arith, a, b))

rows_rise : (R C r c k i : ℕ) (dir : Dir) (cells : List Cell) → IsTrue (cells_after R C r c cells) →
    ((row col : ℕ) → ((r < row) ⊎ ((r ≡ row) × (c < col))) → 1 ≤ col → row ≡ i → k < col) → IsTrue (rises_above k (spots_in Row dir cells i))
rows_rise R C r c k i dir [] h p = refl
rows_rise R C r c k i dir (d ∷ cells) h p =
    let f = first_cell R C r c d cells h in
    go (eqb_tells d.row i)
    (λ e. and_from (nat_lt k d.col) (not (is_zero (signed dir d.value)) && rises_above d.col (spots_in Row dir cells i)) (lt-ltb k d.col (p d.row d.col f.before f.col_low e))
    (and_from (not (is_zero (signed dir d.value))) (rises_above d.col (spots_in Row dir cells i)) (ap not (zero-signed dir d.value) ∙ f.filled)
    (rows_rise R C d.row d.col d.col i dir cells f.rest (λ row col b l q. later row col (omega (arith, e, q)) b))))
    (rows_rise R C d.row d.col k i dir cells f.rest (λ row col b l q. p row col (before_trans r c d.row d.col row col f.before b) l q))
  where
    later : (row col : ℕ) → d.row ≡ row → ((d.row < row) ⊎ ((d.row ≡ row) × (d.col < col))) → d.col < col
    later row col e (inl b) = absurd (omega (arith, e, b))
    later row col e (inr b) = b.1

    go : ((nat_eq d.row i ≡ true) × (d.row ≡ i)) ⊎ ((nat_eq d.row i ≡ false) × (d.row ≢ i)) →
        (d.row ≡ i → IsTrue (rises_above k (spot_of Row dir d ∷ spots_in Row dir cells i))) → IsTrue (rises_above k (spots_in Row dir cells i)) →
        IsTrue (rises_above k (if d.row == i then spot_of Row dir d ∷ spots_in Row dir cells i else spots_in Row dir cells i))
    go (inl e) a b = ap (λ (x : Bool). rises_above k (if x then spot_of Row dir d ∷ spots_in Row dir cells i else spots_in Row dir cells i)) e.0 ∙ a e.1
    go (inr e) a b = ap (λ (x : Bool). rises_above k (if x then spot_of Row dir d ∷ spots_in Row dir cells i else spots_in Row dir cells i)) e.0 ∙ b

columns_rise : (R C r c k j : ℕ) (dir : Dir) (cells : List Cell) → IsTrue (cells_after R C r c cells) →
    ((row col : ℕ) → ((r < row) ⊎ ((r ≡ row) × (c < col))) → 1 ≤ row → col ≡ j → k < row) → IsTrue (rises_above k (spots_in Column dir cells j))
columns_rise R C r c k j dir [] h p = refl
columns_rise R C r c k j dir (d ∷ cells) h p =
    let f = first_cell R C r c d cells h in
    go (eqb_tells d.col j)
    (λ e. and_from (nat_lt k d.row) (not (is_zero (signed dir d.value)) && rises_above d.row (spots_in Column dir cells j)) (lt-ltb k d.row (p d.row d.col f.before f.row_low e))
    (and_from (not (is_zero (signed dir d.value))) (rises_above d.row (spots_in Column dir cells j)) (ap not (zero-signed dir d.value) ∙ f.filled)
    (columns_rise R C d.row d.col d.row j dir cells f.rest (λ row col b l q. later row col (omega (arith, e, q)) b))))
    (columns_rise R C d.row d.col k j dir cells f.rest (λ row col b l q. p row col (before_trans r c d.row d.col row col f.before b) l q))
  where
    later : (row col : ℕ) → d.col ≡ col → ((d.row < row) ⊎ ((d.row ≡ row) × (d.col < col))) → d.row < row
    later row col e (inl b) = b
    later row col e (inr b) = absurd (omega (arith, e, b))

    go : ((nat_eq d.col j ≡ true) × (d.col ≡ j)) ⊎ ((nat_eq d.col j ≡ false) × (d.col ≢ j)) →
        (d.col ≡ j → IsTrue (rises_above k (spot_of Column dir d ∷ spots_in Column dir cells j))) → IsTrue (rises_above k (spots_in Column dir cells j)) →
        IsTrue (rises_above k (if d.col == j then spot_of Column dir d ∷ spots_in Column dir cells j else spots_in Column dir cells j))
    go (inl e) a b = ap (λ (x : Bool). rises_above k (if x then spot_of Column dir d ∷ spots_in Column dir cells j else spots_in Column dir cells j)) e.0 ∙ a e.1
    go (inr e) a b = ap (λ (x : Bool). rises_above k (if x then spot_of Column dir d ∷ spots_in Column dir cells j else spots_in Column dir cells j)) e.0 ∙ b

-- what holds of each cell
pub each_cell : (P : Cell → Type 0) (R C r c : ℕ) (cells : List Cell) → IsTrue (cells_after R C r c cells) →
    ((d : Cell) → 1 ≤ d.row → d.row ≤ R → 1 ≤ d.col → d.col ≤ C → P d) → All P cells
each_cell P R C r c [] h p = All-nil P
each_cell P R C r c (d ∷ cells) h p =
    let f = first_cell R C r c d cells h in
    All-cons P d cells (p d f.row_low f.row_high f.col_low f.col_high) (each_cell P R C d.row d.col cells f.rest p)

places_in : (axis : Axis) (dir : Dir) (n k : ℕ) (cells : List Cell) → All (λ c. place_of axis c ≤ n) cells → All (λ s. s.at ≤ n) (spots_in axis dir cells k)
places_in axis dir n k [] h = All-nil (λ s. s.at ≤ n)
places_in axis dir n k (c ∷ cells) h =
    go (key_of axis c == k) (All-head (λ d. place_of axis d ≤ n) c cells h) (places_in axis dir n k cells (All-tail (λ d. place_of axis d ≤ n) c cells h))
  where
    go : (b : Bool) → place_of axis c ≤ n → All (λ s. s.at ≤ n) (spots_in axis dir cells k) →
        All (λ s. s.at ≤ n) (if b then spot_of axis dir c ∷ spots_in axis dir cells k else spots_in axis dir cells k)
    go true l more = All-cons (λ s. s.at ≤ n) (spot_of axis dir c) (spots_in axis dir cells k) l more
    go false l more = more

all_made : {X : Type 0} (P : X → Type 0) (f : ℕ → X) → ((k : ℕ) → P (f k)) → (ks : List ℕ) → All P (map f ks)
all_made P f h [] = All-nil P
all_made P f h (k ∷ ks) = All-cons P (f k) (map f ks) (h k) (all_made P f h ks)

-- ---- what the lists stand for
pub rows-stand : (dir : Dir) (R C : ℕ) (cells : List Cell) → IsTrue (are_cells R C cells) →
    StandFor C (map (spots_in Row dir cells) (numbers_from 1 R)) (map (λ i. map (λ j. signed dir (coefficient cells i j)) (numbers_from 1 C)) (numbers_from 1 R))
rows-stand dir R C cells h =
    record {
      sparse = all_made (IsVector C) (spots_in Row dir cells) (λ i. record {
        sparse = rows_rise R C 0 0 0 i dir cells h (λ row col b l q. l);
        places = places_in Row dir C i cells (each_cell (λ c. c.col ≤ C) R C 0 0 cells h (λ d a b e f. f));
      }) (numbers_from 1 R);
      stand = maps-again (dense C) (spots_in Row dir cells) (numbers_from 1 R)
          ∙ map-equal _ _ (λ i. values-made C 1 _ (λ j. signed dir (coefficient cells i j)) (row-values dir cells i)) (numbers_from 1 R);
    }

pub columns-stand : (dir : Dir) (R C : ℕ) (cells : List Cell) → IsTrue (are_cells R C cells) →
    StandFor R (map (spots_in Column dir cells) (numbers_from 1 C)) (map (λ j. map (λ i. signed dir (coefficient cells i j)) (numbers_from 1 R)) (numbers_from 1 C))
columns-stand dir R C cells h =
    record {
      sparse = all_made (IsVector R) (spots_in Column dir cells) (λ j. record {
        sparse = columns_rise R C 0 0 0 j dir cells h (λ row col b l q. l);
        places = places_in Column dir R j cells (each_cell (λ c. c.row ≤ R) R C 0 0 cells h (λ d a b e f. b));
      }) (numbers_from 1 C);
      stand = maps-again (dense R) (spots_in Column dir cells) (numbers_from 1 C)
          ∙ map-equal _ _ (λ j. values-made R 1 _ (λ i. signed dir (coefficient cells i j)) (λ i. column-values dir cells i j)) (numbers_from 1 C);
    }

-- ---- the cells of rows
cells_from-push : (k : ℕ) (rows : List (List Spot)) (r : List Spot) → cells_from k (rows ++ r ∷ []) ≡ cells_from k rows ++ row_cells (k + length rows) r
cells_from-push k [] r = let same : k ≡ k + 0 = omega arith in append-none (row_cells k r) ∙ ap (λ (n : ℕ). row_cells n r) same
cells_from-push k (q ∷ rows) r =
    let same : suc k + length rows ≡ k + suc (length rows) = omega arith in
    ap (λ cs. row_cells k q ++ cs) (cells_from-push (suc k) rows r)
    ∙ sym (append_assoc (row_cells k q) (cells_from (suc k) rows) (row_cells (suc k + length rows) r))
    ∙ ap (λ (n : ℕ). row_cells k q ++ cells_from (suc k) rows ++ row_cells n r) same

pub cells_from-more : (rows : List (List Spot)) (i : ℕ) (r : List Spot) → i < length rows → r ≡ slice_index_or rows i r →
    cells_from 1 (take (i + 1) rows) ≡ cells_from 1 (take i rows) ++ row_cells (i + 1) r
cells_from-more rows i r h p =
    let same : 1 + length (take i rows) ≡ i + 1 = omega (arith, length-take i rows) in
    ap (cells_from 1) (take_more rows i r h) ∙ ap (λ (q : List Spot). cells_from 1 (take i rows ++ q ∷ [])) (sym p)
    ∙ cells_from-push 1 (take i rows) r ∙ ap (λ (n : ℕ). cells_from 1 (take i rows) ++ row_cells n r) same

pub numbers-more : {X : Type 0} (f : ℕ → X) (k n : ℕ) → map f (numbers_from k (n + 1)) ≡ map f (numbers_from k n) ++ f (k + n) ∷ []
numbers-more {X} f k n = let one : n + 1 ≡ suc n = omega arith in ap (λ (m : ℕ). map f (numbers_from k m)) one ∙ go k n
  where
    go : (j m : ℕ) → map f (numbers_from j (suc m)) ≡ map f (numbers_from j m) ++ f (j + m) ∷ []
    go j zero = let same : j ≡ j + 0 = omega arith in ap (λ (l : ℕ). f l ∷ []) same
    go j (suc m) =
        let same : suc j + m ≡ j + suc m = omega arith in
        ap (λ (ys : List X). f j ∷ ys) (go (suc j) m ∙ ap (λ (l : ℕ). map f (numbers_from (suc j) m) ++ f l ∷ []) same)

pub flat_map-more : {X A : Type 0} (f : X → List A) (xs : List X) (i : ℕ) (x : X) → i < length xs → x ≡ slice_index_or xs i x →
    flat_map f (take (i + 1) xs) ≡ flat_map f (take i xs) ++ f x
flat_map-more {X} {A} f xs i x h p =
    ap (flat_map f) (take_more xs i x h) ∙ flat_map-append f (take i xs) (slice_index_or xs i x ∷ [])
    ∙ ap (λ (ys : List A). flat_map f (take i xs) ++ ys) (append-none (f (slice_index_or xs i x)))
    ∙ ap (λ (y : X). flat_map f (take i xs) ++ f y) (sym p)

-- the cells rise, within the sizes
before_place : (r c row col : ℕ) → ((r < row) ⊎ ((r ≡ row) × (c < col))) → IsTrue (place_before r c row col)
before_place r c row col (inl h) = ap (λ (b : Bool). b || (r == row && nat_lt c col)) (lt-ltb r row h)
before_place r c row col (inr h) = or_right (nat_lt r row) (r == row && nat_lt c col) (and_from (r == row) (nat_lt c col) (eq-eqb r row h.0) (lt-ltb c col h.1))

row_after : (R C r c k l : ℕ) (spots : List Spot) (more : List Cell) → 1 ≤ k → k ≤ R → ((r < k) ⊎ ((r ≡ k) × (c ≤ l))) → IsTrue (rises_above l spots) →
    All (λ s. s.at ≤ C) spots → ((r' c' : ℕ) → r' ≤ k → IsTrue (cells_after R C r' c' more)) → IsTrue (cells_after R C r c (row_cells k spots ++ more))
row_after R C r c k l [] more low high b rise wide m = m r c (at_most b)
  where
    at_most : ((r < k) ⊎ ((r ≡ k) × (c ≤ l))) → r ≤ k
    at_most (inl h) = omega (arith, h)
    at_most (inr h) = omega (arith, h)
row_after R C r c k l (s ∷ spots) more low high b rise wide m =
    let p = and_parts (nat_lt l s.at) (not (is_zero s.value) && rises_above s.at spots) rise in
    let q = and_parts (not (is_zero s.value)) (rises_above s.at spots) p.1 in
    let above : l < s.at = ltb-true l s.at p.0 in
    let within : s.at ≤ C = All-head (λ z. z.at ≤ C) s spots wide in
    and_from (place_before r c k s.at) (is_within R C k s.at && (not (is_zero s.value) && cells_after R C k s.at (row_cells k spots ++ more))) (before_place r c k s.at (next b above))
    (and_from (is_within R C k s.at) (not (is_zero s.value) && cells_after R C k s.at (row_cells k spots ++ more))
    (and_from (nat_lt 0 k) (nat_le k R && (nat_lt 0 s.at && nat_le s.at C)) (lt-ltb 0 k (omega (arith, low)))
    (and_from (nat_le k R) (nat_lt 0 s.at && nat_le s.at C) (le-leb k R high)
    (and_from (nat_lt 0 s.at) (nat_le s.at C) (lt-ltb 0 s.at (omega (arith, above))) (le-leb s.at C within))))
    (and_from (not (is_zero s.value)) (cells_after R C k s.at (row_cells k spots ++ more)) q.0
    (row_after R C k s.at k s.at spots more low high (inr (refl, omega arith)) q.1 (All-tail (λ z. z.at ≤ C) s spots wide) m)))
  where
    next : ((r < k) ⊎ ((r ≡ k) × (c ≤ l))) → l < s.at → (r < k) ⊎ ((r ≡ k) × (c < s.at))
    next (inl h) a = inl h
    next (inr h) a = inr (h.0, omega (arith, h, a))

rows_after : (R C r c k : ℕ) (rows : List (List Spot)) → r < k → k + length rows ≤ R + 1 → All (IsVector C) rows → IsTrue (cells_after R C r c (cells_from k rows))
rows_after R C r c k [] h l all = refl
rows_after R C r c k (q ∷ rows) h l all =
    let v = All-head (IsVector C) q rows all in
    row_after R C r c k 0 q (cells_from (suc k) rows) (omega (arith, h)) (omega (arith, l)) (inl h) v.sparse v.places
    (λ r' c' m. rows_after R C r' c' (suc k) rows (omega (arith, m)) (omega (arith, l)) (All-tail (IsVector C) q rows all))

pub cells_from-are : (C : ℕ) (rows : List (List Spot)) → All (IsVector C) rows → IsTrue (are_cells (length rows) C (cells_from 1 rows))
cells_from-are C rows h = rows_after (length rows) C 0 0 1 rows (omega arith) (omega arith) h

-- their entries
row-coefficient : (k j : ℕ) (spots : List Spot) (more : List Cell) → coefficient more k j ≡ zero_ℚ → coefficient (row_cells k spots ++ more) k j ≡ value_at (map entry_of spots) j
row-coefficient k j [] more h = h
row-coefficient k j (s ∷ spots) more h =
    ap (λ (b : Bool). if b && (s.at == j) then s.value else coefficient (row_cells k spots ++ more) k j) (eq-eqb k k refl)
    ∙ ap (λ (q : ℚ). if s.at == j then s.value else q) (row-coefficient k j spots more h)

other-coefficient : (k i j : ℕ) (spots : List Spot) (more : List Cell) → k ≢ i → coefficient (row_cells k spots ++ more) i j ≡ coefficient more i j
other-coefficient k i j [] more h = refl
other-coefficient k i j (s ∷ spots) more h =
    ap (λ (b : Bool). if b && (s.at == j) then s.value else coefficient (row_cells k spots ++ more) i j) (ne_eqb k i h) ∙ other-coefficient k i j spots more h

no-coefficient : (k i j : ℕ) (rows : List (List Spot)) → i < k → coefficient (cells_from k rows) i j ≡ zero_ℚ
no-coefficient k i j [] h = refl
no-coefficient k i j (q ∷ rows) h = other-coefficient k i j q (cells_from (suc k) rows) (λ e. omega (arith, e, h)) ∙ no-coefficient (suc k) i j rows (omega (arith, h))

map-numbers : {X : Type 0} (f g : ℕ → X) (k n : ℕ) → ((i : ℕ) → k ≤ i → f i ≡ g i) → map f (numbers_from k n) ≡ map g (numbers_from k n)
map-numbers f g k zero h = refl
map-numbers {X} f g k (suc n) h = ap₂ (λ (a : X) (b : List X). a ∷ b) (h k (omega arith)) (map-numbers f g (suc k) n (λ i l. h i (omega (arith, l))))

rows-again : (w k : ℕ) (rows : List (List Spot)) →
    map (λ i. map (λ j. coefficient (cells_from k rows) i j) (numbers_from 1 w)) (numbers_from k (length rows)) ≡ map (dense w) rows
rows-again w k [] = refl
rows-again w k (q ∷ rows) =
    ap₂ (λ (a : List ℚ) (b : List (List ℚ)). a ∷ b)
    (sym (values-made w 1 (value_at (map entry_of q)) (λ j. coefficient (row_cells k q ++ cells_from (suc k) rows) k j)
    (λ j. sym (row-coefficient k j q (cells_from (suc k) rows) (no-coefficient (suc k) k j rows (omega arith))))))
    (map-numbers _ _ (suc k) (length rows) (λ i l. map-equal _ _ (λ j. other-coefficient k i j q (cells_from (suc k) rows) (λ e. omega (arith, e, l))) (numbers_from 1 w))
    ∙ rows-again w (suc k) rows)

pub cells_from-stand : (w : ℕ) (rows : List (List Spot)) →
    map (λ i. map (λ j. coefficient (cells_from 1 rows) i j) (numbers_from 1 w)) (numbers_from 1 (length rows)) ≡ map (dense w) rows
cells_from-stand w rows = rows-again w 1 rows

-- ---- the sides
values-equal : (n k : ℕ) (f g : ℕ → ℚ) → ((j : ℕ) → f j ≡ g j) → values_from n k f ≡ values_from n k g
values-equal zero k f g h = refl
values-equal (suc n) k f g h = ap₂ (λ a b. a ∷ b) (h k) (values-equal n (suc k) f g h)

turned-values : (dir : Dir) (u : List Spot) (j : ℕ) → value_at (map entry_of (map (turned_spot dir) u)) j ≡ signed dir (value_at (map entry_of u) j)
turned-values dir [] j = signed-zero dir
turned-values dir (s ∷ u) j = go (nat_eq s.at j) (turned-values dir u j)
  where
    go : (b : Bool) → value_at (map entry_of (map (turned_spot dir) u)) j ≡ signed dir (value_at (map entry_of u) j) →
        (if b then signed dir s.value else value_at (map entry_of (map (turned_spot dir) u)) j) ≡ signed dir (if b then s.value else value_at (map entry_of u) j)
    go true h = refl
    go false h = h

signed-values : (n k : ℕ) (f : ℕ → ℚ) → values_from n k (λ j. neg_ℚ (f j)) ≡ map neg_ℚ (values_from n k f)
signed-values zero k f = refl
signed-values (suc n) k f = ap (λ v. neg_ℚ (f k) ∷ v) (signed-values n (suc k) f)

lower_dense : (n : ℕ) (u : List Spot) → dense n (map (turned_spot Min) u) ≡ dense n u
lower_dense n u = values-equal n 1 _ _ (turned-values Min u)

upper_dense : (n : ℕ) (u : List Spot) → dense n (map (turned_spot Max) u) ≡ map neg_ℚ (dense n u)
upper_dense n u = values-equal n 1 _ _ (turned-values Max u) ∙ signed-values n 1 (value_at (map entry_of u))

one_bound : (n : ℕ) (u : List Spot) (v : List ℚ) (b : Bound) → dense n u ≡ v → map (dense n) (side_spots u b) ≡ map (λ s. s.normal) (sides_of v b)
one_bound n u v Unsaid h = refl
one_bound n u v Free h = refl
one_bound n u v (Lower low) h = ap (λ w. w ∷ []) (lower_dense n u ∙ h)
one_bound n u v (Upper high) h = ap (λ w. w ∷ []) (upper_dense n u ∙ ap (map neg_ℚ) h)
one_bound n u v (Double low high) h = ap₂ (λ w z. w ∷ z ∷ []) (lower_dense n u ∙ h) (upper_dense n u ∙ ap (map neg_ℚ) h)
one_bound n u v (Fixed value) h = ap₂ (λ w z. w ∷ z ∷ []) (lower_dense n u ∙ h) (upper_dense n u ∙ ap (map neg_ℚ) h)

pub bounds_normals : (n k : ℕ) (v : ℕ → List ℚ) (us : List (List Spot)) (bs : List Bound) → map (dense n) us ≡ map v (numbers_from k (length bs)) →
    map (dense n) (all_side_spots us bs) ≡ map (λ s. s.normal) (sides_from v k bs)
bounds_normals n k v [] [] h = refl
bounds_normals n k v [] (b ∷ bs) h = absurd cc
bounds_normals n k v (u ∷ us) [] h = absurd cc
bounds_normals n k v (u ∷ us) (b ∷ bs) h =
    let first : dense n u ≡ v k = cc in
    let more : map (dense n) us ≡ map v (numbers_from (suc k) (length bs)) = cc in
    map-append (dense n) (side_spots u b) (all_side_spots us bs)
    ∙ ap₂ (λ (a c : List (List ℚ)). a ++ c) (one_bound n u (v k) b first) (bounds_normals n (suc k) v us bs more)
    ∙ sym (map-append (λ s. s.normal) (sides_of (v k) b) (sides_from v (suc k) bs))

one_values : (v : List ℚ) (b : Bound) → side_values b ≡ map (λ s. s.bound) (sides_of v b)
one_values v Unsaid = refl
one_values v Free = refl
one_values v (Lower low) = refl
one_values v (Upper high) = refl
one_values v (Double low high) = refl
one_values v (Fixed value) = refl

pub bounds_values : (v : ℕ → List ℚ) (k : ℕ) (bs : List Bound) → flat_map side_values bs ≡ map (λ s. s.bound) (sides_from v k bs)
bounds_values v k [] = refl
bounds_values v k (b ∷ bs) =
    ap₂ (λ (a c : List ℚ). a ++ c) (one_values (v k) b) (bounds_values v (suc k) bs) ∙ sym (map-append (λ s. s.bound) (sides_of (v k) b) (sides_from v (suc k) bs))

turned_rises : (dir : Dir) (l : ℕ) (u : List Spot) → rises_above l (map (turned_spot dir) u) ≡ rises_above l u
turned_rises dir l [] = refl
turned_rises dir l (s ∷ u) = ap₂ (λ (a b : Bool). nat_lt l s.at && (not a && b)) (zero-signed dir s.value) (turned_rises dir s.at u)

turned_vector : (n : ℕ) (dir : Dir) (u : List Spot) → IsVector n u → IsVector n (map (turned_spot dir) u)
turned_vector n dir u h =
    record { sparse = turned_rises dir 0 u ∙ h.sparse; places = All-map (λ s. s.at ≤ n) (turned_spot dir) u h.places }

one_sparse : (n : ℕ) (u : List Spot) (b : Bound) → IsVector n u → All (IsVector n) (side_spots u b)
one_sparse n u b h = All-from_recursion (IsVector n) (side_spots u b) (go b)
  where
    go : (c : Bound) → AllByRecursion (IsVector n) (side_spots u c)
    go Unsaid = tt
    go Free = tt
    go (Lower low) = (turned_vector n Min u h, tt)
    go (Upper high) = (turned_vector n Max u h, tt)
    go (Double low high) = (turned_vector n Min u h, (turned_vector n Max u h, tt))
    go (Fixed value) = (turned_vector n Min u h, (turned_vector n Max u h, tt))

pub bounds_sparse : (n : ℕ) (us : List (List Spot)) (bs : List Bound) → All (IsVector n) us → All (IsVector n) (all_side_spots us bs)
bounds_sparse n [] bs h = All-nil (IsVector n)
bounds_sparse n (u ∷ us) [] h = All-nil (IsVector n)
bounds_sparse n (u ∷ us) (b ∷ bs) h =
    All-append (IsVector n) (side_spots u b) (all_side_spots us bs) (one_sparse n u b (All-head (IsVector n) u us h)) (bounds_sparse n us bs (All-tail (IsVector n) u us h))

-- ---- unit vectors
turn_test : (k j : ℕ) → nat_eq k j ≡ (j == k)
turn_test k j = go (eqb_tells k j)
  where
    go : ((nat_eq k j ≡ true) × (k ≡ j)) ⊎ ((nat_eq k j ≡ false) × (k ≢ j)) → nat_eq k j ≡ (j == k)
    go (inl e) = e.0 ∙ sym (eq-eqb j k (sym e.1))
    go (inr e) = e.0 ∙ sym (ne_eqb j k (λ q. e.1 (sym q)))

pub units_stand : (n : ℕ) (ks : List ℕ) → map (dense n) (map unit_spots ks) ≡ map (unit n) ks
units_stand n ks =
    maps-again (dense n) unit_spots ks
    ∙ map-equal _ _ (λ k. values-made n 1 _ (λ j. if j == k then one_ℚ else zero_ℚ) (λ j. ap (λ (b : Bool). if b then one_ℚ else zero_ℚ) (turn_test k j))) ks

one_filled : is_zero one_ℚ ≡ false
unfolding whole
one_filled = refl

unit_vector : (n k : ℕ) → 1 ≤ k → k ≤ n → IsVector n (unit_spots k)
unit_vector n k low high =
    record {
      sparse = and_from (nat_lt 0 k) (not (is_zero one_ℚ) && true) (lt-ltb 0 k (omega (arith, low))) (and_from (not (is_zero one_ℚ)) true (ap not one_filled) refl);
      places = All-cons (λ s. s.at ≤ n) (record { at = k; value = one_ℚ }) [] high (All-nil (λ s. s.at ≤ n));
    }

pub units_sparse : (n k m : ℕ) → 1 ≤ k → k + m ≤ n + 1 → All (IsVector n) (map unit_spots (numbers_from k m))
units_sparse n k zero low high = All-nil (IsVector n)
units_sparse n k (suc m) low high =
    All-cons (IsVector n) (unit_spots k) (map unit_spots (numbers_from (suc k) m)) (unit_vector n k low (omega (arith, high)))
    (units_sparse n (suc k) m (omega (arith, low)) (omega (arith, high)))

-- ---- the columns of rows
map-range : {X : Type 0} (f g : ℕ → X) (k n m : ℕ) → k + n ≤ m + 1 → ((i : ℕ) → k ≤ i → i ≤ m → f i ≡ g i) → map f (numbers_from k n) ≡ map g (numbers_from k n)
map-range f g k zero m l h = refl
map-range {X} f g k (suc n) m l h =
    ap₂ (λ (a : X) (b : List X). a ∷ b) (h k (omega arith) (omega (arith, l))) (map-range f g (suc k) n m (omega (arith, l)) (λ i a b. h i (omega (arith, a)) b))

-- the columns of rows that stand for the vectors are the vectors' columns
pub columns-of_rows : (w : ℕ) (rows : List (List Spot)) (vectors : List (List ℚ)) → map (dense w) rows ≡ vectors →
    map (λ j. map (λ i. coefficient (cells_from 1 rows) i j) (numbers_from 1 (length rows))) (numbers_from 1 w) ≡ map (column vectors) (numbers_from 1 w)
columns-of_rows w rows vectors h =
    map-range _ _ 1 w w (omega arith) (λ j low high.
    map-equal _ _ (λ i. sym (entry-made (λ k. coefficient (cells_from 1 rows) i k) w j low high)) (numbers_from 1 (length rows))
    ∙ sym (maps-again (λ v. entry v j) (λ i. map (λ k. coefficient (cells_from 1 rows) i k) (numbers_from 1 w)) (numbers_from 1 (length rows)))
    ∙ ap (λ (vs : List (List ℚ)). column vs j) (cells_from-stand w rows ∙ h))

-- ---- the matrices of a problem
pub matrices-stands : (file : Problem) (matrices : Matrices) → All (IsVector file.cols) matrices.sides.rows → map (dense file.cols) matrices.sides.rows ≡ normals file →
    matrices.bounds ≡ side_bounds file → matrices.sides.columns ≡ map (spots_in Column Min (cells_from 1 matrices.sides.rows)) (numbers_from 1 file.cols) →
    matrices.objectives.rows ≡ map (spots_in Row file.dir file.o) (numbers_from 1 file.objs) →
    matrices.objectives.columns ≡ map (spots_in Column file.dir file.o) (numbers_from 1 file.cols) → AreMatricesOf file matrices
matrices-stands file matrices wide stand bounds columns orows ocolumns =
    let many : length matrices.sides.rows ≡ length (sides file) =
    sym (length-map matrices.sides.rows (dense file.cols)) ∙ ap (λ (vs : List (List ℚ)). length vs) stand ∙ length-map (sides file) (λ s. s.normal) in
    let upright = columns-stand Min (length matrices.sides.rows) file.cols (cells_from 1 matrices.sides.rows) (cells_from-are file.cols matrices.sides.rows wide) in
    record {
      side_rows = record { sparse = wide; stand = stand };
      side_columns = subst (λ (ls : List (List Spot)). StandFor (length (sides file)) ls (map (side_column file) (numbers_from 1 file.cols))) (sym columns)
          (subst (λ (n : ℕ). StandFor n (map (spots_in Column Min (cells_from 1 matrices.sides.rows)) (numbers_from 1 file.cols)) (map (side_column file) (numbers_from 1 file.cols))) many
          record {
            sparse = upright.sparse;
            stand = upright.stand ∙ columns-of_rows file.cols matrices.sides.rows (normals file) stand ∙ map-equal _ _ (side_columns file) (numbers_from 1 file.cols);
          });
      bounds = bounds;
      objective_rows = subst (λ (ls : List (List Spot)). StandFor file.cols ls (objectives file)) (sym orows) (rows-stand file.dir file.objs file.cols file.o file.o_cells);
      objective_columns = subst (λ (ls : List (List Spot)). StandFor file.objs ls (map (objective_column file) (numbers_from 1 file.cols))) (sym ocolumns)
          (columns-stand file.dir file.objs file.cols file.o file.o_cells);
    }

-- the sides that code makes
pub sides-made : (file : Problem) → map (dense file.cols) (all_side_spots (map (spots_in Row Min file.a) (numbers_from 1 file.rows)) file.row_bounds
    ++ all_side_spots (map unit_spots (numbers_from 1 file.cols)) file.col_bounds) ≡ normals file
sides-made file =
    map-append (dense file.cols) (all_side_spots (map (spots_in Row Min file.a) (numbers_from 1 file.rows)) file.row_bounds) (all_side_spots (map unit_spots (numbers_from 1 file.cols)) file.col_bounds)
    ∙ ap₂ (λ (a b : List (List ℚ)). a ++ b)
    (bounds_normals file.cols 1 (row_vector file) (map (spots_in Row Min file.a) (numbers_from 1 file.rows)) file.row_bounds
    ((rows-stand Min file.rows file.cols file.a file.a_cells).stand ∙ ap (λ (n : ℕ). map (row_vector file) (numbers_from 1 n)) (sym file.row_count)))
    (bounds_normals file.cols 1 (unit file.cols) (map unit_spots (numbers_from 1 file.cols)) file.col_bounds
    (units_stand file.cols (numbers_from 1 file.cols) ∙ ap (λ (n : ℕ). map (unit file.cols) (numbers_from 1 n)) (sym file.col_count)))
    ∙ sym (map-append (λ s. s.normal) (sides_from (row_vector file) 1 file.row_bounds) (sides_from (unit file.cols) 1 file.col_bounds))

pub values-sides : (file : Problem) → flat_map side_values file.row_bounds ++ flat_map side_values file.col_bounds ≡ side_bounds file
values-sides file =
    ap₂ (λ (a b : List ℚ). a ++ b) (bounds_values (row_vector file) 1 file.row_bounds) (bounds_values (unit file.cols) 1 file.col_bounds)
    ∙ sym (map-append (λ s. s.bound) (sides_from (row_vector file) 1 file.row_bounds) (sides_from (unit file.cols) 1 file.col_bounds))

pub sparse-sides : (file : Problem) → All (IsVector file.cols) (all_side_spots (map (spots_in Row Min file.a) (numbers_from 1 file.rows)) file.row_bounds
    ++ all_side_spots (map unit_spots (numbers_from 1 file.cols)) file.col_bounds)
sparse-sides file =
    All-append (IsVector file.cols) (all_side_spots (map (spots_in Row Min file.a) (numbers_from 1 file.rows)) file.row_bounds) (all_side_spots (map unit_spots (numbers_from 1 file.cols)) file.col_bounds)
    (bounds_sparse file.cols (map (spots_in Row Min file.a) (numbers_from 1 file.rows)) file.row_bounds (rows-stand Min file.rows file.cols file.a file.a_cells).sparse)
    (bounds_sparse file.cols (map unit_spots (numbers_from 1 file.cols)) file.col_bounds (units_sparse file.cols 1 file.cols (omega arith) (omega arith)))

-- ---- the sides
few_of : (v : ℕ → List ℚ) (k : ℕ) (bounds : List Bound) → length (sides_from v k bounds) ≤ 2 * length bounds
few_of v k [] = omega arith
few_of v k (b ∷ bounds) = go b (few_of v (suc k) bounds)
  where
    go : (c : Bound) → length (sides_from v (suc k) bounds) ≤ 2 * length bounds → length (sides_of (v k) c ++ sides_from v (suc k) bounds) ≤ 2 * suc (length bounds)
    go Unsaid h = omega (arith, h)
    go Free h = omega (arith, h)
    go (Lower low) h = omega (arith, h)
    go (Upper high) h = omega (arith, h)
    go (Double low high) h = omega (arith, h)
    go (Fixed value) h = omega (arith, h)

pub few_sides : (file : Problem) → length (sides file) ≤ 400000
few_sides file =
    let a = few_of (row_vector file) 1 file.row_bounds in
    let b = few_of (unit file.cols) 1 file.col_bounds in
    let both = length-append (sides_from (row_vector file) 1 file.row_bounds) (sides_from (unit file.cols) 1 file.col_bounds) in
    let rows = file.row_count in
    let cols = file.col_count in
    let rows_few = file.rows_bounded in
    let cols_few = file.cols_bounded in
    omega (arith, a, b, both, rows, cols, rows_few, cols_few)
