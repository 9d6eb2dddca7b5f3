-- What the printed lines of a problem say: seven lists of statements, and the end. No two of them give one place.
use Rattle.std.proofs.Common.{◌≡◌, refl, ℕ, zero, suc, ◌-◌, Bool, true, false, not, ◌&&◌, ◌==◌, if◌then◌else◌, List, [], ◌∷◌, ◌++◌, length, slice_index_or, Result, Ok, arith, ap, ◌∙◌}
use Rattle.std.specs.List.{list_all, list_any, flat_map}
use Rattle.std.proofs.lemmas.Bool.{and_parts, and_from, cond_both, eqb-true, eq-eqb, or_from, false≢true}
use Rattle.std.proofs.lemmas.Bool.Decides.{nat_tests}
use Rattle.std.proofs.lemmas.List.Folds.{list_all-append, list_any-append}
use Rattle.exact_field.specs.Rational.{ℚ}
use Rattle.exact_field.specs.Vector.{entry}
use Rattle.frac128.specs.Sparse.{is_zero}
use Rattle.vlp_problem.specs.Cells.{place_before, rises_after}
use Rattle.vlp_reader.specs.Grammar.{same_matrix, same_axis}
use Rattle.vlp_problem.specs.Sides.{numbers_from, is_unsaid}
use Rattle.vlp_reader.specs.declared.fault.FileKind.{FileKind}
use Rattle.vlp_problem.specs.declared.problem.Bound.{Bound}
use Rattle.vlp_problem.specs.declared.problem.Bound.TheVariants.{Unsaid}
use Rattle.vlp_problem.specs.declared.problem.Cell.{Cell}
use Rattle.vlp_problem.specs.declared.problem.Problem.{Problem}
use Rattle.vlp_problem.specs.declared.problem.Axis.{Axis}
use Rattle.vlp_problem.specs.declared.problem.Axis.TheVariants.{Row, Column}
use Rattle.vlp_reader.specs.declared.statement.Matrix.{Matrix}
use Rattle.vlp_reader.specs.declared.statement.Matrix.TheVariants.{Constraints, Objectives, ConeVectors, Duality}
use Rattle.vlp_reader.specs.declared.statement.Statement.{Statement}
use Rattle.vlp_reader.specs.declared.statement.Statement.TheVariants.{Silent, Heading, Entry, Limit, End}
use Rattle.vlp_reader.proofs.Drafts.{matrix_from}
use Rattle.vlp_problem.specs.Values.{duality_entries, cone_vectors}
use Rattle.vlp_printer.specs.Printing.{printed_sizes}
use Rattle.vlp_printer.proofs.Apart.{clashes, apart, Keys, Numbered, has_key, apart_alone}

-- ---- the statements
abbrev pub cells_say : Matrix → List Cell → List Statement
cells_say m cells = flat_map (λ c. Entry m c.row c.col (Ok c.value) ∷ []) cells

abbrev pub duality_says : List ℚ → List Statement
duality_says f = flat_map (λ i. Entry Duality i 1 (Ok (entry f i)) ∷ []) (numbers_from 1 (length f))

abbrev pub entry_says : ℕ → ℕ → ℚ → List Statement
entry_says i j q = if is_zero q then [] else Entry ConeVectors i j (Ok q) ∷ []

abbrev pub vector_says : ℕ → List ℚ → List Statement
vector_says j v = flat_map (λ i. entry_says i j (entry v i)) (numbers_from 1 (length v))

abbrev pub vectors_say : List (List ℚ) → List Statement
vectors_say vectors = flat_map (λ j. vector_says j (slice_index_or vectors (j - 1) [])) (numbers_from 1 (length vectors))

abbrev pub bound_says : Axis → ℕ → Bound → List Statement
bound_says axis k bound = if is_unsaid bound then [] else Limit axis k (Ok bound) ∷ []

abbrev pub bounds_say : Axis → List Bound → List Statement
bounds_say axis bounds = flat_map (λ k. bound_says axis k (slice_index_or bounds (k - 1) Unsaid)) (numbers_from 1 (length bounds))

-- the parts of what is said, numbered
abbrev pub part : Problem → ℕ → List Statement
part problem zero = Heading (printed_sizes problem) ∷ []
part problem (suc zero) = cells_say Constraints problem.a
part problem (suc (suc zero)) = cells_say Objectives problem.o
part problem (suc (suc (suc zero))) = duality_says (duality_entries problem.duality)
part problem (suc (suc (suc (suc zero)))) = vectors_say (cone_vectors problem.cone)
part problem (suc (suc (suc (suc (suc zero))))) = bounds_say Row problem.row_bounds
part problem (suc (suc (suc (suc (suc (suc zero)))))) = bounds_say Column problem.col_bounds
part problem (suc (suc (suc (suc (suc (suc (suc zero))))))) = End ∷ []
part problem (suc (suc (suc (suc (suc (suc (suc (suc k)))))))) = []

abbrev pub statements : Problem → List Statement
statements problem = flat_map (part problem) (numbers_from 0 8)

-- ---- keys
abbrev pub matrix_kind : Matrix → ℕ
matrix_kind Constraints = 1
matrix_kind Objectives = 2
matrix_kind Duality = 3
matrix_kind ConeVectors = 4

abbrev pub axis_kind : Axis → ℕ
axis_kind Row = 5
axis_kind Column = 6

-- the number of the part that a statement belongs to
abbrev pub kind : Statement → ℕ
kind (Heading s) = 0
kind (Entry m i j number) = matrix_kind m
kind (Limit axis n bound) = axis_kind axis
kind End = 7
kind Silent = 8

abbrev pub place_row : Statement → ℕ
place_row (Entry m i j number) = i
place_row (Limit axis n bound) = n
place_row _ = 0

abbrev pub place_col : Statement → ℕ
place_col (Entry m i j number) = j
place_col _ = 0

pub axis_from : (a b : Axis) → same_axis a b ≡ true → axis_kind a ≡ axis_kind b
axis_from Row Row h = refl
axis_from Row Column h = absurd (false≢true h)
axis_from Column Row h = absurd (false≢true h)
axis_from Column Column h = refl

pub kinds : Keys kind
kinds = record { same = λ s t h. by s t h }
  where
    by : (s t : Statement) → clashes s t ≡ true → kind s ≡ kind t
    by (Entry m i j number) (Entry n k l value) h = ap matrix_kind (matrix_from m n (and_parts (same_matrix m n) (i == k && j == l) h).0)
    by (Limit axis n bound) (Limit other k limit) h = axis_from axis other (and_parts (same_axis axis other) (n == k) h).0
    by s t h = absurd (false≢true h)

pub rows : Keys place_row
rows = record { same = λ s t h. by s t h }
  where
    by : (s t : Statement) → clashes s t ≡ true → place_row s ≡ place_row t
    by (Entry m i j number) (Entry n k l value) h = eqb-true i k (and_parts (i == k) (j == l) (and_parts (same_matrix m n) (i == k && j == l) h).1).0
    by (Limit axis n bound) (Limit other k limit) h = eqb-true n k (and_parts (same_axis axis other) (n == k) h).1
    by s t h = absurd (false≢true h)

pub cols : Keys place_col
cols = record { same = λ s t h. by s t h }
  where
    by : (s t : Statement) → clashes s t ≡ true → place_col s ≡ place_col t
    by (Entry m i j number) (Entry n k l value) h = eqb-true j l (and_parts (i == k) (j == l) (and_parts (same_matrix m n) (i == k && j == l) h).1).1
    by (Limit axis n bound) (Limit other k limit) h = refl
    by s t h = absurd (false≢true h)

-- ---- tests of all
pub all_flat : {X : Type 0} (p : Statement → Bool) (f : X → List Statement) → ((x : X) → list_all p (f x) ≡ true) → (xs : List X) → list_all p (flat_map f xs) ≡ true
all_flat p f each [] = refl
all_flat p f each (x ∷ xs) = list_all-append p (f x) (flat_map f xs) ∙ and_from _ _ (each x) (all_flat p f each xs)

itself : (k : ℕ) → (k == k) ≡ true
itself k = eq-eqb k k refl

one_key : (key : Statement → ℕ) (k : ℕ) (s : Statement) → key s ≡ k → has_key key k (s ∷ []) ≡ true
one_key key k s h = and_from (key s == k) true (eq-eqb (key s) k h) refl

unless : (key : Statement → ℕ) (k : ℕ) (b : Bool) (s : Statement) → key s ≡ k → has_key key k (if b then [] else s ∷ []) ≡ true
unless key k b s h = cond_both b [] (s ∷ []) (λ l. has_key key k l ≡ true) (λ _. refl) (λ _. one_key key k s h)

unless_apart : (b : Bool) (s : Statement) → apart [] (if b then [] else s ∷ []) ≡ true
unless_apart true s = refl
unless_apart false s = refl

-- ---- each part is of its kind
cells_key : (m : Matrix) (cells : List Cell) → has_key kind (matrix_kind m) (cells_say m cells) ≡ true
cells_key m cells = all_flat (λ s. kind s == matrix_kind m) (λ (c : Cell). Entry m c.row c.col (Ok c.value) ∷ []) (λ c. one_key kind (matrix_kind m) (Entry m c.row c.col (Ok c.value)) refl) cells

bounds_key : (axis : Axis) (bounds : List Bound) → has_key kind (axis_kind axis) (bounds_say axis bounds) ≡ true
bounds_key axis bounds =
    all_flat (λ s. kind s == axis_kind axis) (λ (k : ℕ). bound_says axis k (slice_index_or bounds (k - 1) Unsaid))
    (λ k. unless kind (axis_kind axis) (is_unsaid (slice_index_or bounds (k - 1) Unsaid)) (Limit axis k (Ok (slice_index_or bounds (k - 1) Unsaid))) refl) (numbers_from 1 (length bounds))

pub part_key : (problem : Problem) (k : ℕ) → has_key kind k (part problem k) ≡ true
part_key problem zero = refl
part_key problem (suc zero) = cells_key Constraints problem.a
part_key problem (suc (suc zero)) = cells_key Objectives problem.o
part_key problem (suc (suc (suc zero))) =
    all_flat (λ s. kind s == 3) (λ (i : ℕ). Entry Duality i 1 (Ok (entry (duality_entries problem.duality) i)) ∷ []) (λ i. refl) (numbers_from 1 (length (duality_entries problem.duality)))
part_key problem (suc (suc (suc (suc zero)))) =
    let vectors = cone_vectors problem.cone in
    all_flat (λ s. kind s == 4) (λ (j : ℕ). vector_says j (slice_index_or vectors (j - 1) []))
    (λ j. all_flat (λ s. kind s == 4) (λ (i : ℕ). entry_says i j (entry (slice_index_or vectors (j - 1) []) i))
    (λ i. unless kind 4 (is_zero (entry (slice_index_or vectors (j - 1) []) i)) (Entry ConeVectors i j (Ok (entry (slice_index_or vectors (j - 1) []) i))) refl)
    (numbers_from 1 (length (slice_index_or vectors (j - 1) []))))
    (numbers_from 1 (length vectors))
part_key problem (suc (suc (suc (suc (suc zero))))) = bounds_key Row problem.row_bounds
part_key problem (suc (suc (suc (suc (suc (suc zero)))))) = bounds_key Column problem.col_bounds
part_key problem (suc (suc (suc (suc (suc (suc (suc zero))))))) = refl
part_key problem (suc (suc (suc (suc (suc (suc (suc (suc k)))))))) = refl

-- ---- and gives no place twice
pub vector_numbered : (v : List ℚ) (j : ℕ) → Numbered place_row (λ i. entry_says i j (entry v i))
vector_numbered v j =
    record {
      keyed = λ i. unless place_row i (is_zero (entry v i)) (Entry ConeVectors i j (Ok (entry v i))) refl;
      each = λ i. unless_apart (is_zero (entry v i)) (Entry ConeVectors i j (Ok (entry v i)));
    }

pub vectors_numbered : (vectors : List (List ℚ)) → Numbered place_col (λ j. vector_says j (slice_index_or vectors (j - 1) []))
vectors_numbered vectors =
    record {
      keyed = λ j. all_flat (λ s. place_col s == j) (λ (i : ℕ). entry_says i j (entry (slice_index_or vectors (j - 1) []) i))
          (λ i. unless place_col j (is_zero (entry (slice_index_or vectors (j - 1) []) i)) (Entry ConeVectors i j (Ok (entry (slice_index_or vectors (j - 1) []) i))) refl)
          (numbers_from 1 (length (slice_index_or vectors (j - 1) [])));
      each = λ j. apart_alone place_row rows (λ i. entry_says i j (entry (slice_index_or vectors (j - 1) []) i)) (vector_numbered (slice_index_or vectors (j - 1) []) j) 1 (length (slice_index_or vectors (j - 1) []));
    }

pub bounds_numbered : (axis : Axis) (bounds : List Bound) → Numbered place_row (λ k. bound_says axis k (slice_index_or bounds (k - 1) Unsaid))
bounds_numbered axis bounds =
    record {
      keyed = λ k. unless place_row k (is_unsaid (slice_index_or bounds (k - 1) Unsaid)) (Limit axis k (Ok (slice_index_or bounds (k - 1) Unsaid))) refl;
      each = λ k. unless_apart (is_unsaid (slice_index_or bounds (k - 1) Unsaid)) (Limit axis k (Ok (slice_index_or bounds (k - 1) Unsaid)));
    }

pub duality_numbered : (f : List ℚ) → Numbered place_row (λ i. Entry Duality i 1 (Ok (entry f i)) ∷ [])
duality_numbered f = record { keyed = λ i. one_key place_row i (Entry Duality i 1 (Ok (entry f i))) refl; each = λ i. refl }

-- cells that rise have places of their own
before_trans : (a b c d e f : ℕ) → place_before a b c d ≡ true → place_before c d e f ≡ true → place_before a b e f ≡ true
before_trans a b c d e f h k = grind (arith, nat_tests)

before_other : (a b c d : ℕ) → place_before a b c d ≡ true → (c == a && d == b) ≡ false
before_other a b c d h = grind (arith, nat_tests)

cells_apart : (m : Matrix) (row col : ℕ) (cells : List Cell) (earlier : List Statement) → rises_after row col cells ≡ true
    → ((i j : ℕ) (number : Result ℚ FileKind) → place_before row col i j ≡ true → list_any (clashes (Entry m i j number)) earlier ≡ false) → apart earlier (cells_say m cells) ≡ true
cells_apart m row col [] earlier rise free = refl
cells_apart m row col (c ∷ cells) earlier rise free =
    let parts = and_parts (place_before row col c.row c.col) (rises_after c.row c.col cells) rise in
    and_from _ _ (ap not (free c.row c.col (Ok c.value) parts.0))
    (cells_apart m c.row c.col cells (earlier ++ Entry m c.row c.col (Ok c.value) ∷ []) parts.1
    (λ i j number before. list_any-append (clashes (Entry m i j number)) earlier (Entry m c.row c.col (Ok c.value) ∷ [])
    ∙ or_from _ _ (free i j number (before_trans row col c.row c.col i j parts.0 before)) (or_from _ _ (off (same_matrix m m) (i == c.row && j == c.col) (before_other c.row c.col i j before)) refl)))
  where
    off : (a b : Bool) → b ≡ false → (a && b) ≡ false
    off true b h = h
    off false b h = refl

pub part_numbered : (problem : Problem) → rises_after 0 0 problem.a ≡ true → rises_after 0 0 problem.o ≡ true → Numbered kind (part problem)
part_numbered problem a o = record { keyed = λ k. part_key problem k; each = λ k. each k }
  where
    each : (k : ℕ) → apart [] (part problem k) ≡ true
    each zero = refl
    each (suc zero) = cells_apart Constraints 0 0 problem.a [] a (λ i j number before. refl)
    each (suc (suc zero)) = cells_apart Objectives 0 0 problem.o [] o (λ i j number before. refl)
    each (suc (suc (suc zero))) =
        let f = duality_entries problem.duality in
        apart_alone place_row rows (λ i. Entry Duality i 1 (Ok (entry f i)) ∷ []) (duality_numbered f) 1 (length f)
    each (suc (suc (suc (suc zero)))) =
        let vectors = cone_vectors problem.cone in
        apart_alone place_col cols (λ j. vector_says j (slice_index_or vectors (j - 1) [])) (vectors_numbered vectors) 1 (length vectors)
    each (suc (suc (suc (suc (suc zero))))) =
        apart_alone place_row rows (λ k. bound_says Row k (slice_index_or problem.row_bounds (k - 1) Unsaid)) (bounds_numbered Row problem.row_bounds) 1 (length problem.row_bounds)
    each (suc (suc (suc (suc (suc (suc zero)))))) =
        apart_alone place_row rows (λ k. bound_says Column k (slice_index_or problem.col_bounds (k - 1) Unsaid)) (bounds_numbered Column problem.col_bounds) 1 (length problem.col_bounds)
    each (suc (suc (suc (suc (suc (suc (suc zero))))))) = refl
    each (suc (suc (suc (suc (suc (suc (suc (suc k)))))))) = refl

pub statements_apart : (problem : Problem) → rises_after 0 0 problem.a ≡ true → rises_after 0 0 problem.o ≡ true → apart [] (statements problem) ≡ true
statements_apart problem a o = apart_alone kind kinds (part problem) (part_numbered problem a o) 0 8
