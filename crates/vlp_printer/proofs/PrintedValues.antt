-- What the printed statements of a problem give: its sizes, entries, bounds, cone and duality vector.
use Rattle.std.proofs.Common.{◌≡◌, refl, inl, inr, ℕ, zero, suc, ◌+◌, ◌-◌, ◌<◌, ◌≤◌, Bool, true, false, not, ◌&&◌, ◌==◌, nat_lt, nat_le, if◌then◌else◌, List, [], ◌∷◌, ◌++◌, length, get_or, map, count_by, sum_by, slice_index_or, Option, None, Some, unwrap_or, Ok, zero-add, arith, ap, sym, ◌∙◌}
use Rattle.std.specs.List.{flat_map}
use Rattle.std.specs.Option.{option_or}
use Rattle.std.proofs.lemmas.Bool.{and_parts, and_from, cond-true, cond-false, lt-ltb, le-leb, eqb-true, eq-eqb, ne_eqb, or_left, cases_Bool, false≢true, false_from_ne_true}
use Rattle.std.proofs.lemmas.Bool.Decides.{nat_tests}
use Rattle.std.proofs.lemmas.List.{ext_get_or, get_or-map, length-map, length-append, append_assoc}
use Rattle.std.proofs.lemmas.List.Sums.{sum_by-append}
use Rattle.exact_field.specs.Rational.{ℚ, zero_ℚ}
use Rattle.exact_field.specs.Vector.{entry, are_wide}
use Rattle.frac128.specs.Sparse.{is_zero}
use Rattle.vlp_problem.specs.Cells.{coefficient}
use Rattle.vlp_problem.specs.Cones.{are_vectors, cone_fits, duality_fits}
use Rattle.vlp_reader.specs.Grammar.{first_given, given_sizes, given_entry, given_bound, gives_entry, same_matrix, same_axis, number_value, bound_value, value_at, bound_at, column_of, cone_of, duality_of, cone_counts, counts_fit, Gives}
use Rattle.vlp_problem.specs.Sides.{numbers_from, is_unsaid}
use Rattle.vlp_problem.specs.declared.problem.Bound.{Bound}
use Rattle.vlp_problem.specs.declared.problem.Bound.TheVariants.{Unsaid, Free, Lower, Upper, Double, Fixed}
use Rattle.vlp_problem.specs.declared.problem.Cell.{Cell}
use Rattle.vlp_problem.specs.declared.problem.Cone.{Cone}
use Rattle.vlp_problem.specs.declared.problem.Cone.TheVariants.{Orthant, Gens, Dual}
use Rattle.vlp_problem.specs.declared.problem.Problem.{Problem}
use Rattle.vlp_problem.specs.declared.problem.Axis.{Axis}
use Rattle.vlp_problem.specs.declared.problem.Axis.TheVariants.{Row, Column}
use Rattle.vlp_reader.specs.declared.statement.Matrix.{Matrix}
use Rattle.vlp_reader.specs.declared.statement.Matrix.TheVariants.{Constraints, Objectives, ConeVectors, Duality}
use Rattle.vlp_reader.specs.declared.statement.Statement.{Statement}
use Rattle.vlp_reader.specs.declared.statement.Statement.TheVariants.{Silent, Heading, Entry, Limit, End}
use Rattle.vlp_reader.proofs.Drafts.{matrix_from, same_matrix_itself, same_axis_itself}
use Rattle.vlp_problem.proofs.Numbers.{length-numbers, number_at}
use Rattle.vlp_problem.proofs.Zero.{zero_is}
use Rattle.vlp_problem.specs.Values.{duality_entries, cone_vectors}
use Rattle.vlp_printer.specs.Printing.{entry_count, printed_cone, printed_sizes}
use Rattle.vlp_printer.proofs.Apart.{given_numbers, count_numbers, count-append, count-cons}
use Rattle.vlp_printer.proofs.PrintedStatements.{cells_say, duality_says, entry_says, vector_says, vectors_say, bound_says, bounds_say, part, statements, kind, matrix_kind, axis_kind, place_row, place_col, axis_from, part_key, duality_numbered, vectors_numbered, vector_numbered, bounds_numbered}

-- ---- who asks for one kind, row or column gets nothing of another
entry_test : (m n : Matrix) (i j k l : ℕ) (q : ℚ) → ((same_matrix m n && (i == k && j == l)) ≡ true → ⊥) → (if same_matrix m n && (i == k && j == l) then Some q else None) ≡ None
entry_test m n i j k l q h = cond-false (same_matrix m n && (i == k && j == l)) (Some q) None (false_from_ne_true _ h)

entry_of_kind : (m : Matrix) (i j : ℕ) (s : Statement) → (kind s ≡ matrix_kind m → ⊥) → given_entry m i j s ≡ None
entry_of_kind m i j (Entry n k l number) h =
    entry_test m n i j k l (number_value number) (λ e. h (ap matrix_kind (sym (matrix_from m n (and_parts (same_matrix m n) (i == k && j == l) e).0))))
entry_of_kind m i j Silent h = refl
entry_of_kind m i j (Heading s) h = refl
entry_of_kind m i j (Limit axis n bound) h = refl
entry_of_kind m i j End h = refl

entry_of_row : (m : Matrix) (i j : ℕ) (s : Statement) → (place_row s ≡ i → ⊥) → given_entry m i j s ≡ None
entry_of_row m i j (Entry n k l number) h =
    entry_test m n i j k l (number_value number) (λ e. h (sym (eqb-true i k (and_parts (i == k) (j == l) (and_parts (same_matrix m n) (i == k && j == l) e).1).0)))
entry_of_row m i j Silent h = refl
entry_of_row m i j (Heading s) h = refl
entry_of_row m i j (Limit axis n bound) h = refl
entry_of_row m i j End h = refl

entry_of_col : (m : Matrix) (i j : ℕ) (s : Statement) → (place_col s ≡ j → ⊥) → given_entry m i j s ≡ None
entry_of_col m i j (Entry n k l number) h =
    entry_test m n i j k l (number_value number) (λ e. h (sym (eqb-true j l (and_parts (i == k) (j == l) (and_parts (same_matrix m n) (i == k && j == l) e).1).1)))
entry_of_col m i j Silent h = refl
entry_of_col m i j (Heading s) h = refl
entry_of_col m i j (Limit axis n bound) h = refl
entry_of_col m i j End h = refl

bound_of_kind : (axis : Axis) (n : ℕ) (s : Statement) → (kind s ≡ axis_kind axis → ⊥) → given_bound axis n s ≡ None
bound_of_kind axis n (Limit other k bound) h =
    cond-false (same_axis axis other && n == k) (Some (bound_value bound)) None (false_from_ne_true _ (λ e. h (sym (axis_from axis other (and_parts (same_axis axis other) (n == k) e).0))))
bound_of_kind axis n Silent h = refl
bound_of_kind axis n (Heading s) h = refl
bound_of_kind axis n (Entry m i j number) h = refl
bound_of_kind axis n End h = refl

bound_of_row : (axis : Axis) (n : ℕ) (s : Statement) → (place_row s ≡ n → ⊥) → given_bound axis n s ≡ None
bound_of_row axis n (Limit other k bound) h =
    cond-false (same_axis axis other && n == k) (Some (bound_value bound)) None (false_from_ne_true _ (λ e. h (sym (eqb-true n k (and_parts (same_axis axis other) (n == k) e).1))))
bound_of_row axis n Silent h = refl
bound_of_row axis n (Heading s) h = refl
bound_of_row axis n (Entry m i j number) h = refl
bound_of_row axis n End h = refl

sizes_of_kind : (s : Statement) → (kind s ≡ 0 → ⊥) → given_sizes s ≡ None
sizes_of_kind (Heading s) h = absurd (h refl)
sizes_of_kind Silent h = refl
sizes_of_kind (Entry m i j number) h = refl
sizes_of_kind (Limit axis n bound) h = refl
sizes_of_kind End h = refl

count_of_kind : (m : Matrix) (s : Statement) → (kind s ≡ matrix_kind m → ⊥) → gives_entry m s ≡ false
count_of_kind m (Entry n i j number) h = false_from_ne_true (same_matrix m n) (λ e. h (ap matrix_kind (sym (matrix_from m n e))))
count_of_kind m Silent h = refl
count_of_kind m (Heading s) h = refl
count_of_kind m (Limit axis n bound) h = refl
count_of_kind m End h = refl

-- ---- of all statements, those of one part
in_part : {A : Type 0} (problem : Problem) (f : Statement → Option A) (k : ℕ) → ((s : Statement) → (kind s ≡ k → ⊥) → f s ≡ None) → k < 8 → first_given f (statements problem) ≡ first_given f (part problem k)
in_part problem f k only small =
    given_numbers f kind k only (part problem) (λ i. part_key problem i) 0 8 ∙ cond-true (nat_le 0 k && nat_lt k (0 + 8)) (first_given f (part problem k)) None (and_from _ _ (le-leb 0 k (omega arith)) (lt-ltb k (0 + 8) (omega arith)))

small_kind : (m : Matrix) → matrix_kind m < 8
small_kind Constraints = omega arith
small_kind Objectives = omega arith
small_kind ConeVectors = omega arith
small_kind Duality = omega arith

small_axis : (axis : Axis) → axis_kind axis < 8
small_axis Row = omega arith
small_axis Column = omega arith

entries_in : (problem : Problem) (m : Matrix) (i j : ℕ) → value_at (statements problem) m i j ≡ value_at (part problem (matrix_kind m)) m i j
entries_in problem m i j = ap (λ o. unwrap_or o zero_ℚ) (in_part problem (given_entry m i j) (matrix_kind m) (λ s h. entry_of_kind m i j s h) (small_kind m))

bounds_in : (problem : Problem) (axis : Axis) (n : ℕ) → bound_at (statements problem) axis n ≡ bound_at (part problem (axis_kind axis)) axis n
bounds_in problem axis n = ap (λ o. unwrap_or o Unsaid) (in_part problem (given_bound axis n) (axis_kind axis) (λ s h. bound_of_kind axis n s h) (small_axis axis))

counts_in : (problem : Problem) (m : Matrix) → count_by (gives_entry m) (statements problem) ≡ count_by (gives_entry m) (part problem (matrix_kind m))
counts_in problem m =
    let small = small_kind m in
    count_numbers (gives_entry m) kind (matrix_kind m) (λ s h. count_of_kind m s h) (part problem) (λ i. part_key problem i) 0 8
    ∙ cond-true (nat_le 0 (matrix_kind m) && nat_lt (matrix_kind m) (0 + 8)) (count_by (gives_entry m) (part problem (matrix_kind m))) 0 (and_from _ _ (le-leb 0 (matrix_kind m) (omega arith)) (lt-ltb (matrix_kind m) (0 + 8) (omega arith)))

pub sizes_given : (problem : Problem) → first_given given_sizes (statements problem) ≡ Some (printed_sizes problem)
sizes_given problem = in_part problem given_sizes 0 (λ s h. sizes_of_kind s h) (omega arith)

-- ---- cells
choose : (b : Bool) (v : ℚ) (o : Option ℚ) → unwrap_or (option_or (if b then Some v else None) o) zero_ℚ ≡ (if b then v else unwrap_or o zero_ℚ)
choose true v o = refl
choose false v o = refl

cells_value : (m : Matrix) (cells : List Cell) (i j : ℕ) → value_at (cells_say m cells) m i j ≡ coefficient cells i j
cells_value m [] i j = refl
cells_value m (c ∷ cells) i j =
    choose (same_matrix m m && (i == c.row && j == c.col)) c.value (first_given (given_entry m i j) (cells_say m cells))
    ∙ ap (λ b. if b then c.value else value_at (cells_say m cells) m i j) (ap (λ b. b && (i == c.row && j == c.col)) (same_matrix_itself m) ∙ turned i j c.row c.col)
    ∙ ap (λ q. if c.row == i && c.col == j then c.value else q) (cells_value m cells i j)
  where
    turned : (i j k l : ℕ) → (i == k && j == l) ≡ (k == i && l == j)
    turned i j k l = grind (arith, nat_tests)

cells_count : (m : Matrix) (cells : List Cell) → count_by (gives_entry m) (cells_say m cells) ≡ length cells
cells_count m [] = refl
cells_count m (c ∷ cells) =
    count-cons (gives_entry m) (Entry m c.row c.col (Ok c.value)) (cells_say m cells) ∙ ap (λ b. (if b then 1 else 0) + count_by (gives_entry m) (cells_say m cells)) (same_matrix_itself m)
    ∙ ap (λ (n : ℕ). 1 + n) (cells_count m cells) ∙ omega arith

-- ---- numbered lists
in_range : (k n : ℕ) → 0 < k → k ≤ n → (nat_le 1 k && nat_lt k (1 + n)) ≡ true
in_range k n h l = and_from _ _ (le-leb 1 k (omega arith)) (lt-ltb k (1 + n) (omega arith))

-- a list that is made by number is that of which it has the elements
numbered_list : {A : Type 0} (f : ℕ → A) (xs : List A) (d : A) (n : ℕ) → length xs ≡ n → ((k : ℕ) → 0 < k → k ≤ n → f k ≡ slice_index_or xs (k - 1) d) → map f (numbers_from 1 n) ≡ xs
numbered_list f xs d n size same =
    let count : length (map f (numbers_from 1 n)) ≡ n = length-map (numbers_from 1 n) f ∙ length-numbers 1 n in
    ext_get_or d (map f (numbers_from 1 n)) xs (count ∙ sym size)
    (λ i lt. let numbers = length-numbers 1 n in
    let next : 1 + i - 1 ≡ i = omega arith in
    get_or-map f (numbers_from 1 n) i 0 d (omega arith) ∙ ap f (number_at 1 n i (omega arith)) ∙ same (1 + i) (omega arith) (omega arith) ∙ ap (λ (m : ℕ). get_or xs m d) next)

itself : (k : ℕ) → (k == k) ≡ true
itself k = eq-eqb k k refl

own_entry : (m : Matrix) (i j : ℕ) (q : ℚ) → first_given (given_entry m i j) (Entry m i j (Ok q) ∷ []) ≡ Some q
own_entry m i j q = ap (λ o. option_or o None) (cond-true (same_matrix m m && (i == i && j == j)) (Some q) None (and_from _ _ (same_matrix_itself m) (and_from _ _ (itself i) (itself j))))

-- ---- the duality vector
duality_value : (f : List ℚ) (i : ℕ) → 0 < i → i ≤ length f → value_at (duality_says f) Duality i 1 ≡ entry f i
duality_value f i h l =
    ap (λ o. unwrap_or o zero_ℚ)
    (given_numbers (given_entry Duality i 1) place_row i (λ s k. entry_of_row Duality i 1 s k) (λ n. Entry Duality n 1 (Ok (entry f n)) ∷ []) (duality_numbered f).keyed 1 (length f)
    ∙ cond-true (nat_le 1 i && nat_lt i (1 + length f)) _ None (in_range i (length f) h l) ∙ own_entry Duality i 1 (entry f i))

duality_count : (f : List ℚ) → count_by (gives_entry Duality) (duality_says f) ≡ length f
duality_count f = by 1 (length f)
  where
    by : (a n : ℕ) → count_by (gives_entry Duality) (flat_map (λ i. Entry Duality i 1 (Ok (entry f i)) ∷ []) (numbers_from a n)) ≡ n
    by a zero = refl
    by a (suc n) =
        count-cons (gives_entry Duality) (Entry Duality a 1 (Ok (entry f a))) (flat_map (λ i. Entry Duality i 1 (Ok (entry f i)) ∷ []) (numbers_from (suc a) n))
        ∙ ap (λ (m : ℕ). 1 + m) (by (suc a) n) ∙ omega arith

-- ---- the cone vectors
said_entry : (i j : ℕ) (q : ℚ) → unwrap_or (first_given (given_entry ConeVectors i j) (entry_says i j q)) zero_ℚ ≡ q
said_entry i j q = elim (cases_Bool (is_zero q)) [
  | inl none ↦ ap (λ (l : List Statement). unwrap_or (first_given (given_entry ConeVectors i j) l) zero_ℚ) (cond-true (is_zero q) [] (Entry ConeVectors i j (Ok q) ∷ []) none) ∙ sym (zero_is q none)
  | inr some ↦ ap (λ (l : List Statement). unwrap_or (first_given (given_entry ConeVectors i j) l) zero_ℚ) (cond-false (is_zero q) [] (Entry ConeVectors i j (Ok q) ∷ []) some)
      ∙ ap (λ o. unwrap_or o zero_ℚ) (own_entry ConeVectors i j q)
]

vectors_value : (vectors : List (List ℚ)) (i j : ℕ) → 0 < j → j ≤ length vectors → 0 < i → i ≤ length (slice_index_or vectors (j - 1) []) → value_at (vectors_say vectors) ConeVectors i j ≡ entry (slice_index_or vectors (j - 1) []) i
vectors_value vectors i j h l some most =
    let v = slice_index_or vectors (j - 1) [] in
    ap (λ o. unwrap_or o zero_ℚ)
    (given_numbers (given_entry ConeVectors i j) place_col j (λ s k. entry_of_col ConeVectors i j s k) (λ n. vector_says n (slice_index_or vectors (n - 1) [])) (vectors_numbered vectors).keyed 1 (length vectors)
    ∙ cond-true (nat_le 1 j && nat_lt j (1 + length vectors)) _ None (in_range j (length vectors) h l)
    ∙ given_numbers (given_entry ConeVectors i j) place_row i (λ s k. entry_of_row ConeVectors i j s k) (λ n. entry_says n j (entry v n)) (vector_numbered v j).keyed 1 (length v)
    ∙ cond-true (nat_le 1 i && nat_lt i (1 + length v)) _ None (in_range i (length v) some most))
    ∙ said_entry i j (entry v i)

-- a list that is gone through by number
seam : {X : Type 0} (before : List X) (x d : X) (xs : List X) → get_or (before ++ x ∷ xs) (length before) d ≡ x
seam [] x d xs = refl
seam (b ∷ before) x d xs = seam before x d xs

count_by_number : {X : Type 0} (test : Statement → Bool) (f : ℕ → X → List Statement) (size : X → ℕ) → ((k : ℕ) (x : X) → count_by test (f k x) ≡ size x) → (d : X) (before xs : List X)
    → count_by test (flat_map (λ k. f k (slice_index_or (before ++ xs) (k - 1) d)) (numbers_from (suc (length before)) (length xs))) ≡ sum_by size xs
count_by_number test f size each d before [] = refl
count_by_number {X = X} test f size each d before (x ∷ xs) =
    let k : ℕ = suc (length before) in
    let same : k - 1 ≡ length before = omega arith in
    let longer : suc (length before) ≡ length (before ++ x ∷ []) = omega (arith, length-append before (x ∷ [])) in
    let rest : (a : ℕ) (l : List X) → List Statement = λ a l. flat_map (λ n. f n (slice_index_or l (n - 1) d)) (numbers_from a (length xs)) in
    count-append test (f k (slice_index_or (before ++ x ∷ xs) (k - 1) d)) (rest (suc k) (before ++ x ∷ xs))
    ∙ ap (λ (m : ℕ). m + count_by test (rest (suc k) (before ++ x ∷ xs))) (each k (slice_index_or (before ++ x ∷ xs) (k - 1) d) ∙ ap size (ap (λ (m : ℕ). get_or (before ++ x ∷ xs) m d) same ∙ seam before x d xs))
    ∙ ap (λ (m : ℕ). size x + m)
    (ap (λ (l : List X). count_by test (rest (suc k) l)) (sym (append_assoc before (x ∷ []) xs)) ∙ ap (λ (a : ℕ). count_by test (rest (suc a) ((before ++ x ∷ []) ++ xs))) longer
    ∙ count_by_number test f size each d (before ++ x ∷ []) xs)
    ∙ sym (sum_by-append size (x ∷ []) xs ∙ ap (λ (m : ℕ). m + sum_by size xs) (zero-add (size x)))

entry_number : (i j : ℕ) (q : ℚ) → count_by (gives_entry ConeVectors) (entry_says i j q) ≡ (if not (is_zero q) then 1 else 0)
entry_number i j q = by (is_zero q)
  where
    by : (b : Bool) → count_by (gives_entry ConeVectors) (if b then [] else Entry ConeVectors i j (Ok q) ∷ []) ≡ (if not b then 1 else 0)
    by true = refl
    by false = refl

vector_count : (j : ℕ) (v : List ℚ) → count_by (gives_entry ConeVectors) (vector_says j v) ≡ count_by (λ q. not (is_zero q)) v
vector_count j v = count_by_number (gives_entry ConeVectors) (λ i q. entry_says i j q) (λ q. if not (is_zero q) then 1 else 0) (λ i q. entry_number i j q) zero_ℚ [] v

vectors_count : (vectors : List (List ℚ)) → count_by (gives_entry ConeVectors) (vectors_say vectors) ≡ entry_count vectors
vectors_count vectors = count_by_number (gives_entry ConeVectors) (λ j v. vector_says j v) (λ v. count_by (λ q. not (is_zero q)) v) (λ j v. vector_count j v) [] [] vectors

-- ---- bounds
unsaid_is : (b : Bound) → is_unsaid b ≡ true → b ≡ Unsaid
unsaid_is Unsaid h = refl
unsaid_is Free h = absurd (false≢true h)
unsaid_is (Lower low) h = absurd (false≢true h)
unsaid_is (Upper high) h = absurd (false≢true h)
unsaid_is (Double low high) h = absurd (false≢true h)
unsaid_is (Fixed value) h = absurd (false≢true h)

said_bound : (axis : Axis) (k : ℕ) (b : Bound) → unwrap_or (first_given (given_bound axis k) (bound_says axis k b)) Unsaid ≡ b
said_bound axis k b = elim (cases_Bool (is_unsaid b)) [
  | inl none ↦ ap (λ (l : List Statement). unwrap_or (first_given (given_bound axis k) l) Unsaid) (cond-true (is_unsaid b) [] (Limit axis k (Ok b) ∷ []) none) ∙ sym (unsaid_is b none)
  | inr some ↦ ap (λ (l : List Statement). unwrap_or (first_given (given_bound axis k) l) Unsaid) (cond-false (is_unsaid b) [] (Limit axis k (Ok b) ∷ []) some)
      ∙ ap (λ o. unwrap_or (option_or o None) Unsaid) (cond-true (same_axis axis axis && k == k) (Some b) None (and_from _ _ (same_axis_itself axis) (itself k)))
]

bounds_value : (axis : Axis) (bounds : List Bound) (k : ℕ) → 0 < k → k ≤ length bounds → bound_at (bounds_say axis bounds) axis k ≡ slice_index_or bounds (k - 1) Unsaid
bounds_value axis bounds k h l =
    ap (λ o. unwrap_or o Unsaid)
    (given_numbers (given_bound axis k) place_row k (λ s n. bound_of_row axis k s n) (λ n. bound_says axis n (slice_index_or bounds (n - 1) Unsaid)) (bounds_numbered axis bounds).keyed 1 (length bounds)
    ∙ cond-true (nat_le 1 k && nat_lt k (1 + length bounds)) _ None (in_range k (length bounds) h l))
    ∙ said_bound axis k (slice_index_or bounds (k - 1) Unsaid)

-- ---- the problem
vector_size : (objs : ℕ) (vectors : List (List ℚ)) (k : ℕ) → are_wide objs vectors ≡ true → k < length vectors → length (slice_index_or vectors k []) ≡ objs
vector_size objs [] k h lt = absurd (omega arith)
vector_size objs (v ∷ vectors) zero h lt = eqb-true (length v) objs (and_parts (length v == objs) (are_wide objs vectors) h).0
vector_size objs (v ∷ vectors) (suc k) h lt = vector_size objs vectors k (and_parts (length v == objs) (are_wide objs vectors) h).1 (omega arith)

pub vector_sizes : (objs : ℕ) (vectors : List (List ℚ)) → are_vectors objs vectors ≡ true → (j : ℕ) → 0 < j → j ≤ length vectors → length (slice_index_or vectors (j - 1) []) ≡ objs
vector_sizes objs vectors h j some most =
    let parts = and_parts (nat_lt 0 (length vectors)) (nat_le (length vectors) 100000 && are_wide objs vectors) h in
    vector_size objs vectors (j - 1) (and_parts (nat_le (length vectors) 100000) (are_wide objs vectors) parts.1).1 (omega arith)

columns_given : (problem : Problem) (vectors : List (List ℚ)) → cone_vectors problem.cone ≡ vectors → are_vectors problem.objs vectors ≡ true
    → map (λ j. column_of (statements problem) ConeVectors problem.objs j) (numbers_from 1 (length vectors)) ≡ vectors
columns_given problem vectors is fit =
    numbered_list (λ j. column_of (statements problem) ConeVectors problem.objs j) vectors [] (length vectors) refl (λ j some most.
    let size = vector_sizes problem.objs vectors fit j some most in
    numbered_list (λ i. value_at (statements problem) ConeVectors i j) (slice_index_or vectors (j - 1) []) zero_ℚ problem.objs size (λ i one last.
    entries_in problem ConeVectors i j ∙ ap (λ (l : List (List ℚ)). value_at (vectors_say l) ConeVectors i j) is ∙ vectors_value vectors i j some most one (omega arith)))

cone_given : (problem : Problem) (cone : Cone) → problem.cone ≡ cone → cone_fits problem.objs cone ≡ true → cone ≡ cone_of (statements problem) problem.objs (printed_cone cone)
cone_given problem Orthant is fit = refl
cone_given problem (Gens vectors) is fit = ap Gens (sym (columns_given problem vectors (ap cone_vectors is) fit))
cone_given problem (Dual vectors) is fit = ap Dual (sym (columns_given problem vectors (ap cone_vectors is) fit))

duality_number : (problem : Problem) → count_by (gives_entry Duality) (statements problem) ≡ length (duality_entries problem.duality)
duality_number problem = counts_in problem Duality ∙ duality_count (duality_entries problem.duality)

duality_given : (problem : Problem) (f : Option (List ℚ)) → problem.duality ≡ f → duality_fits problem.objs f ≡ true → f ≡ duality_of (statements problem) problem.objs
duality_given problem None is fit =
    let count : count_by (gives_entry Duality) (statements problem) ≡ 0 = duality_number problem ∙ ap (λ (g : Option (List ℚ)). length (duality_entries g)) is in
    sym (cond-true (count_by (gives_entry Duality) (statements problem) == 0) None (Some (column_of (statements problem) Duality problem.objs 1)) (eq-eqb _ 0 count))
duality_given problem (Some f) is fit =
    let size : length f ≡ problem.objs = eqb-true (length f) problem.objs fit in
    let some : 0 < problem.objs = problem.some_objective in
    let count : count_by (gives_entry Duality) (statements problem) ≡ length f = duality_number problem ∙ ap (λ (g : Option (List ℚ)). length (duality_entries g)) is in
    let column : column_of (statements problem) Duality problem.objs 1 ≡ f =
    numbered_list (λ i. value_at (statements problem) Duality i 1) f zero_ℚ problem.objs size (λ i one last.
    entries_in problem Duality i 1 ∙ ap (λ (g : Option (List ℚ)). value_at (duality_says (duality_entries g)) Duality i 1) is ∙ duality_value f i one (omega arith)) in
    sym (cond-false (count_by (gives_entry Duality) (statements problem) == 0) None (Some (column_of (statements problem) Duality problem.objs 1)) (ne_eqb _ 0 (λ e. absurd (omega arith))) ∙ ap (λ (v : List ℚ). Some v) column)

bounds_given : (problem : Problem) (axis : Axis) (bounds : List Bound) (n : ℕ) → part problem (axis_kind axis) ≡ bounds_say axis bounds → length bounds ≡ n → bounds ≡ map (bound_at (statements problem) axis) (numbers_from 1 n)
bounds_given problem axis bounds n is size =
    sym (numbered_list (bound_at (statements problem) axis) bounds Unsaid n size (λ k one last.
    bounds_in problem axis k ∙ ap (λ (l : List Statement). bound_at l axis k) is ∙ bounds_value axis bounds k one (omega arith)))

pub gives_back : (problem : Problem) → Gives (statements problem) (printed_sizes problem) problem
gives_back problem =
    record {
      dir = refl;
      rows = refl;
      cols = refl;
      objs = refl;
      a = λ i j. sym (entries_in problem Constraints i j ∙ cells_value Constraints problem.a i j);
      o = λ i j. sym (entries_in problem Objectives i j ∙ cells_value Objectives problem.o i j);
      row_bounds = bounds_given problem Row problem.row_bounds problem.rows refl problem.row_count;
      col_bounds = bounds_given problem Column problem.col_bounds problem.cols refl problem.col_count;
      cone = cone_given problem problem.cone refl problem.cone_vectors;
      duality = duality_given problem problem.duality refl problem.duality_entries;
    }

-- ---- as many entries as the problem line says
cone_counted : (problem : Problem) (cone : Cone) → problem.cone ≡ cone → cone_counts (printed_cone cone) (statements problem) ≡ true
cone_counted problem Orthant is = refl
cone_counted problem (Gens vectors) is =
    or_left (entry_count vectors == count_by (gives_entry ConeVectors) (statements problem)) _
    (eq-eqb (entry_count vectors) _ (sym (counts_in problem ConeVectors ∙ vectors_count (cone_vectors problem.cone) ∙ ap (λ (c : Cone). entry_count (cone_vectors c)) is)))
cone_counted problem (Dual vectors) is =
    or_left (entry_count vectors == count_by (gives_entry ConeVectors) (statements problem)) _
    (eq-eqb (entry_count vectors) _ (sym (counts_in problem ConeVectors ∙ vectors_count (cone_vectors problem.cone) ∙ ap (λ (c : Cone). entry_count (cone_vectors c)) is)))

pub counts_back : (problem : Problem) → counts_fit (printed_sizes problem) (statements problem) ≡ true
counts_back problem =
    and_from _ _ (eq-eqb (length problem.a) _ (sym (counts_in problem Constraints ∙ cells_count Constraints problem.a)))
    (and_from _ _ (eq-eqb (length problem.o) _ (sym (counts_in problem Objectives ∙ cells_count Objectives problem.o))) (cone_counted problem problem.cone refl))
