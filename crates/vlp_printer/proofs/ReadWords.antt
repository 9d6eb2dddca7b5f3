-- The numbers of a problem that was read are the values of words.
use Rattle.std.proofs.Common.{◌≡◌, All, refl, inl, inr, ℕ, Bool, true, false, ◌==◌, ◌&&◌, IsTrue, if◌then◌else◌, List, [], ◌∷◌, map, Option, None, Some, Result, Ok, Err, unwrap_or, arith, sym, subst}
use Rattle.std.specs.List.{flat_map}
use Rattle.std.specs.Option.{option_map, option_or}
use Rattle.std.specs.Str.{byte}
use Rattle.std.proofs.lemmas.Bool.{and_parts, cases_Bool, cond-true, cond-false}
use Rattle.std.proofs.lemmas.Bool.Decides.{nat_tests}
use Rattle.std.proofs.lemmas.List.Elements.{All-nil, All-cons, All-append}
use Rattle.exact_field.specs.Rational.{ℚ, zero_ℚ}
use Rattle.vlp_problem.specs.Cells.{coefficient, place_before, rises_after}
use Rattle.vlp_reader.specs.FirstFault.{file_lines, Reads}
use Rattle.vlp_reader.specs.Grammar.{first_given, given_entry, given_bound, same_matrix, same_axis, value_at, bound_at, column_of, cone_of, duality_of}
use Rattle.vlp_reader.specs.Lines.{words_of, letter}
use Rattle.vlp_reader.specs.Number.{natural, number_of}
use Rattle.vlp_problem.specs.Sides.{numbers_from}
use Rattle.vlp_reader.specs.Statements.{sizes_of, entry_from, entry_of, in_cone, bound_by, double_bound, single_bound, bound_of, limit_from, limit_of, statement_of, words_statement, statement_on}
use Rattle.vlp_problem.specs.Values.{bound_numbers, cone_vectors, duality_entries, printed_numbers}
use Rattle.vlp_reader.specs.declared.fault.FileKind.{FileKind}
use Rattle.vlp_problem.specs.declared.problem.Bound.{Bound}
use Rattle.vlp_problem.specs.declared.problem.Bound.TheVariants.{Unsaid, Free, Lower, Upper, Fixed}
use Rattle.vlp_problem.specs.declared.problem.Cell.{Cell}
use Rattle.vlp_problem.specs.declared.problem.Cone.TheVariants.{Gens, Dual}
use Rattle.vlp_problem.specs.declared.problem.Problem.{Problem}
use Rattle.vlp_reader.specs.declared.sizes.ConeSizes.{ConeSizes}
use Rattle.vlp_reader.specs.declared.sizes.Sizes.{Sizes}
use Rattle.vlp_problem.specs.declared.problem.Axis.{Axis}
use Rattle.vlp_problem.specs.declared.problem.Axis.TheVariants.{Row, Column}
use Rattle.vlp_reader.specs.declared.statement.Matrix.{Matrix}
use Rattle.vlp_reader.specs.declared.statement.Matrix.TheVariants.{Constraints, Objectives, ConeVectors, Duality}
use Rattle.vlp_reader.specs.declared.statement.Statement.{Statement}
use Rattle.vlp_reader.specs.declared.statement.Statement.TheVariants.{Silent, Heading, Entry, Limit, End}
use Rattle.vlp_problem.proofs.CellPlaces.{coefficient_after, not_before_itself, rises_from_cells}
use Rattle.vlp_printer.specs.Printing.{HasWord}
use Rattle.vlp_printer.proofs.WordNumbers.{own_word, zero_decimal}

zero_word : HasWord zero_ℚ
zero_word = own_word zero_ℚ zero_decimal

-- ---- what a statement says comes from words
abbrev Worded : Result ℚ FileKind → Type 0
Worded (Ok q) = HasWord q
Worded (Err kind) = Unit {0}

abbrev BoundWorded : Result Bound FileKind → Type 0
BoundWorded (Ok b) = All HasWord (bound_numbers b)
BoundWorded (Err kind) = Unit {0}

abbrev IsWorded : Statement → Type 0
IsWorded Silent = Unit {0}
IsWorded (Heading s) = Unit {0}
IsWorded (Entry m i j number) = Worded number
IsWorded (Limit axis n bound) = BoundWorded bound
IsWorded End = Unit {0}

abbrev Of : {A : Type 0} → (A → Type 0) → Option A → Type 0
Of P None = Unit {0}
Of P (Some x) = P x

-- either of two
either : {A : Type 0} (P : A → Type 0) (b : Bool) (x y : A) → P x → P y → P (if b then x else y)
either P true x y h k = h
either P false x y h k = k

of_word : (word : List ℕ) → Worded (number_of word)
of_word word = by (number_of word) refl
  where
    by : (r : Result ℚ FileKind) → number_of word ≡ r → Worded r
    by (Ok q) e = (word, e)
    by (Err kind) e = tt

entry_placed : (m : Matrix) (i j : Option ℕ) (number : Result ℚ FileKind) → Worded number → Of IsWorded (entry_from m i j number)
entry_placed m None j number h = tt
entry_placed m (Some i) None number h = tt
entry_placed m (Some i) (Some j) number h = h

entry_worded : (m : Matrix) (words : List (List ℕ)) → Of IsWorded (entry_of m words)
entry_worded m [] = tt
entry_worded m (i ∷ []) = tt
entry_worded m (i ∷ j ∷ []) = tt
entry_worded m (i ∷ j ∷ v ∷ []) = entry_placed m (natural i) (natural j) (number_of v) (of_word v)
entry_worded m (i ∷ j ∷ v ∷ w ∷ words) = tt

cone_worded : (s : Statement) → IsWorded s → IsWorded (in_cone s)
cone_worded Silent h = tt
cone_worded (Heading t) h = tt
cone_worded (Entry m i j number) h = either IsWorded (j == 0) (Entry Duality i 1 number) (Entry m i j number) h h
cone_worded (Limit axis n bound) h = h
cone_worded End h = tt

cones_worded : (o : Option Statement) → Of IsWorded o → Of IsWorded (option_map in_cone o)
cones_worded None h = tt
cones_worded (Some s) h = cone_worded s h

heading_worded : (o : Option Sizes) → Of IsWorded (option_map Heading o)
heading_worded None = tt
heading_worded (Some s) = tt

one : (q : ℚ) → HasWord q → All HasWord (q ∷ [])
one q h = All-cons HasWord q [] h (All-nil HasWord)

by_worded : (type : ℚ → Bound) → ((q : ℚ) → bound_numbers (type q) ≡ q ∷ []) → (r : Result ℚ FileKind) → Worded r → BoundWorded (bound_by type r)
by_worded type is (Ok q) h = subst (λ (l : List ℚ). All HasWord l) (sym (is q)) (one q h)
by_worded type is (Err kind) h = tt

double_worded : (v w : Result ℚ FileKind) → Worded v → Worded w → BoundWorded (double_bound v w)
double_worded (Ok p) (Ok q) h k = All-cons HasWord p (q ∷ []) h (one q k)
double_worded (Ok p) (Err kind) h k = tt
double_worded (Err kind) w h k = tt

single_worded : (type : ℕ) (v : Result ℚ FileKind) → Worded v → Of BoundWorded (single_bound type v)
single_worded type v h =
    either (Of BoundWorded) (type == byte "l") (Some (bound_by Lower v)) _ (by_worded Lower (λ q. refl) v h)
    (either (Of BoundWorded) (type == byte "u") (Some (bound_by Upper v)) _ (by_worded Upper (λ q. refl) v h)
    (either (Of BoundWorded) (type == byte "s") (Some (bound_by Fixed v)) None (by_worded Fixed (λ q. refl) v h) tt))

bound_worded : (type : ℕ) (words : List (List ℕ)) → Of BoundWorded (bound_of type words)
bound_worded type [] = either (Of BoundWorded) (type == byte "f") (Some (Ok Free)) None (All-nil HasWord) tt
bound_worded type (v ∷ []) = single_worded type (number_of v) (of_word v)
bound_worded type (v ∷ w ∷ []) =
    either (Of BoundWorded) (type == byte "d") (Some (double_bound (number_of v) (number_of w))) None
    (double_worded (number_of v) (number_of w) (of_word v) (of_word w)) tt
bound_worded type (v ∷ w ∷ x ∷ words) = tt

limit_placed : (axis : Axis) (n : Option ℕ) (bound : Option (Result Bound FileKind)) → Of BoundWorded bound → Of IsWorded (limit_from axis n bound)
limit_placed axis None bound h = tt
limit_placed axis (Some n) None h = tt
limit_placed axis (Some n) (Some bound) h = h

limit_worded : (axis : Axis) (words : List (List ℕ)) → Of IsWorded (limit_of axis words)
limit_worded axis [] = tt
limit_worded axis (n ∷ []) = tt
limit_worded axis (n ∷ type ∷ values) = limit_placed axis (natural n) (bound_of (letter type) values) (bound_worded (letter type) values)

kind_worded : (kind : ℕ) (words : List (List ℕ)) → Of IsWorded (statement_of kind words)
kind_worded kind words =
    either (Of IsWorded) (kind == byte "p") (option_map Heading (sizes_of words)) _ (heading_worded (sizes_of words))
    (either (Of IsWorded) (kind == byte "a") (entry_of Constraints words) _ (entry_worded Constraints words)
    (either (Of IsWorded) (kind == byte "o") (entry_of Objectives words) _ (entry_worded Objectives words)
    (either (Of IsWorded) (kind == byte "k") (option_map in_cone (entry_of ConeVectors words)) _ (cones_worded (entry_of ConeVectors words) (entry_worded ConeVectors words))
    (either (Of IsWorded) (kind == byte "i") (limit_of Row words) _ (limit_worded Row words)
    (either (Of IsWorded) (kind == byte "j") (limit_of Column words) _ (limit_worded Column words)
    (either (Of IsWorded) (kind == byte "e") (Some End) None tt tt))))))

unwrapped : (o : Option Statement) → Of IsWorded o → IsWorded (unwrap_or o Silent)
unwrapped None h = tt
unwrapped (Some s) h = h

words_worded : (words : List (List ℕ)) → IsWorded (words_statement words)
words_worded [] = tt
words_worded (first ∷ words) = unwrapped (statement_of (letter first) words) (kind_worded (letter first) words)

line_worded : (line : List ℕ) → IsWorded (statement_on line)
line_worded line = words_worded (words_of line)

-- ---- what lines give
entry_given : (m : Matrix) (i j : ℕ) (s : Statement) → IsWorded s → Of HasWord (given_entry m i j s)
entry_given m i j Silent h = tt
entry_given m i j (Heading t) h = tt
entry_given m i j (Entry n row col (Ok q)) h = either (Of HasWord) (same_matrix m n && (i == row && j == col)) (Some q) None h tt
entry_given m i j (Entry n row col (Err kind)) h = either (Of HasWord) (same_matrix m n && (i == row && j == col)) (Some zero_ℚ) None zero_word tt
entry_given m i j (Limit axis n bound) h = tt
entry_given m i j End h = tt

abbrev HasWords : Bound → Type 0
HasWords b = All HasWord (bound_numbers b)

bound_given : (axis : Axis) (k : ℕ) (s : Statement) → IsWorded s → Of HasWords (given_bound axis k s)
bound_given axis k Silent h = tt
bound_given axis k (Heading t) h = tt
bound_given axis k (Entry n row col number) h = tt
bound_given axis k (Limit which n (Ok b)) h = either (Of HasWords) (same_axis axis which && k == n) (Some b) None h tt
bound_given axis k (Limit which n (Err kind)) h = either (Of HasWords) (same_axis axis which && k == n) (Some Unsaid) None (All-nil HasWord) tt
bound_given axis k End h = tt

-- the first answer that lines give, or what stands where none does
given_has : {A : Type 0} (P : A → Type 0) (f : Statement → Option A) (d : A) → P d → ((s : Statement) → IsWorded s → Of P (f s)) → (lines : List (List ℕ)) → P (unwrap_or (first_given f (map statement_on lines)) d)
given_has P f d h each [] = h
given_has {A = A} P f d h each (line ∷ lines) =
    first (f (statement_on line)) (each (statement_on line) (line_worded line)) (given_has P f d h each lines)
  where
    first : (o : Option A) → Of P o → P (unwrap_or (first_given f (map statement_on lines)) d) → P (unwrap_or (option_or o (first_given f (map statement_on lines))) d)
    first None here rest = rest
    first (Some x) here rest = here

value_word : (lines : List (List ℕ)) (m : Matrix) (i j : ℕ) → HasWord (value_at (map statement_on lines) m i j)
value_word lines m i j = given_has HasWord (given_entry m i j) zero_ℚ zero_word (entry_given m i j) lines

bound_words : (lines : List (List ℕ)) (axis : Axis) (k : ℕ) → HasWords (bound_at (map statement_on lines) axis k)
bound_words lines axis k = given_has HasWords (given_bound axis k) Unsaid (All-nil HasWord) (bound_given axis k) lines

-- ---- the parts of a problem
all_of : (f : ℕ → ℚ) → ((i : ℕ) → HasWord (f i)) → (numbers : List ℕ) → All HasWord (map f numbers)
all_of f each [] = All-nil HasWord
all_of f each (i ∷ numbers) = All-cons HasWord (f i) (map f numbers) (each i) (all_of f each numbers)

all_in : {A : Type 0} (g : A → List ℚ) (f : ℕ → A) → ((i : ℕ) → All HasWord (g (f i))) → (numbers : List ℕ) → All HasWord (flat_map g (map f numbers))
all_in g f each [] = All-nil HasWord
all_in g f each (i ∷ numbers) = All-append HasWord (g (f i)) (flat_map g (map f numbers)) (each i) (all_in g f each numbers)

column_words : (lines : List (List ℕ)) (m : Matrix) (rows j : ℕ) → All HasWord (column_of (map statement_on lines) m rows j)
column_words lines m rows j = all_of (λ i. value_at (map statement_on lines) m i j) (λ i. value_word lines m i j) (numbers_from 1 rows)

vectors_words : (lines : List (List ℕ)) (objs : ℕ) (o : Option ConeSizes) → All HasWord (flat_map (λ v. v) (cone_vectors (cone_of (map statement_on lines) objs o)))
vectors_words lines objs None = All-nil HasWord
vectors_words lines objs (Some c) = by c.dual
  where
    vectors : List (List ℚ)
    vectors = map (λ j. column_of (map statement_on lines) ConeVectors objs j) (numbers_from 1 c.vectors)

    by : (b : Bool) → All HasWord (flat_map (λ v. v) (cone_vectors (if b then Dual vectors else Gens vectors)))
    by true = all_in (λ v. v) (λ j. column_of (map statement_on lines) ConeVectors objs j) (λ j. column_words lines ConeVectors objs j) (numbers_from 1 c.vectors)
    by false = all_in (λ v. v) (λ j. column_of (map statement_on lines) ConeVectors objs j) (λ j. column_words lines ConeVectors objs j) (numbers_from 1 c.vectors)

duality_words : (lines : List (List ℕ)) (objs : ℕ) → All HasWord (duality_entries (duality_of (map statement_on lines) objs))
duality_words lines objs = either (λ f. All HasWord (duality_entries f)) _ None (Some (column_of (map statement_on lines) Duality objs 1)) (All-nil HasWord) (column_words lines Duality objs 1)

-- ---- cells
itself : (row col : ℕ) → (row == row && col == col) ≡ true
itself row col = grind (arith, nat_tests)

-- where each place of a matrix has a word, each cell has
cell_words : (i j : ℕ) (cells : List Cell) → IsTrue (rises_after i j cells) → ((row col : ℕ) → HasWord (coefficient cells row col)) → All HasWord (map (λ c. c.value) cells)
cell_words i j [] h each = All-nil HasWord
cell_words i j (c ∷ cells) h each =
    let parts = and_parts (place_before i j c.row c.col) (rises_after c.row c.col cells) h in
    All-cons HasWord c.value (map (λ d. d.value) cells)
    (subst HasWord (cond-true (c.row == c.row && c.col == c.col) c.value (coefficient cells c.row c.col) (itself c.row c.col)) (each c.row c.col))
    (cell_words c.row c.col cells parts.1 (λ row col. elim (cases_Bool (c.row == row && c.col == col)) [
      | inl at ↦ subst HasWord (sym (coefficient_after c.row c.col row col cells parts.1 (not_before_itself c.row c.col row col at))) zero_word
      | inr off ↦ subst HasWord (cond-false (c.row == row && c.col == col) c.value (coefficient cells row col) off) (each row col)
    ]))

pub words_read : (bytes : List ℕ) (problem : Problem) → Reads bytes problem → All HasWord (printed_numbers problem)
words_read bytes problem reads =
    let lines = file_lines bytes in
    let gives = reads.gives in
    let a : All HasWord (map (λ c. c.value) problem.a) =
    cell_words 0 0 problem.a (rises_from_cells problem.rows problem.cols 0 0 problem.a problem.a_cells) (λ row col. subst HasWord (sym (gives.a row col)) (value_word lines Constraints row col)) in
    let o : All HasWord (map (λ c. c.value) problem.o) =
    cell_words 0 0 problem.o (rises_from_cells problem.objs problem.cols 0 0 problem.o problem.o_cells) (λ row col. subst HasWord (sym (gives.o row col)) (value_word lines Objectives row col)) in
    let duality : All HasWord (duality_entries problem.duality) = subst (λ f. All HasWord (duality_entries f)) (sym gives.duality) (duality_words lines reads.sizes.objs) in
    let cone : All HasWord (flat_map (λ v. v) (cone_vectors problem.cone)) = subst (λ k. All HasWord (flat_map (λ v. v) (cone_vectors k))) (sym gives.cone) (vectors_words lines reads.sizes.objs reads.sizes.cone) in
    let rows : All HasWord (flat_map bound_numbers problem.row_bounds) =
    subst (λ l. All HasWord (flat_map bound_numbers l)) (sym gives.row_bounds) (all_in bound_numbers (bound_at (map statement_on lines) Row) (bound_words lines Row) (numbers_from 1 reads.sizes.rows)) in
    let cols : All HasWord (flat_map bound_numbers problem.col_bounds) =
    subst (λ l. All HasWord (flat_map bound_numbers l)) (sym gives.col_bounds) (all_in bound_numbers (bound_at (map statement_on lines) Column) (bound_words lines Column) (numbers_from 1 reads.sizes.cols)) in
    All-append HasWord _ _ a (All-append HasWord _ _ o (All-append HasWord _ _ duality (All-append HasWord _ _ cone (All-append HasWord _ _ rows cols))))
