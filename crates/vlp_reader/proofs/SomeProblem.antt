-- A file without a fault reads as a problem, which is built from its statements.
use Rattle.std.proofs.Common.{◌≡◌, refl, ℕ, zero, suc, ◌+◌, ◌<◌, ◌≤◌, ◌⊎◌, inl, inr, Bool, true, false, not, ◌&&◌, ◌==◌, nat_lt, if◌then◌else◌, List, [], ◌∷◌, ◌++◌, length, map, take, get_or, count_by, Option, None, Some, unwrap_or, is_none, is_some, Result, add-one, arith, ap, sym, ◌∙◌, subst}
use Rattle.std.specs.List.{list_all}
use Rattle.std.specs.Option.{option_or, option_map}
use Rattle.std.proofs.lemmas.Bool.{and_parts, and_from, cond-true, cond-false, cond_both, cases_Bool, eqb-true, lt-ltb, le-leb, ltb-true, false≢true, eq-eqb}
use Rattle.std.proofs.lemmas.List.{take_more, take_all, map-append, length-map}
use Rattle.std.proofs.lemmas.Option.{none-some}
use Rattle.exact_field.specs.Rational.{ℚ, zero_ℚ}
use Rattle.exact_field.specs.Vector.{are_wide}
use Rattle.vlp_problem.specs.Cells.{is_within}
use Rattle.vlp_problem.specs.Cones.{are_vectors, cone_fits, duality_fits}
use Rattle.vlp_reader.specs.Drafts.{is_silent}
use Rattle.vlp_problem.specs.FileSizes.{HasFileSizes}
use Rattle.vlp_reader.specs.FirstFault.{file_lines, Passes, FirstFault, HasNoFault, Reads}
use Rattle.vlp_reader.specs.Grammar.{first_given, given_sizes, given_entry, same_matrix, line_fault, words_fault, kind_fault, is_kind, formed, sizes_fault, statement_fault, wrong, number_value, matrix_rows, matrix_cols, value_at, bound_at, column_of, cone_of, duality_of, some_vector, cone_count, closing_fault, gives_entry, Gives}
use Rattle.vlp_reader.specs.Lines.{words_of, letter}
use Rattle.vlp_problem.specs.Sides.{numbers_from}
use Rattle.vlp_reader.specs.Statements.{statement_on, statement_of, words_statement, sizes_of}
use Rattle.vlp_reader.specs.declared.fault.FileKind.{FileKind}
use Rattle.vlp_reader.specs.declared.fault.FileKind.TheVariants.{NoProblem, BadLine, Twice, LineLong}
use Rattle.vlp_problem.specs.declared.problem.Cone.TheVariants.{Gens, Dual}
use Rattle.vlp_problem.specs.declared.problem.Problem.{Problem}
use Rattle.vlp_reader.specs.declared.sizes.ConeSizes.{ConeSizes}
use Rattle.vlp_reader.specs.declared.sizes.Sizes.{Sizes}
use Rattle.vlp_problem.specs.declared.problem.Axis.TheVariants.{Row, Column}
use Rattle.vlp_reader.specs.declared.statement.Matrix.{Matrix}
use Rattle.vlp_reader.specs.declared.statement.Matrix.TheVariants.{Constraints, Objectives, ConeVectors, Duality}
use Rattle.vlp_reader.specs.declared.statement.Statement.{Statement}
use Rattle.vlp_reader.specs.declared.statement.Statement.TheVariants.{Silent, Heading, Entry, Limit, End}
use Rattle.vlp_reader.proofs.BuiltCells.{built_cells, built_are_cells, built_entries}
use Rattle.vlp_reader.proofs.Drafts.{is_free, matrix_from, within_limits, WithinLimits}
use Rattle.vlp_reader.proofs.Faults.{fault_or_none}
use Rattle.vlp_reader.proofs.MoreStatements.{first_given-same, first_given-new, first_given-kept, first_given-push, silent_gives, silent_push}
use Rattle.vlp_problem.proofs.Numbers.{length-numbers}

-- ---- what statements without a fault have
-- their sizes are within the limits, and each place that they give is one of its matrix
record Fit (s : Sizes) (statements : List Statement) : Type 0 where
  pub given : first_given given_sizes statements ≡ Some s
  pub sizes : sizes_fault s ≡ None
  pub places : (m : Matrix) (i j : ℕ) → is_some (first_given (given_entry m i j) statements) ≡ true → is_within (matrix_rows s m) (matrix_cols s m) i j ≡ true

-- they say nothing yet, or have sizes
abbrev State : List Statement → Type 0
State statements = (list_all is_silent statements ≡ true) ⊎ ((s : Sizes) × Fit s statements)

-- a statement that gives no sizes and no entry
fit_same : (s : Sizes) (earlier : List Statement) (t : Statement) → Fit s earlier → ((m : Matrix) (i j : ℕ) → given_entry m i j t ≡ None) → Fit s (earlier ++ t ∷ [])
fit_same s earlier t fit none =
    record {
      given = first_given-kept given_sizes earlier t s fit.given;
      sizes = fit.sizes;
      places = λ m i j h. fit.places m i j (ap is_some (sym (first_given-same (given_entry m i j) earlier t (none m i j))) ∙ h);
    }

or_some : {A : Type 0} (o p : Option A) → is_some (option_or o p) ≡ true → (is_some o ≡ true) ⊎ (is_some p ≡ true)
or_some None p h = inr h
or_some (Some x) p h = inl refl

fit_entry : (s : Sizes) (earlier : List Statement) (m : Matrix) (i j : ℕ) (number : Result ℚ FileKind) → Fit s earlier → statement_fault earlier s (Entry m i j number) ≡ None → Fit s (earlier ++ Entry m i j number ∷ [])
fit_entry s earlier m i j number fit fault =
    let t : Statement = Entry m i j number in
    let within = (is_free (is_within (matrix_rows s m) (matrix_cols s m) i j) (wrong number) None (is_some (first_given (given_entry m i j) earlier)) fault).0 in
    record {
      given = first_given-kept given_sizes earlier t s fit.given;
      sizes = fit.sizes;
      places = λ n k l h. elim (or_some (first_given (given_entry n k l) earlier) (given_entry n k l t) (ap is_some (sym (first_given-push (given_entry n k l) earlier t)) ∙ h)) [
        | inl old ↦ fit.places n k l old
        | inr new ↦
            let one = and_parts (same_matrix n m) (k == i && l == j) (some_test (same_matrix n m && (k == i && l == j)) (number_value number) new) in
            let two = and_parts (k == i) (l == j) one.1 in
            subst (λ (x : Matrix). is_within (matrix_rows s x) (matrix_cols s x) k l ≡ true) (sym (matrix_from n m one.0))
            (subst (λ (x : ℕ). is_within (matrix_rows s m) (matrix_cols s m) x l ≡ true) (sym (eqb-true k i two.0))
            (subst (λ (x : ℕ). is_within (matrix_rows s m) (matrix_cols s m) i x ≡ true) (sym (eqb-true l j two.1)) within))
      ];
    }
  where
    some_test : (b : Bool) (q : ℚ) → is_some (if b then Some q else None) ≡ true → b ≡ true
    some_test true q h = refl
    some_test false q h = absurd (false≢true h)

fit_next : (s : Sizes) (earlier : List Statement) (t : Statement) → Fit s earlier → statement_fault earlier s t ≡ None → Fit s (earlier ++ t ∷ [])
fit_next s earlier Silent fit fault = fit_same s earlier Silent fit (λ m i j. refl)
fit_next s earlier (Heading h) fit fault = absurd (none-some Twice (sym fault))
fit_next s earlier (Entry m i j number) fit fault = fit_entry s earlier m i j number fit fault
fit_next s earlier (Limit axis n bound) fit fault = fit_same s earlier (Limit axis n bound) fit (λ m i j. refl)
fit_next s earlier End fit fault = fit_same s earlier End fit (λ m i j. refl)

-- the sizes
fit_begun : (s : Sizes) (earlier : List Statement) → list_all is_silent earlier ≡ true → sizes_fault s ≡ None → Fit s (earlier ++ Heading s ∷ [])
fit_begun s earlier silent fault =
    record {
      given = first_given-new given_sizes earlier (Heading s) (silent_gives given_sizes refl earlier silent);
      sizes = fault;
      places = λ m i j h. absurd (false≢true (sym (ap is_some (first_given-same (given_entry m i j) earlier (Heading s) refl ∙ silent_gives (given_entry m i j) refl earlier silent)) ∙ h));
    }

-- ---- one line more
state_silent : (earlier : List Statement) → State earlier → State (earlier ++ Silent ∷ [])
state_silent earlier (inl silent) = inl (silent_push earlier Silent silent refl)
state_silent earlier (inr fit) = inr (fit.0, fit_same fit.0 earlier Silent fit.1 (λ m i j. refl))

formed_begun : (earlier : List Statement) (o : Option Sizes) → list_all is_silent earlier ≡ true → formed o sizes_fault ≡ None → State (earlier ++ unwrap_or (option_map Heading o) Silent ∷ [])
formed_begun earlier None silent h = absurd (none-some BadLine (sym h))
formed_begun earlier (Some s) silent h = inr (s, fit_begun s earlier silent h)

formed_next : (earlier : List Statement) (s : Sizes) (o : Option Statement) → Fit s earlier → formed o (statement_fault earlier s) ≡ None → State (earlier ++ unwrap_or o Silent ∷ [])
formed_next earlier s None fit h = absurd (none-some BadLine (sym h))
formed_next earlier s (Some t) fit h = inr (s, fit_next s earlier t fit h)

state_kind : (earlier : List Statement) (kind : ℕ) (words : List (List ℕ)) → State earlier → kind_fault earlier (first_given given_sizes earlier) kind words ≡ None
    → State (earlier ++ unwrap_or (statement_of kind words) Silent ∷ [])
state_kind earlier kind words (inl silent) h =
    let fault : kind_fault earlier None kind words ≡ None = ap (λ o. kind_fault earlier o kind words) (sym (silent_gives given_sizes refl earlier silent)) ∙ h in
    elim (cases_Bool (kind == 112)) [
      | inl p ↦ subst (λ (o : Option Statement). State (earlier ++ unwrap_or o Silent ∷ [])) (sym (cond-true (kind == 112) (option_map Heading (sizes_of words)) _ p))
          (formed_begun earlier (sizes_of words) silent (sym (cond-true (kind == 112) (formed (sizes_of words) sizes_fault) (Some NoProblem) p) ∙ fault))
      | inr other ↦ absurd (none-some NoProblem (sym fault ∙ cond-false (kind == 112) (formed (sizes_of words) sizes_fault) (Some NoProblem) other))
    ]
state_kind earlier kind words (inr fit) h =
    let fault : kind_fault earlier (Some fit.0) kind words ≡ None = ap (λ o. kind_fault earlier o kind words) (sym fit.1.given) ∙ h in
    elim (cases_Bool (kind == 112)) [
      | inl p ↦ absurd (none-some Twice (sym fault ∙ cond-true (kind == 112) (Some Twice) (formed (statement_of kind words) (statement_fault earlier fit.0)) p))
      | inr other ↦ formed_next earlier fit.0 (statement_of kind words) fit.1 (sym (cond-false (kind == 112) (Some Twice) (formed (statement_of kind words) (statement_fault earlier fit.0)) other) ∙ fault)
    ]

state_words : (earlier : List Statement) (words : List (List ℕ)) → State earlier → words_fault earlier words ≡ None → State (earlier ++ words_statement words ∷ [])
state_words earlier [] state h = state_silent earlier state
state_words earlier (first ∷ words) state h = elim (cases_Bool (letter first == 99)) [
  | inl comment ↦
      subst (λ (s : Statement). State (earlier ++ s ∷ [])) (sym (ap (λ k. unwrap_or (statement_of k words) Silent) (eqb-true (letter first) 99 comment))) (state_silent earlier state)
  | inr other ↦
      let after : (if not (is_kind (letter first)) then Some BadLine else kind_fault earlier (first_given given_sizes earlier) (letter first) words) ≡ None =
      sym (cond-false (letter first == 99) None (if not (is_kind (letter first)) then Some BadLine else kind_fault earlier (first_given given_sizes earlier) (letter first) words) other) ∙ h in
      elim (cases_Bool (not (is_kind (letter first)))) [
        | inl unknown ↦ absurd (none-some BadLine (sym after ∙ cond-true (not (is_kind (letter first))) (Some BadLine) (kind_fault earlier (first_given given_sizes earlier) (letter first) words) unknown))
        | inr known ↦ state_kind earlier (letter first) words state (sym (cond-false (not (is_kind (letter first))) (Some BadLine) (kind_fault earlier (first_given given_sizes earlier) (letter first) words) known) ∙ after)
      ]
]

state_line : (earlier : List Statement) (line : List ℕ) → State earlier → line_fault earlier line ≡ None → State (earlier ++ statement_on line ∷ [])
state_line earlier line state h = elim (cases_Bool (nat_lt 4096 (length line))) [
  | inl long ↦ absurd (none-some LineLong (sym h ∙ cond-true (nat_lt 4096 (length line)) (Some LineLong) (words_fault earlier (words_of line)) long))
  | inr short ↦ state_words earlier (words_of line) state (sym (cond-false (nat_lt 4096 (length line)) (Some LineLong) (words_fault earlier (words_of line)) short) ∙ h)
]

-- ---- all lines
states : (lines : List (List ℕ)) (n : ℕ) → n ≤ length lines → Passes lines n → State (map statement_on (take n lines))
states lines zero h pass = inl refl
states lines (suc n) h pass =
    let before = states lines n (omega arith) (λ k lt. pass k (omega arith)) in
    let split : map statement_on (take (n + 1) lines) ≡ map statement_on (take n lines) ++ statement_on (get_or lines n []) ∷ [] =
    ap (map statement_on) (take_more lines n [] (omega arith)) ∙ map-append statement_on (take n lines) (get_or lines n [] ∷ []) in
    subst State (sym split ∙ ap (λ m. map statement_on (take m lines)) (add-one n))
    (state_line (map statement_on (take n lines)) (get_or lines n []) before (pass n (omega arith)))

-- the sizes of a file without a fault
fits : (lines : List (List ℕ)) → HasNoFault lines → (s : Sizes) × Fit s (map statement_on lines)
fits lines sound = elim (subst (λ (l : List (List ℕ)). State (map statement_on l)) (take_all (length lines) lines (omega arith)) (states lines (length lines) (omega arith) sound.pass)) [
  | inr fit ↦ fit
  | inl silent ↦ absurd (none-some NoProblem (sym sound.closed ∙ ap (λ o. closing_fault o (map statement_on lines)) (silent_gives given_sizes refl (map statement_on lines) silent)))
]

-- ---- the problem
outside : (s : Sizes) (statements : List Statement) (m : Matrix) → Fit s statements → (i j : ℕ) → is_within (matrix_rows s m) (matrix_cols s m) i j ≡ false → value_at statements m i j ≡ zero_ℚ
outside s statements m fit i j off = none_value (first_given (given_entry m i j) statements) (λ some. false≢true (sym off ∙ fit.places m i j some))
  where
    none_value : (o : Option ℚ) → (is_some o ≡ true → ⊥) → unwrap_or o zero_ℚ ≡ zero_ℚ
    none_value None h = refl
    none_value (Some q) h = absurd (h refl)

up : (n m : ℕ) → n ≤ m → m ≤ 100000 → n ≤ 100000
up n m h k = omega arith

column_length : (statements : List Statement) (m : Matrix) (objs j : ℕ) → length (column_of statements m objs j) ≡ objs
column_length statements m objs j = length-map (numbers_from 1 objs) (λ i. value_at statements m i j) ∙ length-numbers 1 objs

each_column : (statements : List Statement) (m : Matrix) (objs : ℕ) (ns : List ℕ) → are_wide objs (map (λ j. column_of statements m objs j) ns) ≡ true
each_column statements m objs [] = refl
each_column statements m objs (n ∷ ns) =
    and_from (length (column_of statements m objs n) == objs) _ (eq-eqb (length (column_of statements m objs n)) objs (column_length statements m objs n)) (each_column statements m objs ns)

built_cone_fits : (statements : List Statement) (objs : ℕ) (o : Option ConeSizes) → some_vector o ≡ true → cone_count o ≤ 64 → cone_fits objs (cone_of statements objs o) ≡ true
built_cone_fits statements objs None some most = refl
built_cone_fits statements objs (Some c) some most =
    let vectors : List (List ℚ) = map (λ j. column_of statements ConeVectors objs j) (numbers_from 1 c.vectors) in
    let size : length vectors ≡ c.vectors = length-map (numbers_from 1 c.vectors) (λ j. column_of statements ConeVectors objs j) ∙ length-numbers 1 c.vectors in
    let positive : 0 < c.vectors = ltb-true 0 c.vectors some in
    let fit : are_vectors objs vectors ≡ true =
    and_from _ _ (lt-ltb 0 (length vectors) (omega arith)) (and_from _ _ (le-leb (length vectors) 100000 (omega arith)) (each_column statements ConeVectors objs (numbers_from 1 c.vectors))) in
    cond_both c.dual (Dual vectors) (Gens vectors) (λ x. cone_fits objs x ≡ true) (λ _. fit) (λ _. fit)

built_duality_fits : (statements : List Statement) (objs : ℕ) → duality_fits objs (duality_of statements objs) ≡ true
built_duality_fits statements objs =
    cond_both (count_by (gives_entry Duality) statements == 0) None (Some (column_of statements Duality objs 1)) (λ o. duality_fits objs o ≡ true) (λ _. refl)
    (λ _. eq-eqb (length (column_of statements Duality objs 1)) objs (column_length statements Duality objs 1))

is_none_of : (o : Option FileKind) → o ≡ None → is_none o ≡ true
is_none_of o h = ap is_none h

abbrev problem_of : (statements : List Statement) (s : Sizes) → WithinLimits s → Problem
problem_of statements s limits =
    record {
      dir = s.dir;
      rows = s.rows;
      cols = s.cols;
      objs = s.objs;
      a = built_cells (value_at statements Constraints) s.cols 1 s.rows;
      o = built_cells (value_at statements Objectives) s.cols 1 s.objs;
      row_bounds = map (bound_at statements Row) (numbers_from 1 s.rows);
      col_bounds = map (bound_at statements Column) (numbers_from 1 s.cols);
      cone = cone_of statements s.objs s.cone;
      duality = duality_of statements s.objs;
      rows_bounded = up s.rows 1000 limits.rows (omega arith);
      some_column = limits.some_column;
      cols_bounded = up s.cols 1000 limits.cols (omega arith);
      some_objective = limits.some_objective;
      objs_bounded = up s.objs 20 limits.objs (omega arith);
      a_cells = built_are_cells (value_at statements Constraints) s.rows s.cols;
      o_cells = built_are_cells (value_at statements Objectives) s.objs s.cols;
      row_count = length-map (numbers_from 1 s.rows) (bound_at statements Row) ∙ length-numbers 1 s.rows;
      col_count = length-map (numbers_from 1 s.cols) (bound_at statements Column) ∙ length-numbers 1 s.cols;
      cone_vectors = built_cone_fits statements s.objs s.cone limits.some_vector limits.vectors;
      duality_entries = built_duality_fits statements s.objs;
    }

problem_given : (statements : List Statement) (s : Sizes) (limits : WithinLimits s) → Fit s statements → Gives statements s (problem_of statements s limits)
problem_given statements s limits fit =
    record {
      dir = refl;
      rows = refl;
      cols = refl;
      objs = refl;
      a = built_entries (value_at statements Constraints) s.rows s.cols (outside s statements Constraints fit);
      o = built_entries (value_at statements Objectives) s.objs s.cols (outside s statements Objectives fit);
      row_bounds = refl;
      col_bounds = refl;
      cone = refl;
      duality = refl;
    }

pub some_problem : (bytes : List ℕ) → HasNoFault (file_lines bytes) → (problem : Problem) × Reads bytes problem
some_problem bytes sound =
    let fit = fits (file_lines bytes) sound in
    let limits = within_limits fit.0 (is_none_of (sizes_fault fit.0) fit.1.sizes) in (
      problem_of (map statement_on (file_lines bytes)) fit.0 limits,
      record { sound = sound; sizes = fit.0; given = fit.1.given; gives = problem_given (map statement_on (file_lines bytes)) fit.0 limits fit.1 },
    )

pub read_or_fault : (bytes : List ℕ) → ((problem : Problem) × Reads bytes problem) ⊎ ((line : ℕ) × (kind : FileKind) × FirstFault bytes line kind)
read_or_fault bytes = elim (fault_or_none bytes) [ inl sound ↦ inl (some_problem bytes sound) | inr fault ↦ inr fault ]

-- the sizes that a file gives are those of the problem that it reads as
pub read_within : (bytes : List ℕ) (file : Problem) → Reads bytes file → HasFileSizes file
read_within bytes file reads =
    let fit = fits (file_lines bytes) reads.sound in
    let same : reads.sizes ≡ fit.0 = ap (λ o. unwrap_or o reads.sizes) (sym reads.given ∙ fit.1.given) in
    let limits = subst WithinLimits (sym same) (within_limits fit.0 (is_none_of (sizes_fault fit.0) fit.1.sizes)) in
    record {
      rows = subst (λ (n : ℕ). n ≤ 1000) (sym reads.gives.rows) limits.rows;
      cols = subst (λ (n : ℕ). n ≤ 1000) (sym reads.gives.cols) limits.cols;
      objs = subst (λ (n : ℕ). n ≤ 20) (sym reads.gives.objs) limits.objs;
    }
