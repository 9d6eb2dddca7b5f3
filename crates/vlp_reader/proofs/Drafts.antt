-- A draft and one statement more.
use Rattle.std.proofs.Common.{◌≡◌, refl, ℕ, zero, suc, ◌+◌, ◌-◌, ◌<◌, ◌≤◌, Bool, true, false, not, ◌&&◌, ◌==◌, nat_lt, nat_le, if◌then◌else◌, inl, inr, List, [], ◌∷◌, ◌++◌, length, count_by, get_or, set, replicate, map, unwrap_or, ◌||◌, Option, None, Some, is_some, is_none, Result, Ok, Err, MatchResult, arith, ap, sym, ◌∙◌, subst}
use Rattle.std.specs.List.{list_all}
use Rattle.std.specs.Option.{option_or}
use Rattle.std.specs.BTreeMap.{btree_map_len}
use Rattle.std.proofs.lemmas.Bool.{and_parts, cond-true, cond-false, cases_Bool, eqb-true, eqb-false, eq-eqb, ne_eqb, cond_both, and_from, lt-ltb, le-leb, false≢true, leb-true, ltb-true}
use Rattle.std.proofs.lemmas.Option.{none-some}
use Rattle.std.proofs.lemmas.List.{get_or-set_same, get_or-set_other, length-set, same_lists, length-map, get_or-map}
use Rattle.exact_field.specs.Rational.{ℚ, zero_ℚ}
use Rattle.exact_field.specs.Vector.{are_wide}
use Rattle.vlp_problem.specs.Cells.{is_within}
use Rattle.vlp_problem.specs.Cones.{are_vectors, cone_fits, duality_fits}
use Rattle.vlp_reader.specs.Ends.{ComesFrom}
use Rattle.vlp_reader.specs.Grammar.{first_given, given_sizes, given_entry, given_bound, gives_entry, number_value, bound_value, wrong, must, entry_fault, limit_fault, statement_fault, same_matrix, same_axis, matrix_rows, matrix_cols, axis_length, counts_fit, cone_counts, column_of, value_at, bound_at, cone_of, duality_of, sizes_fault, are_positive, are_within_limits, some_vector, cone_count}
use Rattle.vlp_problem.specs.Sides.{numbers_from}
use Rattle.vlp_reader.specs.Places.{given}
use Rattle.vlp_reader.specs.Tables.{HasEntries, HasBounds, Adds, place_fault, slot_fault, table_column}
use Rattle.vlp_reader.specs.Drafts.{is_silent, draft_cone, draft_duality, table_of, bounds_of, Has, SameButTable, SameButBounds}
use Rattle.vlp_reader.specs.declared.draft.Draft.{Draft}
use Rattle.vlp_reader.specs.declared.fault.FileKind.{FileKind}
use Rattle.vlp_reader.specs.declared.fault.FileKind.TheVariants.{OutOfRange, Twice, LimitPassed}
use Rattle.vlp_reader.specs.declared.fault.LineEnd.{LineEnd}
use Rattle.vlp_problem.specs.declared.problem.Bound.{Bound}
use Rattle.vlp_problem.specs.declared.problem.Bound.TheVariants.{Unsaid}
use Rattle.vlp_problem.specs.declared.problem.Cone.TheVariants.{Gens, Dual}
use Rattle.vlp_reader.specs.declared.sizes.ConeSizes.{ConeSizes}
use Rattle.vlp_reader.specs.declared.sizes.Sizes.{Sizes}
use Rattle.vlp_problem.specs.declared.problem.Axis.{Axis}
use Rattle.vlp_problem.specs.declared.problem.Axis.TheVariants.{Row, Column}
use Rattle.vlp_reader.specs.declared.statement.Matrix.{Matrix}
use Rattle.vlp_reader.specs.declared.statement.Matrix.TheVariants.{Constraints, Objectives, ConeVectors, Duality}
use Rattle.vlp_reader.specs.declared.statement.Statement.{Statement}
use Rattle.vlp_reader.specs.declared.statement.Statement.TheVariants.{Silent, Heading, Entry, Limit, End}
use Rattle.vlp_reader.specs.declared.table.Table.{Table}
use Rattle.vlp_problem.proofs.Numbers.{length-numbers, number_at}
use Rattle.vlp_reader.proofs.MoreStatements.{first_given-same, first_given-new, first_given-kept, count-push, silent_gives, silent_counts}

-- ---- matrices and axes
pub same_matrix_itself : (m : Matrix) → same_matrix m m ≡ true
same_matrix_itself Constraints = refl
same_matrix_itself Objectives = refl
same_matrix_itself ConeVectors = refl
same_matrix_itself Duality = refl

pub matrix_from : (m n : Matrix) → same_matrix m n ≡ true → m ≡ n
matrix_from Constraints Constraints h = refl
matrix_from Objectives Objectives h = refl
matrix_from ConeVectors ConeVectors h = refl
matrix_from Duality Duality h = refl
matrix_from Constraints Objectives h = absurd (false≢true h)
matrix_from Constraints ConeVectors h = absurd (false≢true h)
matrix_from Constraints Duality h = absurd (false≢true h)
matrix_from Objectives Constraints h = absurd (false≢true h)
matrix_from Objectives ConeVectors h = absurd (false≢true h)
matrix_from Objectives Duality h = absurd (false≢true h)
matrix_from ConeVectors Constraints h = absurd (false≢true h)
matrix_from ConeVectors Objectives h = absurd (false≢true h)
matrix_from ConeVectors Duality h = absurd (false≢true h)
matrix_from Duality Constraints h = absurd (false≢true h)
matrix_from Duality Objectives h = absurd (false≢true h)
matrix_from Duality ConeVectors h = absurd (false≢true h)

pub same_axis_itself : (axis : Axis) → same_axis axis axis ≡ true
same_axis_itself Row = refl
same_axis_itself Column = refl

axis_from : (a b : Axis) → same_axis a b ≡ true → a ≡ b
axis_from Row Row h = refl
axis_from Column Column h = refl
axis_from Row Column h = absurd (false≢true h)
axis_from Column Row h = absurd (false≢true h)

-- ---- tables
-- a statement that gives no entry of the matrix
pub entries_kept : (table : Table) (m : Matrix) (statements : List Statement) (s : Statement) → HasEntries table m statements
    → ((i j : ℕ) → given_entry m i j s ≡ None) → gives_entry m s ≡ false → HasEntries table m (statements ++ s ∷ [])
entries_kept table m statements s h none gives =
    record {
      values = λ i j. h.values i j ∙ sym (first_given-same (given_entry m i j) statements s (none i j));
      count = h.count ∙ sym (count-push (gives_entry m) statements s ∙ ap (λ b. count_by (gives_entry m) statements + (if b then 1 else 0)) gives ∙ omega arith);
    }

none_from : {A : Type 0} (o : Option A) → is_some o ≡ false → o ≡ None
none_from None h = refl
none_from (Some x) h = absurd (false≢true (sym h))

-- one that gives an entry
pub entries_more : (old new : Table) (m : Matrix) (statements : List Statement) (row col : ℕ) (number : Result ℚ FileKind) → HasEntries old m statements
    → is_some (given old.cells row col) ≡ false → Adds old new row col number → HasEntries new m (statements ++ Entry m row col number ∷ [])
entries_more old new m statements row col number h free adds =
    let s : Statement = Entry m row col number in
    let given_by : (i j : ℕ) → given_entry m i j s ≡ (if i == row && j == col then Some (number_value number) else None) =
    λ i j. ap (λ b. if b && (i == row && j == col) then Some (number_value number) else None) (same_matrix_itself m) in
    let none : first_given (given_entry m row col) statements ≡ None = sym (h.values row col) ∙ none_from (given old.cells row col) free in
    record {
      values = λ i j. adds.values i j ∙ (elim (cases_Bool (i == row && j == col)) [
        | inl here ↦
            let parts = and_parts (i == row) (j == col) here in
            let none_here : first_given (given_entry m i j) statements ≡ None =
            ap (λ k. first_given (given_entry m k j) statements) (eqb-true i row parts.0) ∙ ap (λ k. first_given (given_entry m row k) statements) (eqb-true j col parts.1) ∙ none in
            cond-true (i == row && j == col) (Some (number_value number)) (given old.cells i j) here
            ∙ sym (first_given-new (given_entry m i j) statements s none_here ∙ given_by i j ∙ cond-true (i == row && j == col) (Some (number_value number)) None here)
        | inr off ↦
            cond-false (i == row && j == col) (Some (number_value number)) (given old.cells i j) off
            ∙ h.values i j
            ∙ sym (first_given-same (given_entry m i j) statements s (given_by i j ∙ cond-false (i == row && j == col) (Some (number_value number)) None off))
      ]);
      count = adds.count ∙ ap (λ n. n + 1) h.count
          ∙ sym (count-push (gives_entry m) statements s ∙ ap (λ b. count_by (gives_entry m) statements + (if b then 1 else 0)) (same_matrix_itself m));
    }

-- ---- bounds
pub bounds_kept : (list : List (Option Bound)) (axis : Axis) (statements : List Statement) (s : Statement) → HasBounds list axis statements
    → ((k : ℕ) → given_bound axis k s ≡ None) → HasBounds list axis (statements ++ s ∷ [])
bounds_kept list axis statements s h none = record { bound = λ k lt. h.bound k lt ∙ sym (first_given-same (given_bound axis (k + 1)) statements s (none (k + 1))) }

pub bounds_more : (old new : List (Option Bound)) (axis : Axis) (statements : List Statement) (n : ℕ) (bound : Result Bound FileKind) → HasBounds old axis statements
    → new ≡ set old (n - 1) (Some (bound_value bound)) → 1 ≤ n → n ≤ length old → is_some (get_or old (n - 1) None) ≡ false
    → HasBounds new axis (statements ++ Limit axis n bound ∷ [])
bounds_more old new axis statements n bound h is low high free =
    let s : Statement = Limit axis n bound in
    let b : Option Bound = Some (bound_value bound) in
    let given_by : (k : ℕ) → given_bound axis k s ≡ (if k == n then b else None) =
    λ k. ap (λ t. if t && k == n then b else None) (same_axis_itself axis) in
    let size : length new ≡ length old = ap length is ∙ length-set old (n - 1) b in
    let place : n - 1 + 1 ≡ n = omega arith in
    let none : first_given (given_bound axis n) statements ≡ None =
    ap (λ k. first_given (given_bound axis k) statements) (sym place) ∙ sym (h.bound (n - 1) (omega arith)) ∙ none_from (get_or old (n - 1) None) free in
    record {
      bound = λ k lt. ap (λ l. get_or l k None) is ∙ (elim (cases_Bool (k + 1 == n)) [
        | inl here ↦
            let same : k + 1 ≡ n = eqb-true (k + 1) n here in
            let at : k ≡ n - 1 = omega arith in
            ap (λ i. get_or (set old (n - 1) b) i None) at
            ∙ get_or-set_same old (n - 1) b None (omega arith)
            ∙ sym (first_given-new (given_bound axis (k + 1)) statements s (ap (λ i. first_given (given_bound axis i) statements) same ∙ none) ∙ given_by (k + 1) ∙ cond-true (k + 1 == n) b None here)
        | inr off ↦
            let other = eqb-false (k + 1) n off in
            get_or-set_other old (n - 1) k b None (λ e. other (omega arith))
            ∙ h.bound k (omega arith)
            ∙ sym (first_given-same (given_bound axis (k + 1)) statements s (given_by (k + 1) ∙ cond-false (k + 1 == n) b None off))
      ]);
    }

-- ---- tests that pass
pub must_passes : (b : Bool) (kind : FileKind) → must b kind ≡ None → b ≡ true
must_passes true kind h = refl
must_passes false kind h = absurd (none-some kind (sym h))

first_passes : (o p : Option FileKind) → option_or o p ≡ None → (o ≡ None) × (p ≡ None)
first_passes None p h = (refl, h)
first_passes (Some x) p h = absurd (none-some x (sym h))

not_true_is : (b : Bool) → not b ≡ true → b ≡ false
not_true_is true h = absurd (false≢true h)
not_true_is false h = refl

pub is_free : (within : Bool) (number before : Option FileKind) (given_before : Bool) → option_or (must within OutOfRange) (option_or number (must (not given_before) Twice)) ≡ None
    → (within ≡ true) × (given_before ≡ false)
is_free within number before given_before h =
    let one = first_passes (must within OutOfRange) (option_or number (must (not given_before) Twice)) h in
    let two = first_passes number (must (not given_before) Twice) one.1 in
    (must_passes within OutOfRange one.0, not_true_is given_before (must_passes (not given_before) Twice two.1))

within_is : (n size : ℕ) → (nat_lt 0 n && nat_le n size) ≡ true → (1 ≤ n) × (n ≤ size)
within_is n size h =
    let parts = and_parts (nat_lt 0 n) (nat_le n size) h in
    (ltb-true 0 n parts.0, leb-true n size parts.1)

-- ---- drafts
pub rows_of : (draft : Draft) (m : Matrix) → (table_of draft m).rows ≡ matrix_rows draft.sizes m
rows_of draft Constraints = draft.a_rows
rows_of draft Objectives = draft.o_rows
rows_of draft ConeVectors = draft.vector_rows
rows_of draft Duality = draft.duality_rows

pub cols_of : (draft : Draft) (m : Matrix) → (table_of draft m).cols ≡ matrix_cols draft.sizes m
cols_of draft Constraints = draft.a_cols
cols_of draft Objectives = draft.o_cols
cols_of draft ConeVectors = draft.vector_cols
cols_of draft Duality = draft.duality_cols

pub bounds_length : (draft : Draft) (axis : Axis) → length (bounds_of draft axis) ≡ axis_length draft.sizes axis
bounds_length draft Row = draft.row_count
bounds_length draft Column = draft.col_count

-- the tests of a table and of a list of bounds are those of the statement
pub same_entry_fault : (draft : Draft) (earlier : List Statement) (m : Matrix) (row col : ℕ) (number : Result ℚ FileKind) → Has draft earlier
    → place_fault (table_of draft m) row col number ≡ statement_fault earlier draft.sizes (Entry m row col number)
same_entry_fault draft earlier m row col number has =
    ap (λ n. entry_fault n (table_of draft m).cols row col number (given (table_of draft m).cells row col)) (rows_of draft m)
    ∙ ap (λ n. entry_fault (matrix_rows draft.sizes m) n row col number (given (table_of draft m).cells row col)) (cols_of draft m)
    ∙ ap (entry_fault (matrix_rows draft.sizes m) (matrix_cols draft.sizes m) row col number) ((has.entries m).values row col)

-- a draft and an entry more
pub has_entry : (old new : Draft) (earlier : List Statement) (m : Matrix) (row col : ℕ) (number : Result ℚ FileKind) → Has old earlier → SameButTable m old new
    → place_fault (table_of old m) row col number ≡ None → Adds (table_of old m) (table_of new m) row col number → Has new (earlier ++ Entry m row col number ∷ [])
has_entry old new earlier m row col number has same fault adds =
    let s : Statement = Entry m row col number in
    let free = is_free (is_within (table_of old m).rows (table_of old m).cols row col) (wrong number) None (is_some (given (table_of old m).cells row col)) fault in
    record {
      given = first_given-kept given_sizes earlier s old.sizes has.given ∙ ap Some (sym same.sizes);
      entries = λ n. elim (cases_Bool (same_matrix n m)) [
        | inl here ↦ subst (λ (k : Matrix). HasEntries (table_of new k) k (earlier ++ s ∷ [])) (sym (matrix_from n m here))
            (entries_more (table_of old m) (table_of new m) m earlier row col number (has.entries m) free.1 adds)
        | inr other ↦ subst (λ (t : Table). HasEntries t n (earlier ++ s ∷ [])) (sym (same.tables n other))
            (entries_kept (table_of old n) n earlier s (has.entries n) (λ i j. ap (λ b. if b && (i == row && j == col) then Some (number_value number) else None) other) other)
      ];
      bounds = λ axis. subst (λ (l : List (Option Bound)). HasBounds l axis (earlier ++ s ∷ [])) (sym (same.bounds axis))
          (bounds_kept (bounds_of old axis) axis earlier s (has.bounds axis) (λ k. refl));
    }

-- the bounds of a number from 1, or none where no bound has it
at_number : (list : List (Option Bound)) (axis : Axis) (earlier : List Statement) (n : ℕ) → HasBounds list axis earlier → 1 ≤ n → n ≤ length list
    → get_or list (n - 1) None ≡ first_given (given_bound axis n) earlier
at_number list axis earlier n h low high = h.bound (n - 1) (omega arith) ∙ ap (λ k. first_given (given_bound axis k) earlier) (omega arith)

limit_same : (count n : ℕ) (bound : Result Bound FileKind) (o p : Option Bound) → ((nat_lt 0 n && nat_le n count) ≡ true → o ≡ p) → limit_fault count n bound o ≡ limit_fault count n bound p
limit_same count n bound o p h = elim (cases_Bool (nat_lt 0 n && nat_le n count)) [
  | inl here ↦ ap (limit_fault count n bound) (h here)
  | inr off ↦
      ap (λ b. option_or (must b OutOfRange) (option_or (wrong bound) (must (not (is_some o)) Twice))) off
      ∙ sym (ap (λ b. option_or (must b OutOfRange) (option_or (wrong bound) (must (not (is_some p)) Twice))) off)
]

pub same_limit_fault : (draft : Draft) (earlier : List Statement) (axis : Axis) (n : ℕ) (bound : Result Bound FileKind) → Has draft earlier
    → slot_fault (bounds_of draft axis) n bound ≡ statement_fault earlier draft.sizes (Limit axis n bound)
same_limit_fault draft earlier axis n bound has =
    limit_same (length (bounds_of draft axis)) n bound (get_or (bounds_of draft axis) (n - 1) None) (first_given (given_bound axis n) earlier)
    (λ here. let range = within_is n (length (bounds_of draft axis)) here in at_number (bounds_of draft axis) axis earlier n (has.bounds axis) range.0 range.1)
    ∙ ap (λ k. limit_fault k n bound (first_given (given_bound axis n) earlier)) (bounds_length draft axis)

pub has_limit : (old new : Draft) (earlier : List Statement) (axis : Axis) (n : ℕ) (bound : Result Bound FileKind) → Has old earlier → SameButBounds axis old new
    → slot_fault (bounds_of old axis) n bound ≡ None → bounds_of new axis ≡ set (bounds_of old axis) (n - 1) (Some (bound_value bound)) → Has new (earlier ++ Limit axis n bound ∷ [])
has_limit old new earlier axis n bound has same fault is =
    let s : Statement = Limit axis n bound in
    let list = bounds_of old axis in
    let free = is_free (nat_lt 0 n && nat_le n (length list)) (wrong bound) None (is_some (get_or list (n - 1) None)) fault in
    let range = within_is n (length list) free.0 in
    record {
      given = first_given-kept given_sizes earlier s old.sizes has.given ∙ ap Some (sym same.sizes);
      entries = λ m. subst (λ (t : Table). HasEntries t m (earlier ++ s ∷ [])) (sym (same.tables m)) (entries_kept (table_of old m) m earlier s (has.entries m) (λ i j. refl) refl);
      bounds = λ other. elim (cases_Bool (same_axis other axis)) [
        | inl here ↦ subst (λ (a : Axis). HasBounds (bounds_of new a) a (earlier ++ s ∷ [])) (sym (axis_from other axis here))
            (bounds_more list (bounds_of new axis) axis earlier n bound (has.bounds axis) is range.0 range.1 free.1)
        | inr off ↦ subst (λ (l : List (Option Bound)). HasBounds l other (earlier ++ s ∷ [])) (sym (same.bounds other off))
            (bounds_kept (bounds_of old other) other earlier s (has.bounds other) (λ k. ap (λ b. if b && k == n then Some (bound_value bound) else None) off))
      ];
    }

-- a draft and a statement that gives nothing more
pub has_nothing : (draft : Draft) (earlier : List Statement) (s : Statement) → Has draft earlier → ((m : Matrix) (i j : ℕ) → given_entry m i j s ≡ None) → ((m : Matrix) → gives_entry m s ≡ false)
    → ((axis : Axis) (k : ℕ) → given_bound axis k s ≡ None) → Has draft (earlier ++ s ∷ [])
has_nothing draft earlier s has entry gives bound =
    record {
      given = first_given-kept given_sizes earlier s draft.sizes has.given;
      entries = λ m. entries_kept (table_of draft m) m earlier s (has.entries m) (entry m) (gives m);
      bounds = λ axis. bounds_kept (bounds_of draft axis) axis earlier s (has.bounds axis) (bound axis);
    }

pub has_silent : (draft : Draft) (earlier : List Statement) → Has draft earlier → Has draft (earlier ++ Silent ∷ [])
has_silent draft earlier has = has_nothing draft earlier Silent has (λ m i j. refl) (λ m. refl) (λ axis k. refl)

pub has_end : (draft : Draft) (earlier : List Statement) → Has draft earlier → Has draft (earlier ++ End ∷ [])
has_end draft earlier has = has_nothing draft earlier End has (λ m i j. refl) (λ m. refl) (λ axis k. refl)

-- a draft that is new
pub has_begun : (draft : Draft) (s : Sizes) → draft.sizes ≡ s → ((m : Matrix) (i j : ℕ) → given (table_of draft m).cells i j ≡ None) → ((m : Matrix) → btree_map_len (table_of draft m).cells ≡ 0)
    → ((axis : Axis) (k : ℕ) → get_or (bounds_of draft axis) k None ≡ None)
    → (earlier : List Statement) → list_all is_silent earlier ≡ true → Has draft (earlier ++ Heading s ∷ [])
has_begun draft s sizes values count bounds earlier silent =
    record {
      given = first_given-new given_sizes earlier (Heading s) (silent_gives given_sizes refl earlier silent) ∙ ap Some (sym sizes);
      entries = λ m. record {
        values = λ i j. values m i j ∙ sym (first_given-same (given_entry m i j) earlier (Heading s) refl ∙ silent_gives (given_entry m i j) refl earlier silent);
        count = count m ∙ sym (count-push (gives_entry m) earlier (Heading s) ∙ ap (λ n. n + 0) (silent_counts (gives_entry m) refl earlier silent));
      };
      bounds = λ axis. record { bound = λ k lt. bounds axis k ∙ sym (first_given-same (given_bound axis (k + 1)) earlier (Heading s) refl ∙ silent_gives (given_bound axis (k + 1)) refl earlier silent) };
    }

-- what holds for each matrix, and for each axis
pub by_matrix : (P : Matrix → Type 0) → P Constraints → P Objectives → P ConeVectors → P Duality → (m : Matrix) → P m
by_matrix P a o v d Constraints = a
by_matrix P a o v d Objectives = o
by_matrix P a o v d ConeVectors = v
by_matrix P a o v d Duality = d

pub by_axis : (P : Axis → Type 0) → P Row → P Column → (axis : Axis) → P axis
by_axis P r c Row = r
by_axis P r c Column = c

pub nothing_at : (n k : ℕ) → get_or {A = Option Bound} (replicate n None) k None ≡ None
nothing_at zero k = refl
nothing_at (suc n) zero = refl
nothing_at (suc n) (suc k) = nothing_at n k

-- ---- counts
count_is : (draft : Draft) (statements : List Statement) (m : Matrix) → Has draft statements → btree_map_len (table_of draft m).cells ≡ count_by (gives_entry m) statements
count_is draft statements m has = (has.entries m).count

pub counts_wrong : (draft : Draft) (statements : List Statement) → Has draft statements → (draft.sizes.entries ≡ btree_map_len draft.a.cells → ⊥) → counts_fit draft.sizes statements ≡ false
counts_wrong draft statements has h =
    ap (λ b. b && (draft.sizes.obj_entries == count_by (gives_entry Objectives) statements && cone_counts draft.sizes.cone statements))
    (ne_eqb draft.sizes.entries (count_by (gives_entry Constraints) statements) (λ e. h (e ∙ sym (count_is draft statements Constraints has))))

pub counts_wrong_too : (draft : Draft) (statements : List Statement) → Has draft statements → (draft.sizes.obj_entries ≡ btree_map_len draft.o.cells → ⊥) → counts_fit draft.sizes statements ≡ false
counts_wrong_too draft statements has h =
    ap (λ b. draft.sizes.entries == count_by (gives_entry Constraints) statements && (b && cone_counts draft.sizes.cone statements))
    (ne_eqb draft.sizes.obj_entries (count_by (gives_entry Objectives) statements) (λ e. h (e ∙ sym (count_is draft statements Objectives has))))
    ∙ and_false (draft.sizes.entries == count_by (gives_entry Constraints) statements)
  where
    and_false : (b : Bool) → (b && false) ≡ false
    and_false true = refl
    and_false false = refl

pub counts_right : (draft : Draft) (statements : List Statement) → Has draft statements → draft.sizes.entries ≡ btree_map_len draft.a.cells → draft.sizes.obj_entries ≡ btree_map_len draft.o.cells
    → counts_fit draft.sizes statements ≡ cone_counts draft.sizes.cone statements
counts_right draft statements has h k =
    ap (λ b. b && (draft.sizes.obj_entries == count_by (gives_entry Objectives) statements && cone_counts draft.sizes.cone statements))
    (eq-eqb draft.sizes.entries (count_by (gives_entry Constraints) statements) (h ∙ count_is draft statements Constraints has))
    ∙ ap (λ b. b && cone_counts draft.sizes.cone statements) (eq-eqb draft.sizes.obj_entries (count_by (gives_entry Objectives) statements) (k ∙ count_is draft statements Objectives has))

pub cone_right : (draft : Draft) (statements : List Statement) (o : Option ConeSizes) (c : ConeSizes) → Has draft statements → o ≡ Some c → c.entries ≡ btree_map_len draft.vectors.cells
    → cone_counts o statements ≡ true
cone_right draft statements o c has is h =
    let a = count_by (gives_entry ConeVectors) statements in
    ap (λ x. cone_counts x statements) is
    ∙ ap (λ b. b || c.entries == a + count_by (gives_entry Duality) statements) (eq-eqb c.entries a (h ∙ count_is draft statements ConeVectors has))

pub cone_else : (draft : Draft) (statements : List Statement) (o : Option ConeSizes) (c : ConeSizes) → Has draft statements → o ≡ Some c → (c.entries ≡ btree_map_len draft.vectors.cells → ⊥)
    → cone_counts o statements ≡ (c.entries == btree_map_len draft.vectors.cells + btree_map_len draft.duality.cells)
cone_else draft statements o c has is h =
    let a = count_by (gives_entry ConeVectors) statements in
    let b = count_by (gives_entry Duality) statements in
    let vectors = count_is draft statements ConeVectors has in
    let duality = count_is draft statements Duality has in
    ap (λ x. cone_counts x statements) is
    ∙ ap (λ t. t || c.entries == a + b) (ne_eqb c.entries a (λ e. h (e ∙ sym vectors)))
    ∙ ap (λ n. c.entries == n + b) (sym vectors) ∙ ap (λ n. c.entries == btree_map_len draft.vectors.cells + n) (sym duality)

-- ---- the parts of the problem
pub cone_if_dual : (draft : Draft) (o : Option ConeSizes) (c : ConeSizes) (vectors : List (List ℚ)) → o ≡ Some c → vectors ≡ map (table_column draft.vectors) (numbers_from 1 c.vectors) → c.dual ≡ true
    → Dual vectors ≡ draft_cone draft o
cone_if_dual draft o c vectors is all dual =
    let built : List (List ℚ) = map (table_column draft.vectors) (numbers_from 1 c.vectors) in
    ap Dual all ∙ sym (ap (draft_cone draft) is ∙ ap (λ b. if b then Dual built else Gens built) dual)

pub cone_if_not : (draft : Draft) (o : Option ConeSizes) (c : ConeSizes) (vectors : List (List ℚ)) → o ≡ Some c → vectors ≡ map (table_column draft.vectors) (numbers_from 1 c.vectors) → c.dual ≡ false
    → Gens vectors ≡ draft_cone draft o
cone_if_not draft o c vectors is all dual =
    let built : List (List ℚ) = map (table_column draft.vectors) (numbers_from 1 c.vectors) in
    ap Gens all ∙ sym (ap (draft_cone draft) is ∙ ap (λ b. if b then Dual built else Gens built) dual)

-- a column of a table is that of the statements
same_map : {A B : Type 0} (f g : A → B) → ((x : A) → f x ≡ g x) → (xs : List A) → map f xs ≡ map g xs
same_map f g h [] = refl
same_map f g h (x ∷ xs) = ap (λ y. y ∷ map f xs) (h x) ∙ ap (λ ys. g x ∷ ys) (same_map f g h xs)

column_same : (table : Table) (m : Matrix) (statements : List Statement) (rows j : ℕ) → HasEntries table m statements → table.rows ≡ rows → table_column table j ≡ column_of statements m rows j
column_same table m statements rows j h size =
    ap (λ n. map (λ i. unwrap_or (given table.cells i j) zero_ℚ) (numbers_from 1 n)) size
    ∙ same_map (λ i. unwrap_or (given table.cells i j) zero_ℚ) (λ i. value_at statements m i j) (λ i. ap (λ o. unwrap_or o zero_ℚ) (h.values i j)) (numbers_from 1 rows)

pub cone_same : (draft : Draft) (statements : List Statement) (o : Option ConeSizes) → Has draft statements → draft_cone draft o ≡ cone_of statements draft.sizes.objs o
cone_same draft statements None has = refl
cone_same draft statements (Some c) has =
    ap (λ vectors. if c.dual then Dual vectors else Gens vectors)
    (same_map (table_column draft.vectors) (λ j. column_of statements ConeVectors draft.sizes.objs j)
    (λ j. column_same draft.vectors ConeVectors statements draft.sizes.objs j (has.entries ConeVectors) draft.vector_rows) (numbers_from 1 c.vectors))

pub duality_same : (draft : Draft) (statements : List Statement) → Has draft statements → draft_duality draft ≡ duality_of statements draft.sizes.objs
duality_same draft statements has =
    ap (λ n. if n == 0 then None else Some (table_column draft.duality 1)) (count_is draft statements Duality has)
    ∙ ap (λ v. if count_by (gives_entry Duality) statements == 0 then None else Some v)
    (column_same draft.duality Duality statements draft.sizes.objs 1 (has.entries Duality) draft.duality_rows)

pub bounds_same : (list : List (Option Bound)) (axis : Axis) (statements : List Statement) (n : ℕ) → HasBounds list axis statements → length list ≡ n
    → map (λ b. unwrap_or b Unsaid) list ≡ map (bound_at statements axis) (numbers_from 1 n)
bounds_same list axis statements n h size =
    same_lists (map (λ b. unwrap_or b Unsaid) list) (map (bound_at statements axis) (numbers_from 1 n))
    (length-map list (λ b. unwrap_or b Unsaid) ∙ size ∙ sym (length-map (numbers_from 1 n) (bound_at statements axis) ∙ length-numbers 1 n))
    (λ k d lt.
    let within : k < length list = omega (arith, length-map list (λ b. unwrap_or b Unsaid)) in
    let numbers : k < length (numbers_from 1 n) = omega (arith, length-numbers 1 n) in
    get_or-map (λ b. unwrap_or b Unsaid) list k None d within
    ∙ ap (λ o. unwrap_or o Unsaid) (h.bound k within)
    ∙ ap (bound_at statements axis) (omega (arith, number_at 1 n k (omega arith)))
    ∙ sym (get_or-map (bound_at statements axis) (numbers_from 1 n) k 0 d numbers))

-- ---- the limits of sizes
pub record WithinLimits (s : Sizes) : Type 0 where
  pub rows : s.rows ≤ 1000
  pub some_column : 0 < s.cols
  pub cols : s.cols ≤ 1000
  pub some_objective : 0 < s.objs
  pub objs : s.objs ≤ 20
  pub some_vector : some_vector s.cone ≡ true
  pub vectors : cone_count s.cone ≤ 64

none_is : (o : Option FileKind) → is_none o ≡ true → o ≡ None
none_is None h = refl
none_is (Some x) h = absurd (false≢true h)

pub within_limits : (s : Sizes) → is_none (sizes_fault s) ≡ true → WithinLimits s
within_limits s h =
    let both = first_passes (must (are_positive s) OutOfRange) (must (are_within_limits s) LimitPassed) (none_is (sizes_fault s) h) in
    let positive = and_parts (nat_lt 0 s.cols) (nat_lt 0 s.objs && some_vector s.cone) (must_passes (are_positive s) OutOfRange both.0) in
    let positive_too = and_parts (nat_lt 0 s.objs) (some_vector s.cone) positive.1 in
    let one = and_parts (nat_le s.rows 1000) _ (must_passes (are_within_limits s) LimitPassed both.1) in
    let two = and_parts (nat_le s.cols 1000) _ one.1 in
    let three = and_parts (nat_le s.objs 20) _ two.1 in
    let four = and_parts (nat_le (cone_count s.cone) 64) _ three.1 in
    record {
      rows = leb-true s.rows 1000 one.0;
      some_column = ltb-true 0 s.cols positive.0;
      cols = leb-true s.cols 1000 two.0;
      some_objective = ltb-true 0 s.objs positive_too.0;
      objs = leb-true s.objs 20 three.0;
      some_vector = positive_too.1;
      vectors = leb-true (cone_count s.cone) 64 four.0;
    }

each_column : (table : Table) (objs : ℕ) (ns : List ℕ) → table.rows ≡ objs → are_wide objs (map (table_column table) ns) ≡ true
each_column table objs [] h = refl
each_column table objs (n ∷ ns) h =
    and_from (length (table_column table n) == objs) (are_wide objs (map (table_column table) ns))
    (eq-eqb (length (table_column table n)) objs (column_length table n ∙ h)) (each_column table objs ns h)
  where
    column_length : (table : Table) (n : ℕ) → length (table_column table n) ≡ table.rows
    column_length table n = length-map (numbers_from 1 table.rows) (λ i. unwrap_or (given table.cells i n) zero_ℚ) ∙ length-numbers 1 table.rows

columns_fit : (table : Table) (objs n : ℕ) → table.rows ≡ objs → 0 < n → n ≤ 64 → are_vectors objs (map (table_column table) (numbers_from 1 n)) ≡ true
columns_fit table objs n h some most =
    let size : length (map (table_column table) (numbers_from 1 n)) ≡ n = length-map (numbers_from 1 n) (table_column table) ∙ length-numbers 1 n in
    and_from _ _ (lt-ltb 0 (length (map (table_column table) (numbers_from 1 n))) (omega arith))
    (and_from _ _ (le-leb (length (map (table_column table) (numbers_from 1 n))) 100000 (omega arith)) (each_column table objs (numbers_from 1 n) h))

pub draft_cone_fits : (draft : Draft) (o : Option ConeSizes) → some_vector o ≡ true → cone_count o ≤ 64 → cone_fits draft.sizes.objs (draft_cone draft o) ≡ true
draft_cone_fits draft None some most = refl
draft_cone_fits draft (Some c) some most =
    let vectors : List (List ℚ) = map (table_column draft.vectors) (numbers_from 1 c.vectors) in
    let fit = columns_fit draft.vectors draft.sizes.objs c.vectors draft.vector_rows (ltb-true 0 c.vectors some) most in
    cond_both c.dual (Dual vectors) (Gens vectors) (λ x. cone_fits draft.sizes.objs x ≡ true) (λ _. fit) (λ _. fit)

pub draft_duality_fits : (draft : Draft) → duality_fits draft.sizes.objs (draft_duality draft) ≡ true
draft_duality_fits draft =
    cond_both (btree_map_len draft.duality.cells == 0) None (Some (table_column draft.duality 1)) (λ o. duality_fits draft.sizes.objs o ≡ true) (λ _. refl)
    (λ _. eq-eqb (length (table_column draft.duality 1)) draft.sizes.objs
    (length-map (numbers_from 1 draft.duality.rows) (λ i. unwrap_or (given draft.duality.cells i 1) zero_ℚ) ∙ length-numbers 1 draft.duality.rows ∙ draft.duality_rows))

-- ---- results
pub match_weaker : {T E : Type 0} (r : Result T E) (P P' : T → Type 0) (Q Q' : E → Type 0) → MatchResult r P Q → ((x : T) → P x → P' x) → ((e : E) → Q e → Q' e) → MatchResult r P' Q'
match_weaker (Ok x) P P' Q Q' h p q = p x h
match_weaker (Err e) P P' Q Q' h p q = q e h

pub comes_from_same : (f g : Option FileKind) (e : LineEnd) → f ≡ g → ComesFrom f e → ComesFrom g e
comes_from_same f g e h c = subst (λ (o : Option FileKind). ComesFrom o e) h c
