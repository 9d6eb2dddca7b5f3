-- The text of a problem is that of lines that say its statements, each of them within the problem's sizes.
use Rattle.std.proofs.Common.{◌≡◌, refl, ◌⊎◌, inl, inr, ℕ, zero, suc, ◌+◌, ◌-◌, ◌<◌, ◌≤◌, Bool, true, false, not, ◌&&◌, nat_lt, nat_le, if◌then◌else◌, List, [], ◌∷◌, ◌++◌, length, get_or, map, codes, decimal, slice_index_or, Option, None, Some, Ok, Err, arith, ap, sym, ◌∙◌}
use Rattle.std.specs.List.{list_all, flat_map}
use Rattle.std.proofs.lemmas.Bool.{and_parts, and_from, lt-ltb, le-leb, leb-true, eqb-true}
use Rattle.std.proofs.lemmas.Grind.{flat_map-append}
use Rattle.std.proofs.lemmas.List.{append-nil}
use Rattle.std.proofs.lemmas.List.Folds.{list_all-append, list_all-map}
use Rattle.exact_field.specs.Rational.{ℚ, zero_ℚ}
use Rattle.exact_field.specs.Vector.{entry, are_wide}
use Rattle.frac128.specs.Sparse.{is_zero}
use Rattle.src_sink.specs.Texts.{line_text}
use Rattle.vlp_problem.specs.Cells.{place_before, is_within, cells_after}
use Rattle.vlp_problem.specs.Cones.{are_vectors, cone_fits, duality_fits}
use Rattle.vlp_reader.specs.Grammar.{matrix_rows, matrix_cols, axis_length}
use Rattle.vlp_problem.specs.Sides.{numbers_from, is_unsaid}
use Rattle.vlp_problem.specs.declared.problem.Bound.{Bound}
use Rattle.vlp_problem.specs.declared.problem.Bound.TheVariants.{Unsaid}
use Rattle.vlp_problem.specs.declared.problem.Cell.{Cell}
use Rattle.vlp_problem.specs.declared.problem.Cone.{Cone}
use Rattle.vlp_problem.specs.declared.problem.Cone.TheVariants.{Orthant, Gens, Dual}
use Rattle.vlp_problem.specs.declared.problem.Problem.{Problem}
use Rattle.vlp_reader.specs.declared.sizes.Sizes.{Sizes}
use Rattle.vlp_problem.specs.declared.problem.Axis.{Axis}
use Rattle.vlp_problem.specs.declared.problem.Axis.TheVariants.{Row, Column}
use Rattle.vlp_reader.specs.declared.statement.Matrix.TheVariants.{Constraints, Objectives, ConeVectors, Duality}
use Rattle.vlp_reader.specs.declared.statement.Statement.{Statement}
use Rattle.vlp_reader.specs.declared.statement.Statement.TheVariants.{Silent, Heading, Entry, Limit, End}
use Rattle.vlp_printer.specs.Decimal.{is_decimal, number_text}
use Rattle.vlp_problem.specs.Values.{bound_numbers, cone_vectors, duality_entries, printed_numbers}
use Rattle.vlp_printer.specs.Printing.{bound_words, bound_line, bounds_text, cells_text, duality_text, entry_line, printed_cone, printed_sizes, vector_entry, vector_text, vectors_text}
use Rattle.vlp_printer.proofs.PrintedLines.{Line, constraint_line, objective_line, duality_line, vector_line, limit_line, end_line, axis_letter}
use Rattle.vlp_printer.proofs.PrintedStatements.{cells_say, duality_says, entry_says, vector_says, vectors_say, bound_says, bounds_say, part}
use Rattle.vlp_printer.proofs.PrintedValues.{vector_sizes}

-- ---- statements within the sizes, without what is wrong
abbrev pub proper : Sizes → Statement → Bool
proper s (Entry m i j (Ok q)) = is_within (matrix_rows s m) (matrix_cols s m) i j
proper s (Entry m i j (Err kind)) = false
proper s (Limit axis n (Ok b)) = nat_lt 0 n && nat_le n (axis_length s axis)
proper s (Limit axis n (Err kind)) = false
proper s (Heading t) = false
proper s Silent = true
proper s End = true

-- ---- texts of lines
abbrev pub EachLine : Sizes → List (List (List ℕ)) → List Statement → Type 0
EachLine sizes [] [] = Unit {0}
EachLine sizes (words ∷ lines) (s ∷ ss) = Line words s × (proper sizes s ≡ true) × EachLine sizes lines ss
EachLine sizes [] (s ∷ ss) = ⊥
EachLine sizes (words ∷ lines) [] = ⊥

-- a text of lines that say these statements, which are proper
pub record Says (sizes : Sizes) (text : List ℕ) (ss : List Statement) : Type 0 where
  pub lines : List (List (List ℕ))
  pub same : text ≡ flat_map line_text lines
  pub each : EachLine sizes lines ss

says_none : (sizes : Sizes) → Says sizes [] []
says_none sizes = record { lines = []; same = refl; each = tt }

says_line : (sizes : Sizes) (words : List (List ℕ)) (s : Statement) → Line words s → proper sizes s ≡ true → Says sizes (line_text words) (s ∷ [])
says_line sizes words s line h = record { lines = words ∷ []; same = sym (append-nil (line_text words)); each = (line, h, tt) }

each_both : (sizes : Sizes) (lines more : List (List (List ℕ))) (ss rs : List Statement) → EachLine sizes lines ss → EachLine sizes more rs → EachLine sizes (lines ++ more) (ss ++ rs)
each_both sizes [] more [] rs h k = k
each_both sizes [] more (s ∷ ss) rs h k = absurd h
each_both sizes (words ∷ lines) more [] rs h k = absurd h
each_both sizes (words ∷ lines) more (s ∷ ss) rs h k = (h.0, h.1, each_both sizes lines more ss rs h.2 k)

says_both : (sizes : Sizes) (t u : List ℕ) (ss rs : List Statement) → Says sizes t ss → Says sizes u rs → Says sizes (t ++ u) (ss ++ rs)
says_both sizes t u ss rs h k =
    record {
      lines = h.lines ++ k.lines;
      same = ap (λ (l : List ℕ). l ++ u) h.same ∙ ap (λ (l : List ℕ). flat_map line_text h.lines ++ l) k.same ∙ sym (flat_map-append line_text h.lines k.lines);
      each = each_both sizes h.lines k.lines ss rs h.each k.each;
    }

says_each : {X : Type 0} (sizes : Sizes) (f : X → List ℕ) (g : X → List Statement) (p : X → Bool) → ((x : X) → p x ≡ true → Says sizes (f x) (g x)) → (xs : List X) → list_all p xs ≡ true → Says sizes (flat_map f xs) (flat_map g xs)
says_each sizes f g p each [] h = says_none sizes
says_each sizes f g p each (x ∷ xs) h =
    let parts = and_parts (p x) (list_all p xs) h in
    says_both sizes (f x) (flat_map f xs) (g x) (flat_map g xs) (each x parts.0) (says_each sizes f g p each xs parts.1)

says_numbers : (sizes : Sizes) (f : ℕ → List ℕ) (g : ℕ → List Statement) (a n : ℕ) → ((k : ℕ) → a ≤ k → k < a + n → Says sizes (f k) (g k)) → Says sizes (flat_map f (numbers_from a n)) (flat_map g (numbers_from a n))
says_numbers sizes f g a zero each = says_none sizes
says_numbers sizes f g a (suc n) each =
    says_both sizes (f a) (flat_map f (numbers_from (suc a) n)) (g a) (flat_map g (numbers_from (suc a) n)) (each a (omega arith) (omega arith))
    (says_numbers sizes f g (suc a) n (λ k low high. each k (omega arith) (omega arith)))

says_unless : (sizes : Sizes) (b : Bool) (t : List ℕ) (ss : List Statement) → (b ≡ false → Says sizes t ss) → Says sizes (if b then [] else t) (if b then [] else ss)
says_unless sizes true t ss h = says_none sizes
says_unless sizes false t ss h = h refl

-- ---- numbers with a decimal form
-- general: a test that all elements pass, at one of them, and at the elements that each gives
all_at : {A : Type 0} (p : A → Bool) (xs : List A) (k : ℕ) (d : A) → list_all p xs ≡ true → k < length xs → p (get_or xs k d) ≡ true
all_at p [] k d h lt = absurd (omega arith)
all_at p (x ∷ xs) zero d h lt = (and_parts (p x) (list_all p xs) h).0
all_at p (x ∷ xs) (suc k) d h lt = all_at p xs k d (and_parts (p x) (list_all p xs) h).1 (omega arith)

each_of_flat : {X A : Type 0} (p : A → Bool) (f : X → List A) (xs : List X) → list_all p (flat_map f xs) ≡ true → list_all (λ x. list_all p (f x)) xs ≡ true
each_of_flat p f [] h = refl
each_of_flat p f (x ∷ xs) h =
    let parts = and_parts (list_all p (f x)) (list_all p (flat_map f xs)) (sym (list_all-append p (f x) (flat_map f xs)) ∙ h) in
    and_from _ _ parts.0 (each_of_flat p f xs parts.1)

pub record Decimals (problem : Problem) : Type 0 where
  pub a : list_all (λ c. is_decimal c.value) problem.a ≡ true
  pub o : list_all (λ c. is_decimal c.value) problem.o ≡ true
  pub duality : list_all is_decimal (duality_entries problem.duality) ≡ true
  pub vectors : list_all (λ v. list_all is_decimal v) (cone_vectors problem.cone) ≡ true
  pub row_bounds : list_all (λ b. list_all is_decimal (bound_numbers b)) problem.row_bounds ≡ true
  pub col_bounds : list_all (λ b. list_all is_decimal (bound_numbers b)) problem.col_bounds ≡ true

pub decimals : (problem : Problem) → list_all is_decimal (printed_numbers problem) ≡ true → Decimals problem
decimals problem h =
    let values : List Cell → List ℚ = λ (cells : List Cell). map (λ (c : Cell). c.value) cells in
    let four = flat_map bound_numbers problem.row_bounds ++ flat_map bound_numbers problem.col_bounds in
    let three = flat_map (λ (v : List ℚ). v) (cone_vectors problem.cone) ++ four in
    let two = duality_entries problem.duality ++ three in
    let one = values problem.o ++ two in
    let p1 = and_parts (list_all is_decimal (values problem.a)) (list_all is_decimal one) (sym (list_all-append is_decimal (values problem.a) one) ∙ h) in
    let p2 = and_parts (list_all is_decimal (values problem.o)) (list_all is_decimal two) (sym (list_all-append is_decimal (values problem.o) two) ∙ p1.1) in
    let p3 = and_parts (list_all is_decimal (duality_entries problem.duality)) (list_all is_decimal three) (sym (list_all-append is_decimal (duality_entries problem.duality) three) ∙ p2.1) in
    let p4 = and_parts (list_all is_decimal (flat_map (λ (v : List ℚ). v) (cone_vectors problem.cone))) (list_all is_decimal four) (sym (list_all-append is_decimal (flat_map (λ (v : List ℚ). v) (cone_vectors problem.cone)) four) ∙ p3.1) in
    let p5 = and_parts (list_all is_decimal (flat_map bound_numbers problem.row_bounds)) (list_all is_decimal (flat_map bound_numbers problem.col_bounds)) (sym (list_all-append is_decimal (flat_map bound_numbers problem.row_bounds) (flat_map bound_numbers problem.col_bounds)) ∙ p4.1) in
    record {
      a = sym (list_all-map is_decimal (λ (c : Cell). c.value) problem.a) ∙ p1.0;
      o = sym (list_all-map is_decimal (λ (c : Cell). c.value) problem.o) ∙ p2.0;
      duality = p3.0;
      vectors = each_of_flat is_decimal (λ (v : List ℚ). v) (cone_vectors problem.cone) p4.0;
      row_bounds = each_of_flat is_decimal bound_numbers problem.row_bounds p5.0;
      col_bounds = each_of_flat is_decimal bound_numbers problem.col_bounds p5.1;
    }

-- ---- the parts
-- cells are within the sizes and have decimal values
abbrev fits : ℕ → ℕ → Cell → Bool
fits rows cols c = is_within rows cols c.row c.col && is_decimal c.value

cells_fit : (rows cols i j : ℕ) (cells : List Cell) → cells_after rows cols i j cells ≡ true → list_all (λ c. is_decimal c.value) cells ≡ true → list_all (fits rows cols) cells ≡ true
cells_fit rows cols i j [] h d = refl
cells_fit rows cols i j (c ∷ cells) h d =
    let one = and_parts (place_before i j c.row c.col) (is_within rows cols c.row c.col && (not (is_zero c.value) && cells_after rows cols c.row c.col cells)) h in
    let two = and_parts (is_within rows cols c.row c.col) (not (is_zero c.value) && cells_after rows cols c.row c.col cells) one.1 in
    let three = and_parts (not (is_zero c.value)) (cells_after rows cols c.row c.col cells) two.1 in
    let of = and_parts (is_decimal c.value) (list_all (λ e. is_decimal e.value) cells) d in
    and_from _ _ (and_from _ _ two.0 of.0) (cells_fit rows cols c.row c.col cells three.1 of.1)

pub record Within (rows cols i j : ℕ) : Type 0 where
  pub row : i ≤ rows
  pub col : j ≤ cols

within : (rows cols i j : ℕ) → is_within rows cols i j ≡ true → Within rows cols i j
within rows cols i j h =
    let one = and_parts (nat_lt 0 i) (nat_le i rows && (nat_lt 0 j && nat_le j cols)) h in
    let two = and_parts (nat_le i rows) (nat_lt 0 j && nat_le j cols) one.1 in
    let three = and_parts (nat_lt 0 j) (nat_le j cols) two.1 in
    record { row = leb-true i rows two.0; col = leb-true j cols three.1 }

is_place : (rows cols i j : ℕ) → 0 < i → i ≤ rows → 0 < j → j ≤ cols → is_within rows cols i j ≡ true
is_place rows cols i j a b c d = and_from _ _ (lt-ltb 0 i a) (and_from _ _ (le-leb i rows b) (and_from _ _ (lt-ltb 0 j c) (le-leb j cols d)))

constraints_said : (problem : Problem) → Decimals problem → Says (printed_sizes problem) (cells_text (codes "a") problem.a) (cells_say Constraints problem.a)
constraints_said problem d =
    says_each (printed_sizes problem) (λ (c : Cell). entry_line (codes "a") c.row c.col c.value) (λ (c : Cell). Entry Constraints c.row c.col (Ok c.value) ∷ []) (fits problem.rows problem.cols)
    (λ c h.
    let parts = and_parts (is_within problem.rows problem.cols c.row c.col) (is_decimal c.value) h in
    let place = within problem.rows problem.cols c.row c.col parts.0 in
    let rows_bound = problem.rows_bounded in
    let cols_bound = problem.cols_bounded in
    let row : c.row ≤ problem.rows = place.row in
    let col : c.col ≤ problem.cols = place.col in
    says_line (printed_sizes problem) (codes "a" ∷ decimal c.row ∷ decimal c.col ∷ number_text c.value ∷ []) (Entry Constraints c.row c.col (Ok c.value)) (constraint_line c.row c.col c.value (omega arith) (omega arith) parts.1) parts.0)
    problem.a (cells_fit problem.rows problem.cols 0 0 problem.a problem.a_cells d.a)

objectives_said : (problem : Problem) → Decimals problem → Says (printed_sizes problem) (cells_text (codes "o") problem.o) (cells_say Objectives problem.o)
objectives_said problem d =
    says_each (printed_sizes problem) (λ (c : Cell). entry_line (codes "o") c.row c.col c.value) (λ (c : Cell). Entry Objectives c.row c.col (Ok c.value) ∷ []) (fits problem.objs problem.cols)
    (λ c h.
    let parts = and_parts (is_within problem.objs problem.cols c.row c.col) (is_decimal c.value) h in
    let place = within problem.objs problem.cols c.row c.col parts.0 in
    let objs_bound = problem.objs_bounded in
    let cols_bound = problem.cols_bounded in
    let row : c.row ≤ problem.objs = place.row in
    let col : c.col ≤ problem.cols = place.col in
    says_line (printed_sizes problem) (codes "o" ∷ decimal c.row ∷ decimal c.col ∷ number_text c.value ∷ []) (Entry Objectives c.row c.col (Ok c.value)) (objective_line c.row c.col c.value (omega arith) (omega arith) parts.1) parts.0)
    problem.o (cells_fit problem.objs problem.cols 0 0 problem.o problem.o_cells d.o)

duality_length : (objs : ℕ) (f : Option (List ℚ)) → duality_fits objs f ≡ true → length (duality_entries f) ≤ objs
duality_length objs None h = omega arith
duality_length objs (Some f) h = let size = eqb-true (length f) objs h in omega arith

duality_said : (problem : Problem) → Decimals problem → Says (printed_sizes problem) (duality_text (duality_entries problem.duality)) (duality_says (duality_entries problem.duality))
duality_said problem d =
    let f = duality_entries problem.duality in
    let most : length f ≤ problem.objs = duality_length problem.objs problem.duality problem.duality_entries in
    let bound = problem.objs_bounded in
    says_numbers (printed_sizes problem) (λ i. entry_line (codes "k") i 0 (entry f i)) (λ i. Entry Duality i 1 (Ok (entry f i)) ∷ []) 1 (length f) (λ i low high.
    says_line (printed_sizes problem) (codes "k" ∷ decimal i ∷ decimal 0 ∷ number_text (entry f i) ∷ []) (Entry Duality i 1 (Ok (entry f i)))
    (duality_line i (entry f i) (omega arith) (all_at is_decimal f (i - 1) zero_ℚ d.duality (omega arith)))
    (is_place problem.objs 1 i 1 (omega arith) (omega arith) (omega arith) (omega arith)))

-- the vectors of a cone, if it has some
many : (objs : ℕ) (vectors : List (List ℚ)) → are_vectors objs vectors ≡ true → length vectors ≤ 100000
many objs vectors h =
    let parts = and_parts (nat_lt 0 (length vectors)) (nat_le (length vectors) 100000 && are_wide objs vectors) h in
    leb-true (length vectors) 100000 (and_parts (nat_le (length vectors) 100000) (are_wide objs vectors) parts.1).0

vectors_fit : (problem : Problem) (cone : Cone) → cone_fits problem.objs cone ≡ true → (length (cone_vectors cone) ≡ 0) ⊎ ((are_vectors problem.objs (cone_vectors cone) ≡ true) × (length (cone_vectors cone) ≤ 100000) × (matrix_cols (record (printed_sizes problem) { cone = printed_cone cone }) ConeVectors ≡ length (cone_vectors cone)))
vectors_fit problem Orthant h = inl refl
vectors_fit problem (Gens vectors) h = inr (h, many problem.objs vectors h, refl)
vectors_fit problem (Dual vectors) h = inr (h, many problem.objs vectors h, refl)

vectors_said : (problem : Problem) → Decimals problem → Says (printed_sizes problem) (vectors_text (cone_vectors problem.cone)) (vectors_say (cone_vectors problem.cone))
vectors_said problem d =
    let vectors = cone_vectors problem.cone in
    let objs_bound = problem.objs_bounded in
    says_numbers (printed_sizes problem) (λ j. vector_text j (slice_index_or vectors (j - 1) [])) (λ j. vector_says j (slice_index_or vectors (j - 1) [])) 1 (length vectors) (λ j low high.
    elim (vectors_fit problem problem.cone problem.cone_vectors) [
      | inl none ↦ absurd (omega arith)
      | inr fit ↦
          let v = slice_index_or vectors (j - 1) [] in
          let size : length v ≡ problem.objs = vector_sizes problem.objs vectors fit.0 j (omega arith) (omega arith) in
          let most : length vectors ≤ 100000 = fit.1 in
          let cols : matrix_cols (printed_sizes problem) ConeVectors ≡ length vectors = fit.2 in
          says_numbers (printed_sizes problem) (λ i. vector_entry i j (entry v i)) (λ i. entry_says i j (entry v i)) 1 (length v) (λ i one last.
          says_unless (printed_sizes problem) (is_zero (entry v i)) (entry_line (codes "k") i j (entry v i)) (Entry ConeVectors i j (Ok (entry v i)) ∷ []) (λ some.
          says_line (printed_sizes problem) (codes "k" ∷ decimal i ∷ decimal j ∷ number_text (entry v i) ∷ []) (Entry ConeVectors i j (Ok (entry v i)))
          (vector_line i j (entry v i) (omega arith) (omega arith) (omega arith) (all_at is_decimal v (i - 1) zero_ℚ (all_at (λ (w : List ℚ). list_all is_decimal w) vectors (j - 1) [] d.vectors (omega arith)) (omega arith)))
          (is_place problem.objs (matrix_cols (printed_sizes problem) ConeVectors) i j (omega arith) (omega arith) (omega arith) (omega arith))))
    ])

bounds_said : (problem : Problem) (axis : Axis) (bounds : List Bound) → length bounds ≡ axis_length (printed_sizes problem) axis → length bounds ≤ 100000 → list_all (λ b. list_all is_decimal (bound_numbers b)) bounds ≡ true
    → Says (printed_sizes problem) (bounds_text (axis_letter axis ∷ []) bounds) (bounds_say axis bounds)
bounds_said problem axis bounds size most d =
    says_numbers (printed_sizes problem) (λ k. bound_line (axis_letter axis ∷ []) k (slice_index_or bounds (k - 1) Unsaid)) (λ k. bound_says axis k (slice_index_or bounds (k - 1) Unsaid)) 1 (length bounds) (λ k low high.
    let b = slice_index_or bounds (k - 1) Unsaid in
    says_unless (printed_sizes problem) (is_unsaid b) (line_text ((axis_letter axis ∷ []) ∷ decimal k ∷ bound_words b)) (Limit axis k (Ok b) ∷ []) (λ some.
    says_line (printed_sizes problem) ((axis_letter axis ∷ []) ∷ decimal k ∷ bound_words b) (Limit axis k (Ok b))
    (limit_line axis k b some (omega arith) (all_at (λ (c : Bound). list_all is_decimal (bound_numbers c)) bounds (k - 1) Unsaid d (omega arith)))
    (and_from _ _ (lt-ltb 0 k (omega arith)) (le-leb k (axis_length (printed_sizes problem) axis) (omega arith)))))

-- ---- what stands after the problem line
abbrev pub body_text : Problem → List ℕ
body_text problem =
    cells_text (codes "a") problem.a ++ (cells_text (codes "o") problem.o
    ++ (duality_text (duality_entries problem.duality) ++ (vectors_text (cone_vectors problem.cone)
    ++ (bounds_text (codes "i") problem.row_bounds ++ (bounds_text (codes "j") problem.col_bounds ++ line_text (codes "e" ∷ []))))))

abbrev pub body : Problem → List Statement
body problem = flat_map (part problem) (numbers_from 1 7)

pub body_said : (problem : Problem) → Decimals problem → Says (printed_sizes problem) (body_text problem) (body problem)
body_said problem d =
    let sizes = printed_sizes problem in
    let rows_bound = problem.rows_bounded in
    let cols_bound = problem.cols_bounded in
    let row_count = problem.row_count in
    let col_count = problem.col_count in
    let last : Says sizes (line_text (codes "e" ∷ [])) (End ∷ []) = says_line sizes (codes "e" ∷ []) End end_line refl in
    let col_part = bounds_said problem Column problem.col_bounds problem.col_count (omega arith) d.col_bounds in
    let row_part = bounds_said problem Row problem.row_bounds problem.row_count (omega arith) d.row_bounds in
    let six = says_both sizes (bounds_text (codes "j") problem.col_bounds) _ (bounds_say Column problem.col_bounds) _ col_part last in
    let five = says_both sizes (bounds_text (codes "i") problem.row_bounds) _ (bounds_say Row problem.row_bounds) _ row_part six in
    let four = says_both sizes (vectors_text (cone_vectors problem.cone)) _ (vectors_say (cone_vectors problem.cone)) _ (vectors_said problem d) five in
    let three = says_both sizes (duality_text (duality_entries problem.duality)) _ (duality_says (duality_entries problem.duality)) _ (duality_said problem d) four in
    let two = says_both sizes (cells_text (codes "o") problem.o) _ (cells_say Objectives problem.o) _ (objectives_said problem d) three in
    says_both sizes (cells_text (codes "a") problem.a) _ (cells_say Constraints problem.a) _ (constraints_said problem d) two
