-- The text of a problem within the limits of the grammar reads as this problem.
use Rattle.std.proofs.Common.{◌≡◌, All, refl, inl, inr, ℕ, suc, ◌+◌, ◌*◌, ◌<◌, ◌≤◌, Bool, true, not, ◌&&◌, ◌==◌, nat_lt, nat_le, if◌then◌else◌, List, [], ◌∷◌, ◌++◌, length, map, None, Some, Ok, Err, is_some, arith, ap, sym, ◌∙◌, subst}
use Rattle.std.specs.List.{list_all, list_any, flat_map, find}
use Rattle.std.specs.Option.{option_or}
use Rattle.std.proofs.lemmas.Bool.{and_parts, and_from, cond-true, cond-false, leb-true, le-ltb, lt-ltb, not-true, eqb-true, cases_Bool, false≢true}
use Rattle.std.proofs.lemmas.List.{append_assoc, append-nil, length-append, length-map}
use Rattle.src_sink.specs.Texts.{words_text, line_text}
use Rattle.vlp_problem.specs.Cells.{is_within}
use Rattle.vlp_problem.specs.Cones.{cone_fits}
use Rattle.vlp_reader.specs.FirstFault.{is_end, ends, looked_at, file_lines, Passes, fault_after, HasNoFault, Reads}
use Rattle.vlp_reader.specs.Grammar.{first_given, given_sizes, given_entry, given_bound, line_fault, words_fault, statement_fault, sizes_fault, must, closing_fault, counts_fit, are_positive, are_within_limits, cone_count, cone_entries, some_vector, matrix_rows, matrix_cols, axis_length, Gives}
use Rattle.vlp_reader.specs.Lines.{lines_of, words_of}
use Rattle.vlp_reader.specs.Statements.{statement_on, words_statement}
use Rattle.vlp_reader.specs.declared.fault.FileKind.{FileKind}
use Rattle.vlp_reader.specs.declared.fault.FileKind.TheVariants.{LineLong, OutOfRange, Twice, CountWrong, LimitPassed}
use Rattle.vlp_problem.specs.declared.problem.Cone.{Cone}
use Rattle.vlp_problem.specs.declared.problem.Cone.TheVariants.{Orthant, Gens, Dual}
use Rattle.vlp_problem.specs.declared.problem.Problem.{Problem}
use Rattle.vlp_reader.specs.declared.sizes.Sizes.{Sizes}
use Rattle.vlp_reader.specs.declared.statement.Statement.{Statement}
use Rattle.vlp_reader.specs.declared.statement.Statement.TheVariants.{Silent, Heading, Entry, Limit, End}
use Rattle.vlp_problem.proofs.CellPlaces.{rises_from_cells}
use Rattle.vlp_reader.proofs.MoreStatements.{first_given-kept}
use Rattle.vlp_reader.proofs.Readings.{passes-push, map-push}
use Rattle.vlp_printer.specs.Decimal.{is_decimal}
use Rattle.vlp_problem.specs.Values.{cone_vectors, printed_numbers}
use Rattle.vlp_printer.specs.Printing.{entry_count, HasWord, heading_words, printed_cone, printed_sizes, problem_text, Prints}
use Rattle.vlp_printer.proofs.Apart.{clashes, apart, has_key, entry_fresh, bound_fresh}
use Rattle.vlp_printer.proofs.PlainWords.{is_plain, words_back, lines_back}
use Rattle.vlp_printer.proofs.PrintedLines.{is_printed, AreSmall, heading_line}
use Rattle.vlp_printer.proofs.PrintedStatements.{part, part_key, kind, statements, statements_apart}
use Rattle.vlp_printer.proofs.PrintedText.{proper, EachLine, decimals, body, body_said}
use Rattle.vlp_printer.proofs.PrintedValues.{sizes_given, gives_back, counts_back}
use Rattle.vlp_printer.proofs.WordNumbers.{all_words, all_decimal}

-- ---- the tests of a statement
passed : (b : Bool) (kind : FileKind) → b ≡ true → must b kind ≡ None
passed b kind h = cond-true b None (Some kind) h

no_fault : (sizes : Sizes) (earlier : List Statement) (s : Statement) → proper sizes s ≡ true → not (list_any (clashes s) earlier) ≡ true → statement_fault earlier sizes s ≡ None
no_fault sizes earlier (Entry m i j (Ok q)) h k =
    ap (λ o. option_or o (must (not (is_some (first_given (given_entry m i j) earlier))) Twice)) (passed (is_within (matrix_rows sizes m) (matrix_cols sizes m) i j) OutOfRange h)
    ∙ ap (λ o. must (not (is_some o)) Twice) (entry_fresh m i j (Ok q) earlier (not-true _ k))
no_fault sizes earlier (Entry m i j (Err kind)) h k = absurd (false≢true h)
no_fault sizes earlier (Limit axis n (Ok b)) h k =
    ap (λ o. option_or o (must (not (is_some (first_given (given_bound axis n) earlier))) Twice)) (passed (nat_lt 0 n && nat_le n (axis_length sizes axis)) OutOfRange h)
    ∙ ap (λ o. must (not (is_some o)) Twice) (bound_fresh axis n (Ok b) earlier (not-true _ k))
no_fault sizes earlier (Limit axis n (Err kind)) h k = absurd (false≢true h)
no_fault sizes earlier (Heading t) h k = absurd (false≢true h)
no_fault sizes earlier Silent h k = refl
no_fault sizes earlier End h k = refl

-- ---- lines of printed words
weaker : (words : List (List ℕ)) → list_all is_printed words ≡ true → list_all is_plain words ≡ true
weaker [] h = refl
weaker (w ∷ words) h =
    let parts = and_parts (is_printed w) (list_all is_printed words) h in
    and_from _ _ (and_parts (nat_le (length w) 60) (is_plain w) parts.0).1 (weaker words parts.1)

width : (words : List (List ℕ)) → list_all is_printed words ≡ true → length (words_text words) ≤ 61 * length words
width [] h = omega arith
width (w ∷ []) h =
    let one : length w ≤ 60 = leb-true (length w) 60 (and_parts (nat_le (length w) 60) (is_plain w) (and_parts (is_printed w) true h).0).0 in
    omega arith
width (w ∷ v ∷ words) h =
    let parts = and_parts (is_printed w) (list_all is_printed (v ∷ words)) h in
    let one : length w ≤ 60 = leb-true (length w) 60 (and_parts (nat_le (length w) 60) (is_plain w) parts.0).0 in
    let rest : length (words_text (v ∷ words)) ≤ 61 * length (v ∷ words) = width (v ∷ words) parts.1 in
    let all : length (w ++ 32 ∷ words_text (v ∷ words)) ≡ length w + suc (length (words_text (v ∷ words))) = length-append w (32 ∷ words_text (v ∷ words)) in
    omega arith

line_passes : (earlier : List Statement) (words : List (List ℕ)) → list_all is_printed words ≡ true → length words ≤ 12 → line_fault earlier (words_text words) ≡ words_fault earlier words
line_passes earlier words h few =
    let short = width words h in
    cond-false (nat_lt 4096 (length (words_text words))) (Some LineLong) (words_fault earlier (words_of (words_text words))) (le-ltb 4096 (length (words_text words)) (omega arith))
    ∙ ap (words_fault earlier) (words_back words (weaker words h))

line_says : (words : List (List ℕ)) (s : Statement) → list_all is_printed words ≡ true → words_statement words ≡ s → statement_on (words_text words) ≡ s
line_says words s h says = ap words_statement (words_back words (weaker words h)) ∙ says

-- ---- all lines
each_plain : (sizes : Sizes) (lines : List (List (List ℕ))) (ss : List Statement) → EachLine sizes lines ss → list_all (λ words. list_all is_plain words) lines ≡ true
each_plain sizes [] [] h = refl
each_plain sizes [] (s ∷ ss) h = absurd h
each_plain sizes (words ∷ lines) [] h = absurd h
each_plain sizes (words ∷ lines) (s ∷ ss) h = and_from _ _ (weaker words h.0.printed) (each_plain sizes lines ss h.2)

each_says : (sizes : Sizes) (lines : List (List (List ℕ))) (ss : List Statement) → EachLine sizes lines ss → map statement_on (map words_text lines) ≡ ss
each_says sizes [] [] h = refl
each_says sizes [] (s ∷ ss) h = absurd h
each_says sizes (words ∷ lines) [] h = absurd h
each_says sizes (words ∷ lines) (s ∷ ss) h = λ i. line_says words s h.0.printed h.0.says i ∷ each_says sizes lines ss h.2 i

passes_all : (sizes : Sizes) (done : List (List ℕ)) (lines : List (List (List ℕ))) (ss : List Statement) → EachLine sizes lines ss → Passes done (length done) → first_given given_sizes (map statement_on done) ≡ Some sizes
    → apart (map statement_on done) ss ≡ true → Passes (done ++ map words_text lines) (length (done ++ map words_text lines))
passes_all sizes done [] [] h pass given free = subst (λ (l : List (List ℕ)). Passes l (length l)) (sym (append-nil done)) pass
passes_all sizes done [] (s ∷ ss) h pass given free = absurd h
passes_all sizes done (words ∷ lines) [] h pass given free = absurd h
passes_all sizes done (words ∷ lines) (s ∷ ss) h pass given free =
    let line = words_text words in
    let says : statement_on line ≡ s = line_says words s h.0.printed h.0.says in
    let parts = and_parts (not (list_any (clashes s) (map statement_on done))) (apart (map statement_on done ++ s ∷ []) ss) free in
    let fault : line_fault (map statement_on done) line ≡ None =
    line_passes (map statement_on done) words h.0.printed h.0.few ∙ h.0.tests (map statement_on done) sizes given ∙ no_fault sizes (map statement_on done) s h.1 parts.0 in
    let next : map statement_on (done ++ line ∷ []) ≡ map statement_on done ++ s ∷ [] = map-push done line ∙ ap (λ (t : Statement). map statement_on done ++ t ∷ []) says in
    subst (λ (l : List (List ℕ)). Passes l (length l)) (append_assoc done (line ∷ []) (map words_text lines))
    (passes_all sizes (done ++ line ∷ []) lines ss h.2 (passes-push done line pass fault)
    (ap (first_given given_sizes) next ∙ first_given-kept given_sizes (map statement_on done) s sizes given)
    (ap (λ (l : List Statement). apart l ss) next ∙ parts.1))

-- ---- the last line alone is an `e` line
abbrev stops : List Statement → Bool
stops [] = true
stops (s ∷ ss) = if is_end s then length ss == 0 else stops ss

goes_on : (ss rs : List Statement) → list_all (λ s. not (is_end s)) ss ≡ true → stops rs ≡ true → stops (ss ++ rs) ≡ true
goes_on [] rs h k = k
goes_on (s ∷ ss) rs h k =
    let parts = and_parts (not (is_end s)) (list_all (λ t. not (is_end t)) ss) h in
    cond-false (is_end s) (length (ss ++ rs) == 0) (stops (ss ++ rs)) (not-true (is_end s) parts.0) ∙ goes_on ss rs parts.1 k

empty : (lines : List (List ℕ)) → length lines ≡ 0 → lines ≡ []
empty [] h = refl
empty (line ∷ lines) h = absurd (omega arith)

all_looked_at : (lines : List (List ℕ)) → stops (map statement_on lines) ≡ true → looked_at lines ≡ lines
all_looked_at [] h = refl
all_looked_at (line ∷ lines) h = elim (cases_Bool (ends line)) [
  | inl last ↦
      let count : length (map statement_on lines) ≡ 0 = eqb-true (length (map statement_on lines)) 0 (sym (cond-true (ends line) (length (map statement_on lines) == 0) (stops (map statement_on lines)) last) ∙ h) in
      ap (λ (l : List (List ℕ)). line ∷ l) (cond-true (ends line) [] (looked_at lines) last ∙ sym (empty lines (sym (length-map lines statement_on) ∙ count)))
  | inr more ↦
      ap (λ (l : List (List ℕ)). line ∷ l) (cond-false (ends line) [] (looked_at lines) more
      ∙ all_looked_at lines (sym (cond-false (ends line) (length (map statement_on lines) == 0) (stops (map statement_on lines)) more) ∙ h))
]

no_end : (k : ℕ) (ss : List Statement) → k < 7 → has_key kind k ss ≡ true → list_all (λ s. not (is_end s)) ss ≡ true
no_end k [] small h = refl
no_end k (s ∷ ss) small h =
    let parts = and_parts (kind s == k) (has_key kind k ss) h in
    and_from (not (is_end s)) _ (other s (λ e. let same : 7 ≡ k = sym e ∙ eqb-true (kind s) k parts.0 in absurd (omega arith))) (no_end k ss small parts.1)
  where
    other : (s : Statement) → (kind s ≡ 7 → ⊥) → not (is_end s) ≡ true
    other End h = absurd (h refl)
    other Silent h = refl
    other (Heading t) h = refl
    other (Entry m i j number) h = refl
    other (Limit axis n bound) h = refl

statements_stop : (problem : Problem) → stops (statements problem) ≡ true
statements_stop problem =
    goes_on (part problem 1) _ (no_end 1 (part problem 1) (omega arith) (part_key problem 1))
    (goes_on (part problem 2) _ (no_end 2 (part problem 2) (omega arith) (part_key problem 2))
    (goes_on (part problem 3) _ (no_end 3 (part problem 3) (omega arith) (part_key problem 3))
    (goes_on (part problem 4) _ (no_end 4 (part problem 4) (omega arith) (part_key problem 4))
    (goes_on (part problem 5) _ (no_end 5 (part problem 5) (omega arith) (part_key problem 5))
    (goes_on (part problem 6) (End ∷ []) (no_end 6 (part problem 6) (omega arith) (part_key problem 6)) refl)))))

-- ---- the sizes
cone_number : (cone : Cone) → cone_count (printed_cone cone) ≡ length (cone_vectors cone)
cone_number Orthant = refl
cone_number (Gens vectors) = refl
cone_number (Dual vectors) = refl

cone_total : (cone : Cone) → cone_entries (printed_cone cone) ≡ entry_count (cone_vectors cone)
cone_total Orthant = refl
cone_total (Gens vectors) = refl
cone_total (Dual vectors) = refl

small : (problem : Problem) → are_within_limits (printed_sizes problem) ≡ true → AreSmall problem
small problem h =
    let s = printed_sizes problem in
    let one = and_parts (nat_le s.rows 1000) _ h in
    let two = and_parts (nat_le s.cols 1000) _ one.1 in
    let three = and_parts (nat_le s.objs 20) _ two.1 in
    let four = and_parts (nat_le (cone_count s.cone) 64) _ three.1 in
    let rows : problem.rows ≤ 1000 = leb-true problem.rows 1000 one.0 in
    let cols : problem.cols ≤ 1000 = leb-true problem.cols 1000 two.0 in
    let objs : problem.objs ≤ 20 = leb-true problem.objs 20 three.0 in
    let vectors : cone_count s.cone ≤ 64 = leb-true (cone_count s.cone) 64 four.0 in
    let entries : length problem.a + length problem.o + cone_entries s.cone ≤ 100000 = leb-true (length problem.a + length problem.o + cone_entries s.cone) 100000 four.1 in
    let number = cone_number problem.cone in
    let total = cone_total problem.cone in
    record { rows = omega arith; cols = omega arith; entries = omega arith; objs = omega arith; obj_entries = omega arith; vectors = omega arith; vector_entries = omega arith }

positive : (problem : Problem) → are_positive (printed_sizes problem) ≡ true
positive problem = and_from _ _ (lt-ltb 0 problem.cols problem.some_column) (and_from _ _ (lt-ltb 0 problem.objs problem.some_objective) (some problem.cone problem.cone_vectors))
  where
    some : (cone : Cone) → cone_fits problem.objs cone ≡ true → some_vector (printed_cone cone) ≡ true
    some Orthant h = refl
    some (Gens vectors) h = (and_parts (nat_lt 0 (length vectors)) _ h).0
    some (Dual vectors) h = (and_parts (nat_lt 0 (length vectors)) _ h).0

sizes_pass : (problem : Problem) → are_within_limits (printed_sizes problem) ≡ true → sizes_fault (printed_sizes problem) ≡ None
sizes_pass problem h =
    ap (λ o. option_or o (must (are_within_limits (printed_sizes problem)) LimitPassed)) (passed (are_positive (printed_sizes problem)) OutOfRange (positive problem))
    ∙ passed (are_within_limits (printed_sizes problem)) LimitPassed h

-- ---- the whole file
pub reads_back : (problem : Problem) → All HasWord (printed_numbers problem) → are_within_limits (printed_sizes problem) ≡ true → Reads (problem_text problem) problem
reads_back problem words limits =
    let sizes = printed_sizes problem in
    let heading = heading_line problem (small problem limits) in
    let said = body_said problem (decimals problem (all_decimal (printed_numbers problem) words)) in
    let lines = heading_words problem ∷ said.lines in
    let texts : List (List ℕ) = map words_text lines in
    let text : problem_text problem ≡ flat_map line_text lines = ap (λ (l : List ℕ). line_text (heading_words problem) ++ l) said.same in
    let cut : lines_of (problem_text problem) ≡ texts =
    ap lines_of text ∙ lines_back lines (and_from _ _ (weaker (heading_words problem) heading.printed) (each_plain sizes said.lines (body problem) said.each)) in
    let says : map statement_on texts ≡ statements problem = λ i. line_says (heading_words problem) (Heading sizes) heading.printed heading.says i ∷ each_says sizes said.lines (body problem) said.each i in
    let looked : file_lines (problem_text problem) ≡ texts = ap looked_at cut ∙ all_looked_at texts (ap stops says ∙ statements_stop problem) in
    let first = words_text (heading_words problem) in
    let first_says : statement_on first ≡ Heading sizes = line_says (heading_words problem) (Heading sizes) heading.printed heading.says in
    let first_passes : Passes (first ∷ []) (length (first ∷ [])) =
    passes-push [] first (λ k lt. absurd (omega arith)) (line_passes [] (heading_words problem) heading.printed heading.few ∙ heading.tests ∙ sizes_pass problem limits) in
    let free : apart (Heading sizes ∷ []) (body problem) ≡ true = statements_apart problem (rises_from_cells problem.rows problem.cols 0 0 problem.a problem.a_cells) (rises_from_cells problem.objs problem.cols 0 0 problem.o problem.o_cells) in
    let pass : Passes texts (length texts) =
    passes_all sizes (first ∷ []) said.lines (body problem) said.each first_passes
    (ap (λ (s : Statement). first_given given_sizes (s ∷ [])) first_says) (ap (λ (s : Statement). apart (s ∷ []) (body problem)) first_says ∙ free) in
    let closed : fault_after texts ≡ None =
    ap (λ (l : List Statement). closing_fault (first_given given_sizes l) l) says ∙ ap (λ o. closing_fault o (statements problem)) (sizes_given problem) ∙ passed (counts_fit sizes (statements problem)) CountWrong (counts_back problem) in
    let all : map statement_on (file_lines (problem_text problem)) ≡ statements problem = ap (map statement_on) looked ∙ says in
    record {
      sound = subst (λ (l : List (List ℕ)). HasNoFault l) (sym looked) (record { pass = pass; closed = closed });
      sizes = sizes;
      given = ap (first_given given_sizes) all ∙ sizes_given problem;
      gives = subst (λ (l : List Statement). Gives l sizes problem) (sym all) (gives_back problem);
    }

pub prints_problem : (problem : Problem) (text : List ℕ) → find (λ p. not (is_decimal p)) (printed_numbers problem) ≡ None → text ≡ problem_text problem → Prints problem text
prints_problem problem text decimal same =
    let words = all_words (printed_numbers problem) decimal in
    record { words = words; same = same; round_trip = λ limits. subst (λ (t : List ℕ). Reads t problem) (sym same) (reads_back problem words limits) }
