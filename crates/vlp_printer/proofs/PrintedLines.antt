-- What each line that is printed says.
use Rattle.std.proofs.Common.{◌≡◌, refl, ℕ, suc, ◌+◌, ◌^◌, ◌<◌, ◌≤◌, Bool, true, false, not, ◌&&◌, ◌==◌, nat_lt, nat_le, ℤ, pos, negsuc, List, [], ◌∷◌, ◌++◌, length, decimal, codes, Option, None, Some, unwrap_or, Result, Ok, arith, ap, sym, ◌∙◌}
use Rattle.std.specs.Char.{is_ascii_digit}
use Rattle.std.specs.Fmt.{signed_decimal}
use Rattle.std.specs.List.{list_all}
use Rattle.std.specs.Option.{option_map}
use Rattle.std.specs.Str.{all_ascii_digits}
use Rattle.std.proofs.lemmas.Bool.{not-true, and_parts, and_from, cond-false, cond_both, lt-ltb, le-leb, ne_eqb, false≢true}
use Rattle.std.proofs.lemmas.Fmt.{length-decimal-le_wide}
use Rattle.std.proofs.lemmas.List.{length-append}
use Rattle.std.proofs.lemmas.List.Folds.{list_all-append}
use Rattle.exact_field.specs.Rational.{ℚ}
use Rattle.vlp_reader.specs.Grammar.{first_given, given_sizes, words_fault, kind_fault, is_kind, formed, statement_fault, sizes_fault}
use Rattle.vlp_reader.specs.Number.{natural, number_of}
use Rattle.vlp_problem.specs.Sides.{is_unsaid}
use Rattle.vlp_reader.specs.Statements.{statement_of, words_statement, entry_of, entry_from, limit_of, limit_from, single_bound, double_bound, in_cone, sizes_of, sizes_from, cone_sizes, cone_from, direction}
use Rattle.vlp_reader.specs.declared.sizes.ConeSizes.{ConeSizes}
use Rattle.vlp_reader.specs.declared.sizes.Sizes.{Sizes}
use Rattle.vlp_reader.specs.declared.statement.Matrix.{Matrix}
use Rattle.vlp_reader.specs.declared.statement.Statement.{Statement}
use Rattle.vlp_reader.specs.declared.statement.Matrix.TheVariants.{Constraints, Objectives, ConeVectors, Duality}
use Rattle.vlp_reader.specs.declared.statement.Statement.TheVariants.{Silent, Heading, Entry, Limit, End}
use Rattle.vlp_reader.specs.declared.fault.FileKind.{FileKind}
use Rattle.vlp_reader.specs.declared.fault.FileKind.TheVariants.{BadLine, Twice}
use Rattle.vlp_problem.specs.declared.problem.Bound.{Bound}
use Rattle.vlp_problem.specs.declared.problem.Bound.TheVariants.{Unsaid, Free, Lower, Upper, Double, Fixed}
use Rattle.vlp_problem.specs.declared.problem.Cone.{Cone}
use Rattle.vlp_problem.specs.declared.problem.Cone.TheVariants.{Orthant, Gens, Dual}
use Rattle.vlp_problem.specs.declared.problem.Dir.{Dir}
use Rattle.vlp_problem.specs.declared.problem.Dir.TheVariants.{Min, Max}
use Rattle.vlp_problem.specs.declared.problem.Problem.{Problem}
use Rattle.vlp_problem.specs.declared.problem.Axis.{Axis}
use Rattle.vlp_problem.specs.declared.problem.Axis.TheVariants.{Row, Column}
use Rattle.vlp_reader.proofs.Digits.{digit_range}
use Rattle.vlp_printer.specs.Decimal.{mantissa, is_short, decimal_text, number_text, is_decimal}
use Rattle.vlp_problem.specs.Values.{bound_numbers, cone_vectors}
use Rattle.vlp_printer.specs.Printing.{bound_words, cone_words, entry_count, printed_cone, printed_sizes, heading_words, direction_word}
use Rattle.vlp_printer.proofs.ReadDigits.{all_digits, some_digit, natural_back}
use Rattle.vlp_printer.proofs.ReadNumbers.{has_decimal, first_power, below_37, number_back}

-- ---- words
abbrev prints : ℕ → Bool
prints b = nat_lt 32 b

-- a plain word of at most 60 bytes
abbrev pub is_printed : List ℕ → Bool
is_printed word = nat_le (length word) 60 && (nat_lt 0 (length word) && list_all prints word)

digits_print : (ds : List ℕ) → all_ascii_digits ds ≡ true → list_all prints ds ≡ true
digits_print [] h = refl
digits_print (d ∷ ds) h =
    let parts = and_parts (is_ascii_digit d) (all_ascii_digits ds) h in
    let low : 48 ≤ d = (digit_range d parts.0).0 in
    and_from (prints d) (list_all prints ds) (lt-ltb 32 d (omega arith)) (digits_print ds parts.1)

pub natural_printed : (n : ℕ) → n < 2 ^ 32 → is_printed (decimal n) ≡ true
natural_printed n h =
    let count : length (decimal n) ≤ 10 = length-decimal-le_wide 10 n (omega arith) (omega arith) (omega arith) in
    and_from _ _ (le-leb (length (decimal n)) 60 (omega arith)) (and_from _ _ (lt-ltb 0 (length (decimal n)) (some_digit n (omega arith))) (digits_print (decimal n) (all_digits n (omega arith))))

-- a mantissa, whose magnitude is below 10^37
record Short (word : List ℕ) : Type 0 where
  most : length word ≤ 38
  some : 0 < length word
  print : list_all prints word ≡ true

short_digits : (n : ℕ) → n < 10 ^ 37 → (length (decimal n) ≤ 37) × (0 < length (decimal n)) × (list_all prints (decimal n) ≡ true)
short_digits n h = (length-decimal-le_wide 37 n (omega arith) h (omega arith), some_digit n (omega arith), digits_print (decimal n) (all_digits n (omega arith)))

short_word : (m : ℤ) → is_short m ≡ true → Short (signed_decimal m)
short_word (pos n) h = let d = short_digits n (below_37 n h) in record { most = omega (arith, d.0); some = d.1; print = d.2 }
short_word (negsuc n) h =
    let d = short_digits (suc n) (below_37 (suc n) h) in
    record { most = omega (arith, d.0); some = omega arith; print = d.2 }

pub number_printed : (q : ℚ) → is_decimal q ≡ true → is_printed (number_text q) ≡ true
number_printed q h =
    let d = has_decimal q h in
    let m : ℤ = mantissa q d.digits in
    let k : ℕ = d.digits in
    let first = first_power q.den 0 37 k d.placed in
    let small : k < 37 = first.high in
    let word = short_word m d.short in
    let count : length (decimal k) ≤ 2 = length-decimal-le_wide 2 k (omega arith) (omega arith) (omega arith) in
    let all : length (signed_decimal m ++ codes "e-" ++ decimal k) ≡ length (signed_decimal m) + 2 + length (decimal k) =
    length-append (signed_decimal m ++ codes "e-") (decimal k) ∙ ap (λ (n : ℕ). n + length (decimal k)) (length-append (signed_decimal m) (codes "e-")) in
    let most : length (signed_decimal m) ≤ 38 = word.most in
    let some : 0 < length (signed_decimal m) = word.some in
    ap is_printed (ap decimal_text d.form)
    ∙ cond_both (k == 0) (signed_decimal m) (signed_decimal m ++ codes "e-" ++ decimal k) (λ (w : List ℕ). is_printed w ≡ true)
    (λ _. and_from _ _ (le-leb (length (signed_decimal m)) 60 (omega arith)) (and_from _ _ (lt-ltb 0 (length (signed_decimal m)) some) word.print))
    (λ _. and_from _ _ (le-leb (length (signed_decimal m ++ codes "e-" ++ decimal k)) 60 (omega arith))
    (and_from _ _ (lt-ltb 0 (length (signed_decimal m ++ codes "e-" ++ decimal k)) (omega arith))
    (list_all-append prints (signed_decimal m ++ codes "e-") (decimal k)
    ∙ and_from _ _ (list_all-append prints (signed_decimal m) (codes "e-") ∙ and_from _ _ word.print refl) (digits_print (decimal k) (all_digits k (omega arith))))))

-- ---- lines
-- words of a line that say s, whose tests after the sizes are those of s
pub record Line (words : List (List ℕ)) (s : Statement) : Type 0 where
  pub printed : list_all is_printed words ≡ true
  pub few : length words ≤ 12
  pub says : words_statement words ≡ s
  pub tests : (earlier : List Statement) (sizes : Sizes) → first_given given_sizes earlier ≡ Some sizes → words_fault earlier words ≡ statement_fault earlier sizes s

-- the letters of kinds of lines after the sizes
abbrev is_further : ℕ → Bool
is_further b = not (b == 99) && (is_kind b && (not (b == 112) && prints b))

line_of : (kind : ℕ) (words : List (List ℕ)) (s : Statement) → is_further kind ≡ true → statement_of kind words ≡ Some s → list_all is_printed words ≡ true → length words ≤ 11 → Line ((kind ∷ []) ∷ words) s
line_of kind words s further form printed few =
    let one = and_parts (not (kind == 99)) (is_kind kind && (not (kind == 112) && prints kind)) further in
    let two = and_parts (is_kind kind) (not (kind == 112) && prints kind) one.1 in
    let three = and_parts (not (kind == 112)) (prints kind) two.1 in
    record {
      printed = and_from _ _ (and_from _ _ refl (and_from _ _ refl (and_from _ _ three.1 refl))) printed;
      few = omega arith;
      says = ap (λ o. unwrap_or o Silent) form;
      tests = λ earlier sizes given.
          cond-false (kind == 99) None _ (not-true (kind == 99) one.0) ∙ cond-false (not (is_kind kind)) (Some BadLine) _ (ap not two.0)
          ∙ ap (λ o. kind_fault earlier o kind words) given ∙ cond-false (kind == 112) (Some Twice) _ (not-true (kind == 112) three.0)
          ∙ ap (λ o. formed o (statement_fault earlier sizes)) form;
    }

-- the words of an entry
entry_words : (i j : ℕ) (q : ℚ) → i < 2 ^ 32 → j < 2 ^ 32 → is_decimal q ≡ true → list_all is_printed (decimal i ∷ decimal j ∷ number_text q ∷ []) ≡ true
entry_words i j q h k d = and_from _ _ (natural_printed i h) (and_from _ _ (natural_printed j k) (and_from _ _ (number_printed q d) refl))

entry_form : (m : Matrix) (i j : ℕ) (q : ℚ) → i < 2 ^ 32 → j < 2 ^ 32 → is_decimal q ≡ true → entry_of m (decimal i ∷ decimal j ∷ number_text q ∷ []) ≡ Some (Entry m i j (Ok q))
entry_form m i j q h k d =
    ap (λ (o : Option ℕ). entry_from m o (natural (decimal j)) (number_of (number_text q))) (natural_back i h)
    ∙ ap (λ (o : Option ℕ). entry_from m (Some i) o (number_of (number_text q))) (natural_back j k)
    ∙ ap (λ (r : Result ℚ FileKind). entry_from m (Some i) (Some j) r) (number_back q d)

-- an entry of the constraints, of the objectives, of the duality vector and of cone vector j
pub constraint_line : (i j : ℕ) (q : ℚ) → i < 2 ^ 32 → j < 2 ^ 32 → is_decimal q ≡ true → Line (codes "a" ∷ decimal i ∷ decimal j ∷ number_text q ∷ []) (Entry Constraints i j (Ok q))
constraint_line i j q h k d = line_of 97 (decimal i ∷ decimal j ∷ number_text q ∷ []) (Entry Constraints i j (Ok q)) refl (entry_form Constraints i j q h k d) (entry_words i j q h k d) (omega arith)

pub objective_line : (i j : ℕ) (q : ℚ) → i < 2 ^ 32 → j < 2 ^ 32 → is_decimal q ≡ true → Line (codes "o" ∷ decimal i ∷ decimal j ∷ number_text q ∷ []) (Entry Objectives i j (Ok q))
objective_line i j q h k d = line_of 111 (decimal i ∷ decimal j ∷ number_text q ∷ []) (Entry Objectives i j (Ok q)) refl (entry_form Objectives i j q h k d) (entry_words i j q h k d) (omega arith)

pub duality_line : (i : ℕ) (q : ℚ) → i < 2 ^ 32 → is_decimal q ≡ true → Line (codes "k" ∷ decimal i ∷ decimal 0 ∷ number_text q ∷ []) (Entry Duality i 1 (Ok q))
duality_line i q h d = line_of 107 (decimal i ∷ decimal 0 ∷ number_text q ∷ []) (Entry Duality i 1 (Ok q)) refl (ap (option_map in_cone) (entry_form ConeVectors i 0 q h (omega arith) d)) (entry_words i 0 q h (omega arith) d) (omega arith)

pub vector_line : (i j : ℕ) (q : ℚ) → i < 2 ^ 32 → j < 2 ^ 32 → 0 < j → is_decimal q ≡ true → Line (codes "k" ∷ decimal i ∷ decimal j ∷ number_text q ∷ []) (Entry ConeVectors i j (Ok q))
vector_line i j q h k some d =
    line_of 107 (decimal i ∷ decimal j ∷ number_text q ∷ []) (Entry ConeVectors i j (Ok q)) refl
    (ap (option_map in_cone) (entry_form ConeVectors i j q h k d)
    ∙ ap (λ (s : Statement). Some s) (cond-false (j == 0) (Entry Duality i 1 (Ok q)) (Entry ConeVectors i j (Ok q)) (ne_eqb j 0 (λ e. absurd (omega arith)))))
    (entry_words i j q h k d) (omega arith)

-- the letter of an axis, and the words of bounds after it
abbrev pub axis_letter : Axis → ℕ
axis_letter Row = 105
axis_letter Column = 106

bound_printed : (b : Bound) → list_all is_decimal (bound_numbers b) ≡ true → (list_all is_printed (bound_words b) ≡ true) × (length (bound_words b) ≤ 3)
bound_printed Unsaid d = (refl, omega arith)
bound_printed Free d = (refl, omega arith)
bound_printed (Lower low) d = (and_from _ _ (number_printed low (and_parts (is_decimal low) true d).0) refl, omega arith)
bound_printed (Upper high) d = (and_from _ _ (number_printed high (and_parts (is_decimal high) true d).0) refl, omega arith)
bound_printed (Fixed value) d = (and_from _ _ (number_printed value (and_parts (is_decimal value) true d).0) refl, omega arith)
bound_printed (Double low high) d =
    let parts = and_parts (is_decimal low) (is_decimal high && true) d in
    (and_from _ _ (number_printed low parts.0) (and_from _ _ (number_printed high (and_parts (is_decimal high) true parts.1).0) refl), omega arith)

limit_form : (axis : Axis) (n : ℕ) (b : Bound) → is_unsaid b ≡ false → n < 2 ^ 32 → list_all is_decimal (bound_numbers b) ≡ true → limit_of axis (decimal n ∷ bound_words b) ≡ Some (Limit axis n (Ok b))
limit_form axis n Unsaid some h d = absurd (false≢true (sym some))
limit_form axis n Free some h d = ap (λ (o : Option ℕ). limit_from axis o (Some (Ok Free))) (natural_back n h)
limit_form axis n (Lower low) some h d =
    ap (λ (o : Option ℕ). limit_from axis o (single_bound 108 (number_of (number_text low)))) (natural_back n h)
    ∙ ap (λ (r : Result ℚ FileKind). limit_from axis (Some n) (single_bound 108 r)) (number_back low (and_parts (is_decimal low) true d).0)
limit_form axis n (Upper high) some h d =
    ap (λ (o : Option ℕ). limit_from axis o (single_bound 117 (number_of (number_text high)))) (natural_back n h)
    ∙ ap (λ (r : Result ℚ FileKind). limit_from axis (Some n) (single_bound 117 r)) (number_back high (and_parts (is_decimal high) true d).0)
limit_form axis n (Fixed value) some h d =
    ap (λ (o : Option ℕ). limit_from axis o (single_bound 115 (number_of (number_text value)))) (natural_back n h)
    ∙ ap (λ (r : Result ℚ FileKind). limit_from axis (Some n) (single_bound 115 r)) (number_back value (and_parts (is_decimal value) true d).0)
limit_form axis n (Double low high) some h d =
    let parts = and_parts (is_decimal low) (is_decimal high && true) d in
    ap (λ (o : Option ℕ). limit_from axis o (Some (double_bound (number_of (number_text low)) (number_of (number_text high))))) (natural_back n h)
    ∙ ap (λ (r : Result ℚ FileKind). limit_from axis (Some n) (Some (double_bound r (number_of (number_text high))))) (number_back low parts.0)
    ∙ ap (λ (r : Result ℚ FileKind). limit_from axis (Some n) (Some (double_bound (Ok low) r))) (number_back high (and_parts (is_decimal high) true parts.1).0)

pub limit_line : (axis : Axis) (n : ℕ) (b : Bound) → is_unsaid b ≡ false → n < 2 ^ 32 → list_all is_decimal (bound_numbers b) ≡ true → Line ((axis_letter axis ∷ []) ∷ decimal n ∷ bound_words b) (Limit axis n (Ok b))
limit_line axis n b some h d =
    let words = bound_printed b d in
    line_of (axis_letter axis) (decimal n ∷ bound_words b) (Limit axis n (Ok b)) (further axis) (kind axis ∙ limit_form axis n b some h d)
    (and_from _ _ (natural_printed n h) words.0) (omega (arith, words.1))
  where
    further : (axis : Axis) → is_further (axis_letter axis) ≡ true
    further Row = refl
    further Column = refl

    kind : (axis : Axis) → statement_of (axis_letter axis) (decimal n ∷ bound_words b) ≡ limit_of axis (decimal n ∷ bound_words b)
    kind Row = refl
    kind Column = refl

pub end_line : Line (codes "e" ∷ []) End
end_line = line_of 101 [] End refl refl refl (omega arith)

-- ---- the problem line
direction_back : (dir : Dir) → direction (direction_word dir) ≡ Some dir
direction_back Min = refl
direction_back Max = refl

cone_back : (cone : Cone) → length (cone_vectors cone) < 2 ^ 32 → entry_count (cone_vectors cone) < 2 ^ 32 → cone_sizes (cone_words cone) ≡ Some (printed_cone cone)
cone_back Orthant h k = refl
cone_back (Gens vectors) h k =
    ap (λ (o : Option ℕ). cone_from (Some false) o (natural (decimal (entry_count vectors)))) (natural_back (length vectors) h)
    ∙ ap (λ (o : Option ℕ). cone_from (Some false) (Some (length vectors)) o) (natural_back (entry_count vectors) k)
cone_back (Dual vectors) h k =
    ap (λ (o : Option ℕ). cone_from (Some true) o (natural (decimal (entry_count vectors)))) (natural_back (length vectors) h)
    ∙ ap (λ (o : Option ℕ). cone_from (Some true) (Some (length vectors)) o) (natural_back (entry_count vectors) k)

cone_printed : (cone : Cone) → length (cone_vectors cone) < 2 ^ 32 → entry_count (cone_vectors cone) < 2 ^ 32 → (list_all is_printed (cone_words cone) ≡ true) × (length (cone_words cone) ≤ 3)
cone_printed Orthant h k = (refl, omega arith)
cone_printed (Gens vectors) h k = (and_from _ _ refl (and_from _ _ (natural_printed (length vectors) h) (and_from _ _ (natural_printed (entry_count vectors) k) refl)), omega arith)
cone_printed (Dual vectors) h k = (and_from _ _ refl (and_from _ _ (natural_printed (length vectors) h) (and_from _ _ (natural_printed (entry_count vectors) k) refl)), omega arith)

-- what the problem line needs: its sizes are below 2^32
pub record AreSmall (problem : Problem) : Type 0 where
  pub rows : problem.rows < 2 ^ 32
  pub cols : problem.cols < 2 ^ 32
  pub entries : length problem.a < 2 ^ 32
  pub objs : problem.objs < 2 ^ 32
  pub obj_entries : length problem.o < 2 ^ 32
  pub vectors : length (cone_vectors problem.cone) < 2 ^ 32
  pub vector_entries : entry_count (cone_vectors problem.cone) < 2 ^ 32

sizes_form : (problem : Problem) → AreSmall problem
    → sizes_of (codes "vlp" ∷ direction_word problem.dir ∷ decimal problem.rows ∷ decimal problem.cols ∷ decimal (length problem.a) ∷ decimal problem.objs ∷ decimal (length problem.o) ∷ cone_words problem.cone) ≡ Some (printed_sizes problem)
sizes_form problem s =
    ap (λ (o : Option Dir). sizes_from o (natural (decimal problem.rows)) (natural (decimal problem.cols)) (natural (decimal (length problem.a))) (natural (decimal problem.objs)) (natural (decimal (length problem.o))) (cone_sizes (cone_words problem.cone))) (direction_back problem.dir)
    ∙ ap (λ (o : Option ℕ). sizes_from (Some problem.dir) o (natural (decimal problem.cols)) (natural (decimal (length problem.a))) (natural (decimal problem.objs)) (natural (decimal (length problem.o))) (cone_sizes (cone_words problem.cone))) (natural_back problem.rows s.rows)
    ∙ ap (λ (o : Option ℕ). sizes_from (Some problem.dir) (Some problem.rows) o (natural (decimal (length problem.a))) (natural (decimal problem.objs)) (natural (decimal (length problem.o))) (cone_sizes (cone_words problem.cone))) (natural_back problem.cols s.cols)
    ∙ ap (λ (o : Option ℕ). sizes_from (Some problem.dir) (Some problem.rows) (Some problem.cols) o (natural (decimal problem.objs)) (natural (decimal (length problem.o))) (cone_sizes (cone_words problem.cone))) (natural_back (length problem.a) s.entries)
    ∙ ap (λ (o : Option ℕ). sizes_from (Some problem.dir) (Some problem.rows) (Some problem.cols) (Some (length problem.a)) o (natural (decimal (length problem.o))) (cone_sizes (cone_words problem.cone))) (natural_back problem.objs s.objs)
    ∙ ap (λ (o : Option ℕ). sizes_from (Some problem.dir) (Some problem.rows) (Some problem.cols) (Some (length problem.a)) (Some problem.objs) o (cone_sizes (cone_words problem.cone))) (natural_back (length problem.o) s.obj_entries)
    ∙ ap (λ (o : Option (Option ConeSizes)). sizes_from (Some problem.dir) (Some problem.rows) (Some problem.cols) (Some (length problem.a)) (Some problem.objs) (Some (length problem.o)) o) (cone_back problem.cone s.vectors s.vector_entries)

-- the problem line, where nothing stands before it
pub record HeadingLine (problem : Problem) : Type 0 where
  pub printed : list_all is_printed (heading_words problem) ≡ true
  pub few : length (heading_words problem) ≤ 12
  pub says : words_statement (heading_words problem) ≡ Heading (printed_sizes problem)
  pub tests : words_fault [] (heading_words problem) ≡ sizes_fault (printed_sizes problem)

pub heading_line : (problem : Problem) → AreSmall problem → HeadingLine problem
heading_line problem s =
    let cone = cone_printed problem.cone s.vectors s.vector_entries in
    record {
      printed = and_from _ _ refl (and_from _ _ refl (and_from _ _ (direction_printed problem.dir) (and_from _ _ (natural_printed problem.rows s.rows) (and_from _ _ (natural_printed problem.cols s.cols) (and_from _ _ (natural_printed (length problem.a) s.entries)
          (and_from _ _ (natural_printed problem.objs s.objs) (and_from _ _ (natural_printed (length problem.o) s.obj_entries) cone.0)))))));
      few = omega (arith, cone.1);
      says = ap (λ (o : Option Sizes). unwrap_or (option_map Heading o) Silent) (sizes_form problem s);
      tests = ap (λ (o : Option Sizes). formed o sizes_fault) (sizes_form problem s);
    }
  where
    direction_printed : (dir : Dir) → is_printed (direction_word dir) ≡ true
    direction_printed Min = refl
    direction_printed Max = refl
