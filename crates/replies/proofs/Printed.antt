-- The text of a sample file reads as this file.
use Rattle.std.proofs.Common.{◌≡◌, ℕ, zero, suc, ◌+◌, ◌-◌, ◌*◌, ◌/◌, ◌%◌, ◌<◌, ◌≤◌, ◌&&◌, true, Bool, List, [], ◌∷◌, ◌++◌, map, length, replicate, refl, sym, ap, subst, arith, IsTrue, All, pos, ◌-ℤ◌}
use Rattle.std.specs.List.{flat_map}
use Rattle.std.proofs.lemmas.Bool.{and_from, le-leb}
use Rattle.std.proofs.lemmas.Bool.Decides.{nat_tests, Decides-below_and}
use Rattle.std.proofs.lemmas.List.Elements.{All-nil, All-cons, All-head, All-tail, All-append}
use Rattle.exact_field.specs.Rational.{ℚ, zero_ℚ, one_ℚ, whole}
use Rattle.vlp_problem.specs.Cells.{is_within, are_cells, coefficient}
use Rattle.vlp_reader.specs.FirstFault.{Reads}
use Rattle.vlp_reader.specs.Grammar.{cone_count, cone_entries}
use Rattle.vlp_problem.specs.declared.problem.Problem.{Problem}
use Rattle.vlp_problem.specs.declared.problem.Bound.{Bound}
use Rattle.vlp_problem.specs.declared.problem.Bound.TheVariants.{Double}
use Rattle.vlp_problem.specs.declared.problem.Cone.{Cone}
use Rattle.vlp_printer.specs.Decimal.{is_decimal, number_text}
use Rattle.vlp_problem.specs.Values.{printed_numbers, bound_numbers, cone_vectors, duality_entries}
use Rattle.vlp_printer.specs.Printing.{HasWord, IsWithinLimits, IsFirstWithoutWord, printed_cone, problem_text}
use Rattle.vlp_printer.proofs.ReadNumbers.{number_back}
use Rattle.vlp_printer.proofs.RoundTrip.{reads_back}
use Rattle.replies.specs.Draws.{state_after, draw}
use Rattle.replies.specs.Sample.{sample_cols, IsSample}
use Rattle.replies.proofs.Places.{each_value, few_cells}

-- ---- the draws have words
-- whether a test passes at each number below n
abbrev each_below : (ℕ → Bool) → ℕ → Bool
each_below p zero = true
each_below p (suc n) = p n && each_below p n

one_below : (p : ℕ → Bool) (n m : ℕ) → each_below p n ≡ true → m < n → p m ≡ true
one_below p n m h l = (Decides-below_and p (λ k. p k ≡ true) (each_below p) (λ k. (λ e. e, λ e. e)) refl (λ _. refl) n).0 h m l

small_are_decimal : each_below (λ m. is_decimal (whole (pos m -ℤ pos 9))) 19 ≡ true
unfolding whole
small_are_decimal = refl

decimal_draw : (state : ℕ) → is_decimal (whole (draw state)) ≡ true
decimal_draw state = one_below (λ m. is_decimal (whole (pos m -ℤ pos 9))) 19 (state / 65536 % 19) small_are_decimal (omega arith)

own_word : (q : ℚ) → is_decimal q ≡ true → HasWord q
own_word q h = (number_text q, number_back q h)

zero_word : HasWord zero_ℚ
unfolding whole
zero_word = own_word zero_ℚ refl

one_word : HasWord one_ℚ
unfolding whole
one_word = own_word one_ℚ refl

-- ---- all numbers of a sample file have words
box_words : (n : ℕ) → All HasWord (flat_map bound_numbers (replicate n (Double zero_ℚ one_ℚ)))
box_words zero = All-nil HasWord
box_words (suc n) =
    let later = flat_map bound_numbers (replicate n (Double zero_ℚ one_ℚ)) in
    All-cons HasWord zero_ℚ (one_ℚ ∷ later) zero_word (All-cons HasWord one_ℚ later one_word (box_words n))

record Within (rows cols i j : ℕ) : Type 0 where
  row_low : 1 ≤ i
  row_high : i ≤ rows
  col_low : 1 ≤ j
  col_high : j ≤ cols

within : (rows cols i j : ℕ) → is_within rows cols i j ≡ true → Within rows cols i j
within rows cols i j h = record {
  row_low = grind (arith, nat_tests);
  row_high = grind (arith, nat_tests);
  col_low = grind (arith, nat_tests);
  col_high = grind (arith, nat_tests);
}

module _ (number : ℕ) (file : Problem) (s : IsSample number file) where
  entry_word : (i j : ℕ) → is_within file.objs file.cols i j ≡ true → HasWord (coefficient file.o i j)
  entry_word i j h =
      let w = within file.objs file.cols i j h in
      let objs = s.objs in
      let cols = s.cols in
      let value = s.o i j w.row_low (omega (arith, w.row_high, objs)) w.col_low (omega (arith, w.col_high, cols)) in
      subst HasWord (sym value) (own_word _ (decimal_draw (state_after number ((i - 1) * sample_cols number + j))))

  pub all_words : All HasWord (printed_numbers file)
  all_words =
      All-append HasWord (map (λ c. c.value) file.a) _ (subst (λ l. All HasWord (map (λ c. c.value) l)) (sym s.a) (All-nil HasWord))
      (All-append HasWord (map (λ c. c.value) file.o) _
      (each_value HasWord file.objs file.cols 0 0 file.o file.o_cells (λ i j w b. entry_word i j w))
      (All-append HasWord (duality_entries file.duality) _ (subst (λ f. All HasWord (duality_entries f)) (sym s.duality) (All-nil HasWord))
      (All-append HasWord (flat_map (λ v. v) (cone_vectors file.cone)) _ (subst (λ (c : Cone). All HasWord (flat_map (λ v. v) (cone_vectors c))) (sym s.cone) (All-nil HasWord))
      (All-append HasWord (flat_map bound_numbers file.row_bounds) _
      (subst (λ (b : List Bound). All HasWord (flat_map bound_numbers b)) (sym s.row_bounds) (All-nil HasWord))
      (subst (λ (b : List Bound). All HasWord (flat_map bound_numbers b)) (sym s.col_bounds) (box_words (sample_cols number)))))))

  few : length file.o ≤ 99
  few =
      let objs = s.objs in
      let cols = s.cols in
      let narrow : file.cols ≤ 24 = omega (arith, cols) in
      let cells = subst (λ (n : ℕ). IsTrue (are_cells n file.cols file.o)) objs file.o_cells in
      let most = few_cells file.cols 0 0 file.o narrow (omega arith) (omega arith) cells in
      omega (arith, most)

  within_limits : IsWithinLimits file
  within_limits =
      let no_vectors : cone_count (printed_cone file.cone) ≡ 0 = ap (λ (c : Cone). cone_count (printed_cone c)) s.cone in
      let no_entries : cone_entries (printed_cone file.cone) ≡ 0 = ap (λ (c : Cone). cone_entries (printed_cone c)) s.cone in
      let none : length file.a ≡ 0 = ap length s.a in
      let rows = s.rows in
      let cols = s.cols in
      let objs = s.objs in
      let most = few in
      and_from _ _ (le-leb file.rows 1000 (omega (arith, rows))) (and_from _ _ (le-leb file.cols 1000 (omega (arith, cols)))
      (and_from _ _ (le-leb file.objs 20 (omega (arith, objs))) (and_from _ _ (le-leb (cone_count (printed_cone file.cone)) 64 (omega (arith, no_vectors)))
      (le-leb (length file.a + length file.o + cone_entries (printed_cone file.cone)) 100000 (omega (arith, none, most, no_entries))))))

  pub reads : Reads (problem_text file) file
  reads = reads_back file all_words within_limits

-- ---- so no number of it is one without a word
without_front : (P : ℚ → Type 0) (xs : List ℚ) (q : ℚ) (ys : List ℚ) → All P (xs ++ q ∷ ys) → P q
without_front P [] q ys h = All-head P q ys h
without_front P (x ∷ xs) q ys h = without_front P xs q ys (All-tail P x (xs ++ q ∷ ys) h)

pub no_first : (number : ℕ) (file : Problem) (q : ℚ) → IsSample number file → IsFirstWithoutWord (printed_numbers file) q → ⊥
no_first number file q s h = h.no_word (without_front HasWord h.before q h.after (subst (All HasWord) h.place (all_words number file s)))
