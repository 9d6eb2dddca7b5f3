-- The cells of the rows that are drawn are those of a matrix with the draws as its entries.
use Rattle.std.proofs.Common.{◌≡◌, ℕ, zero, suc, ◌+◌, ◌-◌, ◌*◌, ◌%◌, ◌^◌, ◌≤◌, false, List, [], ◌∷◌, ◌++◌, if◌then◌else◌, refl, sym, ap, ap₂, ◌∙◌, subst, arith, IsTrue}
use Rattle.std.proofs.lemmas.Bool.{cond-true, cond-false, cond_both}
use Rattle.std.proofs.lemmas.Bool.Decides.{nat_tests}
use Rattle.std.proofs.lemmas.List.{append_assoc}
use Rattle.exact_field.specs.Rational.{ℚ, zero_ℚ, whole}
use Rattle.frac128.specs.Sparse.{is_zero}
use Rattle.vlp_problem.specs.Cells.{is_within, are_cells, coefficient}
use Rattle.vlp_problem.specs.declared.problem.Cell.{Cell}
use Rattle.vlp_reader.proofs.BuiltCells.{cell_at, row_cells, built_cells, built_are_cells, built_entries}
use Rattle.replies.specs.Draws.{state_after, draw}
use Rattle.replies.specs.Drawn.{drawn, drawn_row, HasDraws}

-- ---- draws after draws
state_more : (number k : ℕ) (j : ℕ) → state_after (state_after number k) j ≡ state_after number (k + j)
state_more number k zero = ap (state_after number) (omega arith)
state_more number k (suc j) =
    let step : suc (k + j) ≡ k + suc j = omega arith in
    ap (λ t. (t * 1103515245 + 12345) % 2 ^ 31) (state_more number k j) ∙ ap (state_after number) step

-- ---- rows
-- the cells of a row before others
row_before : (f : ℕ → ℕ → ℚ) (row k n : ℕ) (rest : List Cell) → row_cells f row k n rest ≡ row_cells f row k n [] ++ rest
row_before f row k zero rest = refl
row_before f row k (suc n) rest =
    let next = row_cells f row (suc k) n [] in
    let more = row_before f row (suc k) n rest in
    ap (λ l. if is_zero (f row k) then l else (cell_at f row k ∷ l)) more
    ∙ cond_both (is_zero (f row k)) next (cell_at f row k ∷ next) (λ l. (if is_zero (f row k) then next ++ rest else (cell_at f row k ∷ (next ++ rest))) ≡ l ++ rest)
    (λ t. cond-true (is_zero (f row k)) _ _ t) (λ t. cond-false (is_zero (f row k)) _ _ t)

-- and those with one column more
row_more : (f : ℕ → ℕ → ℚ) (row k n : ℕ) → row_cells f row k (suc n) [] ≡ row_cells f row k n [] ++ drawn row (k + n) (f row (k + n))
row_more f row k zero =
    let same : k ≡ k + 0 = omega arith in
    ap (λ c. drawn row c (f row c)) same
row_more f row k (suc n) =
    let next = row_cells f row (suc k) n [] in
    let step : suc k + n ≡ k + suc n = omega arith in
    let last = drawn row (k + suc n) (f row (k + suc n)) in
    let more : row_cells f row (suc k) (suc n) [] ≡ next ++ last = row_more f row (suc k) n ∙ ap (λ c. next ++ drawn row c (f row c)) step in
    ap (λ l. if is_zero (f row k) then l else (cell_at f row k ∷ l)) more
    ∙ cond_both (is_zero (f row k)) next (cell_at f row k ∷ next) (λ l. (if is_zero (f row k) then next ++ last else (cell_at f row k ∷ (next ++ last))) ≡ l ++ last)
    (λ t. cond-true (is_zero (f row k)) _ _ t) (λ t. cond-false (is_zero (f row k)) _ _ t)

-- the row that is drawn is the row of a function with these values
row_drawn : (f : ℕ → ℕ → ℚ) (state row n : ℕ) → ((j : ℕ) → 1 ≤ j → j ≤ n → f row j ≡ whole (draw (state_after state j))) →
    drawn_row state row n ≡ row_cells f row 1 n []
row_drawn f state row zero h = refl
row_drawn f state row (suc n) h =
    let step : suc n ≡ 1 + n = omega arith in
    ap₂ (λ a b. a ++ b) (row_drawn f state row n (λ j l u. h j l (omega (arith, u)))) (ap (drawn row (suc n)) (sym (h (suc n) (omega arith) (omega arith))))
    ∙ ap (λ c. row_cells f row 1 n [] ++ drawn row c (f row c)) step ∙ sym (row_more f row 1 n)

-- ---- the matrix
module _ (number cols : ℕ) where
  abbrev value : ℕ → ℕ → ℚ
  value i j = whole (draw (state_after number ((i - 1) * cols + j)))

  abbrev entries : ℕ → ℕ → ℚ
  entries i j = if is_within 3 cols i j then value i j else zero_ℚ

  there : (i j : ℕ) → 1 ≤ i → i ≤ 3 → 1 ≤ j → j ≤ cols → entries i j ≡ value i j
  there i j a b c d = cond-true (is_within 3 cols i j) (value i j) zero_ℚ (grind (arith, nat_tests))

  elsewhere : (i j : ℕ) → is_within 3 cols i j ≡ false → entries i j ≡ zero_ℚ
  elsewhere i j h = cond-false (is_within 3 cols i j) (value i j) zero_ℚ h

  abbrev second : ℕ
  second = state_after number cols

  abbrev third : ℕ
  third = state_after second cols

  row_one : drawn_row number 1 cols ≡ row_cells entries 1 1 cols []
  row_one = row_drawn entries number 1 cols (λ j l u. there 1 j (omega arith) (omega arith) l u ∙ ap (λ k. whole (draw (state_after number k))) (omega arith))

  row_two : drawn_row second 2 cols ≡ row_cells entries 2 1 cols []
  row_two = row_drawn entries second 2 cols (λ j l u. there 2 j (omega arith) (omega arith) l u
      ∙ ap (λ k. whole (draw (state_after number k))) (omega arith) ∙ ap (λ t. whole (draw t)) (sym (state_more number cols j)))

  row_three : drawn_row third 3 cols ≡ row_cells entries 3 1 cols []
  row_three = row_drawn entries third 3 cols (λ j l u. there 3 j (omega arith) (omega arith) l u
      ∙ ap (λ k. whole (draw (state_after number k))) (omega arith)
      ∙ ap (λ t. whole (draw t)) (sym (state_more second cols j ∙ state_more number cols (cols + j))))

  all_rows : (drawn_row number 1 cols ++ drawn_row second 2 cols) ++ drawn_row third 3 cols ≡ built_cells entries cols 1 3
  all_rows =
      append_assoc (drawn_row number 1 cols) (drawn_row second 2 cols) (drawn_row third 3 cols)
      ∙ ap₂ (λ a b. a ++ b) row_one (ap₂ (λ a b. a ++ b) row_two row_three ∙ sym (row_before entries 2 1 cols (row_cells entries 3 1 cols [])))
      ∙ sym (row_before entries 1 1 cols (row_cells entries 2 1 cols (row_cells entries 3 1 cols [])))

  pub has_draws : (cells : List Cell) → cells ≡ (drawn_row number 1 cols ++ drawn_row second 2 cols) ++ drawn_row third 3 cols → HasDraws number cols cells
  has_draws cells e =
      let same : cells ≡ built_cells entries cols 1 3 = e ∙ all_rows in
      record {
        are_cells = subst (λ (l : List Cell). IsTrue (are_cells 3 cols l)) (sym same) (built_are_cells entries 3 cols);
        entries = λ i j a b c d. ap (λ (l : List Cell). coefficient l i j) same ∙ built_entries entries 3 cols elsewhere i j ∙ there i j a b c d;
      }

-- three rows one after the other
pub three_rows : (number cols after last : ℕ) (none one two three : List Cell) → none ≡ [] → after ≡ state_after number cols → last ≡ state_after after cols →
    one ≡ none ++ drawn_row number 1 cols → two ≡ one ++ drawn_row after 2 cols → three ≡ two ++ drawn_row last 3 cols → HasDraws number cols three
three_rows number cols after last none one two three empty second_is third_is a b c =
    let first_row : one ≡ drawn_row number 1 cols = a ∙ ap (λ l. l ++ drawn_row number 1 cols) empty in
    let second_row : two ≡ drawn_row number 1 cols ++ drawn_row (second number cols) 2 cols = b ∙ ap₂ (λ l s. l ++ drawn_row s 2 cols) first_row second_is in
    let state : last ≡ third number cols = third_is ∙ ap (λ s. state_after s cols) second_is in
    has_draws number cols three (c ∙ ap₂ (λ l s. l ++ drawn_row s 3 cols) second_row state)
