-- Bytes read as one problem.
use Rattle.std.proofs.Common.{◌≡◌, refl, ℕ, ◌≤◌, ◌<◌, inl, inr, Bool, true, false, not, ◌&&◌, ◌==◌, IsTrue, List, [], ◌∷◌, length, map, arith, ap, sym, ◌∙◌, subst}
use Rattle.std.proofs.lemmas.Bool.{and_parts, and_from, cond-true, cond-false, cases_Bool, false≢true}
use Rattle.std.proofs.lemmas.Bool.Decides.{nat_tests}
use Rattle.std.proofs.lemmas.Option.{same_Some}
use Rattle.std.specs.Coded.{le_prop}
use Rattle.std.proofs.Math.Bool.{Bool-set}
use Rattle.std.proofs.Math.Nat.{ℕ_set}
use mathlib.Core.HLevel.{is_prop→PathP}
use Rattle.exact_field.specs.Rational.{ℚ, whole, zero_ℚ}
use Rattle.frac128.specs.Sparse.{is_zero}
use Rattle.vlp_problem.specs.Cells.{place_before, is_within, cells_after, are_cells, coefficient}
use Rattle.vlp_problem.specs.Cones.{cone_fits, duality_fits}
use Rattle.vlp_reader.specs.FirstFault.{file_lines, Reads}
use Rattle.vlp_reader.specs.Grammar.{Gives}
use Rattle.vlp_reader.specs.Statements.{statement_on}
use Rattle.vlp_reader.specs.declared.sizes.Sizes.{Sizes}
use Rattle.vlp_reader.specs.declared.statement.Statement.{Statement}
use Rattle.vlp_problem.specs.declared.problem.Problem.{Problem}
use Rattle.vlp_problem.specs.declared.problem.Cell.{Cell}
use Rattle.vlp_problem.proofs.CellPlaces.{coefficient_after, not_before_itself, rises_from_cells}

same_cell : (c d : Cell) → c.row ≡ d.row → c.col ≡ d.col → c.value ≡ d.value → c ≡ d
same_cell c d r k v = λ i. record { row = r i; col = k i; value = v i }

zero_test : is_zero zero_ℚ ≡ true
unfolding whole
zero_test = refl

not_zero : (q : ℚ) → not (is_zero q) ≡ true → q ≡ zero_ℚ → ⊥
not_zero q h e = false≢true (sym (ap not (ap is_zero e ∙ zero_test)) ∙ h)

data Order (m n row col : ℕ) : Type 0 where
  first : place_before m n row col ≡ true → Order m n row col
  here : m ≡ row → n ≡ col → Order m n row col
  last : place_before row col m n ≡ true → Order m n row col

order_by : (m n row col : ℕ) (a b : Bool) → place_before m n row col ≡ a → place_before row col m n ≡ b → Order m n row col
order_by m n row col true b p q = first p
order_by m n row col false true p q = last q
order_by m n row col false false p q = here (same_rows m n row col p q) (same_cols m n row col p q)
  where
    same_rows : (m n row col : ℕ) → place_before m n row col ≡ false → place_before row col m n ≡ false → m ≡ row
    same_rows m n row col p q = grind (arith, nat_tests)

    same_cols : (m n row col : ℕ) → place_before m n row col ≡ false → place_before row col m n ≡ false → n ≡ col
    same_cols m n row col p q = grind (arith, nat_tests)

same_at_itself : (row col : ℕ) → (row == row && col == col) ≡ true
same_at_itself row col = grind (arith, nat_tests)

-- the head of cells has its value
at_head : (c : Cell) (cells : List Cell) → coefficient (c ∷ cells) c.row c.col ≡ c.value
at_head c cells = cond-true (c.row == c.row && c.col == c.col) c.value (coefficient cells c.row c.col) (same_at_itself c.row c.col)

pub same_cells : (rows cols i j : ℕ) (cs ds : List Cell) → IsTrue (cells_after rows cols i j cs) → IsTrue (cells_after rows cols i j ds)
    → ((row col : ℕ) → coefficient cs row col ≡ coefficient ds row col) → cs ≡ ds
same_cells rows cols i j [] [] h k e = refl
same_cells rows cols i j [] (d ∷ ds) h k e =
    let one = and_parts (place_before i j d.row d.col) (is_within rows cols d.row d.col && (not (is_zero d.value) && cells_after rows cols d.row d.col ds)) k in
    let two = and_parts (is_within rows cols d.row d.col) (not (is_zero d.value) && cells_after rows cols d.row d.col ds) one.1 in
    let three = and_parts (not (is_zero d.value)) (cells_after rows cols d.row d.col ds) two.1 in
    absurd (not_zero d.value three.0 (sym (at_head d ds) ∙ sym (e d.row d.col)))
same_cells rows cols i j (c ∷ cs) [] h k e =
    let one = and_parts (place_before i j c.row c.col) (is_within rows cols c.row c.col && (not (is_zero c.value) && cells_after rows cols c.row c.col cs)) h in
    let two = and_parts (is_within rows cols c.row c.col) (not (is_zero c.value) && cells_after rows cols c.row c.col cs) one.1 in
    let three = and_parts (not (is_zero c.value)) (cells_after rows cols c.row c.col cs) two.1 in
    absurd (not_zero c.value three.0 (sym (at_head c cs) ∙ e c.row c.col))
same_cells rows cols i j (c ∷ cs) (d ∷ ds) h k e =
    let one = and_parts (place_before i j c.row c.col) (is_within rows cols c.row c.col && (not (is_zero c.value) && cells_after rows cols c.row c.col cs)) h in
    let two = and_parts (is_within rows cols c.row c.col) (not (is_zero c.value) && cells_after rows cols c.row c.col cs) one.1 in
    let three = and_parts (not (is_zero c.value)) (cells_after rows cols c.row c.col cs) two.1 in
    let uno = and_parts (place_before i j d.row d.col) (is_within rows cols d.row d.col && (not (is_zero d.value) && cells_after rows cols d.row d.col ds)) k in
    let due = and_parts (is_within rows cols d.row d.col) (not (is_zero d.value) && cells_after rows cols d.row d.col ds) uno.1 in
    let tre = and_parts (not (is_zero d.value)) (cells_after rows cols d.row d.col ds) due.1 in
    elim (order_by c.row c.col d.row d.col (place_before c.row c.col d.row d.col) (place_before d.row d.col c.row c.col) refl refl) [
      | first before ↦ absurd (not_zero c.value three.0 (sym (at_head c cs) ∙ e c.row c.col ∙ past c d ds before tre.1))
      | last before ↦ absurd (not_zero d.value tre.0 (sym (at_head d ds) ∙ sym (e d.row d.col) ∙ past d c cs before three.1))
      | here r l ↦
          let heads : c ≡ d = same_cell c d r l (sym (at_head c cs) ∙ e c.row c.col ∙ ap (λ m. coefficient (d ∷ ds) m c.col) r ∙ ap (λ n. coefficient (d ∷ ds) d.row n) l ∙ at_head d ds) in
          let rest : IsTrue (cells_after rows cols c.row c.col ds) = subst (λ (x : Cell). IsTrue (cells_after rows cols x.row x.col ds)) (sym heads) tre.1 in
          let tails : cs ≡ ds = same_cells rows cols c.row c.col cs ds three.1 rest (λ row col.
          elim (cases_Bool (c.row == row && c.col == col)) [
            | inl at ↦ coefficient_after c.row c.col row col cs (rises_from_cells rows cols c.row c.col cs three.1) (not_before_itself c.row c.col row col at)
                ∙ sym (coefficient_after c.row c.col row col ds (rises_from_cells rows cols c.row c.col ds rest) (not_before_itself c.row c.col row col at))
            | inr off ↦ sym (cond-false (c.row == row && c.col == col) c.value (coefficient cs row col) off) ∙ e row col
                ∙ ap (λ (x : Cell). coefficient (x ∷ ds) row col) (sym heads) ∙ cond-false (c.row == row && c.col == col) c.value (coefficient ds row col) off
          ]) in
          λ t. heads t ∷ tails t
    ]
  where
    past : (c d : Cell) (ds : List Cell) → place_before c.row c.col d.row d.col ≡ true → IsTrue (cells_after rows cols d.row d.col ds) → coefficient (d ∷ ds) c.row c.col ≡ zero_ℚ
    past c d ds before after = coefficient_after c.row c.col c.row c.col (d ∷ ds) (and_from _ _ before (rises_from_cells rows cols d.row d.col ds after)) (not_before_itself c.row c.col c.row c.col (same_at_itself c.row c.col))

-- problems with the same parts are one: what a problem says of its parts is said in one way only
same_parts : (f g : Problem) → f.dir ≡ g.dir → f.rows ≡ g.rows → f.cols ≡ g.cols → f.objs ≡ g.objs → f.a ≡ g.a → f.o ≡ g.o → f.row_bounds ≡ g.row_bounds
    → f.col_bounds ≡ g.col_bounds → f.cone ≡ g.cone → f.duality ≡ g.duality → f ≡ g
same_parts f g dir rows cols objs a o row_bounds col_bounds cone duality = λ i.
    record {
      dir = dir i;
      rows = rows i;
      cols = cols i;
      objs = objs i;
      a = a i;
      o = o i;
      row_bounds = row_bounds i;
      col_bounds = col_bounds i;
      cone = cone i;
      duality = duality i;
      rows_bounded = is_prop→PathP (λ j. rows j ≤ 100000) (λ j. le_prop) f.rows_bounded g.rows_bounded i;
      some_column = is_prop→PathP (λ j. 0 < cols j) (λ j. le_prop) f.some_column g.some_column i;
      cols_bounded = is_prop→PathP (λ j. cols j ≤ 100000) (λ j. le_prop) f.cols_bounded g.cols_bounded i;
      some_objective = is_prop→PathP (λ j. 0 < objs j) (λ j. le_prop) f.some_objective g.some_objective i;
      objs_bounded = is_prop→PathP (λ j. objs j ≤ 100000) (λ j. le_prop) f.objs_bounded g.objs_bounded i;
      a_cells = is_prop→PathP (λ j. IsTrue (are_cells (rows j) (cols j) (a j))) (λ j. hlevel (Bool-set)) f.a_cells g.a_cells i;
      o_cells = is_prop→PathP (λ j. IsTrue (are_cells (objs j) (cols j) (o j))) (λ j. hlevel (Bool-set)) f.o_cells g.o_cells i;
      row_count = is_prop→PathP (λ j. length (row_bounds j) ≡ rows j) (λ j. hlevel (ℕ_set)) f.row_count g.row_count i;
      col_count = is_prop→PathP (λ j. length (col_bounds j) ≡ cols j) (λ j. hlevel (ℕ_set)) f.col_count g.col_count i;
      cone_vectors = is_prop→PathP (λ j. IsTrue (cone_fits (objs j) (cone j))) (λ j. hlevel (Bool-set)) f.cone_vectors g.cone_vectors i;
      duality_entries = is_prop→PathP (λ j. IsTrue (duality_fits (objs j) (duality j))) (λ j. hlevel (Bool-set)) f.duality_entries g.duality_entries i;
    }

same_problem : (statements : List Statement) (s : Sizes) (f g : Problem) → Gives statements s f → Gives statements s g → f ≡ g
same_problem statements s f g h k =
    same_parts f g (h.dir ∙ sym k.dir) (h.rows ∙ sym k.rows) (h.cols ∙ sym k.cols) (h.objs ∙ sym k.objs)
    (same_cells f.rows f.cols 0 0 f.a g.a f.a_cells
    (subst (λ (n : ℕ). IsTrue (cells_after n f.cols 0 0 g.a)) (k.rows ∙ sym h.rows) (subst (λ (n : ℕ). IsTrue (cells_after g.rows n 0 0 g.a)) (k.cols ∙ sym h.cols) g.a_cells))
    (λ row col. h.a row col ∙ sym (k.a row col)))
    (same_cells f.objs f.cols 0 0 f.o g.o f.o_cells
    (subst (λ (n : ℕ). IsTrue (cells_after n f.cols 0 0 g.o)) (k.objs ∙ sym h.objs) (subst (λ (n : ℕ). IsTrue (cells_after g.objs n 0 0 g.o)) (k.cols ∙ sym h.cols) g.o_cells))
    (λ row col. h.o row col ∙ sym (k.o row col)))
    (h.row_bounds ∙ sym k.row_bounds) (h.col_bounds ∙ sym k.col_bounds) (h.cone ∙ sym k.cone) (h.duality ∙ sym k.duality)

pub one_problem : (bytes : List ℕ) (f g : Problem) → Reads bytes f → Reads bytes g → f ≡ g
one_problem bytes f g h k =
    same_problem (map statement_on (file_lines bytes)) h.sizes f g h.gives
    (subst (λ (s : Sizes). Gives (map statement_on (file_lines bytes)) s g) (same_Some _ _ (sym k.given ∙ h.given)) k.gives)
