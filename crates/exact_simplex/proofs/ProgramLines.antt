-- The sparse rows of the table of a program, as they are written.
use Rattle.std.proofs.Common.{◌≡◌, ℕ, List, [], ◌∷◌, ◌++◌, length, map, take, sym, ap, ap₂, ◌∙◌, subst, arith, ◌<◌, ◌+◌, ◌-◌, inl, slice_index_or}
use Rattle.std.proofs.lemmas.List.{get_or-map}
use Rattle.exact_field.specs.Rational.{ℚ, zero_ℚ, one_ℚ, neg_ℚ}
use Rattle.exact_field.specs.Vector.{entry}
use Rattle.polyhedra.specs.Sparse.{Entry}
use Rattle.tableaux.specs.Table.{System, IsSystem, row_of, table_of, artificial_sign, equation_count, unknown_count, right_column, first_cost, second_cost}
use Rattle.lin_rows.specs.declared.spots.Spot.{Spot}
use Rattle.lin_rows.specs.declared.system.System.{System as Program}
use Rattle.lin_rows.specs.Clear.{Writes}
use Rattle.lin_rows.specs.Lines.{entries}
use Rattle.lin_rows.specs.Read.{IsLineOf}
use Rattle.lin_rows.proofs.SpotLists.{entries_push}
use Rattle.lin_rows.specs.System.{HasLengths, coefficients_of, system_of}
use Rattle.exact_simplex.proofs.Programs.{system_ok, equation_count_is, unknown_count_is, right_column_is, length-coefficients, equation-row}
use Rattle.exact_simplex.proofs.SystemLines.{IsLineTo, line_none, line_after, line_whole, line_front, row_long, equation_front, equation_none, equation_sign, equation_last, first_none, first_one, first_last, second_cost_at, second_none}

module _ {F : Type 0} (value : F → ℚ) (p : Program F) (lengths : HasLengths p) where
  abbrev s : System
  s = system_of value p

  ok : IsSystem s
  ok = system_ok value p lengths

  n_is : unknown_count s ≡ p.cols
  n_is = unknown_count_is value p lengths

  m_is : equation_count s ≡ p.rows
  m_is = equation_count_is value p lengths

  w_is : right_column s ≡ p.cols + p.rows + 1
  w_is = right_column_is value p lengths

  -- ---- an equation, counted from 0
  module _ (i : ℕ) (inside : i < p.rows) where
    abbrev xs : List ℚ
    xs = row_of (table_of s) (i + 1)

    i_inside : i < equation_count s
    i_inside = omega (arith, inside, m_is)

    long : length xs ≡ right_column s
    long = row_long s ok (i + 1) (omega arith) (omega (arith, i_inside))

    pub equation_is : (row : List F) (line more : List (Spot F)) (c : Spot F) (b : F) (es : List Entry) → row ≡ coefficients_of p (i + 1) →
        IsLineOf (length row) (map value row) (entries value line) → more ≡ line ++ c ∷ [] → c.at ≡ p.cols + i + 1 → value c.value ≡ artificial_sign (value b) →
        b ≡ slice_index_or p.b i b → Writes (p.cols + p.rows + 1) (value b) (entries value more) es → IsLineOf (right_column s) xs es
    equation_is row line more c b es row_is front pushed place sign b_is written =
        let w : ℕ = right_column s in
        let row_size : length row ≡ p.cols = ap length row_is ∙ length-coefficients value p lengths (i + 1) (omega arith) (omega arith) in
        let front_is : map value row ≡ take p.cols xs =
        ap (map value) row_is ∙ sym (equation-row value p lengths (i + 1) (omega arith) (omega arith)) ∙ sym (equation_front s ok i i_inside) ∙ ap (λ k. take k xs) n_is in
        let right : entry s.right (i + 1) ≡ value b =
        (let same : i + 1 - 1 ≡ i = omega arith in ap (λ k. slice_index_or (map value p.b) k zero_ℚ) same)
        ∙ get_or-map value p.b i b zero_ℚ (omega (arith, inside, lengths.right)) ∙ ap value (sym b_is) in
        let one = line_front w p.cols xs (map value row) (entries value line)
        (subst (λ (k : ℕ). IsLineOf k (map value row) (entries value line)) row_size front) front_is (omega (arith, w_is)) in
        let at_sign : slice_index_or xs (p.cols + i) zero_ℚ ≡ value c.value =
        ap (λ k. slice_index_or xs (k + i) zero_ℚ) (sym n_is) ∙ equation_sign s ok i i_inside ∙ ap artificial_sign right ∙ sym sign in
        let two = line_after w p.cols (p.cols + i) xs (value c.value) (entries value line) (entries value more) one (omega arith)
        (λ k l u. equation_none s ok i i_inside k (omega (arith, l, n_is)) (omega (arith, u, inside, n_is, m_is)) (λ e. omega (arith, e, u, n_is)))
        (omega (arith, long, w_is, inside)) (omega (arith, long)) at_sign
        (subst (λ (k : ℕ). Writes k (value c.value) (entries value line) (entries value more)) place (inl (entries_push value line more c pushed))) in
        let at_last : slice_index_or xs (p.cols + p.rows) zero_ℚ ≡ value b =
        ap₂ (λ a k. slice_index_or xs (a + k) zero_ℚ) (sym n_is) (sym m_is) ∙ equation_last s ok i i_inside ∙ right in
        let three = line_after w (p.cols + i + 1) (p.cols + p.rows) xs (value b) (entries value more) es two (omega (arith, inside))
        (λ k l u. equation_none s ok i i_inside k (omega (arith, l, n_is)) (omega (arith, u, n_is, m_is)) (λ e. omega (arith, e, l, n_is)))
        (omega (arith, long, w_is)) (omega (arith, long)) at_last written in
        line_whole w (p.cols + p.rows + 1) xs es three (omega (arith, long, w_is)) (λ k l u. absurd (omega (arith, l, u, long, w_is)))

  -- ---- the cost of phase one
  abbrev first : List ℚ
  first = row_of (table_of s) (first_cost s)

  first_long : length first ≡ right_column s
  first_long = row_long s ok (first_cost s) (omega arith) (omega arith)

  pub first_begins : (k : ℕ) → k ≡ p.cols → IsLineTo (right_column s) k first []
  first_begins k e = line_none (right_column s) k first (λ j l. first_none s ok j (omega (arith, l, e, n_is)))

  pub first_more : (i : ℕ) (x : F) (old new : List Entry) → i < p.rows → value x ≡ one_ℚ → IsLineTo (right_column s) (p.cols + i) first old → Writes (p.cols + i + 1) (value x) old new →
      IsLineTo (right_column s) (p.cols + (i + 1)) first new
  first_more i x old new l one h written =
      let next : p.cols + i + 1 ≡ p.cols + (i + 1) = omega arith in
      subst (λ (k : ℕ). IsLineTo (right_column s) k first new) next
      (line_after (right_column s) (p.cols + i) (p.cols + i) first (value x) old new h (omega arith) (λ k a b. absurd (omega (arith, a, b)))
      (omega (arith, first_long, w_is, l)) (omega (arith, first_long))
      (ap (λ k. slice_index_or first (k + i) zero_ℚ) (sym n_is) ∙ first_one s ok i (omega (arith, l, m_is)) ∙ sym one) written)

  pub first_ends : (i : ℕ) (es : List Entry) → i ≡ p.rows → IsLineTo (right_column s) (p.cols + i) first es → IsLineOf (right_column s) first es
  first_ends i es e h =
      line_whole (right_column s) (p.cols + i) first es h (omega (arith, first_long, w_is, e))
      (λ k l u. first_last s ok k (omega (arith, l, e, n_is, m_is)) (omega (arith, u, first_long)))

  -- ---- the cost of phase two
  abbrev second : List ℚ
  second = row_of (table_of s) (second_cost s)

  second_long : length second ≡ right_column s
  second_long = row_long s ok (second_cost s) (omega arith) (omega arith)

  pub second_more : (i : ℕ) (c x : F) (old new : List Entry) → i < length p.cost → c ≡ slice_index_or p.cost i c → value x ≡ neg_ℚ (value c) → IsLineTo (right_column s) i second old →
      Writes (i + 1) (value x) old new → IsLineTo (right_column s) (i + 1) second new
  second_more i c x old new l c_is x_is h written =
      let same : i + 1 - 1 ≡ i = omega arith in
      let cost : entry (map neg_ℚ (map value p.cost)) (i + 1) ≡ value x =
      ap (λ k. slice_index_or (map neg_ℚ (map value p.cost)) k zero_ℚ) same
      ∙ get_or-map neg_ℚ (map value p.cost) i zero_ℚ zero_ℚ (omega (arith, l, lengths.cost, n_is))
      ∙ ap neg_ℚ (get_or-map value p.cost i c zero_ℚ l ∙ ap value (sym c_is)) ∙ sym x_is in
      line_after (right_column s) i i second (value x) old new h (omega arith) (λ k a b. absurd (omega (arith, a, b)))
      (omega (arith, second_long, w_is, l, lengths.cost)) (omega (arith, second_long)) (second_cost_at s ok i (value x) (omega (arith, l, lengths.cost, n_is)) cost) written

  pub second_ends : (i : ℕ) (es : List Entry) → i ≡ length p.cost → IsLineTo (right_column s) i second es → IsLineOf (right_column s) second es
  second_ends i es e h =
      line_whole (right_column s) i second es h (omega (arith, second_long, w_is, e, lengths.cost))
      (λ k l u. second_none s ok k (omega (arith, l, e, lengths.cost, n_is)) (omega (arith, u, second_long)))
