-- The row that the ratio test found, as a turn of a phase takes it: rows from 1, quotients as multiples.
use Rattle.std.proofs.Common.{◌≡◌, ℕ, List, [], ◌∷◌, refl, sym, ap, ap₂, ◌∙◌, subst, arith, ◌<◌, ◌≤◌, ◌+◌, length, slice_index_or, Some}
use Rattle.std.proofs.lemmas.List.{length-map}
use Rattle.exact_field.specs.Rational.{ℚ, zero_ℚ, ◌*ℚ◌, ◌/ℚ◌, inverse_ℚ, ◌<ℚ◌}
use Rattle.polyhedra.specs.Vectors.{scaled}
use Rattle.polyhedra.specs.Sparse.{Entry}
use Rattle.polyhedra.proofs.Laws.{mul_comm}
use Rattle.tableaux.specs.Table.{Table, row_of, at}
use Rattle.tableaux.specs.Lex.{IsLexBelow, entries_at}
use Rattle.lin_rows.specs.Lines.{AreLines, sum_at}
use Rattle.lin_rows.specs.Pivot.{table_of}
use Rattle.lin_rows.proofs.Pivoted.{at_is}
use Rattle.exact_simplex.specs.Phase.{AreColumns}
use Rattle.exact_simplex.specs.Ratios.{ratios, entry_in, ratios_in, IsLeaving}
use Rattle.exact_simplex.proofs.Least.{strictly}

-- the quotients of row i + 1
abbrev pub quotients_at : Table → ℕ → List ℕ → ℕ → List ℚ
quotients_at t col columns i = scaled (inverse_ℚ (at t (i + 1) col)) (entries_at columns (row_of t (i + 1)))

module _ (n : ℕ) (ls : List (List Entry)) (h : AreLines n ls) where
  ratios_are : (p : ℚ) (columns : List ℕ) (i : ℕ) → AreColumns n columns → i < length ls →
      ratios p (slice_index_or ls i []) columns ≡ scaled (inverse_ℚ p) (entries_at columns (row_of (table_of n ls) (i + 1)))
  ratios_are p [] i within l = refl
  ratios_are p (c ∷ columns) i within l =
      ap₂ (λ a b. a ∷ b)
      (mul_comm (sum_at (slice_index_or ls i []) c) (inverse_ℚ p) ∙ ap (λ q. inverse_ℚ p *ℚ q) (sym (at_is n ls h i c l within.0 within.1)))
      (ratios_are p columns i within.2 l)

  same_quotients : (col : ℕ) (columns : List ℕ) (i : ℕ) → 1 ≤ col → col ≤ n → AreColumns n columns → i < length ls →
      ratios_in ls col columns i ≡ quotients_at (table_of n ls) col columns i
  same_quotients col columns i low high within l =
      ratios_are (entry_in ls col i) columns i within l
      ∙ ap (λ p. scaled (inverse_ℚ p) (entries_at columns (row_of (table_of n ls) (i + 1)))) (sym (at_is n ls h i col l low high))

  pub leaving_strict : (col : ℕ) (columns : List ℕ) (m r i : ℕ) → 1 ≤ col → col ≤ n → AreColumns n columns → m ≤ length ls →
      IsLeaving ls col columns m (Some r) → i < m →
      (quotients_at (table_of n ls) col columns r ≡ quotients_at (table_of n ls) col columns i → ⊥) → zero_ℚ <ℚ at (table_of n ls) (i + 1) col →
      IsLexBelow (quotients_at (table_of n ls) col columns r) (quotients_at (table_of n ls) col columns i)
  leaving_strict col columns m r i low high within inside least l no_tie up =
      let t : Table = table_of n ls in
      let of_r = same_quotients col columns r low high within (omega (arith, least.0, inside)) in
      let of_i = same_quotients col columns i low high within (omega (arith, l, inside)) in
      subst (λ (v : List ℚ). IsLexBelow v (quotients_at t col columns i)) of_r
      (subst (λ (v : List ℚ). IsLexBelow (ratios_in ls col columns r) v) of_i
      (strictly (entry_in ls col) (ratios_in ls col columns) m r i least l (subst (λ (q : ℚ). zero_ℚ <ℚ q) (at_is n ls h i col (omega (arith, l, inside)) low high) up)
      (length-map columns (λ c. sum_at (slice_index_or ls r []) c /ℚ entry_in ls col r)
      ∙ sym (length-map columns (λ c. sum_at (slice_index_or ls i []) c /ℚ entry_in ls col i)))
      (λ e. no_tie (sym of_r ∙ e ∙ of_i))))
