-- What the choices of a phase say of its table.
use Rattle.std.proofs.Common.{◌≡◌, ℕ, zero, suc, List, [], ◌∷◌, length, refl, sym, ap, ◌∙◌, subst, arith, ◌<◌, ◌≤◌, ◌+◌, inl, Bool, None, Some, slice_index_or}
use Rattle.exact_field.specs.Field.{IsLeftOf}
use Rattle.exact_field.specs.Rational.{ℚ, zero_ℚ, ◌≤ℚ◌, ◌<ℚ◌}
use Rattle.exact_field.specs.declared.op.Op.TheVariants.{Div}
use Rattle.exact_field.specs.declared.op.Left.{Left}
use Rattle.polyhedra.specs.Sparse.{Entry}
use Rattle.tableaux.specs.Table.{at}
use Rattle.lin_rows.specs.Lines.{AreLines, sum_at}
use Rattle.lin_rows.specs.Pivot.{table_of, IsPivotStep}
use Rattle.lin_rows.proofs.Pivoted.{at_is}
use Rattle.exact_simplex.specs.Phase.{AreColumns, IsPhaseEnd}
use Rattle.exact_simplex.specs.Ratios.{IsEntering, IsLeaving, IsTestLeft}

column_at : (n : ℕ) (columns : List ℕ) (k : ℕ) → AreColumns n columns → k < length columns → (1 ≤ slice_index_or columns k 0) × (slice_index_or columns k 0 ≤ n)
column_at n [] k h l = absurd (omega arith)
column_at n (c ∷ columns) zero h l = (h.0, h.1)
column_at n (c ∷ columns) (suc k) h l = column_at n columns k h.2 (omega arith)

module _ (n : ℕ) (ls : List (List Entry)) (h : AreLines n ls) where
  pub entering_betters : (cost unknowns c : ℕ) (es : List Entry) → cost < length ls → unknowns ≤ n → es ≡ slice_index_or ls cost [] → IsEntering es unknowns (Some c) →
      (1 ≤ c) × (c ≤ unknowns) × (at (table_of n ls) (cost + 1) c <ℚ zero_ℚ)
  entering_betters cost unknowns c es l wide is found =
      (found.0, found.1, subst (λ (q : ℚ). q <ℚ zero_ℚ) (ap (λ v. sum_at v c) is ∙ sym (at_is n ls h cost c l found.0 (omega (arith, found.1, wide)))) found.2)

  pub entering_none : (equations cost unknowns : ℕ) (es : List Entry) → cost < length ls → unknowns ≤ n → es ≡ slice_index_or ls cost [] → IsEntering es unknowns None →
      IsPhaseEnd equations cost unknowns (table_of n ls) None
  entering_none equations cost unknowns es l wide is none =
      λ j a b. subst (λ (q : ℚ). zero_ℚ ≤ℚ q) (ap (λ v. sum_at v j) is ∙ sym (at_is n ls h cost j l a (omega (arith, b, wide)))) (none j a b)

  pub without_limit : (col m : ℕ) (columns : List ℕ) → 1 ≤ col → col ≤ n → m ≤ length ls → IsLeaving ls col columns m None →
      (i : ℕ) → i < m → at (table_of n ls) (i + 1) col ≤ℚ zero_ℚ
  without_limit col m columns low high inside none i l =
      subst (λ (q : ℚ). q ≤ℚ zero_ℚ) (sym (at_is n ls h i col (omega (arith, l, inside)) low high)) (none i l)

  pub test_step : {F : Type 0} (value : F → ℚ) (holds : ℚ → Bool) (col row : ℕ) (columns : List ℕ) (left : Left F) → 1 ≤ col → col ≤ n → AreColumns n columns →
      IsTestLeft value holds ls col columns row left → IsPivotStep value holds n (table_of n ls) (row + 1) col 1 left
  test_step value holds col row columns left low high placed stuck =
      let ratio = stuck.1 in
      let k : ℕ = ratio.0 in
      let j : ℕ = slice_index_or columns k 0 in
      let there = column_at n columns k placed ratio.1 in
      let at_j : at (table_of n ls) (row + 1) j ≡ sum_at (slice_index_or ls row []) j = at_is n ls h row j stuck.0 there.0 there.1 in
      let at_col : at (table_of n ls) (row + 1) col ≡ sum_at (slice_index_or ls row []) col = at_is n ls h row col stuck.0 low high in (
        j,
        there.0,
        there.1,
        inl (
          refl,
          subst (λ (x : ℚ). IsLeftOf value holds Div x (at (table_of n ls) (row + 1) col) left) (sym at_j)
              (subst (λ (y : ℚ). IsLeftOf value holds Div (sum_at (slice_index_or ls row []) j) y left) (sym at_col) ratio.2),
        ),
      )
