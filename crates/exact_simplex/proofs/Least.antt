-- The least row so far, one row further.
use Rattle.std.proofs.Common.{◌≡◌, ◌≢◌, ℕ, List, length, true, false, true≢false, sym, ap, ◌∙◌, subst, arith, ◌<◌, ◌+◌, inl, inr, Option, None, Some, ℤ, of_z, w8}
use Rattle.std.proofs.lemmas.Bool.{cases_eq, cases_Bool}
use Rattle.exact_field.specs.Rational.{ℚ, zero_ℚ, ◌≤ℚ◌, ◌<ℚ◌}
use Rattle.exact_field.specs.Order.{sign_ℚ}
use Rattle.exact_field.proofs.Inequalities.{le_cases}
use Rattle.exact_field.proofs.Comparison.{sign-zero, sign-negative}
use Rattle.polyhedra.proofs.Order.{not_lt_of_le, le_or_lt}
use Rattle.tableaux.specs.Lex.{lex_less, IsLexBelow}
use Rattle.tableaux.proofs.Lexicographic.{lex_irrefl, lex_trans, lex_total}
use Rattle.exact_simplex.specs.Ratios.{IsLeast}

-- the sign as it is compared
pub positive_one : (p : ℚ) (z : ℤ) → z ≡ sign_ℚ p → of_z w8 z ≡ 1 → zero_ℚ <ℚ p
positive_one p z e h =
    elim (le_or_lt p zero_ℚ) [
      | inl down ↦ elim (le_cases p zero_ℚ down) [
        | inl less ↦ let k : 255 ≡ 1 = sym (ap (of_z w8) (e ∙ sign-negative p less)) ∙ h in absurd (omega (arith, k))
        | inr none ↦ let k : 0 ≡ 1 = sym (ap (of_z w8) (e ∙ sign-zero p none)) ∙ h in absurd (omega (arith, k))
      ]
      | inr up ↦ up
    ]

module _ (entry_of : ℕ → ℚ) (ratios_of : ℕ → List ℚ) (n : ℕ) where
  earlier : (i : ℕ) → i < n + 1 → i ≢ n → i < n
  earlier i l o = omega (arith, l, o)

  pub kept : (best : Option ℕ) → entry_of n ≤ℚ zero_ℚ → IsLeast entry_of ratios_of n best → IsLeast entry_of ratios_of (n + 1) best
  kept None h least = λ i l. elim (cases_eq i n) [ inl e ↦ subst (λ (k : ℕ). entry_of k ≤ℚ zero_ℚ) (sym e) h | inr o ↦ least i (earlier i l o) ]
  kept (Some r) h least = (
    omega (arith, least.0),
    least.1,
    λ i l up. elim (cases_eq i n)
        [ inl e ↦ absurd (not_lt_of_le (entry_of n) zero_ℚ h (subst (λ (k : ℕ). zero_ℚ <ℚ entry_of k) e up)) | inr o ↦ least.2 i (earlier i l o) up ],
  )

  pub found_first : zero_ℚ <ℚ entry_of n → IsLeast entry_of ratios_of n None → IsLeast entry_of ratios_of (n + 1) (Some n)
  found_first h least = (
    omega arith,
    h,
    λ i l up. elim (cases_eq i n)
        [ inl e ↦ ap (λ k. lex_less (ratios_of k) (ratios_of n)) e ∙ lex_irrefl (ratios_of n) | inr o ↦ absurd (not_lt_of_le (entry_of i) zero_ℚ (least i (earlier i l o)) up) ],
  )

  pub found_less : (b : ℕ) → zero_ℚ <ℚ entry_of n → IsLeast entry_of ratios_of n (Some b) → lex_less (ratios_of n) (ratios_of b) ≡ true →
      IsLeast entry_of ratios_of (n + 1) (Some n)
  found_less b h least less = (
    omega arith,
    h,
    λ i l up. elim (cases_eq i n) [
      | inl e ↦ ap (λ k. lex_less (ratios_of k) (ratios_of n)) e ∙ lex_irrefl (ratios_of n)
      | inr o ↦ elim (cases_Bool (lex_less (ratios_of i) (ratios_of n)))
          [ inl before ↦ absurd (true≢false (sym (lex_trans (ratios_of i) (ratios_of n) (ratios_of b) before less) ∙ least.2 i (earlier i l o) up)) | inr after ↦ after ]
    ],
  )

  pub found_more : (b : ℕ) → IsLeast entry_of ratios_of n (Some b) → lex_less (ratios_of n) (ratios_of b) ≡ false → IsLeast entry_of ratios_of (n + 1) (Some b)
  found_more b least more = (
    omega (arith, least.0),
    least.1,
    λ i l up. elim (cases_eq i n)
        [ inl e ↦ ap (λ k. lex_less (ratios_of k) (ratios_of b)) e ∙ more | inr o ↦ least.2 i (earlier i l o) up ],
  )

  -- where there is no tie the least is less
  pub strictly : (r i : ℕ) → IsLeast entry_of ratios_of n (Some r) → i < n → zero_ℚ <ℚ entry_of i → length (ratios_of r) ≡ length (ratios_of i) →
      (ratios_of r ≡ ratios_of i → ⊥) → IsLexBelow (ratios_of r) (ratios_of i)
  strictly r i least l up long no_tie =
      elim (lex_total (ratios_of r) (ratios_of i) long) [
        | inl less ↦ less
        | inr rest ↦ elim rest [ inl tie ↦ absurd (no_tie tie) | inr more ↦ absurd (true≢false (sym more ∙ least.2 i l up)) ]
      ]
