-- The basis of an elimination with one place for each row: the dictionary at it is the same.
use Rattle.std.proofs.Common.{◌≡◌, ◌≢◌, ℕ, zero, suc, ◌≤◌, List, [], length, refl, sym, ap, ◌∙◌, subst, arith, inl, inr}
use Rattle.std.specs.Prelude.{◌==◌, if◌then◌else◌}
use Rattle.exact_field.specs.Rational.{ℚ, zero_ℚ, one_ℚ}
use Rattle.tableaux.specs.Table.{Table, listed, row_of, at}
use Rattle.tableaux.specs.Dictionary.{basic_column, AreBasicMultipliers, IsBasicCombination, IsChanged, IsDictionary}
use Rattle.tableaux.proofs.Places.{if_false, length-list_from, listed-place, same_or_other}
use Rattle.overflows.specs.Faults.{placed}

pub placed_none : (rows row : ℕ) (basis : List ℕ) → row ≡ 0 → placed rows row basis ≡ basis
placed_none rows zero basis h = refl
placed_none rows (suc row) basis h = absurd (omega (arith, h))

pub placed_each : (rows row : ℕ) (basis : List ℕ) → 1 ≤ row → placed rows row basis ≡ listed rows (basic_column basis)
placed_each rows row basis h =
    elim (same_or_other row 0) [
      | inl s ↦ absurd (let none : row ≡ 0 = s.0 in omega (arith, h, none))
      | inr o ↦ if_false (row == 0) basis (listed rows (basic_column basis)) o.1
    ]

pub placed_long : (rows row : ℕ) (basis : List ℕ) → 1 ≤ row → length (placed rows row basis) ≡ rows
placed_long rows row basis h = ap (λ (b : List ℕ). length b) (placed_each rows row basis h) ∙ length-list_from 1 rows (basic_column basis)

module _ (width : ℕ) (t : Table) (basis places : List ℕ)
    (same : (i : ℕ) → 1 ≤ i → i ≤ length t → basic_column places i ≡ basic_column basis i) where
  multipliers_same : (m : List ℚ) → AreBasicMultipliers (length t) basis m → AreBasicMultipliers (length t) places m
  multipliers_same m h = record { one_each = h.one_each; basic = λ i l u none. h.basic i l u (sym (same i l u) ∙ none) }

  pub dictionary_same : (d : Table) → IsDictionary width t basis d → IsDictionary width t places d
  dictionary_same d h = record {
    one_each = h.one_each;
    wide = h.wide;
    unit_columns = λ i k l u a b some.
        subst (λ (c : ℕ). at d i c ≡ (if i == k then one_ℚ else zero_ℚ)) (sym (same k a b)) (h.unit_columns i k l u a b (λ e. some (same k a b ∙ e)));
    basic_rows = λ i l u some.
        let c = h.basic_rows i l u (λ e. some (same i l u ∙ e)) in
        record { multipliers = c.multipliers; basic = multipliers_same c.multipliers c.basic; combined = c.combined };
    other_rows = λ i l u none.
        let c = h.other_rows i l u (sym (same i l u) ∙ none) in
        record { multipliers = c.multipliers; basic = multipliers_same c.multipliers c.basic; changed = c.changed };
  }

-- the dictionary at a basis is that at the basis with one place for each row
pub placed_dictionary : (width : ℕ) (t : Table) (rows row : ℕ) (basis : List ℕ) (d : Table) → length t ≡ rows → 1 ≤ row →
    IsDictionary width t basis d → IsDictionary width t (placed rows row basis) d
placed_dictionary width t rows row basis d many low h =
    dictionary_same width t basis (placed rows row basis)
    (λ i l u.
    ap (λ (b : List ℕ). basic_column b i) (placed_each rows row basis low)
    ∙ listed-place rows (basic_column basis) i 0 l (omega (arith, u, many)))
    d h
