-- One column of the comparison of two rows' quotients.
use Rattle.std.proofs.Common.{◌≡◌, ℕ, List, length, drop, sym, ap₂, ◌∙◌, arith, ◌<◌, ◌+◌, slice_index_or, Less, Greater, Equal, true, false}
use Rattle.std.specs.declared.cmp.Ordering.{Ordering}
use Rattle.std.proofs.lemmas.List.{get_or-map, length-map}
use Rattle.exact_field.specs.Rational.{ℚ, zero_ℚ, ◌/ℚ◌}
use Rattle.exact_field.specs.Order.{cmp_ℚ}
use Rattle.exact_field.proofs.Comparison.{equal-cmp_ℚ, less-cmp_ℚ, greater-cmp_ℚ}
use Rattle.polyhedra.specs.Sparse.{Entry}
use Rattle.tableaux.specs.Lex.{lex_less}
use Rattle.lin_rows.specs.Lines.{sum_at}
use Rattle.exact_simplex.specs.Ratios.{ratios}
use Rattle.exact_simplex.proofs.Order.{lex_now, lex_not, lex_later}

module _ (p r : ℚ) (us vs : List Entry) (columns : List ℕ) (i : ℕ) (l : i < length columns) (order : Ordering)
    (is : order ≡ cmp_ℚ (sum_at us (slice_index_or columns i 0) /ℚ p) (sum_at vs (slice_index_or columns i 0) /ℚ r)) where
  abbrev first : List ℚ
  first = ratios p us columns

  abbrev second : List ℚ
  second = ratios r vs columns

  first_long : i < length first
  first_long = omega (arith, l, length-map columns (λ c. sum_at us c /ℚ p))

  second_long : i < length second
  second_long = omega (arith, l, length-map columns (λ c. sum_at vs c /ℚ r))

  first_at : slice_index_or first i zero_ℚ ≡ sum_at us (slice_index_or columns i 0) /ℚ p
  first_at = get_or-map (λ c. sum_at us c /ℚ p) columns i 0 zero_ℚ l

  second_at : slice_index_or second i zero_ℚ ≡ sum_at vs (slice_index_or columns i 0) /ℚ r
  second_at = get_or-map (λ c. sum_at vs c /ℚ r) columns i 0 zero_ℚ l

  compared : order ≡ cmp_ℚ (slice_index_or first i zero_ℚ) (slice_index_or second i zero_ℚ)
  compared = is ∙ ap₂ cmp_ℚ (sym first_at) (sym second_at)

  pub less_is : order ≡ Less → lex_less (drop i first) (drop i second) ≡ true
  less_is e = lex_now i first second first_long second_long (less-cmp_ℚ (slice_index_or first i zero_ℚ) (slice_index_or second i zero_ℚ) (sym compared ∙ e))

  pub greater_is : order ≡ Greater → lex_less (drop i first) (drop i second) ≡ false
  greater_is e = lex_not i first second first_long second_long (greater-cmp_ℚ (slice_index_or first i zero_ℚ) (slice_index_or second i zero_ℚ) (sym compared ∙ e))

  pub equal_is : order ≡ Equal → lex_less (drop (i + 1) first) (drop (i + 1) second) ≡ lex_less (drop i first) (drop i second)
  equal_is e = lex_later i first second first_long second_long (equal-cmp_ℚ (slice_index_or first i zero_ℚ) (slice_index_or second i zero_ℚ) (sym compared ∙ e))
