-- One turn of a phase: rows that are lexicographically positive stay so, the cost row rises, and no two rows tie.
use Rattle.std.proofs.Common.{◌≡◌, ◌≢◌, ℕ, List, [], ◌∷◌, length, refl, sym, ap, ap₂, ◌∙◌, subst, arith, ◌<◌, ◌≤◌, inl, inr, slice_index_or}
use Rattle.std.specs.Prelude.{◌==◌, if◌then◌else◌}
use Rattle.std.proofs.lemmas.List.{get_or-map, length-map}
use Rattle.exact_field.specs.Rational.{ℚ, zero_ℚ, one_ℚ, ◌*ℚ◌, neg_ℚ, inverse_ℚ, ◌<ℚ◌}
use Rattle.exact_field.specs.Vector.{entry}
use Rattle.polyhedra.specs.Vectors.{AreWide, plus, scaled}
use Rattle.polyhedra.proofs.Laws.{mul_assoc, mul_inverse}
use Rattle.polyhedra.proofs.Algebra.{one_mul}
use Rattle.polyhedra.proofs.Order.{le_or_lt}
use Rattle.tableaux.specs.Table.{Table, row_of, at, pivoted}
use Rattle.tableaux.specs.Dictionary.{basic_column}
use Rattle.tableaux.specs.Lex.{IsLexBelow, IsLexPositive, entries_at, cleared_from}
use Rattle.tableaux.proofs.Places.{entry-scaled, entry-plus, same_or_other, if_true, if_false}
use Rattle.tableaux.proofs.Matrix.{HasMatrix, pivoted-row}
use Rattle.tableaux.proofs.Lexicographic.{lex_laws}
use Rattle.tableaux.proofs.Ties.{no_ties}

entries-scaled : (columns : List ℕ) (q : ℚ) (v : List ℚ) → entries_at columns (scaled q v) ≡ scaled q (entries_at columns v)
entries-scaled [] q v = refl
entries-scaled (c ∷ columns) q v = ap₂ (λ a b. a ∷ b) (entry-scaled q v c) (entries-scaled columns q v)

entries-plus : (columns : List ℕ) (u v : List ℚ) → entries_at columns (plus u v) ≡ plus (entries_at columns u) (entries_at columns v)
entries-plus [] u v = refl
entries-plus (c ∷ columns) u v = ap₂ (λ a b. a ∷ b) (entry-plus u v c) (entries-plus columns u v)

-- ---- one pivot at a positive entry
module _ (width : ℕ) (d : Table) (wide : AreWide width d) (columns : List ℕ) (r c : ℕ) (r_low : 1 ≤ r) (r_high : r ≤ length d) (up : zero_ℚ <ℚ at d r c) where
  -- what is compared of row i
  abbrev pub keys : Table → ℕ → List ℚ
  keys t i = entries_at columns (row_of t i)

  same_long : (t : Table) (i k : ℕ) → length (keys t i) ≡ length (keys t k)
  same_long t i k = length-map columns (entry (row_of t i)) ∙ sym (length-map columns (entry (row_of t k)))

  keys_own : keys (pivoted d r c) r ≡ scaled (inverse_ℚ (at d r c)) (keys d r)
  keys_own =
      let own : List ℚ = scaled (inverse_ℚ (at d r c)) (row_of d r) in
      ap (entries_at columns) (pivoted-row width d r c r wide r_low r_high r_low r_high
      ∙ elim (same_or_other r r) [ inl e ↦ if_true (r == r) own (plus (row_of d r) (scaled (neg_ℚ (at d r c)) own)) e.1 | inr o ↦ absurd (o.0 refl) ])
      ∙ entries-scaled columns (inverse_ℚ (at d r c)) (row_of d r)

  keys_other : (i : ℕ) → 1 ≤ i → i ≤ length d → i ≢ r → keys (pivoted d r c) i ≡ cleared_from (at d r c) (at d i c) (keys d r) (keys d i)
  keys_other i l u o =
      let own : List ℚ = scaled (inverse_ℚ (at d r c)) (row_of d r) in
      let f : ℚ = neg_ℚ (at d i c) in
      ap (entries_at columns) (pivoted-row width d r c i wide r_low r_high l u
      ∙ elim (same_or_other i r) [ inl e ↦ absurd (o e.0) | inr n ↦ if_false (i == r) own (plus (row_of d i) (scaled f own)) n.1 ])
      ∙ entries-plus columns (row_of d i) (scaled f own)
      ∙ ap (plus (keys d i)) (entries-scaled columns f own ∙ ap (scaled f) (entries-scaled columns (inverse_ℚ (at d r c)) (row_of d r)))

  -- the ratio test found row r: its quotients are the least
  abbrev pub IsStrictlyLeast : ℕ → Type 0
  IsStrictlyLeast i = zero_ℚ <ℚ at d i c → IsLexBelow (scaled (inverse_ℚ (at d r c)) (keys d r)) (scaled (inverse_ℚ (at d i c)) (keys d i))

  pub turn_positive : (i : ℕ) → 1 ≤ i → i ≤ length d → IsLexPositive (keys d r) → IsLexPositive (keys d i) → (i ≢ r → IsStrictlyLeast i) →
      IsLexPositive (keys (pivoted d r c) i)
  turn_positive i l u r_positive i_positive least =
      elim (same_or_other i r) [
        | inl e ↦ subst IsLexPositive (sym (ap (keys (pivoted d r c)) e.0 ∙ keys_own)) (lex_laws.pivot_row (at d r c) (keys d r) up r_positive)
        | inr o ↦ subst IsLexPositive (sym (keys_other i l u o.0)) (elim (le_or_lt (at d i c) zero_ℚ) [
          | inl down ↦ lex_laws.other_row (at d r c) (at d i c) (keys d i) (keys d r) (same_long d i r) up down i_positive r_positive
          | inr more ↦ lex_laws.limiting_row (at d r c) (at d i c) (keys d i) (keys d r) (same_long d i r) up more (least o.0 more)
        ])
      ]

  -- a row with a negative entry in the column, as the cost row has, rises
  pub turn_rises : (i : ℕ) → 1 ≤ i → i ≤ length d → i ≢ r → at d i c <ℚ zero_ℚ → IsLexPositive (keys d r) → IsLexBelow (keys d i) (keys (pivoted d r c) i)
  turn_rises i l u o down r_positive =
      subst (λ (v : List ℚ). IsLexBelow (keys d i) v) (sym (keys_other i l u o))
      (lex_laws.cost_row (at d r c) (at d i c) (keys d i) (keys d r) (same_long d i r) up down r_positive)

-- ---- no ties
key-at : (columns : List ℕ) (q : ℚ) (row : List ℚ) (j : ℕ) → j < length columns →
    slice_index_or (scaled q (entries_at columns row)) j zero_ℚ ≡ q *ℚ entry row (slice_index_or columns j 0)
key-at columns q row j l =
    get_or-map (λ x. q *ℚ x) (entries_at columns row) j zero_ℚ zero_ℚ (omega (arith, l, length-map columns (entry row)))
    ∙ ap (λ x. q *ℚ x) (get_or-map (entry row) columns j 0 zero_ℚ l)

-- the quotients of two rows at the columns of the beginning differ
pub no_tie : (width : ℕ) (start : Table) (first basis : List ℕ) (d m : Table) (columns : List ℕ) (i r : ℕ) (p f : ℚ) → AreWide width start → HasMatrix width start basis d m →
    ((i k : ℕ) → 1 ≤ i → i ≤ length start → 1 ≤ k → k ≤ length start → basic_column basis k ≢ 0 → at start i (basic_column first k) ≡ (if i == k then one_ℚ else zero_ℚ)) →
    ((k : ℕ) → 1 ≤ k → k ≤ length start → basic_column basis k ≢ 0 → (j : ℕ) × (j < length columns) × (slice_index_or columns j 0 ≡ basic_column first k)) →
    1 ≤ i → i ≤ length start → 1 ≤ r → r ≤ length start → i ≢ r → basic_column basis i ≢ 0 → basic_column basis r ≢ 0 → zero_ℚ <ℚ f →
    scaled (inverse_ℚ p) (entries_at columns (row_of d r)) ≡ scaled (inverse_ℚ f) (entries_at columns (row_of d i)) → ⊥
no_tie width start first basis d m columns i r p f w h units listed_at il iu rl ru other i_some r_some up same =
    no_ties width start first basis d m w h units i r (f *ℚ inverse_ℚ p) il iu rl ru other i_some r_some
    (λ k l u some.
    let there = listed_at k l u some in
    let j : ℕ = there.0 in
    let x : ℚ = at d i (basic_column first k) in
    let y : ℚ = at d r (basic_column first k) in
    let quotients : inverse_ℚ f *ℚ x ≡ inverse_ℚ p *ℚ y =
    ap (λ c. inverse_ℚ f *ℚ entry (row_of d i) c) (sym there.2) ∙ sym (key-at columns (inverse_ℚ f) (row_of d i) j there.1)
    ∙ ap (λ v. slice_index_or v j zero_ℚ) (sym same)
    ∙ key-at columns (inverse_ℚ p) (row_of d r) j there.1 ∙ ap (λ c. inverse_ℚ p *ℚ entry (row_of d r) c) there.2 in
    sym (one_mul x) ∙ ap (λ q. q *ℚ x) (sym (mul_inverse f up)) ∙ mul_assoc f (inverse_ℚ f) x ∙ ap (λ q. f *ℚ q) quotients ∙ sym (mul_assoc f (inverse_ℚ p) y))
