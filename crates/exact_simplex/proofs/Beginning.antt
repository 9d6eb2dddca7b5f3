-- Rows whose right sides are not negative are lexicographically positive, read there and at the columns of their own basis.
use Rattle.std.proofs.Common.{◌≡◌, ◌≢◌, ℕ, zero, suc, List, [], ◌∷◌, length, refl, sym, ap, ap₂, ◌∙◌, subst, arith, ◌<◌, ◌≤◌, ◌+◌, ◌-◌, inl, inr, ◌⊎◌, slice_index_or, true, not, ◌&&◌, ◌||◌}
use Rattle.std.proofs.lemmas.List.{get_or-map, length-map}
use Rattle.exact_field.specs.Rational.{ℚ, zero_ℚ, one_ℚ, le_ℚ, ◌≤ℚ◌, ◌<ℚ◌}
use Rattle.exact_field.specs.Vector.{entry}
use Rattle.exact_field.proofs.Inequalities.{le_cases, le_refl_ℚ}
use Rattle.polyhedra.specs.Vectors.{zeros}
use Rattle.polyhedra.proofs.Laws.{le_refl, le_of_lt, zero_lt_one}
use Rattle.polyhedra.proofs.Order.{lt_irrefl}
use Rattle.tableaux.specs.Table.{Table, row_of, at}
use Rattle.tableaux.specs.Dictionary.{basic_column}
use Rattle.tableaux.specs.Lex.{lex_less, IsLexPositive, entries_at}
use Rattle.tableaux.proofs.Lexicographic.{not_le_of_lt}
use Rattle.tableaux.proofs.Places.{delta, delta-same, delta-other, same_or_other}
use Rattle.lin_rows.specs.Tableau.{Dictionary}
use Rattle.exact_simplex.specs.Phase.{ArePositive, IsStart}

-- a vector without a negative entry and with a positive one
pub nonnegative_positive : (v : List ℚ) (j : ℕ) → ((k : ℕ) → k < length v → zero_ℚ ≤ℚ slice_index_or v k zero_ℚ) → j < length v → zero_ℚ <ℚ slice_index_or v j zero_ℚ → IsLexPositive v
nonnegative_positive [] j h l up = absurd (omega arith)
nonnegative_positive (x ∷ v) j h l up =
    elim (le_cases zero_ℚ x (h 0 (omega arith))) [
      | inl more ↦ ap (λ a. not a || (not (not (le_ℚ zero_ℚ x)) && lex_less (zeros (length v)) v)) (not_le_of_lt zero_ℚ x more)
      | inr none ↦
          ap₂ (λ a b. not a || (not (not b) && lex_less (zeros (length v)) v)) (subst (λ (q : ℚ). le_ℚ q zero_ℚ ≡ true) none (le_refl zero_ℚ)) (h 0 (omega arith))
          ∙ later j l up none (λ i m more. nonnegative_positive v i (λ k m. h (suc k) (omega arith)) m more)
    ]
  where
    later : (i : ℕ) → i < suc (length v) → zero_ℚ <ℚ slice_index_or (x ∷ v) i zero_ℚ → zero_ℚ ≡ x →
        ((k : ℕ) → k < length v → zero_ℚ <ℚ slice_index_or v k zero_ℚ → IsLexPositive v) → IsLexPositive v
    later zero m more none rest = absurd (lt_irrefl zero_ℚ (subst (λ (q : ℚ). zero_ℚ <ℚ q) (sym none) more))
    later (suc i) m more none rest = rest i (omega arith) more

-- what is compared is the right side and columns of the basis
abbrev pub AreCompared : ℕ → ℕ → List ℕ → List ℕ → Type 0
AreCompared right equations first columns =
    (j : ℕ) → j < length columns → (slice_index_or columns j 0 ≡ right) ⊎ ((k : ℕ) × (1 ≤ k) × (k ≤ equations) × (slice_index_or columns j 0 ≡ basic_column first k))

pub start_positive : (equations right : ℕ) (columns : List ℕ) (from : Dictionary) → IsStart equations columns from → AreCompared right equations from.basis columns →
    ((i : ℕ) → i < equations → zero_ℚ ≤ℚ at from.table (i + 1) right) → ArePositive equations columns from.table
start_positive equations right columns from s compared sides i l =
    let start : Table = from.table in
    let first : List ℕ = from.basis in
    let row : List ℚ = row_of start (i + 1) in
    let own = s.compared (i + 1) (omega arith) (omega arith) in
    let some : (k : ℕ) → 1 ≤ k → k ≤ equations → basic_column first k ≢ 0 =
    λ k a b none. let back : k - 1 + 1 ≡ k = omega arith in s.full.full (k - 1) (omega (arith, a, b)) (ap (basic_column first) back ∙ none) in
    let unit : (k : ℕ) → 1 ≤ k → k ≤ equations → at start (i + 1) (basic_column first k) ≡ delta (i + 1) k =
    λ k a b. s.own.unit_columns (i + 1) k (omega arith) (omega (arith, l, s.inside)) a (omega (arith, b, s.inside)) (some k a b) in
    let place : (j : ℕ) → j < length columns → slice_index_or (entries_at columns row) j zero_ℚ ≡ at start (i + 1) (slice_index_or columns j 0) =
    λ j m. get_or-map (entry row) columns j 0 zero_ℚ m in
    let long = length-map columns (entry row) in
    nonnegative_positive (entries_at columns row) own.0
    (λ j m.
    let inside : j < length columns = omega (arith, m, long) in
    subst (λ (q : ℚ). zero_ℚ ≤ℚ q) (sym (place j inside))
    (elim (compared j inside) [
      | inl e ↦ subst (λ (c : ℕ). zero_ℚ ≤ℚ at start (i + 1) c) (sym e) (sides i l)
      | inr b ↦ subst (λ (q : ℚ). zero_ℚ ≤ℚ q) (sym (ap (at start (i + 1)) b.3 ∙ unit b.0 b.1 b.2)) (delta_nonnegative (i + 1) b.0)
    ]))
    (omega (arith, own.1, long))
    (subst (λ (q : ℚ). zero_ℚ <ℚ q) (sym (place own.0 own.1 ∙ ap (at start (i + 1)) own.2 ∙ unit (i + 1) (omega arith) (omega arith) ∙ delta-same (i + 1) (i + 1) refl)) zero_lt_one)
  where
    delta_nonnegative : (i k : ℕ) → zero_ℚ ≤ℚ delta i k
    delta_nonnegative i k = elim (same_or_other i k) [
      | inl e ↦ subst (λ (q : ℚ). zero_ℚ ≤ℚ q) (sym (delta-same i k e.0)) (le_of_lt zero_ℚ one_ℚ zero_lt_one)
      | inr o ↦ subst (λ (q : ℚ). zero_ℚ ≤ℚ q) (sym (delta-other i k o.0)) (le_refl_ℚ zero_ℚ)
    ]
