-- The opening: one pivot for each artificial column.
use Rattle.std.proofs.Common.{◌≡◌, ◌≢◌, ℕ, Bool, true, false, List, length, sym, ap, ap₂, ◌∙◌, subst, arith, ◌<◌, ◌≤◌, ◌+◌, inl, inr, slice_set, refl}
use Rattle.std.specs.Prelude.{if◌then◌else◌}
use Rattle.std.proofs.lemmas.Bool.{cases_eq, cases_lt}
use Rattle.exact_field.specs.Rational.{ℚ, zero_ℚ, one_ℚ, ◌*ℚ◌, neg_ℚ, inverse_ℚ, lt_ℚ, ◌≤ℚ◌, ◌<ℚ◌}
use Rattle.exact_field.specs.Vector.{entry}
use Rattle.exact_field.proofs.Rationals.{mul-inverse_ℚ, one-not-zero}
use Rattle.exact_field.proofs.Inequalities.{le_or_lt, neg-positive}
use Rattle.polyhedra.proofs.Laws.{mul_assoc, mul_comm, mul_one, le_of_lt}
use Rattle.polyhedra.proofs.Algebra.{one_mul, mul_zero, zero_mul, neg_mul}
use Rattle.tableaux.specs.Table.{Table, System, IsSystem, row_of, at, pivoted, table_of, artificial_sign, artificial_column, equation_count, unknown_count, right_column}
use Rattle.tableaux.specs.Dictionary.{basic_column, IsDictionaryOf}
use Rattle.tableaux.proofs.Places.{delta-same, delta-other}
use Rattle.tableaux.proofs.Entries.{sign_of, sign-squared, table-long, equation-artificial, equation-right}
use Rattle.exact_simplex.proofs.Untouched.{row_untouched, pivot_row_at, moved, system_dictionary_after}

-- the first k equations have their artificial columns, and the others are as in the table
pub record IsOpened (s : System) (k : ℕ) (basis : List ℕ) (d : Table) : Type 0 where
  pub dictionary : IsDictionaryOf s basis d
  pub named : (i : ℕ) → 1 ≤ i → i ≤ k → basic_column basis i ≡ artificial_column s i
  pub none : (i : ℕ) → k < i → basic_column basis i ≡ 0
  pub right : (i : ℕ) → 1 ≤ i → i ≤ k → zero_ℚ ≤ℚ at d i (right_column s)
  pub clear : (i j : ℕ) → 1 ≤ i → i ≤ k → k < j → j ≤ equation_count s → at d i (artificial_column s j) ≡ zero_ℚ
  pub same : (i : ℕ) → k < i → i ≤ equation_count s → row_of d i ≡ row_of (table_of s) i

-- the sign times the number is its magnitude
signed_by : (b : Bool) (x : ℚ) → (b ≡ true → x <ℚ zero_ℚ) → (b ≡ false → zero_ℚ ≤ℚ x) → zero_ℚ ≤ℚ (if b then neg_ℚ one_ℚ else one_ℚ) *ℚ x
signed_by true x below above = subst (λ (q : ℚ). zero_ℚ ≤ℚ q) (sym (neg_mul one_ℚ x ∙ ap neg_ℚ (one_mul x))) (le_of_lt zero_ℚ (neg_ℚ x) (neg-positive x (below refl)))
signed_by false x below above = subst (λ (q : ℚ). zero_ℚ ≤ℚ q) (sym (one_mul x)) (above refl)

magnitude : (x : ℚ) → zero_ℚ ≤ℚ artificial_sign x *ℚ x
magnitude x = signed_by (lt_ℚ x zero_ℚ) x (λ e. e) (λ e. elim (le_or_lt zero_ℚ x) [ inl up ↦ up | inr down ↦ cc (e, down) ])

module _ (s : System) (ok : IsSystem s) where
  abbrev n : ℕ
  n = unknown_count s

  abbrev m : ℕ
  m = equation_count s

  sign-not-zero : (i : ℕ) → sign_of s ok i ≢ zero_ℚ
  sign-not-zero i e = one-not-zero (sym (sign-squared s ok i) ∙ ap (λ q. q *ℚ sign_of s ok i) e ∙ zero_mul (sign_of s ok i))

  inverse-sign : (i : ℕ) → inverse_ℚ (sign_of s ok i) ≡ sign_of s ok i
  inverse-sign i =
      let q : ℚ = sign_of s ok i in
      sym (mul_one (inverse_ℚ q)) ∙ ap (λ x. inverse_ℚ q *ℚ x) (sym (sign-squared s ok i)) ∙ sym (mul_assoc (inverse_ℚ q) q q)
      ∙ ap (λ x. x *ℚ q) (mul_comm (inverse_ℚ q) q ∙ mul-inverse_ℚ q (sign-not-zero i)) ∙ one_mul q

  pub opened_none : (basis : List ℕ) (d : Table) → IsDictionaryOf s basis d → d ≡ table_of s → ((i : ℕ) → basic_column basis i ≡ 0) → IsOpened s 0 basis d
  opened_none basis d h e empty =
      record {
        dictionary = h;
        named = λ i l u. absurd (omega arith);
        none = λ i l. empty i;
        right = λ i l u. absurd (omega arith);
        clear = λ i j l u. absurd (omega arith);
        same = λ i l u. ap (λ (t : Table). row_of t i) e;
      }

  module _ (k : ℕ) (basis : List ℕ) (d : Table) (h : IsOpened s k basis d) (inside : k < m) (long : k < length basis) where
    abbrev col : ℕ
    col = artificial_column s (k + 1)

    d_many : length d ≡ m + 2
    d_many = omega (arith, h.dictionary.dictionary.one_each, table-long s ok)

    own : (j : ℕ) → at d (k + 1) j ≡ at (table_of s) (k + 1) j
    own j = ap (λ (r : List ℚ). entry r j) (h.same (k + 1) (omega arith) (omega arith))

    pivot_is : at d (k + 1) col ≡ sign_of s ok (k + 1)
    pivot_is =
        own col ∙ equation-artificial s ok (k + 1) (k + 1) (omega arith) (omega arith) (omega arith) (omega arith)
        ∙ ap (λ q. sign_of s ok (k + 1) *ℚ q) (delta-same (k + 1) (k + 1) refl) ∙ mul_one (sign_of s ok (k + 1))

    pub opening_pivot : at d (k + 1) col ≢ zero_ℚ
    opening_pivot e = sign-not-zero (k + 1) (sym pivot_is ∙ e)

    -- another equation is 0 in the pivot column
    others : (i : ℕ) → 1 ≤ i → i ≤ m → i ≢ k + 1 → at d i col ≡ zero_ℚ
    others i l u o =
        elim (cases_lt k i) [
          | inr low ↦ h.clear i (k + 1) l low (omega arith) (omega arith)
          | inl high ↦ ap (λ (r : List ℚ). entry r col) (h.same i high u)
              ∙ equation-artificial s ok i (k + 1) l u (omega arith) (omega arith)
              ∙ ap (λ q. sign_of s ok i *ℚ q) (delta-other i (k + 1) o) ∙ mul_zero (sign_of s ok i)
        ]

    stays : (i : ℕ) → 1 ≤ i → i ≤ m → i ≢ k + 1 → row_of (pivoted d (k + 1) col) i ≡ row_of d i
    stays i l u o = row_untouched (right_column s) d (k + 1) col i h.dictionary.dictionary.wide (omega arith) (omega (arith, inside, d_many)) l (omega (arith, u, d_many)) o (others i l u o)

    stays_at : (i j : ℕ) → 1 ≤ i → i ≤ m → i ≢ k + 1 → at (pivoted d (k + 1) col) i j ≡ at d i j
    stays_at i j l u o = ap (λ (r : List ℚ). entry r j) (stays i l u o)

    own_after : (i j : ℕ) → i ≡ k + 1 → at (pivoted d (k + 1) col) i j ≡ sign_of s ok (k + 1) *ℚ at (table_of s) (k + 1) j
    own_after i j e =
        pivot_row_at (right_column s) d (k + 1) col i h.dictionary.dictionary.wide (omega arith) (omega (arith, inside, d_many)) e j
        ∙ ap₂ (λ p q. p *ℚ q) (ap inverse_ℚ pivot_is ∙ inverse-sign (k + 1)) (own j)

    pub opened_more : IsOpened s (k + 1) (slice_set basis k col) (pivoted d (k + 1) col)
    opened_more =
        let after : List ℕ = slice_set basis k col in
        let change = moved s ok basis d h.dictionary k col inside long (omega arith) (omega arith) opening_pivot in
        record {
          dictionary = system_dictionary_after s ok basis d h.dictionary k col inside long (omega arith) (omega arith) opening_pivot;
          named = λ i l u. elim (cases_eq i (k + 1)) [
            | inl e ↦ ap (basic_column after) e ∙ change.here ∙ ap (artificial_column s) (sym e)
            | inr o ↦ change.elsewhere i l o ∙ h.named i l (omega (arith, u, o))
          ];
          none = λ i l. change.elsewhere i (omega (arith, l)) (λ e. omega (arith, e, l)) ∙ h.none i (omega (arith, l));
          right = λ i l u. elim (cases_eq i (k + 1)) [
            | inl e ↦ subst (λ (q : ℚ). zero_ℚ ≤ℚ q)
                (sym (own_after i (right_column s) e ∙ ap (λ q. sign_of s ok (k + 1) *ℚ q) (equation-right s ok (k + 1) (omega arith) (omega arith))))
                (magnitude (entry s.right (k + 1)))
            | inr o ↦ subst (λ (q : ℚ). zero_ℚ ≤ℚ q) (sym (stays_at i (right_column s) l (omega (arith, u, inside)) o)) (h.right i l (omega (arith, u, o)))
          ];
          clear = λ i j l u a b. elim (cases_eq i (k + 1)) [
            | inl e ↦ own_after i (artificial_column s j) e
                ∙ ap (λ q. sign_of s ok (k + 1) *ℚ q) (equation-artificial s ok (k + 1) j (omega arith) (omega arith) (omega (arith, a)) b
                ∙ ap (λ q. sign_of s ok (k + 1) *ℚ q) (delta-other (k + 1) j (λ e. omega (arith, e, a))) ∙ mul_zero (sign_of s ok (k + 1)))
                ∙ mul_zero (sign_of s ok (k + 1))
            | inr o ↦ stays_at i (artificial_column s j) l (omega (arith, u, inside)) o ∙ h.clear i j l (omega (arith, u, o)) (omega (arith, a)) b
          ];
          same = λ i l u. stays i (omega (arith, l)) u (λ e. omega (arith, e, l)) ∙ h.same i (omega (arith, l)) u;
        }
