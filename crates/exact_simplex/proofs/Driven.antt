-- The first entry of a row that is not 0, and what a pivot there keeps.
use Rattle.std.proofs.Common.{◌≡◌, ◌≢◌, ℕ, List, [], ◌∷◌, ◌++◌, length, take, sym, refl, ap, ap₂, ◌∙◌, subst, arith, ◌<◌, ◌≤◌, ◌+◌, inl, inr, Bool, true, false, true≢false, IsTrue, slice_index_or, slice_set, nat_eq}
use Rattle.std.specs.Prelude.{◌↔◌}
use Rattle.std.proofs.lemmas.Bool.{cases_eq}
use Rattle.std.proofs.lemmas.List.{take_more, map_push}
use Rattle.exact_field.specs.Rational.{ℚ, zero_ℚ, ◌+ℚ◌, ◌≤ℚ◌}
use Rattle.exact_field.specs.Vector.{entry}
use Rattle.polyhedra.proofs.Laws.{add_zero}
use Rattle.tableaux.specs.Table.{Table, System, IsSystem, at, pivoted, equation_count, unknown_count, right_column}
use Rattle.tableaux.specs.Dictionary.{basic_column, IsDictionaryOf, IsExchanged}
use Rattle.tableaux.specs.Simplex.{IsFeasibleAt}
use Rattle.tableaux.proofs.Phases.{stays_at}
use Rattle.lin_rows.specs.declared.spots.Spot.{Spot}
use Rattle.lin_rows.specs.Lines.{entry_of, entries, sum_at}
use Rattle.lin_rows.proofs.Merging.{shown, sum_at-append}
use Rattle.exact_simplex.proofs.Untouched.{row_untouched, moved, many, system_dictionary_after}

-- ---- the first entry that is not 0
pub scanned_zero : {F : Type 0} (value : F → ℚ) (spots : List (Spot F)) (i : ℕ) (c : Spot F) (j : ℕ) → i < length spots → c ≡ slice_index_or spots i c →
    sum_at (entries value (take i spots)) j ≡ zero_ℚ → shown (nat_eq c.at j) (value c.value) ≡ zero_ℚ → sum_at (entries value (take (i + 1) spots)) j ≡ zero_ℚ
scanned_zero value spots i c j l is before here =
    let more : entries value (take (i + 1) spots) ≡ entries value (take i spots) ++ entry_of value c ∷ [] =
    ap (entries value) (take_more spots i c l ∙ ap (λ d. take i spots ++ d ∷ []) (sym is)) ∙ map_push (entry_of value) (take i spots) c in
    ap (λ es. sum_at es j) more ∙ sum_at-append (entries value (take i spots)) (entry_of value c ∷ []) j
    ∙ ap₂ (λ p q. p +ℚ q) before (ap (λ q. q +ℚ zero_ℚ) here ∙ add_zero zero_ℚ) ∙ add_zero zero_ℚ

pub shown_zero : (b : Bool) (x : ℚ) → x ≡ zero_ℚ → shown b x ≡ zero_ℚ
shown_zero true x e = e
shown_zero false x e = refl

pub shown_nowhere : (b : Bool) (x : ℚ) → b ≡ false → shown b x ≡ zero_ℚ
shown_nowhere b x e = ap (λ c. shown c x) e

-- what the test says
pub not_zero : (b : Bool) (q : ℚ) → (IsTrue b ↔ (q ≡ zero_ℚ)) → b ≡ false → q ≢ zero_ℚ
not_zero b q h e z = true≢false (sym (h.1 z) ∙ e)

pub is_zero_value : (b : Bool) (q : ℚ) → (IsTrue b ↔ (q ≡ zero_ℚ)) → b ≡ true → q ≡ zero_ℚ
is_zero_value b q h e = h.0 e

-- ---- a pivot at a row with an artificial column and the right side 0
module _ (s : System) (ok : IsSystem s) (basis : List ℕ) (d : Table) (h : IsFeasibleAt s basis d) (row col : ℕ) (inside : row < equation_count s) (long : row < length basis)
    (low : 1 ≤ col) (high : col ≤ unknown_count s) (pivot : at d (row + 1) col ≢ zero_ℚ) (over : unknown_count s < basic_column basis (row + 1)) where
  abbrev held : IsDictionaryOf s basis d
  held = h.full.dictionary

  abbrev after : List ℕ
  after = slice_set basis row col

  change : IsExchanged basis (row + 1) col after
  change = moved s ok basis d held row col inside long low (omega arith) pivot

  right_stays : (i : ℕ) → 1 ≤ i → i ≤ equation_count s → at (pivoted d (row + 1) col) i (right_column s) ≡ at d i (right_column s)
  right_stays i l u =
      stays_at s ok basis d held (row + 1) col (omega arith) (omega arith) i (right_column s) l u (h.artificial (row + 1) (omega arith) (omega arith) over)

  other_row : (i : ℕ) → unknown_count s < basic_column after i → i ≢ row + 1
  other_row i more e = omega (arith, more, high, ap (basic_column after) e ∙ change.here)

  before : (i : ℕ) → 1 ≤ i → unknown_count s < basic_column after i → unknown_count s < basic_column basis i
  before i l more = subst (λ (c : ℕ). unknown_count s < c) (change.elsewhere i l (other_row i more)) more

  pub driven_feasible : IsFeasibleAt s after (pivoted d (row + 1) col)
  driven_feasible =
      record {
        full = record {
          dictionary = system_dictionary_after s ok basis d held row col inside long low (omega arith) pivot;
          full = λ i l u. elim (cases_eq i (row + 1)) [
            | inl e ↦ λ none. absurd (omega (arith, low, sym (ap (basic_column after) e ∙ change.here) ∙ none))
            | inr o ↦ λ none. h.full.full i l u (sym (change.elsewhere i l o) ∙ none)
          ];
        };
        right = λ i l u. subst (λ (q : ℚ). zero_ℚ ≤ℚ q) (sym (right_stays i l u)) (h.right i l u);
        artificial = λ i l u more. right_stays i l u ∙ h.artificial i l u (before i l more);
      }

  pub driven_idle : ((i j : ℕ) → 1 ≤ i → i ≤ row → unknown_count s < basic_column basis i → 1 ≤ j → j ≤ unknown_count s → at d i j ≡ zero_ℚ) →
      (i j : ℕ) → 1 ≤ i → i ≤ row + 1 → unknown_count s < basic_column after i → 1 ≤ j → j ≤ unknown_count s → at (pivoted d (row + 1) col) i j ≡ zero_ℚ
  driven_idle idle i j l u more a b =
      let other : i ≢ row + 1 = other_row i more in
      let was = before i l more in
      let old : (k : ℕ) → 1 ≤ k → k ≤ unknown_count s → at d i k ≡ zero_ℚ = λ k a b. idle i k l (omega (arith, u, other)) was a b in
      let size = many s ok basis d held row col inside long low (omega arith) pivot in
      ap (λ (r : List ℚ). entry r j)
      (row_untouched (right_column s) d (row + 1) col i held.dictionary.wide (omega arith) (omega (arith, inside, size)) l (omega (arith, u, inside, size)) other (old col low high))
      ∙ old j a b
