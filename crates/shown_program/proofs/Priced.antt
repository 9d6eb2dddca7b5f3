-- Prices of columns, one after the other.
use Rattle.std.proofs.Common.{◌≡◌, ℕ, List, [], ◌∷◌, ◌++◌, length, map, All, IsTrue, sym, ap, ◌∙◌, subst, arith, ◌<◌, ◌≤◌, ◌-◌, ◌+◌, inl, inr, ◌⊎◌, Bool, false, slice_index_or}
use Rattle.std.proofs.lemmas.Bool.{cases_lt}
use Rattle.std.proofs.lemmas.List.{get_or_append_left, get_or_push, length_push}
use Rattle.exact_field.specs.Rational.{ℚ, ◌≤ℚ◌}
use Rattle.exact_field.specs.Vector.{entry, dot}
use Rattle.shown_program.specs.Marks.{mark_at}
use Rattle.program_columns.specs.Program.{AreInRange, column_in}
use Rattle.shown_program.specs.Tests.{ArePriced, Bound, IsTight}
use Rattle.program_columns.specs.declared.columns.Columns.{Columns}

module _ {F : Type 0} (value : F → ℚ) (p : Columns F) (y : List ℚ) where
  pub priced_none : ArePriced value p y 0 []
  priced_none = record {
    many = omega arith;
    bound = λ k low high. absurd (omega arith);
    tight_at = λ k low high. absurd (omega arith);
  }

  pub priced_more : (n : ℕ) (tight : List Bool) (b : Bool) →
      (n + 1 ≤ length p.cost → entry (map value p.cost) (n + 1) ≤ℚ dot y (column_in value p (n + 1))) →
      (IsTrue b → IsTight value p y (n + 1)) → ArePriced value p y n tight →
      ArePriced value p y (n + 1) (tight ++ b ∷ [])
  priced_more n tight b bound exact h = record {
    many = length_push tight b ∙ ap (λ k. k + 1) h.many;
    bound = λ k low high. bound_at k low high (cases_lt n k);
    tight_at = λ k low high. at_place k low high (cases_lt n k);
  }
    where
      bound_at : (k : ℕ) → 1 ≤ k → k ≤ n + 1 → (n < k) ⊎ (k ≤ n) → k ≤ length p.cost →
          entry (map value p.cost) k ≤ℚ dot y (column_in value p k)
      bound_at k low high (inr earlier) own = h.bound k low earlier own
      bound_at k low high (inl last) own =
          let same : n + 1 ≡ k = omega arith in
          subst (λ (j : ℕ). entry (map value p.cost) j ≤ℚ dot y (column_in value p j)) same
          (bound (omega arith))

      at_place : (k : ℕ) → 1 ≤ k → k ≤ n + 1 → (n < k) ⊎ (k ≤ n) →
          IsTrue (mark_at (tight ++ b ∷ []) k) → IsTight value p y k
      at_place k low high (inr earlier) told =
          h.tight_at k low earlier
          (sym (get_or_append_left tight (b ∷ []) false (k - 1) (omega (arith, h.many))) ∙ told)
      at_place k low high (inl last) told =
          let same : n + 1 ≡ k = omega arith in
          subst (λ (j : ℕ). IsTight value p y j) same
          (exact (sym (get_or_push tight b false (k - 1) (omega (arith, h.many))) ∙ told))

  -- the price of each unknown, and of the columns of a basis
  pub bound_all : (tight : List Bool) →
      ArePriced value p y (length p.cost + length p.right) tight → Bound value p y
  bound_all tight h = λ k low high. h.bound k low (omega arith) high

  pub tight_all : (columns : List ℕ) (tight : List Bool) → AreInRange p columns →
      ArePriced value p y (length p.cost + length p.right) tight →
      All (λ c. IsTrue (mark_at tight c)) columns → All (IsTight value p y) columns
  tight_all columns tight range h marked = λ k d l.
      h.tight_at (slice_index_or columns k d) (range.from_one k d l) (range.to_end k d l)
      (marked k d l)
