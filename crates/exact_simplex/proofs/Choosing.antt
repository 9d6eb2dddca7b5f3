-- The column that enters, one spot further.
use Rattle.std.proofs.Common.{◌≡◌, ℕ, List, length, take, sym, subst, arith, ◌<◌, ◌≤◌, ◌+◌, inl, inr, nat_eq, Option, None, Some, slice_index_or}
use Rattle.std.specs.Prelude.{MatchOption}
use Rattle.std.proofs.lemmas.List.{take_all}
use Rattle.exact_field.specs.Rational.{ℚ, zero_ℚ, ◌≤ℚ◌, ◌<ℚ◌}
use Rattle.lin_rows.specs.declared.spots.Spot.{Spot}
use Rattle.lin_rows.specs.Lines.{Rises, entries, sum_at}
use Rattle.lin_rows.proofs.Merging.{not_same, place_above}
use Rattle.lin_rows.proofs.SpotLists.{length-entries, entry_read}
use Rattle.lin_rows.proofs.Places.{found_at}
use Rattle.exact_simplex.specs.declared.ratio.Candidate.{Candidate}
use Rattle.exact_simplex.specs.Candidates.{IsBetterColumn, IsEnteringCandidate}
use Rattle.exact_simplex.proofs.Testing.{scanned_more, shown_kept, shown_elsewhere}

-- a column at which the row is negative
abbrev pub IsNegativeAt : {F : Type 0} → (F → ℚ) → List (Spot F) → ℕ → ℕ → Type 0
IsNegativeAt value row count col = (n : ℕ) → Rises n 0 (entries value row) → (1 ≤ col) × (col ≤ count) × (sum_at (entries value row) col <ℚ zero_ℚ)

-- of the first i spots none is negative, or the best so far is
abbrev pub IsBestSo : {F : Type 0} → (F → ℚ) → List (Spot F) → ℕ → ℕ → Option Candidate → Type 0
IsBestSo value row count i best =
    MatchOption best ((j : ℕ) → j ≤ count → zero_ℚ ≤ℚ sum_at (entries value (take i row)) j)
    (λ (b : Candidate). (n : ℕ) → Rises n 0 (entries value row) → (1 ≤ b.col) × (b.col ≤ count) × (sum_at (entries value row) b.col <ℚ zero_ℚ))

module _ {F : Type 0} (value : F → ℚ) (row : List (Spot F)) (count i : ℕ) (spot : Spot F) (inside : i < length row) (is : spot ≡ slice_index_or row i spot) where
  negative_here : spot.at ≤ count → value spot.value <ℚ zero_ℚ → IsNegativeAt value row count spot.at
  negative_here within down n rises =
      let e = entry_read value row i spot inside is in
      let low : 1 ≤ spot.at =
      subst (λ p. 1 ≤ p.place) (sym e) (place_above n 0 (entries value row) i (record { place = spot.at; value = value spot.value }) rises (omega (arith, inside, length-entries value row))) in
      (low, within, subst (λ (q : ℚ). q <ℚ zero_ℚ) (found_at value n row rises i spot inside is) down)

  pub candidate_found : (best : Option Candidate) (better : Candidate) → IsBetterColumn spot.at best better → spot.at ≤ count → value spot.value <ℚ zero_ℚ → IsBestSo value row count i best →
      IsBestSo value row count (i + 1) (Some better)
  candidate_found None better is_own within down h = subst (IsNegativeAt value row count) (sym is_own) (negative_here within down)
  candidate_found (Some best) better is_either within down h =
      elim is_either [ inl is_own ↦ subst (IsNegativeAt value row count) (sym is_own) (negative_here within down) | inr is_best ↦ subst (IsNegativeAt value row count) (sym is_best) h ]

  pub candidate_kept : (best : Option Candidate) → zero_ℚ ≤ℚ value spot.value → IsBestSo value row count i best → IsBestSo value row count (i + 1) best
  candidate_kept None up h = λ j l. scanned_more value row i spot j inside is (h j l) (shown_kept (nat_eq spot.at j) (value spot.value) up)
  candidate_kept (Some best) up h = h

  pub candidate_kept_else : (best : Option Candidate) → count < spot.at → IsBestSo value row count i best → IsBestSo value row count (i + 1) best
  candidate_kept_else None past h =
      λ j l. scanned_more value row i spot j inside is (h j l) (shown_elsewhere (nat_eq spot.at j) (value spot.value) (not_same spot.at j (λ e. omega (arith, e, l, past))))
  candidate_kept_else (Some best) past h = h

pub candidate_ends : {F : Type 0} (value : F → ℚ) (row : List (Spot F)) (count i : ℕ) (best : Option Candidate) → length row ≤ i → IsBestSo value row count i best →
    (n : ℕ) → Rises n 0 (entries value row) → IsEnteringCandidate (entries value row) count best
candidate_ends value row count i None end h n rises = λ j low high. subst (λ xs. zero_ℚ ≤ℚ sum_at (entries value xs) j) (take_all i row end) (h j high)
candidate_ends value row count i (Some best) end h n rises = h n rises
