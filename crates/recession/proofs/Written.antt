-- Each vector is that of some spots.
use Rattle.std.proofs.Common.{◌≡◌, ℕ, zero, suc, ◌+◌, ◌≤◌, ◌<◌, List, [], ◌∷◌, ◌++◌, map, length, take, refl, ap, subst, arith, IsTrue, not, Bool, true, false, inl, inr}
use Rattle.std.specs.Prelude.{slice_index_or}
use Rattle.std.proofs.lemmas.List.{take_all, map-append}
use Rattle.std.proofs.lemmas.List.Elements.{All-nil}
use Rattle.exact_field.specs.Rational.{ℚ, zero_ℚ}
use Rattle.frac128.specs.Sparse.{is_zero}
use Rattle.frac128.specs.declared.vectors.Spot.{Spot}
use Rattle.lin_rows.specs.Clear.{Writes}
use Rattle.lin_rows.specs.Lines.{last_place}
use Rattle.lin_rows.specs.Read.{IsLineOf}
use Rattle.lin_rows.proofs.Building.{line_pushed, last_pushed, dense_line}
use Rattle.vlp_problem.proofs.Zero.{zero_is}
use Rattle.overflows.proofs.Sparse.{AreKept, vector_of, kept_more}
use Rattle.upper_image.specs.Spots.{dense, entry_of, IsVector}

-- the spots stand for the first i entries of v
record IsWrittenTo (v : List ℚ) (i : ℕ) (m : List Spot) : Type 0 where
  line : IsLineOf (length v) (take i v) (map entry_of m)
  last : last_place 0 (map entry_of m) ≤ i
  kept : AreKept m

written_more : (v : List ℚ) (i : ℕ) (m n : List Spot) → i < length v → Writes (i + 1) (slice_index_or v i zero_ℚ) (map entry_of m) (map entry_of n) → AreKept n →
    IsWrittenTo v i m → IsWrittenTo v (i + 1) n
written_more v i m n l w kept h = record {
  line = line_pushed (length v) i v (slice_index_or v i zero_ℚ) (map entry_of m) (map entry_of n) h.line h.last l (omega arith) refl w;
  last = last_pushed i (slice_index_or v i zero_ℚ) (map entry_of m) (map entry_of n) h.last w;
  kept = kept;
}

next : (v : List ℚ) (i : ℕ) (m : List Spot) (b : Bool) → is_zero (slice_index_or v i zero_ℚ) ≡ b → i < length v → IsWrittenTo v i m → (n : List Spot) × IsWrittenTo v (i + 1) n
next v i m true e l h = (m, written_more v i m m l (inr (zero_is (slice_index_or v i zero_ℚ) e, refl)) h.kept h)
next v i m false e l h =
    let s : Spot = record { at = i + 1; value = slice_index_or v i zero_ℚ } in
    (m ++ s ∷ [], written_more v i m (m ++ s ∷ []) l (inl (map-append entry_of m (s ∷ []))) (kept_more m (m ++ s ∷ []) s refl (ap not e) h.kept) h)

written_to : (v : List ℚ) (i : ℕ) → i ≤ length v → (m : List Spot) × IsWrittenTo v i m
written_to v zero l = ([], record { line = record { rises = tt; sums = λ j low. refl }; last = omega arith; kept = All-nil (λ s. IsTrue (not (is_zero s.value))) })
written_to v (suc i) l =
    let before = written_to v i (omega arith) in
    let more = next v i before.0 (is_zero (slice_index_or v i zero_ℚ)) refl (omega arith) before.1 in
    (more.0, subst (λ (k : ℕ). IsWrittenTo v k more.0) (omega arith) more.1)

-- the sparse vector of v
pub record IsWritten (v : List ℚ) (m : List Spot) : Type 0 where
  pub vector : IsVector (length v) m
  pub same : dense (length v) m ≡ v

pub written : (v : List ℚ) → (m : List Spot) × IsWritten v m
written v =
    let w = written_to v (length v) (omega arith) in
    let line : IsLineOf (length v) v (map entry_of w.0) = subst (λ (xs : List ℚ). IsLineOf (length v) xs (map entry_of w.0)) (take_all (length v) v (omega arith)) w.1.line in
    (w.0, record { vector = vector_of (length v) w.0 line.rises w.1.kept; same = dense_line (length v) v (map entry_of w.0) line refl })
