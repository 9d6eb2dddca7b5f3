-- The marked places of lines: reduced vectors are those with zeros there.
use Rattle.std.proofs.Common.{◌≡◌, ℕ, zero, suc, ◌+◌, ◌<◌, ◌≤◌, ◌⊎◌, inl, inr, List, [], ◌∷◌, length, Contains, Bool, true, false, true≢false, refl, sym, ap, ap₂, ◌∙◌, arith}
use Rattle.std.specs.Prelude.{◌==◌}
use Rattle.std.proofs.lemmas.Bool.Decides.{eqb_tells}
use Rattle.exact_field.specs.Rational.{ℚ, zero_ℚ}
use Rattle.exact_field.proofs.Rationals.{one-not-zero}
use Rattle.polyhedra.proofs.Lists.{Contains-here, Contains-there, Contains-cases, Contains-nil}
use Rattle.polyhedra.proofs.Members.{member_of}
use Rattle.polyhedra.proofs.Tests.{either_true, or_left, or_right}
use Rattle.lineality.specs.Lines.{leading_place}
use Rattle.lineality.specs.Without.{is_line_place, marks_from, marks, without, with_zeros}
use Rattle.lineality.proofs.Places.{at, first, place_is}
use Rattle.lineality.proofs.Echelon.{IsOne, IsEchelon, IsFlatAt}

pub length-marks_from : (lines : List (List ℚ)) (k n : ℕ) → length (marks_from k n lines) ≡ n
length-marks_from lines k zero = refl
length-marks_from lines k (suc n) = ap suc (length-marks_from lines (suc k) n)

pub length-marks : (n : ℕ) (lines : List (List ℚ)) → length (marks n lines) ≡ n
length-marks n lines = length-marks_from lines 1 n

-- ---- what a mark says
test_place : (d : List ℚ) (j : ℕ) → (leading_place d == suc j) ≡ true → first d ≡ j
test_place d j h = elim (eqb_tells (leading_place d) (suc j)) [
  | inl e ↦ let a = place_is d in let b = e.1 in omega (arith, a, b)
  | inr e ↦ absurd (true≢false (sym h ∙ e.0))
]

place_test : (d : List ℚ) (j : ℕ) → first d ≡ j → (leading_place d == suc j) ≡ true
place_test d j h = elim (eqb_tells (leading_place d) (suc j)) [
  | inl e ↦ e.0
  | inr e ↦ absurd (e.1 (place_is d ∙ ap suc h))
]

pub marked : (lines : List (List ℚ)) (j : ℕ) → is_line_place lines (suc j) ≡ true → (d : List ℚ) × Contains lines d × (first d ≡ j)
marked [] j h = absurd (true≢false (sym h))
marked (d ∷ lines) j h = go (marked lines j) (either_true (leading_place d == suc j) (is_line_place lines (suc j)) h)
  where
    go : (is_line_place lines (suc j) ≡ true → (e : List ℚ) × Contains lines e × (first e ≡ j)) →
        ((leading_place d == suc j) ≡ true) ⊎ (is_line_place lines (suc j) ≡ true) → (e : List ℚ) × Contains (d ∷ lines) e × (first e ≡ j)
    go later (inl e) = (d, Contains-here d lines d refl, test_place d j e)
    go later (inr e) = let m : (e : List ℚ) × Contains lines e × (first e ≡ j) = later e in (m.0, Contains-there d lines m.0 m.1, m.2)

pub marks_line : (lines : List (List ℚ)) (d : List ℚ) → Contains lines d → is_line_place lines (suc (first d)) ≡ true
marks_line [] d h = absurd (Contains-nil d h)
marks_line (e ∷ lines) d h = go (marks_line lines d) (Contains-cases e lines d h)
  where
    go : (Contains lines d → is_line_place lines (suc (first d)) ≡ true) → (e ≡ d) ⊎ Contains lines d → is_line_place (e ∷ lines) (suc (first d)) ≡ true
    go later (inl s) = or_left (leading_place e == suc (first d)) (is_line_place lines (suc (first d))) (place_test e (first d) (ap first s))
    go later (inr k) = or_right (leading_place e == suc (first d)) (is_line_place lines (suc (first d))) (later k)

-- ---- a vector that is 0 at the marked places
kept_from : (lines : List (List ℚ)) (k n : ℕ) (y : List ℚ) → length y ≡ n → ((j : ℕ) → is_line_place lines (k + j) ≡ true → at y j ≡ zero_ℚ) →
    with_zeros (marks_from k n lines) (without (marks_from k n lines) y) ≡ y
kept_from lines k zero y w h = refl
kept_from lines k (suc n) [] w h = absurd (omega arith)
kept_from lines k (suc n) (x ∷ y) w h =
    go (is_line_place lines k) refl
    (kept_from lines (suc k) n y (omega arith) (λ j e. h (suc j) (ap (is_line_place lines) (step k j) ∙ e)))
  where
    step : (k j : ℕ) → k + suc j ≡ suc k + j
    step k j = omega arith

    none : (k : ℕ) → k + 0 ≡ k
    none k = omega arith

    go : (b : Bool) → is_line_place lines k ≡ b → with_zeros (marks_from (suc k) n lines) (without (marks_from (suc k) n lines) y) ≡ y →
        with_zeros (b ∷ marks_from (suc k) n lines) (without (b ∷ marks_from (suc k) n lines) (x ∷ y)) ≡ x ∷ y
    go true e later = ap₂ (λ a v. a ∷ v) (sym (h 0 (ap (is_line_place lines) (none k) ∙ e))) later
    go false e later = ap (λ v. x ∷ v) later

zero_from : (lines : List (List ℚ)) (k n : ℕ) (z : List ℚ) (j : ℕ) → j < n → is_line_place lines (k + j) ≡ true → at (with_zeros (marks_from k n lines) z) j ≡ zero_ℚ
zero_from lines k zero z j l h = absurd (omega arith)
zero_from lines k (suc n) z j l h = go (is_line_place lines k) refl z j l h (zero_from lines (suc k) n)
  where
    go : (b : Bool) → is_line_place lines k ≡ b → (z : List ℚ) (j : ℕ) → j < suc n → is_line_place lines (k + j) ≡ true →
        ((z : List ℚ) (j : ℕ) → j < n → is_line_place lines (suc k + j) ≡ true → at (with_zeros (marks_from (suc k) n lines) z) j ≡ zero_ℚ) →
        at (with_zeros (b ∷ marks_from (suc k) n lines) z) j ≡ zero_ℚ
    go true e z zero l h later = refl
    go true e z (suc j) l h later = later z j (omega arith) (ap (is_line_place lines) (omega arith) ∙ h)
    go false e [] j l h later = refl
    go false e (x ∷ z) zero l h later = absurd (true≢false (sym h ∙ ap (is_line_place lines) (omega arith) ∙ e))
    go false e (x ∷ z) (suc j) l h later = later z j (omega arith) (ap (is_line_place lines) (omega arith) ∙ h)

-- past the end there are zeros; so the first place of a vector lies within it
at_past : (v : List ℚ) (k : ℕ) → length v ≤ k → at v k ≡ zero_ℚ
at_past [] k h = refl
at_past (x ∷ v) zero h = absurd (omega arith)
at_past (x ∷ v) (suc k) h = at_past v k (omega arith)

pub first_within : (n : ℕ) (d : List ℚ) → length d ≡ n → IsOne d → first d < n
first_within n d w h = elim (Rattle.std.proofs.lemmas.Bool.Decides.leb_tells (suc (first d)) n) [
  | inl e ↦ let l = e.1 in omega (arith, l)
  | inr e ↦ absurd (one-not-zero (sym h ∙ at_past d (first d) (let l = e.1 in omega (arith, l, w))))
]

module _ (n : ℕ) (lines : List (List ℚ)) (form : IsEchelon n lines) where
  pub flat_kept : (y : List ℚ) → length y ≡ n → IsFlatAt lines y → with_zeros (marks n lines) (without (marks n lines) y) ≡ y
  flat_kept y w h = kept_from lines 1 n y w
      (λ j e. let m : (d : List ℚ) × Contains lines d × (first d ≡ j) = marked lines j (ap (is_line_place lines) (omega arith) ∙ e) in
      ap (at y) (sym m.2) ∙ member_of (λ d. at y (first d) ≡ zero_ℚ) lines m.0 h m.1)

  pub with_flat : (z : List ℚ) → IsFlatAt lines (with_zeros (marks n lines) z)
  with_flat z = Rattle.polyhedra.proofs.Members.all_of_members (λ d. at (with_zeros (marks n lines) z) (first d) ≡ zero_ℚ) lines
      (λ d k. zero_from lines 1 n z (first d)
      (first_within n d (member_of (λ v. length v ≡ n) lines d form.wide.wide k) (member_of IsOne lines d form.ones k))
      (ap (is_line_place lines) (omega arith) ∙ marks_line lines d k))
