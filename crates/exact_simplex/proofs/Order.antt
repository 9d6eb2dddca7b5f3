-- The lexicographic order of what is left of two vectors.
use Rattle.std.proofs.Common.{◌≡◌, ℕ, zero, suc, Bool, true, false, List, [], ◌∷◌, length, drop, refl, sym, ap, ap₂, ◌∙◌, arith, ◌<◌, ◌≤◌, ◌+◌, slice_index_or, not, ◌&&◌, ◌||◌}
use Rattle.exact_field.specs.Rational.{ℚ, zero_ℚ, le_ℚ, ◌<ℚ◌}
use Rattle.polyhedra.proofs.Laws.{le_refl, le_of_lt}
use Rattle.tableaux.specs.Lex.{lex_less}
use Rattle.tableaux.proofs.Lexicographic.{not_le_of_lt}

-- one step of the test
abbrev decided : ℚ → ℚ → Bool → Bool
decided x y rest = not (le_ℚ y x) || (not (not (le_ℚ x y)) && rest)

step : (i : ℕ) (us vs : List ℚ) → i < length us → i < length vs →
    lex_less (drop i us) (drop i vs) ≡ decided (slice_index_or us i zero_ℚ) (slice_index_or vs i zero_ℚ) (lex_less (drop (suc i) us) (drop (suc i) vs))
step i [] vs l u = absurd (omega arith)
step i (x ∷ us) [] l u = absurd (omega arith)
step zero (x ∷ us) (y ∷ vs) l u = refl
step (suc i) (x ∷ us) (y ∷ vs) l u = step i us vs (omega arith) (omega arith)

module _ (i : ℕ) (us vs : List ℚ) (l : i < length us) (u : i < length vs) where
  pub lex_now : slice_index_or us i zero_ℚ <ℚ slice_index_or vs i zero_ℚ → lex_less (drop i us) (drop i vs) ≡ true
  lex_now h = step i us vs l u ∙ ap (λ a. not a || (not (not (le_ℚ (slice_index_or us i zero_ℚ) (slice_index_or vs i zero_ℚ))) && lex_less (drop (suc i) us) (drop (suc i) vs)))
      (not_le_of_lt (slice_index_or us i zero_ℚ) (slice_index_or vs i zero_ℚ) h)

  pub lex_not : slice_index_or vs i zero_ℚ <ℚ slice_index_or us i zero_ℚ → lex_less (drop i us) (drop i vs) ≡ false
  lex_not h = step i us vs l u ∙ ap₂ (λ a b. not a || (not (not b) && lex_less (drop (suc i) us) (drop (suc i) vs)))
      (le_of_lt (slice_index_or vs i zero_ℚ) (slice_index_or us i zero_ℚ) h) (not_le_of_lt (slice_index_or vs i zero_ℚ) (slice_index_or us i zero_ℚ) h)

  pub lex_later : slice_index_or us i zero_ℚ ≡ slice_index_or vs i zero_ℚ → lex_less (drop (i + 1) us) (drop (i + 1) vs) ≡ lex_less (drop i us) (drop i vs)
  lex_later e =
      let x : ℚ = slice_index_or us i zero_ℚ in
      let next : i + 1 ≡ suc i = omega arith in
      ap (λ k. lex_less (drop k us) (drop k vs)) next
      ∙ sym (step i us vs l u ∙ ap (λ y. decided x y (lex_less (drop (suc i) us) (drop (suc i) vs))) (sym e)
      ∙ ap₂ (λ a b. not a || (not (not b) && lex_less (drop (suc i) us) (drop (suc i) vs))) (le_refl x) (le_refl x))

lex-nil : (u : List ℚ) → lex_less u [] ≡ false
lex-nil [] = refl
lex-nil (x ∷ u) = refl

pub lex_end : (i : ℕ) (us vs : List ℚ) → length us ≤ i → lex_less (drop i us) (drop i vs) ≡ false
lex_end zero [] vs h = refl
lex_end zero (x ∷ us) vs h = absurd (omega arith)
lex_end (suc i) [] vs h = refl
lex_end (suc i) (x ∷ us) [] h = lex-nil (drop i us)
lex_end (suc i) (x ∷ us) (y ∷ vs) h = lex_end i us vs (omega arith)
