-- A text is cut at the first place of a byte.
use Rattle.std.proofs.Common.{◌≡◌, ℕ, ◌+◌, ◌-◌, ◌<◌, ◌≤◌, Bool, false, true, List, [], ◌∷◌, ◌++◌, length, get_or, ◌==◌, take, drop, Some, None, cond, nat_lt, refl, ap, sym, ◌∙◌, arith}
use Rattle.std.specs.List.{All, slice_split, position, position_or_len}
use Rattle.std.proofs.lemmas.Grind.{common_steps}
use Rattle.std.proofs.lemmas.List.{take_all}
use Rattle.std.proofs.lemmas.List.Quantifiers.{position-Some}
use Rattle.std.proofs.lemmas.List.Sums.{fails_before_first}
use Rattle.std.proofs.lemmas.Bool.{ltb-false, eqb-true}
use Rattle.std.proofs.lemmas.List.Splits.{slice_split_at, slice_split_none}

module _ (p : ℕ → Bool) (text : List ℕ) where
  around : (at : ℕ) → at < length text → text ≡ take at text ++ get_or text at 0 ∷ drop (at + 1) text
  around at h = grind (arith, common_steps)

  lacks_before : (at : ℕ) → at < length text → ((k : ℕ) → k < at → p (get_or text k 0) ≡ false) → All (λ x. p x ≡ false) (take at text)
  lacks_before at h none k e m = let within = none k (grind (arith, common_steps)) in grind (arith, common_steps)

  rest_whole : (n : ℕ) → take (length text - n) (drop n text) ≡ drop n text
  rest_whole n = take_all _ (drop n text) (grind (arith, common_steps))

  -- the piece before the byte, and the pieces of what stands after it
  pub cut_there : (at : ℕ) → position p text ≡ Some at → slice_split p text ≡ take at text ∷ slice_split p (take (length text - (at + 1)) (drop (at + 1) text))
  cut_there at e =
      let first = position-Some p text at 0 e in
      ap (slice_split p) (around at first.0)
      ∙ slice_split_at p (take at text) (get_or text at 0) (drop (at + 1) text) (lacks_before at first.0 first.2) first.1
      ∙ ap (λ rest. take at text ∷ slice_split p rest) (sym (rest_whole (at + 1)))

  -- before the first place there is none
  pub lacks_in_front : (at : ℕ) → position p text ≡ Some at → All (λ x. p x ≡ false) (take at text)
  lacks_in_front at e = let first = position-Some p text at 0 e in lacks_before at first.0 first.2

  passes_late : (n : ℕ) (b : Bool) → nat_lt n (length text) ≡ b → cond b (Some n) None ≡ None → length text ≤ n
  passes_late n true e none = cc
  passes_late n false e none = ltb-false n (length text) e

  pub lacks : position p text ≡ None → All (λ x. p x ≡ false) text
  lacks e =
      let late = passes_late (position_or_len p text) (nat_lt (position_or_len p text) (length text)) refl e in
      λ k d h. fails_before_first p text k d (omega arith)

  -- the one piece of a text without the byte
  pub uncut : position p text ≡ None → slice_split p text ≡ text ∷ []
  uncut e = slice_split_none p text (lacks e)

-- a text is what stands before the first place of a byte, the byte, and what stands after it
pub parts_at : (byte : ℕ) (text : List ℕ) (at : ℕ) → position (λ b. b == byte) text ≡ Some at → text ≡ take at text ++ byte ∷ drop (at + 1) text
parts_at byte text at e =
    let first = position-Some (λ b. b == byte) text at 0 e in
    around (λ b. b == byte) text at first.0 ∙ ap (λ b. take at text ++ b ∷ drop (at + 1) text) (eqb-true (get_or text at 0) byte first.1)
