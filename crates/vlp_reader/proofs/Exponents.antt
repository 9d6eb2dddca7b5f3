-- The exponent of a text.
use Rattle.std.proofs.Common.{◌≡◌, refl, Bool, true, false, if◌then◌else◌, ℕ, pos, neg_ℤ, ◌+◌, ◌≤◌, List, length, drop, Some, arith, ap, sym, ◌∙◌}
use Rattle.std.specs.List.{list_any, position_or_len}
use Rattle.std.specs.Option.{option_map}
use Rattle.std.specs.Str.Parse.{without_leading_sign, starts_with_minus}
use Rattle.std.proofs.lemmas.Bool.{cond-true, cond-false}
use Rattle.frac128.specs.Signed.{signed}
use Rattle.vlp_reader.specs.Number.{is_e, natural, exponent_of}
use Rattle.vlp_reader.proofs.Zeros.{any-none, any-some}

pub no_exponent : (text : List ℕ) (at : ℕ) → at ≡ position_or_len is_e text → at ≡ length text → exponent_of text ≡ Some (pos 0)
no_exponent text at place all = cond-false (list_any is_e text) _ (Some (pos 0)) (any-none is_e text (sym place ∙ all))

pub some_exponent : (text : List ℕ) (at : ℕ) → at ≡ position_or_len is_e text → at ≤ length text → (at ≡ length text → ⊥)
    → exponent_of text ≡ option_map (signed (starts_with_minus (drop (at + 1) text))) (natural (without_leading_sign (drop (at + 1) text)))
some_exponent text at place within some =
    cond-true (list_any is_e text) _ (Some (pos 0)) (any-some is_e text (omega arith))
    ∙ ap (λ (n : ℕ). option_map (signed (starts_with_minus (drop (n + 1) text))) (natural (without_leading_sign (drop (n + 1) text)))) (sym place)

pub signed_same : (b : Bool) (n : ℕ) → (if b then neg_ℤ (pos n) else pos n) ≡ signed b n
signed_same true n = refl
signed_same false n = refl
