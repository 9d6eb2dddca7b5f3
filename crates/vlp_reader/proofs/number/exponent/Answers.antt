use Rattle.std.proofs.Common.{◌≡◌, ℤ, ℕ, List, Some, pos, neg_ℤ, ap, sym, ◌∙◌, arith, ◌+◌, if◌then◌else◌, drop, to_z, of_z}
use Rattle.std.specs.Int.{w128}
use Rattle.std.specs.Option.{option_map}
use Rattle.std.specs.Str.Parse.{without_leading_sign, starts_with_minus}
use Rattle.std.proofs.lemmas.Int.{ints}
use Rattle.std.proofs.lemmas.List.{take_rest}
use Rattle.frac128.specs.Signed.{signed}
use Rattle.vlp_reader.specs.Number.{natural}
use Rattle.vlp_reader.proofs.Exponents.{no_exponent, some_exponent, signed_same}
use Rattle.vlp_reader.proofs.number.exponent.Goals as goal

pub returns-then-at-text-clause-value : goal.returns-then-at-text-clause-value
returns-then-at-text-clause-value c = sym (no_exponent c.args.text.now c.place_of-at.result c.place_of-at.ensures.value c.if-at-text.true)

pub returns-in_err-natural-clause-value : goal.returns-in_err-natural-clause-value
returns-in_err-natural-clause-value c =
    let text = c.args.text.now in
    let at = c.place_of-at.result in
    c.from_residual.ensures
    ∙ sym (some_exponent text at c.place_of-at.ensures.value c.place_of-at.ensures.bound c.if-at-text.false
    ∙ ap (λ n. option_map (signed (starts_with_minus (drop (at + 1) text))) n)
    (ap (λ (l : List ℕ). natural (without_leading_sign l)) (sym (take_rest text (at + 1)))
    ∙ ap natural (sym c.without_sign.ensures) ∙ sym c.natural.ensures ∙ c.in_err-natural.was))

pub returns-clause-value : goal.returns-clause-value
returns-clause-value c =
    let text = c.args.text.now in
    let at = c.place_of-at.result in
    let n = c.in_ok-natural.field-0 in
    let is : natural (without_leading_sign (drop (at + 1) text)) ≡ Some n =
    ap (λ (l : List ℕ). natural (without_leading_sign l)) (sym (take_rest text (at + 1))) ∙ ap natural (sym c.without_sign.ensures) ∙ sym c.natural.ensures ∙ c.in_ok-natural.was in
    let minus : c.is_negative.result ≡ starts_with_minus (drop (at + 1) text) = c.is_negative.ensures ∙ ap starts_with_minus (take_rest text (at + 1)) in
    let size_is : to_z w128 (of_z w128 c.from-size.result) ≡ pos n = let t = c.from-size.ensures in let fits = c.from-size.type_inv in omega (arith, ints) in
    let value : c.with_sign.result ≡ signed (starts_with_minus (drop (at + 1) text)) n =
    c.with_sign.ensures ∙ ap (λ (z : ℤ). if c.is_negative.result then neg_ℤ z else z) size_is ∙ signed_same c.is_negative.result n ∙ ap (λ b. signed b n) minus in
    let fits = c.with_sign.type_inv in
    let signed_is : to_z w128 (of_z w128 c.with_sign.result) ≡ c.with_sign.result = omega (arith, ints) in
    ap Some (signed_is ∙ value)
    ∙ sym (some_exponent text at c.place_of-at.ensures.value c.place_of-at.ensures.bound c.if-at-text.false
    ∙ ap (λ o. option_map (signed (starts_with_minus (drop (at + 1) text))) o) is)
