use Rattle.std.proofs.Common.{◌^◌, get_or, min, arith, sym, ap, ◌∙◌, subst}
use Rattle.std.specs.Str.Parse.{AllDigits, digits_value}
use Rattle.std.proofs.lemmas.Int.Digits.{digits_value_more, digits_more}
use Rattle.std.proofs.lemmas.List.{take_all}
use Rattle.word_lines.proofs.Reading.{digit_small, not_all_digits, are_digits}
use Rattle.word_lines.proofs.number.value.Goals as goal

pub returns-then-not-is_ascii_digit : goal.returns-then-not-is_ascii_digit
returns-then-not-is_ascii_digit c = not_all_digits c.args.digits.now c.loop-b.b-index c.loop-b-test.true (sym c.if-not-is_ascii_digit.ensures.value)

pub loop-b-preserved : goal.loop-b-preserved
loop-b-preserved c =
    let digits = c.args.digits.now in
    let i = c.loop-b.b-index in
    let digit = digit_small (get_or digits i 0) (sym c.if-not-is_ascii_digit.ensures.value) in
    let more = digits_value_more 10 digits i c.loop-b-test.true in
    record { value = omega arith; digits = digits_more 10 digits i c.loop-b-test.true c.loop-b.invariant.digits digit.1 }

pub returns : goal.returns
returns c =
    let digits = c.args.digits.now in
    let whole = take_all c.loop-b.b-index digits (omega arith) in
    (are_digits digits (subst (AllDigits 10) whole c.loop-b.invariant.digits), c.loop-b.invariant.value ∙ ap (λ ds. min (digits_value 10 ds) (2 ^ 120)) whole)
