use Rattle.std.proofs.Common.{◌-◌, length, get_or, take, arith, sym, ◌∙◌, ap, Some, None}
use Rattle.std.specs.Str.Parse.{digits_value}
use Rattle.std.proofs.lemmas.Bool.{cond-true, cond-false, eqb-false}
use Rattle.std.proofs.lemmas.Int.Digits.{digits_value_more, digits_more}
use Rattle.std.proofs.lemmas.List.{take_all}
use Rattle.vlp_reader.specs.Number.{is_natural, natural_value}
use Rattle.vlp_reader.proofs.Digits.{digit_small, not_natural, natural_from, saturated}
use Rattle.vlp_reader.proofs.text.natural.Goals as goal

pub returns-then-not-is_ascii_digit : goal.returns-then-not-is_ascii_digit
returns-then-not-is_ascii_digit c =
    let word = c.args.word.now in
    let test = c.if-not-is_ascii_digit.ensures in
    sym (cond-false (is_natural word) (Some (natural_value word)) None (not_natural word c.loop-b.b-index c.loop-b-test.true (sym test.value)))

pub loop-b-preserved : goal.loop-b-preserved
loop-b-preserved c =
    let word = c.args.word.now in
    let i = c.loop-b.b-index in
    let test = c.if-not-is_ascii_digit.ensures in
    let digit = digit_small (get_or word i 0) (sym test.value) in
    let more = digits_value_more 10 word i c.loop-b-test.true in
    let sum = saturated (digits_value 10 (take i word)) (get_or word i 0 - 48) 4294967295 in
    (digits_more 10 word i c.loop-b-test.true c.loop-b.invariant.0 digit.1, omega arith)

pub returns : goal.returns
returns c =
    let word = c.args.word.now in
    let i = c.loop-b.b-index in
    let some = eqb-false (length word) 0 (sym c.if-is_empty.ensures) in
    let all = take_all i word (omega arith) in
    ap Some (c.loop-b.invariant.1 ∙ ap natural_value all)
    ∙ sym (cond-true (is_natural word) (Some (natural_value word)) None (natural_from word i (omega arith) (omega arith) c.loop-b.invariant.0))
