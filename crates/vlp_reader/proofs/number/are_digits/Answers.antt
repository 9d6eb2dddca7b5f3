use Rattle.std.proofs.Common.{get_or, arith, sym, subst}
use Rattle.std.specs.Str.Parse.{AllDigits}
use Rattle.std.proofs.lemmas.Int.Digits.{digits_more}
use Rattle.std.proofs.lemmas.List.{take_all}
use Rattle.vlp_reader.proofs.Digits.{digit_small, digits_are, no_digit}
use Rattle.vlp_reader.proofs.number.are_digits.Goals as goal

pub returns-then-not-is_ascii_digit : goal.returns-then-not-is_ascii_digit
returns-then-not-is_ascii_digit c =
    let test = c.if-not-is_ascii_digit.ensures in
    sym (no_digit c.args.text.now c.loop-b.b-index c.loop-b-test.true (sym test.value))

pub loop-b-preserved : goal.loop-b-preserved
loop-b-preserved c =
    let text = c.args.text.now in
    let i = c.loop-b.b-index in
    let test = c.if-not-is_ascii_digit.ensures in
    digits_more 10 text i c.loop-b-test.true c.loop-b.invariant (digit_small (get_or text i 0) (sym test.value)).1

pub returns : goal.returns
returns c = sym (digits_are c.args.text.now (subst (AllDigits 10) (take_all c.loop-b.b-index c.args.text.now (omega arith)) c.loop-b.invariant))
