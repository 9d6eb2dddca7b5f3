use Rattle.std.proofs.Common.{◌-◌, ◌+◌, ◌*◌, ◌^◌, ℕ, get_or, take, arith, min, ap, sym, ◌∙◌}
use Rattle.std.specs.Char.{digit_value}
use Rattle.std.specs.Str.Parse.{digits_value_after}
use Rattle.std.proofs.lemmas.List.{take_all}
use Rattle.vlp_reader.proofs.Digits.{digit_small, digit_range, digit_of, saturated, value_after_more, below_most}
use Rattle.vlp_reader.proofs.number.extend.Goals as goal

pub overflow_sub-b : goal.overflow_sub-b
overflow_sub-b c = (digit_range (get_or c.args.digits.now c.loop-b.b-index 0) (digit_of c.args.digits.now c.loop-b.b-index c.loop-b-test.true c.requires)).0

pub loop-b-init : goal.loop-b-init
loop-b-init c = below_most c.args.start c.ranges.start.fits

pub loop-b-preserved : goal.loop-b-preserved
loop-b-preserved c =
    let digits = c.args.digits.now in
    let i = c.loop-b.b-index in
    let most : ℕ = 2 ^ 128 - 1 in
    let digit = digit_small (get_or digits i 0) (digit_of digits i c.loop-b-test.true c.requires) in
    let so_far = digits_value_after 10 c.args.start (take i digits) in
    c.saturating_add-value.ensures
    ∙ ap (λ (n : ℕ). min (n + c.from.result) most) (c.saturating_mul.ensures ∙ ap (λ (n : ℕ). min (n * 10) most) c.loop-b.invariant)
    ∙ ap (λ (n : ℕ). min (min (min so_far most * 10) most + n) most) (c.from.ensures ∙ sym digit.0)
    ∙ saturated so_far (digit_value (get_or digits i 0)) most
    ∙ ap (λ (n : ℕ). min n most) (sym (value_after_more c.args.start digits i c.loop-b-test.true))

pub returns : goal.returns
returns c = c.loop-b.invariant ∙ ap (λ l. min (digits_value_after 10 c.args.start l) (2 ^ 128 - 1)) (take_all c.loop-b.b-index c.args.digits.now (omega arith))
