use Rattle.std.proofs.Common.{◌≡◌, ℕ, ◌+◌, List, drop, length, map, sym, ap, ◌∙◌, arith}
use Rattle.exact_field.specs.Rational.{ℚ}
use Rattle.lineality.specs.Lines.{leading_place}
use Rattle.lineality.proofs.Reading.{place_here, place_next, values_end, values_rest}
use Rattle.lineality.proofs.line_places.leading_place.Goals as goal

pub returns-then-not-is_zero : goal.returns-then-not-is_zero
returns-then-not-is_zero g c =
    let value = g.F.Field.value in
    let v = c.args.v.now in
    let k = c.loop-k.k in
    let x = c.index-v-k.result in
    sym (c.loop-k.invariant ∙ ap (λ (n : ℕ). k + n) (place_here (map value (drop k v)) (map value (drop (k + 1) v)) (value x)
    (values_rest value v k x c.loop-k-test.true c.index-v-k.is) (sym c.is_zero.ensures.test ∙ c.if-not-is_zero.true)))

pub loop-k-preserved : goal.loop-k-preserved
loop-k-preserved g c =
    let value = g.F.Field.value in
    let v = c.args.v.now in
    let k = c.loop-k.k in
    let x = c.index-v-k.result in
    let next = place_next (map value (drop k v)) (map value (drop (k + 1) v)) (value x)
    (values_rest value v k x c.loop-k-test.true c.index-v-k.is) (sym c.is_zero.ensures.test ∙ c.if-not-is_zero.false) in
    c.loop-k.invariant ∙ ap (λ (n : ℕ). k + n) next ∙ (omega arith)

pub returns : goal.returns
returns g c =
    let value = g.F.Field.value in
    let v = c.args.v.now in
    let over : c.loop-k.k ≡ length v = omega arith in
    sym (c.loop-k.invariant
    ∙ ap (λ (xs : List ℚ). c.loop-k.k + leading_place xs) (values_end value v c.loop-k.k c.loop-k-test.false)
    ∙ ap (λ (n : ℕ). n + 1) over)
