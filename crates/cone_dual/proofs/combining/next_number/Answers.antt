use Rattle.std.proofs.Common.{◌∷◌, map, drop, ap, sym, ◌∙◌, ◌+◌, inl, inr, arith}
use Rattle.std.proofs.lemmas.List.{drop_all, drop_more, get_or-map, length-map}
use Rattle.exact_field.specs.Rational.{zero_ℚ}
use Rattle.cone_rules.specs.Laws.{spread}
use Rattle.cone_dual.proofs.Spreading.{spread-kept, spread-zero}
use Rattle.cone_dual.proofs.combining.next_number.Goals as goal

pub returns-then-next-list-clause-number : goal.returns-then-next-list-clause-number
returns-then-next-list-clause-number g c = λ more.
    let value = g.F.Field.value in
    let rest = drop c.args.next (map value c.args.list.now) in
    spread-zero (map value c.args.vector.now) more rest (inr (drop_all c.args.next (map value c.args.list.now) (omega (arith, length-map c.args.list.now value))))
    ∙ ap (λ x. x ∷ spread more rest) (sym c.zero.ensures)

pub returns-then-is_zero_vector-clause-number : goal.returns-then-is_zero_vector-clause-number
returns-then-is_zero_vector-clause-number g c = λ more.
    let value = g.F.Field.value in
    let rest = drop c.args.next (map value c.args.list.now) in
    spread-zero (map value c.args.vector.now) more rest (inl (sym c.is_zero_vector.ensures ∙ c.if-is_zero_vector.true))
    ∙ ap (λ x. x ∷ spread more rest) (sym c.zero-then-is_zero_vector.ensures)

pub returns-clause-number : goal.returns-clause-number
returns-clause-number g c = λ more.
    let value = g.F.Field.value in
    let list = c.args.list.now in
    let next = c.args.next in
    let x = c.index-list-next.result in
    let v = map value c.args.vector.now in
    ap (spread (v ∷ more)) (drop_more (map value list) next zero_ℚ (omega (arith, length-map list value)) ∙ ap (λ y. y ∷ drop (next + 1) (map value list)) (get_or-map value list next x zero_ℚ (omega arith) ∙ ap value (sym c.index-list-next.is)))
    ∙ spread-kept v more (value x) (drop (next + 1) (map value list)) (sym c.is_zero_vector.ensures ∙ c.if-is_zero_vector.false)
