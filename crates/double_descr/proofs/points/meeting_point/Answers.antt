use Rattle.std.proofs.Common.{◌≡◌, [], ◌++◌, length, map, sym, ap, ap₂, ◌∙◌, arith}
use Rattle.std.specs.Prelude.{IsTrue}
use Rattle.std.proofs.lemmas.List.{length-map, append-nil}
use Rattle.exact_field.specs.Rational.{inverse_ℚ, ◌/ℚ◌, neg_ℚ}
use Rattle.polyhedra.specs.Vectors.{plus, scaled}
use Rattle.polyhedra.specs.DoubleDescription.{magnitude, norming}
use Rattle.double_descr.specs.Steps.{IsSoFar, between, meeting_steps, combination_steps, quotient_steps}
use Rattle.double_descr.proofs.points.meeting_point.Goals as goal
use Rattle.polyhedra.proofs.Order.{not_zero_of_positive, neg_positive}
use Rattle.double_descr.proofs.StepLists.{stopped, same_left, start, one_more, stop_runs, finish}
use Rattle.polyhedra.proofs.Linear.{length-plus, length-scaled}
use Rattle.polyhedra.proofs.Norming.{magnitude-positive}

pub div-requires : goal.div-requires
div-requires g c = λ e. not_zero_of_positive (neg_ℚ (g.F.Field.value c.args.at_minus)) (neg_positive (g.F.Field.value c.args.at_minus) c.requires.below) (sym c.neg.ensures ∙ e)

pub returns-in-Err : goal.returns-in-Err
returns-in-Err g c =
    let value = g.F.Field.value in
    let holds = g.F.Field.holds in
    let a = value c.args.at_plus in
    let b = value c.args.at_minus in
    let p = map value c.args.plus.now in
    let m = map value c.args.minus.now in
    let steps = meeting_steps a b p m in
    stopped value holds steps _ _ 0 c.in-Err.left (start holds steps)
    (ap (λ d. holds (a /ℚ d)) (sym c.neg.ensures) ∙ c.in-Err.ensures.1)
    (ap (λ l. l.op) c.in-Err.ensures.0) (ap (λ l. value l.a) c.in-Err.ensures.0) (ap (λ l. value l.b) c.in-Err.ensures.0 ∙ c.neg.ensures)

pub returns-in_err-point : goal.returns-in_err-point
returns-in_err-point g c =
    let value = g.F.Field.value in
    let holds = g.F.Field.holds in
    let a = value c.args.at_plus in
    let b = value c.args.at_minus in
    let p = map value c.args.plus.now in
    let m = map value c.args.minus.now in
    let steps = meeting_steps a b p m in
    let factor_is : value c.in-Ok.factor ≡ a /ℚ neg_ℚ b = c.in-Ok.ensures.0 ∙ ap (λ d. a /ℚ d) c.neg.ensures in
    let held : IsTrue (holds (a /ℚ neg_ℚ b)) = ap (λ d. holds (a /ℚ d)) (sym c.neg.ensures) ∙ c.in-Ok.ensures.1 in
    let left = quotient_steps (magnitude (norming (between a b p m))) (between a b p m) in
    let first : IsSoFar holds steps (combination_steps (value c.in-Ok.factor) p m ++ left) 1 =
    same_left holds steps (combination_steps (a /ℚ neg_ℚ b) p m ++ left) (combination_steps (value c.in-Ok.factor) p m ++ left) 1
    (ap (λ k. combination_steps k p m ++ left) (sym factor_is))
    (one_more holds steps _ _ 0 (start holds steps) held) in
    stop_runs value holds steps c.from_residual-in_err-point.result c.in_err-point.field-0.0 _ c.from_residual-in_err-point.ensures.1 (c.in_err-point.ensures.runs steps left first)

pub quotients-requires-clause-by : goal.quotients-requires-clause-by
quotients-requires-clause-by g c =
    let value = g.F.Field.value in
    let holds = g.F.Field.holds in
    let a = value c.args.at_plus in
    let b = value c.args.at_minus in
    let p = map value c.args.plus.now in
    let m = map value c.args.minus.now in
    let steps = meeting_steps a b p m in
    let factor_is : value c.in-Ok.factor ≡ a /ℚ neg_ℚ b = c.in-Ok.ensures.0 ∙ ap (λ d. a /ℚ d) c.neg.ensures in
    let held : IsTrue (holds (a /ℚ neg_ℚ b)) = ap (λ d. holds (a /ℚ d)) (sym c.neg.ensures) ∙ c.in-Ok.ensures.1 in
    let point_is : map value c.in_ok-point.point.items ≡ between a b p m = c.in_ok-point.ensures.value ∙ ap (λ k. plus p (scaled k m)) factor_is in
    let by_is : value c.without_sign-by.result ≡ magnitude (norming (between a b p m)) =
    c.without_sign-by.ensures ∙ ap magnitude (c.norming_entry.ensures ∙ ap (λ v. norming (map value v)) c.deref.ensures.value ∙ ap norming point_is) in
    λ e. not_zero_of_positive (magnitude (norming (between a b p m))) (magnitude-positive (norming (between a b p m)) c.requires.not_zero) (sym by_is ∙ e)

pub quotients-requires-clause-narrow : goal.quotients-requires-clause-narrow
quotients-requires-clause-narrow g c =
    let value = g.F.Field.value in
    let holds = g.F.Field.holds in
    let a = value c.args.at_plus in
    let b = value c.args.at_minus in
    let p = map value c.args.plus.now in
    let m = map value c.args.minus.now in
    let steps = meeting_steps a b p m in
    let factor_is : value c.in-Ok.factor ≡ a /ℚ neg_ℚ b = c.in-Ok.ensures.0 ∙ ap (λ d. a /ℚ d) c.neg.ensures in
    let held : IsTrue (holds (a /ℚ neg_ℚ b)) = ap (λ d. holds (a /ℚ d)) (sym c.neg.ensures) ∙ c.in-Ok.ensures.1 in
    let point_is : map value c.in_ok-point.point.items ≡ between a b p m = c.in_ok-point.ensures.value ∙ ap (λ k. plus p (scaled k m)) factor_is in
    let l : length c.deref-2.result.now ≡ length c.args.plus.now = ap length c.deref-2.ensures.value ∙ sym (length-map c.in_ok-point.point.items value)
    ∙ ap length point_is ∙ length-plus (length c.args.plus.now) p (scaled (a /ℚ neg_ℚ b) m) (length-map c.args.plus.now value)
    (length-scaled (a /ℚ neg_ℚ b) m ∙ length-map c.args.minus.now value ∙ sym c.requires.same) in
    omega (arith, l, c.requires.narrow)

pub returns : goal.returns
returns g c =
    let value = g.F.Field.value in
    let holds = g.F.Field.holds in
    let a = value c.args.at_plus in
    let b = value c.args.at_minus in
    let p = map value c.args.plus.now in
    let m = map value c.args.minus.now in
    let steps = meeting_steps a b p m in
    let factor_is : value c.in-Ok.factor ≡ a /ℚ neg_ℚ b = c.in-Ok.ensures.0 ∙ ap (λ d. a /ℚ d) c.neg.ensures in
    let held : IsTrue (holds (a /ℚ neg_ℚ b)) = ap (λ d. holds (a /ℚ d)) (sym c.neg.ensures) ∙ c.in-Ok.ensures.1 in
    let left = quotient_steps (magnitude (norming (between a b p m))) (between a b p m) in
    let first : IsSoFar holds steps (combination_steps (value c.in-Ok.factor) p m ++ left) 1 =
    same_left holds steps (combination_steps (a /ℚ neg_ℚ b) p m ++ left) (combination_steps (value c.in-Ok.factor) p m ++ left) 1
    (ap (λ k. combination_steps k p m ++ left) (sym factor_is))
    (one_more holds steps _ _ 0 (start holds steps) held) in
    let point_is : map value c.in_ok-point.point.items ≡ between a b p m = c.in_ok-point.ensures.value ∙ ap (λ k. plus p (scaled k m)) factor_is in
    let by_is : value c.without_sign-by.result ≡ magnitude (norming (between a b p m)) =
    c.without_sign-by.ensures ∙ ap magnitude (c.norming_entry.ensures ∙ ap (λ v. norming (map value v)) c.deref.ensures.value ∙ ap norming point_is) in
    let vector_is : map value c.deref-2.result.now ≡ between a b p m = ap (map value) c.deref-2.ensures.value ∙ point_is in
    finish value holds steps _ c.quotients.result _ _
    (c.quotients.ensures.runs steps [] (same_left holds steps left _ _
    (ap₂ quotient_steps (sym by_is) (sym vector_is) ∙ sym (append-nil (quotient_steps (value c.without_sign-by.result) (map value c.deref-2.result.now))))
    (c.in_ok-point.ensures.runs steps left first)))
    c.quotients.ensures.value (λ z e. e ∙ ap₂ (λ d v. scaled (inverse_ℚ d) v) by_is vector_is)
