use mir.Syntax.{w128}
use Rattle.std.specs.Prelude.{ℤ, pos, ◌≡◌, ◌<ℤ◌, IsTrue, All, map}
use Rattle.std.proofs.Common.{to_z, of_z, sym, ap, ◌∙◌, subst, arith}
use Rattle.std.proofs.lemmas.Int.{ints}
use Rattle.exact_field.specs.Rational.{one_ℚ, inverse_ℚ, whole}
use Rattle.polyhedra.specs.DoubleDescription.{magnitude, norming}
use Rattle.polyhedra.specs.Vectors.{scaled}
use Rattle.double_descr.specs.Wholes.{AreNumbersBetween}
use Rattle.double_descr.proofs.WholeNumbers.{all_held, numbers_normed, tested_norm, the_some}
use Rattle.double_descr.proofs.wholes.meeting_over.Goals as goal

pub returns-then-eq-clause-value : goal.returns-then-eq-clause-value
returns-then-eq-clause-value g c =
    let value = g.F.Field.value in
    let holds = g.F.Field.holds in
    let a = value c.args.at_plus in
    let b = value c.args.at_minus in
    let p = map value c.args.plus.now in
    let m = map value c.args.minus.now in
    let ns = c.in-Some.numbers.items in
    let out = map value c.in-Some-2.vector.items in
    let by : ℤ = to_z w128 (of_z w128 c.in-Some-norming_size.by) in
    let some : pos 0 <ℤ by = omega (arith, ints, c.in-Some-norming_size.ensures) in
    let are : AreNumbersBetween holds a b p m ns = the_some (λ v. AreNumbersBetween holds a b p m v.items) _ _ c.in-Some.is c.in_ok-numbers.ensures.between in
    let quotients : out ≡ scaled (inverse_ℚ (whole by)) (map whole ns) =
    the_some (λ v. map value v.items ≡ scaled (inverse_ℚ (whole by)) (map whole c.deref-2.result.now)) _ _ c.in-Some-2.is c.in_ok-vector.ensures.quotients
    ∙ ap (λ v. scaled (inverse_ℚ (whole by)) (map whole v)) c.deref-2.ensures.value in
    let size_is : value c.without_sign.result ≡ magnitude (norming out) =
    c.without_sign.ensures ∙ ap magnitude (c.norming_entry.ensures ∙ ap (λ v. norming (map value v)) c.deref-3.ensures.value) in
    let norm : magnitude (norming out) ≡ one_ℚ =
    tested_norm out (value c.without_sign.result) (value c.one.result) size_is c.one.ensures (sym (g.met.F.Field.same c.without_sign.result c.one.result) ∙ sym c.eq.ensures ∙ c.if-eq.true) in
    numbers_normed holds a b p m ns by out are some quotients norm c.requires.not_zero

pub returns-then-eq-clause-held : goal.returns-then-eq-clause-held
returns-then-eq-clause-held g c =
    let value = g.F.Field.value in
    let holds = g.F.Field.holds in
    let a = value c.args.at_plus in
    let b = value c.args.at_minus in
    let p = map value c.args.plus.now in
    let m = map value c.args.minus.now in
    let ns = c.in-Some.numbers.items in
    let are : AreNumbersBetween holds a b p m ns = the_some (λ v. AreNumbersBetween holds a b p m v.items) _ _ c.in-Some.is c.in_ok-numbers.ensures.between in
    let held : All (λ q. IsTrue (holds q)) (map value c.in-Some-2.vector.items) =
    the_some (λ v. All (λ q. IsTrue (holds q)) (map value v.items)) _ _ c.in-Some-2.is c.in_ok-vector.ensures.held in
    all_held holds a b p m are.first_held are.held (subst (All (λ q. IsTrue (holds q))) (returns-then-eq-clause-value g c) held)
