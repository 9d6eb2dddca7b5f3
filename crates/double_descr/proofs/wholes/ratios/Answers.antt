use mir.Syntax.{w128}
use Rattle.std.specs.Prelude.{ℤ, pos, ◌≡◌, ◌<ℤ◌, IsTrue, List, [], ◌∷◌, ◌++◌, All, map, slice_index_or}
use Rattle.std.proofs.Common.{to_z, of_z, to_z-of_z, arith, sym, ap, ◌∙◌, subst}
use Rattle.std.proofs.lemmas.List.{drop_all, length-map, map-append}
use Rattle.std.proofs.lemmas.List.Elements.{All-nil, All-cons, All-append}
use Rattle.exact_field.specs.Over.{IsQuotient}
use Rattle.exact_field.specs.Rational.{ℚ, whole, inverse_ℚ, ◌*ℚ◌}
use Rattle.exact_field.proofs.Numerators.{kept}
use Rattle.polyhedra.specs.Vectors.{scaled}
use Rattle.double_descr.proofs.StepLists.{write_on, written_all}
use Rattle.double_descr.proofs.WholeNumbers.{numbers_at, quotient_by}
use Rattle.double_descr.proofs.wholes.ratios.Goals as goal

pub loop-i-preserved : goal.loop-i-preserved
loop-i-preserved g c =
    let value = g.F.Field.value in
    let ns = c.args.numbers.now in
    let i = c.loop-i.i in
    let q = c.in-Some.quotient in
    let n : ℤ = slice_index_or ns i (pos 0) in
    let by : ℤ = to_z w128 (of_z w128 c.args.by) in
    let by_is : by ≡ c.args.by = to_z-of_z c.ranges.by in
    let some : pos 0 <ℤ by = subst (λ (z : ℤ). pos 0 <ℤ z) (sym by_is) c.requires.positive in
    let n_is : to_z w128 (of_z w128 n) ≡ n = kept n (c.requires.small i (pos 0) c.loop-i-test.true) in
    let is : value q ≡ inverse_ℚ (whole by) *ℚ whole n = quotient_by (value q) n by some (subst (λ (z : ℤ). IsQuotient by z (value q)) n_is c.in-Some.ensures.0) in
    let items = c.in_ok-push-in-Some.ensures.items in
    record {
      written = write_on value c.loop-i.out.items q _ _ _ c.push.new.self.items items is
          (ap (λ (v : List ℚ). map value c.loop-i.out.items ++ scaled (inverse_ℚ (whole by)) v) (sym (numbers_at ns i c.loop-i-test.true)) ∙ c.loop-i.invariant.written);
      held = subst (All (λ r. IsTrue (g.F.Field.holds r))) (sym (ap (map value) items ∙ map-append value c.loop-i.out.items (q ∷ [])))
          (All-append (λ r. IsTrue (g.F.Field.holds r)) (map value c.loop-i.out.items) (value q ∷ []) c.loop-i.invariant.held
          (All-cons (λ r. IsTrue (g.F.Field.holds r)) (value q) [] c.in-Some.ensures.1 (All-nil (λ r. IsTrue (g.F.Field.holds r)))));
    }

pub returns-clause-quotients : goal.returns-clause-quotients
returns-clause-quotients g c =
    let ns = c.args.numbers.now in
    let by : ℤ = to_z w128 (of_z w128 c.args.by) in
    let by_is : by ≡ c.args.by = to_z-of_z c.ranges.by in
    written_all g.F.Field.value c.loop-i.out.items _ _
    (ap (scaled (inverse_ℚ (whole by))) (drop_all c.loop-i.i (map whole ns) (omega (arith, length-map ns whole, c.loop-i-test.false)))) c.loop-i.invariant.written
    ∙ ap (λ (z : ℤ). scaled (inverse_ℚ (whole z)) (map whole ns)) by_is
