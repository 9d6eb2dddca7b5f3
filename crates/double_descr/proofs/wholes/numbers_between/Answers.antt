use Rattle.std.specs.Prelude.{ℤ, ◌≡◌, ◌+◌, List, [], ◌∷◌, ◌++◌, All, drop, map}
use Rattle.std.proofs.Common.{arith, sym, ap, ap₂, ◌∙◌, subst}
use Rattle.std.proofs.lemmas.List.{drop_all, length-map}
use Rattle.std.proofs.lemmas.List.Elements.{All-nil, All-cons, All-append}
use Rattle.exact_field.specs.Over.{IsBelowLimit}
use Rattle.exact_field.specs.Rational.{ℚ, whole, ◌+ℚ◌, ◌*ℚ◌, ◌/ℚ◌, neg_ℚ}
use Rattle.exact_field.proofs.Numerators.{kept, quotient_small}
use Rattle.exact_field.proofs.Rationals.{mul_comm_ℚ}
use Rattle.polyhedra.specs.Vectors.{plus, scaled}
use Rattle.polyhedra.proofs.Lists.{drop_value}
use Rattle.double_descr.specs.Steps.{IsHeld, combination_steps}
use Rattle.double_descr.proofs.StepLists.{write_on, written_all, plus_end}
use Rattle.double_descr.proofs.WholeNumbers.{entry_held}
use Rattle.double_descr.proofs.wholes.numbers_between.Goals as goal

pub loop-i-init : goal.loop-i-init
loop-i-init g c =
    let value = g.F.Field.value in
    let k = value c.args.at_plus /ℚ neg_ℚ (value c.args.at_minus) in
    let p = map value c.args.plus.now in
    let m = map value c.args.minus.now in
    record {
      small = subst (All IsBelowLimit) (sym c.in_ok-numbers.ensures.items) (All-nil IsBelowLimit);
      written = ap (λ (ns : List ℤ). map whole ns ++ scaled (whole c.in-Some.scales.scale) (plus p (scaled k m))) c.in_ok-numbers.ensures.items;
      held = λ h. h;
    }

pub loop-i-preserved : goal.loop-i-preserved
loop-i-preserved g c =
    let value = g.F.Field.value in
    let holds = g.F.Field.holds in
    let k = value c.args.at_plus /ℚ neg_ℚ (value c.args.at_minus) in
    let p = map value c.args.plus.now in
    let m = map value c.args.minus.now in
    let i = c.loop-i.i in
    let s = c.in-Some.scales in
    let x = value c.index-plus-i.result in
    let y = value c.index-minus-i.result in
    let n : ℤ = c.in-Some-entry_over.n in
    let ex = drop_value value c.args.plus.now i c.index-plus-i.result c.loop-i-test.true c.index-plus-i.is in
    let ey = drop_value value c.args.minus.now i c.index-minus-i.result (omega (arith, c.requires.same, c.loop-i-test.true)) c.index-minus-i.is in
    let entry = c.in-Some-entry_over.ensures k c.in-Some.ensures in
    let n_is = kept n entry.sum_small in
    let items : c.push.new.self.items ≡ c.loop-i.numbers.items ++ n ∷ [] =
    c.in_ok-push-in-Some-entry_over.ensures.items ∙ ap (λ (z : ℤ). c.loop-i.numbers.items ++ z ∷ []) n_is in
    let is : whole n ≡ whole s.scale *ℚ (x +ℚ k *ℚ y) = sym entry.sum ∙ mul_comm_ℚ (x +ℚ k *ℚ y) (whole s.scale) in
    record {
      small = subst (All IsBelowLimit) (sym items)
          (All-append IsBelowLimit c.loop-i.numbers.items (n ∷ []) c.loop-i.invariant.small (All-cons IsBelowLimit n [] entry.sum_small (All-nil IsBelowLimit)));
      written = write_on whole c.loop-i.numbers.items n _ _ _ c.push.new.self.items items is
          (ap₂ (λ (u v : List ℚ). map whole c.loop-i.numbers.items ++ scaled (whole s.scale) (plus u (scaled k v))) (sym ex) (sym ey) ∙ c.loop-i.invariant.written);
      held = λ rest. c.loop-i.invariant.held
          (entry_held holds k x y (drop i p) (drop i m) (drop (i + 1) p) (drop (i + 1) m) ex ey (c.requires.full (k *ℚ y) entry.term_small)
          (c.requires.full (x +ℚ k *ℚ y) (quotient_small (x +ℚ k *ℚ y) n s.scale s.positive entry.sum entry.sum_small s.small)) rest);
    }

pub returns-clause-between : goal.returns-clause-between
returns-clause-between g c =
    let value = g.F.Field.value in
    let holds = g.F.Field.holds in
    let a = value c.args.at_plus in
    let b = value c.args.at_minus in
    let k = a /ℚ neg_ℚ b in
    let p = map value c.args.plus.now in
    let m = map value c.args.minus.now in
    let i = c.loop-i.i in
    let s = c.in-Some.scales in
    let inv = c.loop-i.invariant in
    let h = c.in-Some.ensures in
    let no_p : drop i p ≡ [] = drop_all i p (omega (arith, length-map c.args.plus.now value, c.loop-i-test.false)) in
    let no_m : drop i m ≡ [] = drop_all i m (omega (arith, length-map c.args.minus.now value, c.requires.same, c.loop-i-test.false)) in
    record {
      scale = s.scale;
      positive = s.positive;
      small = inv.small;
      multiple = written_all whole c.loop-i.numbers.items _ _ (ap (scaled (whole s.scale)) (plus_end (drop i p) (drop i m) k no_p no_m)) inv.written;
      first_held = c.requires.full k (quotient_small k _ s.scale s.positive h.factor h.factor_small s.small);
      held = inv.held (subst (λ (u : List ℚ). All (IsHeld holds) (combination_steps k u (drop i m))) (sym no_p) (All-nil (IsHeld holds)));
    }
