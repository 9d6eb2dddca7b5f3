use Rattle.std.specs.Prelude.{◌≡◌, All, ◌++◌, drop, map}
use Rattle.exact_field.specs.Over.{IsBelowLimit}
use Rattle.exact_field.specs.Rational.{whole, ◌/ℚ◌, neg_ℚ}
use Rattle.polyhedra.specs.Vectors.{plus, scaled}
use Rattle.double_descr.specs.Steps.{IsHeld, combination_steps}
use Rattle.double_descr.proofs.wholes.numbers_between.Given as goal

abbrev pub invariant-loop-i : goal.invariant-loop-i
invariant-loop-i g l =
    let value = g.F.Field.value in
    let k = value l.fn.at_plus /ℚ neg_ℚ (value l.fn.at_minus) in
    let p = map value l.plus in
    let m = map value l.minus in
    record {
      small : All IsBelowLimit l.numbers.items;
      written : map whole l.numbers.items ++ scaled (whole l.scales.scale) (plus (drop l.i p) (scaled k (drop l.i m))) ≡ scaled (whole l.scales.scale) (plus p (scaled k m));
      held : All (IsHeld g.F.Field.holds) (combination_steps k (drop l.i p) (drop l.i m)) → All (IsHeld g.F.Field.holds) (combination_steps k p m);
    }
