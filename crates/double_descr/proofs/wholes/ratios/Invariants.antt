use Rattle.std.specs.Prelude.{◌≡◌, All, IsTrue, ◌++◌, drop, map}
use Rattle.exact_field.specs.Rational.{whole, inverse_ℚ}
use Rattle.polyhedra.specs.Vectors.{scaled}
use Rattle.double_descr.proofs.wholes.ratios.Given as goal

abbrev pub invariant-loop-i : goal.invariant-loop-i
invariant-loop-i g l =
    let value = g.F.Field.value in
    let ns = map whole l.numbers in
    record {
      written : map value l.out.items ++ scaled (inverse_ℚ (whole l.by)) (drop l.i ns) ≡ scaled (inverse_ℚ (whole l.by)) ns;
      held : All (λ q. IsTrue (g.F.Field.holds q)) (map value l.out.items);
    }
