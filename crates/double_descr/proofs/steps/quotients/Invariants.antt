use Rattle.std.proofs.Common.{◌≡◌, ◌+◌, List, ◌++◌, drop, map}
use Rattle.exact_field.specs.Rational.{inverse_ℚ}
use Rattle.double_descr.specs.Steps.{Step, IsSoFar, quotient_steps}
use Rattle.polyhedra.specs.Vectors.{scaled}
use Rattle.double_descr.proofs.steps.quotients.Given as goal

abbrev pub invariant-loop-i : goal.invariant-loop-i
invariant-loop-i g l =
    let value = g.F.Field.value in
    let by = value l.by in
    let v = map value l.vector in
    record {
      so_far : (steps left : List Step) → IsSoFar g.F.Field.holds steps (quotient_steps by v ++ left) l.done →
          IsSoFar g.F.Field.holds steps (quotient_steps by (drop l.i v) ++ left) (l.done + l.i);
      written : map value l.out.items ++ scaled (inverse_ℚ by) (drop l.i v) ≡ scaled (inverse_ℚ by) v;
    }
