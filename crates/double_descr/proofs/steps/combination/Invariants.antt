use Rattle.std.proofs.Common.{◌≡◌, ◌*◌, ◌+◌, List, ◌++◌, drop, map}
use Rattle.double_descr.specs.Steps.{Step, IsSoFar, combination_steps}
use Rattle.polyhedra.specs.Vectors.{plus, scaled}
use Rattle.double_descr.proofs.steps.combination.Given as goal

abbrev pub invariant-loop-i : goal.invariant-loop-i
invariant-loop-i g l =
    let value = g.F.Field.value in
    let k = value l.factor in
    let p = map value l.vector in
    let m = map value l.other in
    record {
      so_far : (steps left : List Step) → IsSoFar g.F.Field.holds steps (combination_steps k p m ++ left) l.done →
          IsSoFar g.F.Field.holds steps (combination_steps k (drop l.i p) (drop l.i m) ++ left) (l.done + 2 * l.i);
      written : map value l.out.items ++ plus (drop l.i p) (scaled k (drop l.i m)) ≡ plus p (scaled k m);
    }
