use Rattle.std.proofs.Common.{◌≡◌, map, take, All}
use Rattle.exact_field.specs.Vector.{dot}
use Rattle.weighing.specs.Stages.{IsTaken}
use Rattle.weighing.proofs.least.point_products.Given as goal

abbrev pub invariant-loop-index : goal.invariant-loop-index
invariant-loop-index l = record {
  values : l.values ≡ map (λ g. dot l.w g.y) (take l.index l.points);
  taken : All (λ g. IsTaken l.w g.y) (take l.index l.points);
}
