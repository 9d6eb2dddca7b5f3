use Rattle.std.proofs.Common.{◌≡◌, ◌∷◌, map, take}
use Rattle.exact_field.specs.Rational.{one_ℚ}
use Rattle.polyhedra.specs.Negatives.{negated}
use Rattle.lower_image.proofs.weighing.completion.Given as goal

abbrev pub invariant-loop-i : goal.invariant-loop-i
invariant-loop-i g l =
    let value = g.F.Field.value in
    map value l.out ≡ one_ℚ ∷ negated (take l.i (map value l.c))
