use Rattle.std.proofs.Common.{◌≡◌, map, take}
use Rattle.lower_image.proofs.certificate.bounds.Given as goal

abbrev pub invariant-loop-side : goal.invariant-loop-side
invariant-loop-side g l =
    let value = g.F.Field.value in
    map value l.bounds ≡ map (λ s. value s.beta) (take l.side-index l.sides)
