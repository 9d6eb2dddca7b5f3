use Rattle.std.proofs.Common.{◌≡◌, ◌++◌, drop, map}
use Rattle.double_descr.proofs.parts.push_numbers.Given as goal

abbrev pub invariant-loop-generator : goal.invariant-loop-generator
invariant-loop-generator g l = l.list ++ drop l.generator-index (map (λ h. h.number) l.generators) ≡ l.initial.list ++ map (λ h. h.number) l.generators
