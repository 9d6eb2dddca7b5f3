use Rattle.std.proofs.Common.{◌≡◌, ◌++◌, ◌+◌, drop, map}
use Rattle.exact_field.specs.Order.{same_ℚ}
use Rattle.log_rules.specs.Right.{places_from}
use Rattle.weighing.proofs.least.places_of.Given as goal

-- what is found and what is left to be found make the whole
abbrev pub invariant-loop-index : goal.invariant-loop-index
invariant-loop-index l =
    l.places ++ places_from (l.index + 1) (map (λ other. same_ℚ other l.value) (drop l.index l.list))
    ≡ places_from 1 (map (λ other. same_ℚ other l.value) l.list)
