use Rattle.std.proofs.Common.{◌≡◌, ◌++◌, ◌+◌, drop, map}
use Rattle.log_rules.specs.Live.{contains}
use Rattle.log_rules.specs.Right.{places_from}
use Rattle.weighing.proofs.sets.lists_with.Given as goal

-- what is found and what is left to be found make the whole
abbrev pub invariant-loop-index : goal.invariant-loop-index
invariant-loop-index l =
    l.found ++ places_from (l.index + 1) (map (λ ks. contains ks l.number) (drop l.index l.list))
    ≡ places_from 1 (map (λ ks. contains ks l.number) l.list)
