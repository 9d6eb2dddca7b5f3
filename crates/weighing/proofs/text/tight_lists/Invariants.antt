use Rattle.std.proofs.Common.{◌≡◌, map, take}
use Rattle.weighing.proofs.text.tight_lists.Given as goal

abbrev pub invariant-loop-facet : goal.invariant-loop-facet
invariant-loop-facet l = l.lists ≡ map (λ f. f.tight) (take l.facet-index l.facets)
