use Rattle.std.proofs.Common.{◌≡◌, ◌++◌, map, take}
use Rattle.deriv_log.specs.declared.entry.Entry.TheVariants as entry_of
use Rattle.outer_approx.proofs.ends.push_facets.Given as goal

abbrev pub invariant-loop-cut : goal.invariant-loop-cut
invariant-loop-cut l = l.trail ≡ l.initial.trail ++ map (λ k. entry_of.Facet k) (take l.cut-index l.facets)
