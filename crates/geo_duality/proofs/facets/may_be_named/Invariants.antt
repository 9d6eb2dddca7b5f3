use Rattle.std.proofs.Common.{◌≡◌, List, map, take, true, not, ◌||◌}
use Rattle.std.specs.List.{list_all}
use Rattle.exact_field.specs.Rational.{ℚ}
use Rattle.polyhedra.specs.FirstNamed.{tight_lies_in}
use Rattle.geo_duality.specs.Facets.{row_at, tight_places}
use Rattle.geo_duality.proofs.facets.may_be_named.Given as goal

abbrev pub invariant-loop-set : goal.invariant-loop-set
invariant-loop-set l = (gens rows : List (List ℚ)) → l.sets ≡ map (tight_places gens) rows →
    list_all (λ s. not (tight_lies_in gens (row_at rows l.k) s) || tight_lies_in gens s (row_at rows l.k)) (take l.set-index rows) ≡ true
