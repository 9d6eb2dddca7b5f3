use Rattle.std.proofs.Common.{◌≡◌, List, map, take, false}
use Rattle.std.specs.List.{list_any}
use Rattle.exact_field.specs.Rational.{ℚ}
use Rattle.geo_duality.specs.Facets.{same_at, tight_places}
use Rattle.geo_duality.proofs.facets.is_listed.Given as goal

abbrev pub invariant-loop-row : goal.invariant-loop-row
invariant-loop-row l = (gens rows : List (List ℚ)) → l.sets ≡ map (tight_places gens) rows →
    list_any (λ j. same_at gens rows j l.k) (take l.row-index l.listed) ≡ false
