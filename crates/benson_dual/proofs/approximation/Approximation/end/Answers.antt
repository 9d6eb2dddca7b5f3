use Rattle.std.proofs.Common.{rules, subst, sym}
use Rattle.lower_image.specs.Lower.{AreAllFacets}
use Rattle.benson_dual.proofs.approximation.Approximation.end.Goals as goal

pub end_solved-requires : goal.end_solved-requires
end_solved-requires g c κs within = (search rules, (c.in_ok-reach_all.ensures.stands.outer, c.in_ok-reach_all.ensures.reached))

pub returns-clause-facets : goal.returns-clause-facets
returns-clause-facets g c =
    subst (AreAllFacets g.task.file g.task.c) (sym c.in_ok-end_solved.ensures.cuts) c.in_ok-reach_all.ensures.stands.facets
