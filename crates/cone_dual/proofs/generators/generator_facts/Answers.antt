use Rattle.std.proofs.Common.{length}
use Rattle.lin_rows.specs.Read.{numbers}
use Rattle.lp_form.specs.declared.data.ConeOf.TheVariants.{Gens}
use Rattle.vlp_problem.specs.declared.problem.Cone.{Cone}
use Rattle.cone_rules.specs.Faults.{HasInterior}
use Rattle.cone_rules.proofs.Ranks.{rank_laws}
use Rattle.cone_dual.proofs.ByVectors.{wide}
use Rattle.cone_dual.proofs.Picks.{full_rank}
use Rattle.cone_dual.proofs.Standing.{as_cone}
use Rattle.cone_dual.proofs.generators.generator_facts.Goals as goal

pub require_no_line-requires-clause-solid : goal.require_no_line-requires-clause-solid
require_no_line-requires-clause-solid g c =
    let value = g.F.Field.value in
    let form = c.args.form.now in
    let vectors = c.args.vectors.now in
    let q = length form.p in
    let all = numbers value vectors in
    as_cone value form (Gens vectors) c.requires (λ (k : Cone). HasInterior q k)
    (rank_laws.solid q all (wide value form vectors c.requires) (full_rank q all c.in_ok-picks.picks c.in_ok-picks.ensures.ok))
