use Rattle.std.proofs.Common.{ℕ, subst}
use Rattle.polyhedra.specs.Cone.{HasFullRank}
use Rattle.lin_rows.specs.declared.answer.Indep.{Indep}
use Rattle.lin_rows.specs.Answers.{IsIndep}
use Rattle.lin_rows.specs.Read.{numbers}
use Rattle.tableaux.proofs.FullRank.{full_rank}
use Rattle.program_cases.proofs.tests.cones.has_full_rank.Goals as goal

pub returns-in-Basis : goal.returns-in-Basis
returns-in-Basis g c =
    let value = g.F.Field.value in
    let table = numbers value c.args.rows.now.list in
    λ _. subst (λ (n : ℕ). HasFullRank n table) c.width.ensures
    (full_rank c.width.result table c.in-Basis.field-0
    (subst (λ (a : Indep _). IsIndep value c.width.result table a) c.in-Basis.is c.in_ok-find_independent.ensures.ok))
