use Rattle.std.proofs.Common.{ℕ, subst}
use Rattle.exact_field.specs.Rational.{ℚ}
use Rattle.polyhedra.specs.Cone.{HasFullRank}
use Rattle.lin_rows.specs.declared.answer.Indep.{Indep}
use Rattle.lin_rows.specs.Answers.{IsIndep}
use Rattle.lin_rows.specs.Read.{numbers}
use Rattle.tableaux.proofs.FullRank.{full_rank}
use Rattle.bench_calls.proofs.cones.have_full_rank.Goals as goal

pub returns-in-Ok-Basis : goal.returns-in-Ok-Basis
returns-in-Ok-Basis c =
    let table = numbers (λ (q : ℚ). q) c.args.rows.now.list in
    subst (λ (n : ℕ). HasFullRank n table) c.width.ensures
    (full_rank c.width.result table c.in-Ok-Basis.field-0-0
    (subst (λ (a : Indep ℚ). IsIndep (λ q. q) c.width.result table a) c.in-Ok-Basis.field-0-is c.in-Ok-Basis.ensures.ok))
