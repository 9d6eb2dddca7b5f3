use Rattle.frac128.proofs.Compared.{other_than_zero}
use Rattle.bench_calls.proofs.steps.answer.Goals as goal

pub div-requires : goal.div-requires
div-requires c = other_than_zero c.args.b c.zero.result _ c.zero.ensures c.eq.ensures c.if-eq.false
