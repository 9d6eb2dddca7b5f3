use Rattle.std.proofs.Common.{arith}
use Rattle.lp_form.proofs.Joined.{written}
use Rattle.lp_form.proofs.equations.system.Goals as goal

pub returns : goal.returns
returns g c = λ s ok a b cost. written g.F.Field.value s _ ok a b cost (omega arith) (omega arith)
