use Rattle.std.proofs.Common.{Bool, IfOk, sym, subst}
use Rattle.rep_conv.specs.Converted.{GivesRows}
use Rattle.rep_conv.proofs.giving.other_rows.Goals as goal

pub returns-then-not-gens : goal.returns-then-not-gens
returns-then-not-gens c s h = subst (λ (b : Bool). IfOk c.generator_rows.result (GivesRows b c.args.some c.args.width s)) (sym c.if-not-gens.true) (c.generator_rows.ensures c.args.width s h)

pub returns : goal.returns
returns c s h = subst (λ (p : Bool × Bool). IfOk c.inequality_rows.result (GivesRows p.0 p.1 c.args.width s)) (λ i. (sym c.if-not-gens.false i, sym c.if-not-some.false i)) (c.inequality_rows.ensures c.args.width s h)
