use Rattle.std.proofs.Common.{List, map, ap, sym, subst, arith}
use Rattle.exact_field.specs.Rational.{ℚ}
use Rattle.deriv_log.specs.declared.entry.Entry.{Entry}
use Rattle.overflows.specs.Quotients.{IsDivisor}
use Rattle.overflows.specs.Faults.{Overflows}
use Rattle.overflows.proofs.Dividing.{divided_more, quotient_at}
use Rattle.overflows.proofs.quotients.quotients_of.Goals as goal

pub returns-in-Err-clause-left : goal.returns-in-Err-clause-left
returns-in-Err-clause-left g c = λ s scaled divisor.
    let value = g.F.Field.value in
    let holds = g.F.Field.holds in
    let xs = c.args.vector.now in
    let left = c.in-Err.left in
    let told = c.in-Err.ensures.0 in
    subst (λ (t : List Entry). Overflows holds s t c.scale_fault.result) c.new.ensures
    (c.scale_fault.ensures.licensed s scaled (subst (λ (b : ℚ). IsDivisor s (map value xs) b) (sym (ap (λ l. value l.b) told)) divisor)
    (quotient_at value holds xs c.loop-i.i c.index-vector-i.result c.args.by left (omega arith) c.index-vector-i.is told c.in-Err.ensures.1))

pub loop-i-preserved : goal.loop-i-preserved
loop-i-preserved g c =
    let value = g.F.Field.value in
    divided_more value (value c.args.by) c.args.vector.now c.loop-i.i c.loop-i.quotients c.push.new.self c.index-vector-i.result c.in-Ok.quotient (omega arith)
    c.index-vector-i.is c.in_ok-push-in-Ok.ensures.ok c.loop-i.invariant c.in-Ok.ensures.0
