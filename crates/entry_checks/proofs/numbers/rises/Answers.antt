use Rattle.std.proofs.Common.{sym, ap, arith, ◌∙◌, ◌≡◌, ◌+◌, ◌-◌, ℕ, drop}
use Rattle.log_rules.specs.CutEvents.{rises}
use Rattle.entry_checks.proofs.RisingNumbers.{rises-more, rises-end}
use Rattle.entry_checks.proofs.numbers.rises.Goals as goal

pub loop-i-preserved : goal.loop-i-preserved
loop-i-preserved c =
    let next : c.loop-i.i ≡ c.loop-i.i + 1 - 1 = omega arith in
    c.loop-i.invariant ∙ rises-more c.args.numbers.now c.loop-i.i (omega arith) (omega arith) c.if-numbers-i.false ∙ ap (λ (k : ℕ). rises (drop k c.args.numbers.now)) next

pub returns : goal.returns
returns c = sym (c.loop-i.invariant ∙ rises-end c.args.numbers.now c.loop-i.i (omega arith))
