use Rattle.std.proofs.Common.{sym, arith, ◌∙◌, ◌-◌, length}
use Rattle.std.proofs.lemmas.Bool.{le-leb}
use Rattle.entry_checks.proofs.Products.{zero-past}
use Rattle.entry_checks.proofs.line.is_zero_at.Goals as goal

pub returns-then-before-v : goal.returns-then-before-v
returns-then-before-v c =
    le-leb (length c.args.v.now) c.saturating_sub-before.result c.if-before-v.true ∙ sym (zero-past c.args.v.now (c.args.place - 1) (omega arith))
