use Rattle.std.proofs.Common.{sym, ◌∙◌}
use Rattle.frac128.specs.Sparse.{is_zero}
use Rattle.polyhedra.proofs.Tests.{or_left, or_right}
use Rattle.entry_checks.proofs.Products.{nothing_taken}
use Rattle.entry_checks.proofs.steps.Steps.plus_product.Goals as goal
use Rattle.entry_checks.proofs.steps.Steps.plus_product.Goals.{then-is_zero-via-then-is_zero, then-is_zero-via-else-is_zero+then-is_zero-2}

pub returns-then-is_zero : goal.returns-then-is_zero
returns-then-is_zero c =
    nothing_taken c.args.self.now.taken c.args.total c.args.a c.args.b (elim c.then-is_zero.branch [
      | then-is_zero-via-then-is_zero w ↦ or_left (is_zero c.args.a) (is_zero c.args.b) (sym c.is_zero.ensures ∙ w.if-is_zero.true)
      | then-is_zero-via-else-is_zero+then-is_zero-2 w ↦ or_right (is_zero c.args.a) (is_zero c.args.b) (sym w.is_zero-else-is_zero.ensures ∙ w.if-is_zero-2.true)
    ])
