use Rattle.std.proofs.Common.{ap, ◌+◌}
use Rattle.entry_checks.proofs.Products.{short-run}
use Rattle.entry_checks.proofs.steps.Steps.dot.Goals as goal

pub returns-in-Some : goal.returns-in-Some
returns-in-Some c =
    short-run c.args.v.now c.args.w.now c.args.self.now.taken (c.args.self.now.taken + c.steps_of_dot.result) c.in-Some.total c.in-Some.ensures
    (ap (λ n. c.args.self.now.taken + n) c.steps_of_dot.ensures)
