use Rattle.lin_rows.proofs.Errors.{err_holds}
use Rattle.overflows.specs.Licence.{Licensed}
use Rattle.overflows.specs.Faults.{OnLicence}
use Rattle.outer_approx.specs.Task.{setting}
use Rattle.benson_program.specs.Ends.{IsFeasibleEnd}
use Rattle.std.proofs.Common.{subst, []}
use Rattle.recession.proofs.Trails.{licensed, opens, trail_of}
use Rattle.recession.proofs.first.first_cuts.Goals as goal

pub feasible_end-requires : goal.feasible_end-requires
feasible_end-requires g c = (g.task.file, c.requires.1.0)

pub returns-in_err-end-clause-left : goal.returns-in_err-end-clause-left
returns-in_err-end-clause-left g c =
    let holds = g.F.Field.holds in
    let fitting = c.requires.1.1.1.1 in
    err_holds c.from_residual.result c.in_err-end.field-0.0 (λ f. OnLicence f (Licensed holds g.task.file g.task.c)) c.from_residual.ensures.1
    (licensed holds g.task fitting [] (opens holds g.task fitting) c.in_err-end.field-0.0
    (c.in_err-end.ensures.left (setting g.task (trail_of holds g.task fitting [])) c.requires.1.0))

pub returns-in-Contradiction-clause-ok : goal.returns-in-Contradiction-clause-ok
returns-in-Contradiction-clause-ok g c =
    subst (IsFeasibleEnd g.F.Field.value g.task.file) c.in-Contradiction.is (c.in_ok-end.ensures.ok g.task.file c.requires.1.0)

pub first_of_solvable-requires : goal.first_of_solvable-requires
first_of_solvable-requires g c κs within = (
  within,
  (
    c.requires.1.0,
    (
      c.requires.1.1.0,
      (
        c.requires.1.1.1.0,
        (
          c.requires.1.1.1.1,
          subst (IsFeasibleEnd g.F.Field.value g.task.file) c.in-Point.is (c.in_ok-end.ensures.ok g.task.file c.requires.1.0),
        ),
      ),
    ),
  ),
)
