-- The log that a command writes is accepted by the command that checks it, with the same report.
use Rattle.std.proofs.Common.{◌≡◌, ℕ, List, None, Some, subst}
use Rattle.commands.specs.Tasks.{Shape, Task, shape}
use Rattle.commands.specs.Tasks.Task.{check, relog, solve, dual, sample, project, associate, meet, sum, join, map, weights, weigh, vertices, facets, reconv}
use Rattle.commands.specs.Tasks.Files.{logged}
use Rattle.commands.specs.declared.status.Status.{Status}
use Rattle.commands.specs.declared.status.Status.TheVariants.{Done}
use Rattle.bensolve_main.specs.Accepted.{Accepted, WritesAccepted, checker_of}
use Rattle.bensolve_main.specs.Outcome.{Outcome}
use Rattle.bensolve_main.specs.World.{World}
use Rattle.bensolve_main.proofs.Accepted.{dual_accepted, solve_accepted}
use Rattle.bensolve_main.proofs.Reaccepted.{facets_accepted, vertices_accepted}

no_checker : (checker : Task) → None ≡ Some checker → ⊥
no_checker checker e = cc

one_checker : (a b : Task) → Some a ≡ Some b → a ≡ b
one_checker a b e = cc

module _ (checker : Task) (file log : List ℕ) (v w : World) where
  checked_by : (t : Task) → Some t ≡ Some checker → WritesAccepted t v w → WritesAccepted checker v w
  checked_by t e h = subst (λ (c : Task). WritesAccepted c v w) (one_checker t checker e) h

  by_task : (t : Task) → checker_of t ≡ Some checker → Outcome (shape t (logged file log)) Done v w →
      WritesAccepted checker v w
  by_task solve e h = checked_by check e (solve_accepted file log v w h)
  by_task dual e h = checked_by check e (dual_accepted file log v w h)
  by_task vertices e h = checked_by reconv e (vertices_accepted file log v w h)
  by_task facets e h = checked_by reconv e (facets_accepted file log v w h)
  by_task check e h = absurd (no_checker checker e)
  by_task relog e h = absurd (no_checker checker e)
  by_task (sample n) e h = absurd (no_checker checker e)
  by_task (project k) e h = absurd (no_checker checker e)
  by_task (associate k) e h = absurd (no_checker checker e)
  by_task meet e h = absurd (no_checker checker e)
  by_task sum e h = absurd (no_checker checker e)
  by_task join e h = absurd (no_checker checker e)
  by_task map e h = absurd (no_checker checker e)
  by_task weights e h = absurd (no_checker checker e)
  by_task (weigh word) e h = absurd (no_checker checker e)
  by_task reconv e h = absurd (no_checker checker e)

pub accepts : (shape : Shape) (result : Status) (v w : World) → Outcome shape result v w → Accepted shape result v w
accepts s result v w outcome = λ t checker file log checks is done.
    by_task checker file log v w t checks
    (subst (λ (x : Status). Outcome (shape t (logged file log)) x v w) done (subst (λ (x : Shape). Outcome x result v w) is outcome))
