use Rattle.std.proofs.Common.{sym, subst}
use Rattle.std.specs.Prelude.{⊤}
use Rattle.frac128.specs.Held.{is_held}
use Rattle.log_rules.specs.Runs.{Runs}
use Rattle.log_rules.specs.VectorEvents.{in_cone}
use Rattle.upper_image.specs.OrderingCone.{dual_of}
use Rattle.vlp_problem.specs.declared.problem.Cone.{Cone}
use Rattle.entry_checks.proofs.cone.in_dual_cone.Goals as goal

pub returns-in-Orthant : goal.returns-in-Orthant
returns-in-Orthant c = subst (λ (k : Cone). Runs {X = Unit {0}} is_held (in_cone (dual_of k) c.args.w.now c.args.v.now) c.args.counter.now.taken c.args.counter.now.taken (λ _. ⊤) c.in_orthant.result) (sym c.in-Orthant.is) (c.in_orthant.ensures c.args.counter.now.taken)
