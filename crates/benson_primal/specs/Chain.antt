-- The search for the cuts along a chain.
use Rattle.std.specs.Prelude.{◌≡◌, Bool, All}
use Rattle.exact_field.specs.Rational.{ℚ}
use Rattle.outer_approx.specs.Cuts.{IsCutFor}
use Rattle.outer_approx.specs.Task.{Task}
use Rattle.recession.specs.Asking.{IsKnown}
use Rattle.benson_primal.specs.declared.chain.Chain.{Chain}

-- a chain stands: its data are those of the task, which has two objectives, and its cuts are cuts for it
pub record IsChain {F : Type 0} (value : F → ℚ) (holds : ℚ → Bool) (task : Task) (s : Chain F) : Type 0 where
  pub known : IsKnown value holds task s.form.now s.c.now s.weights.now
  pub two : task.file.objs ≡ 2
  pub found : All (IsCutFor value task) s.found.items
  pub waiting : All (IsCutFor value task) s.waiting.items
