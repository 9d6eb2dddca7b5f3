-- What Benson's program says of a vector, where some point is feasible and some cut is valid.
use Rattle.std.specs.Prelude.{ℕ, ◌≡◌, Bool, List, map}
use Rattle.exact_field.specs.Rational.{ℚ, zero_ℚ, ◌<ℚ◌}
use Rattle.polyhedra.specs.Exactness.{row_of}
use Rattle.vlp_problem.specs.Sides.{IsFeasible}
use Rattle.lp_form.specs.Data.{IsDataOf}
use Rattle.lp_form.specs.declared.data.Data.{Data}
use Rattle.lp_form.specs.Programs.{benson_system, value_of}
use Rattle.overflows.specs.Turns.{said_row}
use Rattle.benson_program.specs.Laws.{IsCutNormal}
use Rattle.benson_program.specs.Ends.{IsOptimumAt}
use Rattle.overflows.specs.Preimages.{IsPreimageOf}
use Rattle.lp_form.specs.declared.shown.Cut.{Cut as CutOf}
use Rattle.outer_approx.specs.Cuts.{IsCutFor, said_by}
use Rattle.outer_approx.specs.Task.{IsFitting, Task}
use Rattle.recession.specs.declared.asking.Asked.{Asked}
use Rattle.recession.specs.declared.asking.Asked.TheVariants.{Cut, Reached}

-- some point is feasible, and some cut is valid; so the image is neither empty nor everything
pub record IsProper (task : Task) : Type 0 where
  pub feasible : (x : List ℚ) × IsFeasible task.file x
  pub bounded : (w : List ℚ) × IsCutNormal task.file task.c w

-- the data, the duality vector and the weights are those of the task, which has an image to describe
pub record IsKnown {F : Type 0} (value : F → ℚ) (holds : ℚ → Bool) (task : Task) (form : Data F) (c weights : List F) : Type 0 where
  pub stands : IsDataOf value task.file form
  pub c_is : map value c ≡ task.c
  pub weights_is : map value weights ≡ task.weights
  pub fitting : IsFitting holds task
  pub proper : IsProper task

-- the cut is that of an optimum of Benson's program at v whose value is positive: so v does not meet it
pub record IsAskedCut {F : Type 0} (value : F → ℚ) (task : Task) (v : List ℚ) (t : Bool) (cut : CutOf F) : Type 0 where
  pub z : List ℚ
  pub multipliers : List ℚ
  pub basis : List ℕ
  pub optimum : IsOptimumAt (benson_system task.file task.c v t) basis z multipliers
  pub positive : zero_ℚ <ℚ value_of multipliers
  pub says : row_of (said_by value cut) ≡ said_row task.file z
  pub is : IsCutFor value task cut

-- a cut that v does not meet, or a pre-image of v
abbrev pub IsAsked : {F : Type 0} → (F → ℚ) → Task → List ℚ → Bool → Asked F → Type 0
IsAsked value task v t (Cut cut) = IsAskedCut value task v t cut
IsAsked value task v t (Reached parts) = IsPreimageOf value task.file task.c task.weights v t parts
