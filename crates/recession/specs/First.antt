-- How the description of an image begins.
use Rattle.std.specs.Prelude.{◌≡◌, ◌≤◌, ◌+◌, ⊤, Bool, List, map, length, All}
use Rattle.exact_field.specs.Rational.{ℚ}
use Rattle.lineality.specs.Lines.{AreLines}
use Rattle.lineality.specs.Without.{marks, open_count, without}
use Rattle.polyhedra.specs.Cone.{HasFullRank}
use Rattle.upper_image.specs.UpperImage.{IsWorkingDirection}
use Rattle.overflows.specs.Base.{IsBaseChoice}
use Rattle.benson_program.specs.Ends.{IsContradiction}
use Rattle.benson_program.specs.Wholes.{IsWholeOf}
use Rattle.lp_form.specs.declared.shown.Cut.{Cut}
use Rattle.outer_approx.specs.Cuts.{IsCutFor}
use Rattle.outer_approx.specs.Lines.{AreLinesFor, told_by}
use Rattle.outer_approx.specs.Task.{Task, IsFitting}
use Rattle.outer_approx.specs.declared.log.Line.{Line}
use Rattle.recession.specs.Further.{normals_of}
use Rattle.recession.specs.declared.first.First.{First}
use Rattle.recession.specs.declared.first.First.TheVariants.{Infeasible, Whole, Cuts}

-- x is a feasible point, the lines are those of the image, each with what shows it, and with them
-- the cuts are as many as there are objectives; without the entries at the places of the lines their
-- normals are independent
pub record AreFirstCuts {F : Type 0} (value : F → ℚ) (task : Task) (x : List F) (ls : List (Line F)) (cuts : List (Cut F)) : Type 0 where
  pub choice : IsBaseChoice task.file (map value x)
  pub shown : AreLinesFor value task (normals_of value cuts) ls
  pub lines_are : AreLines task.file.objs (IsWorkingDirection task.file) (map (told_by value) ls)
  pub each : All (IsCutFor value task) cuts
  pub some : 1 ≤ length cuts
  pub many : length cuts + length ls ≡ task.file.objs
  pub rank :
      let bs = marks task.file.objs (map (told_by value) ls) in
      HasFullRank (open_count bs) (map (without bs) (normals_of value cuts))

-- multipliers that show that no point is feasible; a feasible point, and what shows that the image
-- is everything; or its lines and first cuts
abbrev pub IsFirst : {F : Type 0} → (F → ℚ) → Task → First F → Type 0
IsFirst value task (Infeasible u) = IsContradiction task.file (map value u)
IsFirst value task (Whole x parts) = IsBaseChoice task.file (map value x) × IsWholeOf value task.file task.c parts
IsFirst value task (Cuts x ls cuts) = AreFirstCuts value task x ls cuts

-- two answers are of one kind
abbrev pub AreAlike : {F : Type 0} → First F → First F → Type 0
AreAlike (Infeasible u) (Infeasible u') = ⊤
AreAlike (Whole x parts) (Whole x' parts') = ⊤
AreAlike (Cuts x ls cuts) (Cuts x' ls' cuts') = ⊤
AreAlike _ _ = ⊥

-- two answers that hold of one task are of one kind
abbrev pub FirstAnswersExclude : {F : Type 0} → (F → ℚ) → (ℚ → Bool) → Type 0
FirstAnswersExclude value holds = (task : Task) → IsFitting holds task → (a b : First _) → IsFirst value task a → IsFirst value task b → AreAlike a b
