-- The lines of an image as values of the code, with what shows them.
use Rattle.std.specs.Prelude.{Bool, false, List, map, All}
use Rattle.exact_field.specs.Rational.{ℚ}
use Rattle.polyhedra.specs.Negatives.{negated}
use Rattle.lineality.specs.Lines.{AreEchelon}
use Rattle.lineality.specs.Without.{marks}
use Rattle.deriv_log.specs.declared.entry.Entry.{Entry}
use Rattle.log_rules.specs.Live.{lines}
use Rattle.overflows.specs.Base.{IsSide}
use Rattle.overflows.specs.Preimages.{IsPreimageOf}
use Rattle.outer_approx.specs.Task.{Task}
use Rattle.outer_approx.specs.declared.log.Line.{Line}

-- the direction that a line tells
abbrev pub told_by : {F : Type 0} → (F → ℚ) → Line F → List ℚ
told_by value line = map value line.d

-- d and its negative have these pre-images
pub record RunsBothWays {F : Type 0} (value : F → ℚ) (task : Task) (line : Line F) : Type 0 where
  pub forth_is : IsPreimageOf value task.file task.c task.weights (told_by value line) false line.forth
  pub back_is : IsPreimageOf value task.file task.c task.weights (negated (told_by value line)) false line.back

-- the lines of an image after cuts with these normals: each is a side of them and runs both ways,
-- and the directions are in reduced echelon form
pub record AreLinesFor {F : Type 0} (value : F → ℚ) (task : Task) (normals : List (List ℚ)) (ls : List (Line F)) : Type 0 where
  pub sides : All (λ line. IsSide task.file.objs normals (told_by value line)) ls
  pub both_ways : All (RunsBothWays value task) ls
  pub echelon : AreEchelon task.file.objs (map (told_by value) ls)

-- for each objective whether it stands at the place of a line of the trail
abbrev pub line_places : Task → List Entry → List Bool
line_places task trail = marks task.file.objs (lines trail)
