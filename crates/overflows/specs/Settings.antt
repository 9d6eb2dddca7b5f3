-- The setting of an overflow: the file, what is known of the duality vector, and the trail.
use Rattle.std.specs.Prelude.{Bool, List, [], ◌≡◌, Contains, Option, None, Some}
use Rattle.exact_field.specs.Rational.{ℚ}
use Rattle.vlp_problem.specs.declared.problem.Problem.{Problem}
use Rattle.deriv_log.specs.declared.entry.Entry.{Entry}
use Rattle.lineality.specs.Without.{marks}
use Rattle.log_rules.specs.Live.{State, state, lines}
use Rattle.overflows.specs.Base.{trail_normals}

-- the file, the duality vector where it is known, the weights that combine the generators to it,
-- and the whole trail
pub record Setting : Type 0 where
  pub file : Problem
  pub c : Option (List ℚ)
  pub weights : List ℚ
  pub trail : List Entry

-- what stands after the trail
abbrev pub standing : Setting → State
standing s = state s.file.objs s.trail

-- the duality vector is known, and is c
abbrev pub Knows : Setting → List ℚ → Type 0
Knows s c = s.c ≡ Some c

-- the duality vector, and none where none is known
abbrev pub vector_of : Option (List ℚ) → List ℚ
vector_of None = []
vector_of (Some c) = c

-- w is the normal of one of the trail's cuts
abbrev pub IsTrailNormal : Setting → List ℚ → Type 0
IsTrailNormal s w = Contains (trail_normals s.file.objs s.trail) w

-- for each objective whether it stands at the place of a line of the trail
abbrev pub line_marks : Setting → List Bool
line_marks s = marks s.file.objs (lines s.trail)
