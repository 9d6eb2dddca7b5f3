-- What an outer approximation is made for: a file and a duality vector.
use Rattle.std.specs.Prelude.{ℕ, Bool, List, Some}
use Rattle.exact_field.specs.Rational.{ℚ}
use Rattle.vlp_problem.specs.declared.problem.Problem.{Problem}
use Rattle.upper_image.specs.Shows.{ShowsFitting}
use Rattle.deriv_log.specs.declared.entry.Entry.{Entry}
use Rattle.overflows.specs.Licence.{IsHeldDuality}
use Rattle.overflows.specs.Settings.{Setting}
use Rattle.overflows.specs.Trails.{IsBaseDuality}

-- the file, the duality vector, and the weights that combine the generators of the ordering cone to it, if the cone is given by any
pub record Task : Type 0 where
  pub file : Problem
  pub c : List ℚ
  pub weights : List ℚ

-- c and the weights are those of a duality entry that fits the file, is read off, and has held numbers
pub record IsFitting (holds : ℚ → Bool) (task : Task) : Type 0 where
  pub picks : List ℕ
  pub inverse : List ℚ
  pub fits : ShowsFitting task.file task.c task.weights picks inverse
  pub base : IsBaseDuality task.file task.file.cone task.file.duality task.c task.weights
  pub held : IsHeldDuality holds task.c task.weights inverse

-- the setting of a call after these entries, to which c is known
abbrev pub setting : Task → List Entry → Setting
setting task trail = record { file = task.file; c = Some task.c; weights = task.weights; trail = trail }
