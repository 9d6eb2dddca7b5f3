-- What the program of a generator's weight says.
use Rattle.std.specs.Prelude.{suc, ◌≡◌, ◌≢◌, List, map, Contains}
use Rattle.exact_field.specs.Rational.{ℚ, zero_ℚ}
use Rattle.exact_field.specs.Vector.{entry}
use Rattle.polyhedra.specs.LiveList.{LiveList, vectors}
use Rattle.overflows.specs.Base.{IsBaseRow}
use Rattle.overflows.specs.Turns.{IsRowTurn}
use Rattle.outer_approx.specs.Cuts.{IsCutFor, said_by}
use Rattle.outer_approx.specs.Task.{Task}
use Rattle.lp_form.specs.declared.shown.Cut.{Cut}
use Rattle.lower_image.specs.Lower.{IsCertified, IsLower, inequality_of}
use Rattle.lower_image.specs.declared.weighing.Weighed.{Weighed}
use Rattle.lower_image.specs.declared.weighing.Weighed.TheVariants.{Certified, Row}

-- a live generator, which stands for an inequality, of the cone of dual vectors of these rows
pub record IsWeighable (task : Task) (rows : List (List ℚ)) (g : List ℚ) : Type 0 where
  pub list : LiveList
  pub lower : IsLower task.file task.c rows list
  pub listed : Contains (vectors list.live) g
  pub weighted : entry g (suc task.file.objs) ≢ zero_ℚ

-- the cut is the inequality for which the generator stands, which is valid for the image
pub record Certifies {F : Type 0} (value : F → ℚ) (task : Task) (g : List ℚ) (cut : Cut F) : Type 0 where
  pub is : IsCutFor value task cut
  pub says : said_by value cut ≡ inequality_of task.file.objs task.c g
  pub valid : IsCertified task.file task.c g

-- the cut that it is, or a base row that is negative there: so no row says it yet
abbrev pub IsWeighed : {F : Type 0} → (F → ℚ) → Task → List (List ℚ) → List ℚ → Weighed F → Type 0
IsWeighed value task rows g (Certified cut) = Certifies value task g cut
IsWeighed value task rows g (Row row) = IsBaseRow task.file task.c (map value row) × IsRowTurn task.file task.c rows (map value row)
