-- All facets of an image, as cuts.
use Rattle.std.specs.Prelude.{List, map, All}
use Rattle.exact_field.specs.Rational.{ℚ}
use Rattle.lp_form.specs.declared.shown.Cut.{Cut}
use Rattle.outer_approx.specs.Cuts.{IsCutFor, said_by}
use Rattle.outer_approx.specs.Task.{Task}
use Rattle.lower_image.specs.Lower.{AreAllFacets}

-- the cuts are all facets of the image, each once
pub record AreFacetCuts {F : Type 0} (value : F → ℚ) (task : Task) (cuts : List (Cut F)) : Type 0 where
  pub each : All (IsCutFor value task) cuts
  pub all : AreAllFacets task.file task.c (map (said_by value) cuts)
