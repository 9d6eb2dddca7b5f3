-- What is known of an image whose facets come into use, and its log in which they are.
use Rattle.std.specs.Prelude.{◌≡◌, ℕ, Bool, List, [], map}
use Rattle.exact_field.specs.Rational.{ℚ}
use Rattle.lineality.specs.Without.{marks}
use Rattle.deriv_log.specs.declared.entry.Entry.{Entry}
use Rattle.log_rules.specs.Live.{preimages}
use Rattle.lp_form.specs.declared.shown.Cut.{Cut}
use Rattle.lower_image.specs.Lower.{AreAllFacets}
use Rattle.outer_approx.specs.Lines.{line_places, told_by}
use Rattle.outer_approx.specs.Standing.{IsOpening, IsOuter, cuts_of}
use Rattle.outer_approx.specs.Task.{Task}
use Rattle.recession.specs.Asking.{IsKnown}
use Rattle.recession.specs.First.{AreFirstCuts}
use Rattle.benson_dual.specs.declared.image.Image.{Image}
use Rattle.benson_dual.specs.declared.approximation.Approximation.{Approximation}

-- the data, the duality vector, the weights and the opening are those of the task; x is a feasible point
-- and the lines are those of the image, beside some first cuts; and the places are those of the lines
pub record IsImage {F : Type 0} (value : F → ℚ) (holds : ℚ → Bool) (task : Task) (image : Image F) : Type 0 where
  pub known : IsKnown value holds task image.form.now image.c.now image.weights.now
  pub opens : IsOpening task image.opening.now
  pub cuts : List (Cut F)
  pub first : AreFirstCuts value task image.x.now image.lines.now cuts
  pub places_are : image.places ≡ marks task.file.objs (map (told_by value) image.lines.now)

-- the cuts of a log are all facets of the image
abbrev pub AreAllInUse : Task → List Entry → Type 0
AreAllInUse task trail = AreAllFacets task.file task.c (cuts_of task trail)

-- the trail and the double description stand for the same cuts, which are all facets, and the places are
-- those of the trail's lines
pub record IsApproximation {F : Type 0} (task : Task) (image : Image F) (a : Approximation F) : Type 0 where
  pub outer : IsOuter task a.trail a.dd
  pub facets : AreAllInUse task a.trail
  pub places_are : image.places ≡ line_places task a.trail

-- no generator has a pre-image yet
abbrev pub IsUnreached : {F : Type 0} → Approximation F → Type 0
IsUnreached a = (k : ℕ) → preimages a.trail k ≡ []
