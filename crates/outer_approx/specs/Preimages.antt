-- Which live generators have a pre-image.
use Rattle.std.specs.Prelude.{◌≡◌, ◌≢◌, ℕ, Bool, true, false, List, []}
use Rattle.exact_field.specs.Rational.{ℚ}
use Rattle.polyhedra.specs.Exactness.{homogenised}
use Rattle.incid_sets.specs.Marks.{has}
use Rattle.deriv_log.specs.declared.entry.Entry.{Entry}
use Rattle.log_rules.specs.Live.{preimages}
use Rattle.overflows.specs.Base.{IsLiveAfter, last_of}
use Rattle.overflows.specs.Preimages.{IsPreimageOf}
use Rattle.lp_form.specs.declared.shown.Preimage.{Preimage}
use Rattle.outer_approx.specs.Task.{Task}

-- g is the number of the live generator v, a point where t and else a direction, which has no pre-image, and the parts are one
pub record IsReached {F : Type 0} (value : F → ℚ) (task : Task) (trail : List Entry) (g : ℕ) (t : Bool) (parts : Preimage F) : Type 0 where
  pub v : List ℚ
  pub live : IsLiveAfter task.file.objs trail (record { number = g; vector = homogenised v (last_of t) })
  pub fresh : preimages trail g ≡ []
  pub parts_are : IsPreimageOf value task.file task.c task.weights v t parts

-- the marks are those of the numbers that have a pre-image
pub record AreMarks (trail : List Entry) (marks : List Bool) : Type 0 where
  pub marked : (k : ℕ) → has marks k ≡ true → preimages trail k ≢ []
  pub unmarked : (k : ℕ) → has marks k ≡ false → preimages trail k ≡ []
