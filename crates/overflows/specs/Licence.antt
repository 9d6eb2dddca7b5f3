-- When an overflow is licensed: the operation's exact result is not held, the trail is a base
-- trail, and the operands are those that the place names. That of a step of the check has a whole
-- log as its trail.
use Rattle.std.specs.Prelude.{ℕ, Bool, List, [], ◌∷◌, ◌≡◌, ◌⊎◌, All, None, Some, IsTrue, refl}
use Rattle.std.proofs.Math.Dec.{lit≤, lit<}
use Rattle.exact_field.specs.Rational.{ℚ}
use Rattle.exact_field.specs.declared.op.Left.{Left}
use Rattle.vlp_problem.specs.declared.problem.Bound.TheVariants.{Free}
use Rattle.vlp_problem.specs.declared.problem.Dir.TheVariants.{Min}
use Rattle.vlp_problem.specs.declared.problem.Problem.{Problem}
use Rattle.deriv_log.specs.Formed.{IsLog}
use Rattle.deriv_log.specs.declared.entry.Entry.{Entry}
use Rattle.deriv_log.specs.declared.entry.Entry.TheVariants.{Version, Duality}
use Rattle.deriv_log.specs.declared.licence.Place.{Place}
use Rattle.deriv_log.specs.declared.licence.Place.TheVariants.{Pivot, Elim, Pair, Exchange, Scale, Step}
use Rattle.deriv_log.specs.declared.licence.Licence.{Licence}
use Rattle.log_rules.specs.Events.Failure.{left as overflows}
use Rattle.log_rules.specs.LogEvents.{plain_failure}
use Rattle.overflows.specs.Steps.{IsNotHeld}
use Rattle.overflows.specs.Trails.{IsBaseTrail}
use Rattle.overflows.specs.Dictionaries.{IsProgramStep, IsElimStep}
use Rattle.overflows.specs.Generators.{IsAdditionStep, IsExchangeStep}
use Rattle.overflows.specs.Products.{IsListStep}
use Rattle.overflows.specs.Quotients.{IsScaleStep}
use Rattle.overflows.specs.Settings.{Setting}

-- ---- operands
-- the operands are those that the place names; a step of the check is no operation of a call. Where
-- nothing is eliminated, in row 0, the basis has no places
abbrev pub IsAt : (ℚ → Bool) → Setting → Place → Left ℚ → Type 0
IsAt holds s (Pivot program basis row col step) left = IsProgramStep holds s program basis row col step left
IsAt holds s (Elim rows basis row col step) left = IsElimStep holds s rows basis row col step left ⊎ ((row ≡ 0) × (basis ≡ []) × IsListStep s rows col step left)
IsAt holds s (Pair family rows first second step) left = IsAdditionStep s family rows first second step left
IsAt holds s (Exchange y t step) left = IsExchangeStep s y t step left
IsAt holds s (Scale vector k) left = IsScaleStep s vector k left
IsAt holds s (Step number step) left = ⊥

-- the exact result is not held, and the operands are those that the place names
pub record IsOverflow (holds : ℚ → Bool) (s : Setting) (place : Place) (left : Left ℚ) : Type 0 where
  pub not_held : IsNotHeld holds left
  pub operands : IsAt holds s place left

-- the check of a whole log was given up: the first event that fails is this step of this entry, and
-- its exact result is not held
pub record IsCheckOverflow (holds : ℚ → Bool) (file : Problem) (entries : List Entry) (place : Place) (left : Left ℚ) : Type 0 where
  pub not_held : IsNotHeld holds left
  pub log : IsLog entries
  pub number : ℕ
  pub step : ℕ
  pub at : place ≡ Step number step
  pub first : plain_failure holds file entries ≡ Some (record { entry = number; failure = overflows step left.op left.a left.b })

-- ---- trails
-- a `version` and a `duality` entry
abbrev pub opening : List ℚ → List ℚ → List ℕ → List ℚ → List Entry
opening c weights picks inverse = Version 1 ∷ Duality c weights picks inverse ∷ []

-- every number of the duality entry is held
pub record IsHeldDuality (holds : ℚ → Bool) (c weights inverse : List ℚ) : Type 0 where
  pub c_held : All (λ q. IsTrue (holds q)) c
  pub weights_held : All (λ q. IsTrue (holds q)) weights
  pub inverse_held : All (λ q. IsTrue (holds q)) inverse

-- c and these weights are those that the duality entry of a base trail may have, in an entry with
-- held numbers
pub record IsPossible (holds : ℚ → Bool) (file : Problem) (c weights : List ℚ) : Type 0 where
  pub picks : List ℕ
  pub inverse : List ℚ
  pub held : IsHeldDuality holds c weights inverse
  pub trail : IsBaseTrail file c weights (opening c weights picks inverse)

-- a trail stands for a whole one: for itself, or for itself after a `version` and a `duality`
-- entry with held numbers
pub data Completes (holds : ℚ → Bool) (c weights : List ℚ) (trail whole : List Entry) : Type 0 where
  itself : whole ≡ trail → Completes holds c weights trail whole
  after_opening : (picks : List ℕ) (inverse : List ℚ) → IsHeldDuality holds c weights inverse →
      whole ≡ Version 1 ∷ Duality c weights picks inverse ∷ trail → Completes holds c weights trail whole

-- a trail stands for this base trail with the duality vector c, which is possible
pub record StandsFor (holds : ℚ → Bool) (file : Problem) (c weights : List ℚ) (trail whole : List Entry) : Type 0 where
  pub possible : IsPossible holds file c weights
  pub completes : Completes holds c weights trail whole
  pub base : IsBaseTrail file c weights whole

-- ---- licences
-- the overflow of an operation of a call that was handed the duality vector c
pub record IsCallLicence (holds : ℚ → Bool) (file : Problem) (c : List ℚ) (licence : Licence) : Type 0 where
  pub weights : List ℚ
  pub whole : List Entry
  pub stands : StandsFor holds file c weights licence.trail whole
  pub overflow : IsOverflow holds (record { file = file; c = Some c; weights = weights; trail = whole }) licence.place licence.left

-- the overflow of the check of a log with this duality vector: the trail is the whole log
pub record IsCheckLicence (holds : ℚ → Bool) (file : Problem) (c : List ℚ) (licence : Licence) : Type 0 where
  pub weights : List ℚ
  pub possible : IsPossible holds file c weights
  pub base : IsBaseTrail file c weights licence.trail
  pub overflow : IsCheckOverflow holds file licence.trail licence.place licence.left

-- either of them
abbrev pub Licensed : (ℚ → Bool) → Problem → List ℚ → Licence → Type 0
Licensed holds file c licence = IsCallLicence holds file c licence ⊎ IsCheckLicence holds file c licence

-- an overflow before a duality vector is known: the trail is empty, and no duality vector enters an
-- operand. Where one is possible this is one with that vector too, so it need not be decided
-- whether one is
pub record LicensedWithout (holds : ℚ → Bool) (file : Problem) (licence : Licence) : Type 0 where
  pub trail : licence.trail ≡ []
  pub overflow : IsOverflow holds (record { file = file; c = None; weights = []; trail = [] }) licence.place licence.left

-- ---- the ordering cone
-- the problem that has the ordering cone and the vector f of a file, and nothing else of it: one
-- free column, no rows, and objectives that are 0
abbrev pub cone_alone : Problem → Problem
cone_alone file =
    record {
      dir = Min;
      rows = 0;
      cols = 1;
      objs = file.objs;
      a = [];
      o = [];
      row_bounds = [];
      col_bounds = Free ∷ [];
      cone = file.cone;
      duality = file.duality;
      rows_bounded = lit≤ tt;
      some_column = lit< tt;
      cols_bounded = lit≤ tt;
      some_objective = file.some_objective;
      objs_bounded = file.objs_bounded;
      a_cells = refl;
      o_cells = refl;
      row_count = refl;
      col_count = refl;
      cone_vectors = file.cone_vectors;
      duality_entries = file.duality_entries;
    }

-- the overflow of an operation on numbers of the ordering cone and f: without a duality vector, and
-- for each problem that has them
abbrev pub LicensedByCone : (ℚ → Bool) → Problem → Licence → Type 0
LicensedByCone holds file licence = LicensedWithout holds (cone_alone file) licence
