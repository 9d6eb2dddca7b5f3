-- Faults of double descriptions as faults with places.
use Rattle.std.specs.Prelude.{◌≡◌, List, [], ◌∷◌, ◌++◌}
use Rattle.exact_field.specs.Rational.{ℚ}
use Rattle.deriv_log.specs.declared.licence.Family.{Family}
use Rattle.deriv_log.specs.declared.licence.Place.TheVariants.{Pair}
use Rattle.double_descr.specs.declared.fault.DdFault.{DdFault}
use Rattle.double_descr.specs.declared.fault.DdFault.TheVariants as description
use Rattle.overflows.specs.Steps.{in_numbers}
use Rattle.overflows.specs.Faults.{IsEliminationLeft, IsLeftAt}
use Rattle.overflows.specs.declared.fault.SolveFault.{SolveFault}
use Rattle.overflows.specs.declared.fault.SolveFault.TheVariants.{NoMemory}

-- the fault of a start with these rows, at the step of their elimination that it tells; nothing
-- where no start has it
abbrev pub IsStartLeft : {F : Type 0} → (F → ℚ) → List (List ℚ) → DdFault F → SolveFault → Type 0
IsStartLeft value rows (description.Elim fault) told = IsEliminationLeft value rows [] fault told
IsStartLeft value rows (description.Left first second step left) told = Unit {0}
IsStartLeft value rows description.NoMemory told = told ≡ NoMemory

-- .. and that of the addition of a row after these, at the generators that it tells
abbrev pub IsAdditionLeft : {F : Type 0} → (F → ℚ) → Family → List (List ℚ) → List ℚ → DdFault F → SolveFault → Type 0
IsAdditionLeft value family before last (description.Left first second step left) told =
    IsLeftAt (Pair family (before ++ last ∷ []) first second step) (in_numbers value left) [] told
IsAdditionLeft value family before last (description.Elim fault) told = Unit {0}
IsAdditionLeft value family before last description.NoMemory told = told ≡ NoMemory
