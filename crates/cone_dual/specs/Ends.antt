-- Why no duality vector is found.
use Rattle.std.specs.Prelude.{◌≡◌, Bool}
use Rattle.exact_field.specs.Rational.{ℚ}
use Rattle.vlp_problem.specs.declared.problem.Problem.{Problem}
use Rattle.overflows.specs.Licence.{LicensedByCone}
use Rattle.overflows.specs.declared.fault.SolveFault.{SolveFault}
use Rattle.overflows.specs.declared.fault.SolveFault.TheVariants as fault
use Rattle.cone_rules.specs.Faults.{HasFault}
use Rattle.cone_dual.specs.declared.duality.ConeEnd.{ConeEnd}
use Rattle.cone_dual.specs.declared.duality.ConeEnd.TheVariants.{Fault, Left, NoMemory}

-- the end says what the fault says
abbrev pub IsSameEnd : SolveFault → ConeEnd → Type 0
IsSameEnd (fault.Left licence) end = end ≡ Left licence
IsSameEnd fault.NoMemory end = end ≡ NoMemory

-- the file has the fault; or the overflow is licensed by the cone and f alone; nothing of want of
-- memory
abbrev pub IsEnd : (ℚ → Bool) → Problem → ConeEnd → Type 0
IsEnd holds file (Fault fault) = HasFault file fault
IsEnd holds file (Left licence) = LicensedByCone holds file licence
IsEnd holds file NoMemory = Unit {0}
