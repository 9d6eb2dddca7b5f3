-- Faults of the parts of a solver as its own ends. For the clauses of the code alone.
use Rattle.std.specs.Prelude.{◌≡◌}
use Rattle.overflows.specs.declared.fault.SolveFault.{SolveFault}
use Rattle.overflows.specs.declared.fault.SolveFault.TheVariants as fault
use Rattle.cone_dual.specs.declared.duality.ConeEnd.{ConeEnd}
use Rattle.cone_dual.specs.declared.duality.ConeEnd.TheVariants as cone
use Rattle.solver.specs.declared.end.SolveEnd.{SolveEnd}
use Rattle.solver.specs.declared.end.SolveEnd.TheVariants.{Cone, Left, NoMemory}

-- the end says what the fault says
abbrev pub IsSameFault : SolveFault → SolveEnd → Type 0
IsSameFault (fault.Left licence) end = end ≡ Left licence
IsSameFault fault.NoMemory end = end ≡ NoMemory

-- the end says what that of the search for a duality vector says
abbrev pub IsSameConeEnd : ConeEnd → SolveEnd → Type 0
IsSameConeEnd (cone.Fault fault) end = end ≡ Cone fault
IsSameConeEnd (cone.Left licence) end = end ≡ Left licence
IsSameConeEnd cone.NoMemory end = end ≡ NoMemory
