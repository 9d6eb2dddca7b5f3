-- The fault of an elimination as that of a linear program.
use Rattle.std.specs.Prelude.{◌≡◌}
use Rattle.lin_rows.specs.declared.fault.RowFault.{RowFault}
use Rattle.lin_rows.specs.declared.fault.RowFault.TheVariants.{Left as RowLeft, NoMemory as RowWant}
use Rattle.exact_simplex.specs.declared.answer.LpFault.{LpFault}
use Rattle.exact_simplex.specs.declared.answer.LpFault.TheVariants.{Left, NoMemory}

-- it says the same
abbrev pub IsSameFault : {F : Type 0} → RowFault F → LpFault F → Type 0
IsSameFault (RowLeft basis row col step left) fault = fault ≡ Left basis row col step left
IsSameFault RowWant fault = fault ≡ NoMemory
