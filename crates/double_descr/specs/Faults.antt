-- What a fault of rows is here.
use Rattle.lin_rows.specs.declared.fault.RowFault.{RowFault}
use Rattle.lin_rows.specs.declared.fault.RowFault.TheVariants.{Left as Stopped, NoMemory as Want}
use Rattle.double_descr.specs.declared.fault.DdFault.{DdFault}
use Rattle.double_descr.specs.declared.fault.DdFault.TheVariants.{Elim, NoMemory}

-- want of memory, or a step of a start
abbrev pub fault_of : {F : Type 0} → RowFault F → DdFault F
fault_of (Stopped basis row col step left) = Elim (Stopped basis row col step left)
fault_of Want = NoMemory
