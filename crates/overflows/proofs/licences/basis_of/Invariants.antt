use Rattle.std.proofs.Common.{◌≡◌}
use Rattle.tableaux.specs.Table.{listed}
use Rattle.tableaux.specs.Dictionary.{basic_column}
use Rattle.overflows.proofs.licences.basis_of.Given as goal

abbrev pub invariant-loop-i : goal.invariant-loop-i
invariant-loop-i l = l.places ≡ listed l.i (basic_column l.fn.basis)
