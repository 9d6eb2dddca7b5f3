-- Programs as they are built: equations that stand one after the other in one list.
use Rattle.std.specs.Prelude.{◌≡◌, List}
use Rattle.std.specs.List.{flat_map}
use Rattle.exact_field.specs.Rational.{ℚ}
use Rattle.tableaux.specs.Table.{Table, System}
use Rattle.lin_rows.specs.declared.system.System.{System as Program}
use Rattle.lin_rows.specs.System.{HasLengths, system_of}

-- the rows of a table, one after the other
abbrev pub joined : Table → List ℚ
joined rows = flat_map (λ r. r) rows

-- a program is a system in numbers, with lists of the right lengths
pub record IsWritten {F : Type 0} (value : F → ℚ) (s : System) (p : Program F) : Type 0 where
  pub lengths : HasLengths p
  pub numbers : system_of value p ≡ s
