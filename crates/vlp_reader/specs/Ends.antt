-- The ends of reading.
use Rattle.std.specs.Prelude.{◌≡◌, ℕ, Option, Some}
use Rattle.vlp_reader.specs.declared.fault.FileKind.{FileKind}
use Rattle.vlp_reader.specs.declared.fault.LineEnd.{LineEnd}
use Rattle.vlp_reader.specs.declared.fault.LineEnd.TheVariants as line
use Rattle.vlp_reader.specs.declared.fault.VlpEnd.{VlpEnd}
use Rattle.vlp_reader.specs.declared.fault.VlpEnd.TheVariants.{Fault, NoMemory}

-- an end comes from this fault, or from want of memory
abbrev pub ComesFrom : Option FileKind → LineEnd → Type 0
ComesFrom fault (line.Kind kind) = fault ≡ Some kind
ComesFrom fault line.NoMemory = Unit {0}

-- the end at a line of this number
abbrev pub end_at : ℕ → LineEnd → VlpEnd
end_at number (line.Kind kind) = Fault (record { line = number; kind = kind })
end_at number line.NoMemory = NoMemory
