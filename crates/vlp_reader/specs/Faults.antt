-- How fault lines show what is wrong with a file.
use Rattle.std.specs.Prelude.{ℕ, List, codes}
use Rattle.vlp_reader.specs.declared.fault.FileKind.{FileKind}
use Rattle.vlp_reader.specs.declared.fault.FileKind.TheVariants.{NoProblem, BadLine, BadNumber, NumberWide, Digits, OutOfRange, Twice, CountWrong, LimitPassed, LineLong}

-- the number of a kind
abbrev pub kind_number : FileKind → ℕ
kind_number NoProblem = 1
kind_number BadLine = 2
kind_number BadNumber = 3
kind_number NumberWide = 4
kind_number Digits = 5
kind_number OutOfRange = 6
kind_number Twice = 7
kind_number CountWrong = 8
kind_number LimitPassed = 9
kind_number LineLong = 11

-- the bytes of its name
abbrev pub kind_name : FileKind → List ℕ
kind_name NoProblem = codes "NoProblem"
kind_name BadLine = codes "BadLine"
kind_name BadNumber = codes "BadNumber"
kind_name NumberWide = codes "NumberWide"
kind_name Digits = codes "Digits"
kind_name OutOfRange = codes "OutOfRange"
kind_name Twice = codes "Twice"
kind_name CountWrong = codes "CountWrong"
kind_name LimitPassed = codes "LimitPassed"
kind_name LineLong = codes "LineLong"
