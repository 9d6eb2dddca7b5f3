-- How fault lines show what is wrong with the text of a log.
use Rattle.std.specs.Prelude.{ℕ, List, codes}
use Rattle.word_lines.specs.declared.fault.LogKind.{LogKind}
use Rattle.word_lines.specs.declared.fault.LogKind.TheVariants.{BadLine, BadNumber, NumberWide, OutOfRange, NoEnd}

-- the number of a kind
abbrev pub kind_number : LogKind → ℕ
kind_number BadLine = 1
kind_number BadNumber = 2
kind_number NumberWide = 3
kind_number OutOfRange = 4
kind_number NoEnd = 5

-- the bytes of its name
abbrev pub kind_name : LogKind → List ℕ
kind_name BadLine = codes "BadLine"
kind_name BadNumber = codes "BadNumber"
kind_name NumberWide = codes "NumberWide"
kind_name OutOfRange = codes "OutOfRange"
kind_name NoEnd = codes "NoEnd"
