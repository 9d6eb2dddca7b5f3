-- The code of each status.
use Rattle.std.specs.Prelude.{ℕ}
use Rattle.commands.specs.declared.status.Status.{Status}
use Rattle.commands.specs.declared.status.Status.TheVariants.{Done, Words, FileFault, ConeFault, Left, NoMemory, ReadFault, WriteFault, Refused, TooLong, Columns, SecondFile, EmptyPart, Sizes, RepFault, WeighLeft, Weights}

-- the code with which the program ends
abbrev pub code_of : Status → ℕ
code_of Done = 0
code_of Words = 2
code_of (FileFault f) = 3
code_of (ConeFault f) = 4
code_of (Left l) = 5
code_of NoMemory = 6
code_of (ReadFault log) = 7
code_of (WriteFault log sent) = 8
code_of (Refused why) = 9
code_of (TooLong log read) = 10
code_of (Columns asked cols) = 12
code_of (SecondFile f) = 13
code_of (EmptyPart second u) = 14
code_of (Sizes first second) = 15
code_of (RepFault line kind) = 16
code_of (WeighLeft item l) = 17
code_of (Weights given objs) = 18
