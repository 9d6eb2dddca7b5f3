use Rattle.std.proofs.Common.{◌≡◌, ◌^◌, take, min}
use Rattle.std.specs.Str.Parse.{AllDigits, digits_value}
use Rattle.word_lines.proofs.number.value.Given as goal

abbrev pub invariant-loop-b : goal.invariant-loop-b
invariant-loop-b l = record { value : l.value ≡ min (digits_value 10 (take l.b-index l.digits)) (2 ^ 120); digits : AllDigits 10 (take l.b-index l.digits) }
