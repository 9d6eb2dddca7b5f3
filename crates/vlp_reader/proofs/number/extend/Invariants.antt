use Rattle.std.proofs.Common.{◌≡◌, ◌-◌, ◌^◌, take, min}
use Rattle.std.specs.Str.Parse.{digits_value_after}
use Rattle.vlp_reader.proofs.number.extend.Given as goal

abbrev pub invariant-loop-b : goal.invariant-loop-b
invariant-loop-b l = l.value ≡ min (digits_value_after 10 l.start (take l.b-index l.digits)) (2 ^ 128 - 1)
