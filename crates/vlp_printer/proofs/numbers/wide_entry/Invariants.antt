use Rattle.std.proofs.Common.{◌≡◌, take, not, None}
use Rattle.std.specs.List.{find}
use Rattle.vlp_printer.specs.Decimal.{is_decimal}
use Rattle.vlp_printer.proofs.numbers.wide_entry.Given as goal

abbrev pub invariant-loop-number : goal.invariant-loop-number
invariant-loop-number l = find (λ q. not (is_decimal q)) (take l.number-index l.numbers) ≡ None
