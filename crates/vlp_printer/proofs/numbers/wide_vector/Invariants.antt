use Rattle.std.proofs.Common.{◌≡◌, take, not, None}
use Rattle.std.specs.List.{flat_map, find}
use Rattle.vlp_printer.specs.Decimal.{is_decimal}
use Rattle.vlp_printer.proofs.numbers.wide_vector.Given as goal

abbrev pub invariant-loop-vector : goal.invariant-loop-vector
invariant-loop-vector l = find (λ q. not (is_decimal q)) (flat_map (λ v. v) (take l.vector-index l.vectors)) ≡ None
