use Rattle.std.proofs.Common.{◌≡◌, ◌≤◌, ◌^◌, ◌-◌}
use Rattle.vlp_printer.specs.Decimal.{places_from}
use Rattle.vlp_printer.proofs.decimal.places.Given as goal

abbrev pub invariant-loop-places : goal.invariant-loop-places
invariant-loop-places l = record { power : l.power ≡ 10 ^ l.places; rest : places_from l.fn.number.den 0 37 ≡ places_from l.fn.number.den l.places (37 - l.places); end : l.places ≤ 37 }
