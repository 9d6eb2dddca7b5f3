use Rattle.std.proofs.Common.{◌≡◌, take, drop}
use Rattle.bench_calls.specs.Steps.{numbers_of, are_operands}
use Rattle.bench_calls.proofs.steps.put.Given as goal

abbrev pub invariant-loop-k : goal.invariant-loop-k
invariant-loop-k l = record { items : take l.k l.numbers ≡ numbers_of (take l.k l.given); held : are_operands (drop l.k l.given) ≡ are_operands l.given }
