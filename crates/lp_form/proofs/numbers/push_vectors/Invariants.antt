use Rattle.std.proofs.Common.{◌≡◌, ◌++◌, take}
use Rattle.std.specs.List.{flat_map}
use Rattle.lp_form.proofs.numbers.push_vectors.Given as goal

abbrev pub invariant-loop-vector : goal.invariant-loop-vector
invariant-loop-vector l =
    l.numbers ≡ l.initial.numbers ++ flat_map (λ v. v) (take l.vector-index l.vectors)
