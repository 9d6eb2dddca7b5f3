use Rattle.std.proofs.Common.{◌≡◌, ◌++◌, map}
use Rattle.polyhedra.specs.Vectors.{zeros}
use Rattle.tableaux.specs.Table.{listed, unit}
use Rattle.lp_form.specs.Building.{joined}
use Rattle.lp_form.specs.Programs.{on_parts}
use Rattle.lp_form.proofs.equations.push_entries_of_w.Given as goal

abbrev pub invariant-loop-i : goal.invariant-loop-i
invariant-loop-i g l =
    let value = g.F.Field.value in
    map value l.list ≡ map value l.initial.list ++ joined (listed l.i (λ i. on_parts (zeros l.m) (unit l.q i) (map value l.after)))
