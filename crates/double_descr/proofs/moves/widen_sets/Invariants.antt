use Rattle.std.proofs.Common.{◌≡◌, [], ◌∷◌, ◌++◌, All, drop}
use Rattle.std.specs.Vec.{vec_capacity, vec_len}
use Rattle.double_descr.specs.Making.{Addition, AreValuesAt}
use Rattle.double_descr.specs.State.{HasTightSet, with_tight_set}
use Rattle.double_descr.proofs.InPlace.{IsMappedTo}
use Rattle.double_descr.proofs.moves.widen_sets.Given as goal

abbrev pub invariant-loop-i : goal.invariant-loop-i
invariant-loop-i g l =
    let value = g.F.Field.value in
    let first = l.initial.generators.items in
    record {
      many : vec_len l.generators ≡ vec_len l.initial.generators;
      capacity : vec_capacity l.generators ≡ vec_capacity l.initial.generators;
      rest : drop l.i l.generators.items ≡ drop l.i first;
      given : (a : Addition) → AreValuesAt value a.row first l.vals → All (HasTightSet value a.rows) first →
          IsMappedTo (with_tight_set value (a.rows ++ a.row ∷ [])) l.i first l.generators.items;
    }
