use Rattle.std.proofs.Common.{◌≡◌, List, drop}
use Rattle.std.specs.Vec.{vec_capacity, vec_len}
use Rattle.exact_field.specs.Rational.{ℚ}
use Rattle.double_descr.specs.State.{tight_sets, with_tight_set}
use Rattle.double_descr.proofs.InPlace.{IsMappedTo}
use Rattle.double_descr.proofs.moves.give_sets.Given as goal

abbrev pub invariant-loop-i : goal.invariant-loop-i
invariant-loop-i g l =
    let value = g.F.Field.value in
    let first = l.initial.generators.items in
    record {
      many : vec_len l.generators ≡ vec_len l.initial.generators;
      capacity : vec_capacity l.generators ≡ vec_capacity l.initial.generators;
      sets : drop l.i l.sets ≡ drop l.i l.initial.sets;
      given : (rows : List (List ℚ)) → l.initial.sets ≡ tight_sets value rows first →
          IsMappedTo (with_tight_set value rows) l.i first l.generators.items;
    }
