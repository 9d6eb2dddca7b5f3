use Rattle.std.proofs.Common.{◌≡◌}
use Rattle.std.specs.Vec.{vec_capacity, vec_len}
use Rattle.double_descr.proofs.Sifting.{IsSifted}
use Rattle.double_descr.proofs.moves.drop_below.Given as goal

abbrev pub invariant-loop-i : goal.invariant-loop-i
invariant-loop-i g l = record {
  many : vec_len l.generators ≡ vec_len l.initial.generators;
  capacity : vec_capacity l.generators ≡ vec_capacity l.initial.generators;
  sifted : IsSifted g.F.Field.value l.vals l.initial.generators.items l.generators.items l.kept l.i;
}
