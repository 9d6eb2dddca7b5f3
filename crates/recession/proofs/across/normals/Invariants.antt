use Rattle.std.proofs.Common.{◌≡◌, take}
use Rattle.lin_rows.specs.Read.{numbers}
use Rattle.recession.specs.Further.{normals_of}
use Rattle.recession.proofs.across.normals.Given as goal

abbrev pub invariant-loop-cut : goal.invariant-loop-cut
invariant-loop-cut g l = record {
  width : l.rows.width ≡ l.q;
  list : numbers g.F.Field.value l.rows.list ≡ normals_of g.F.Field.value (take l.cut-index l.cuts);
}
