use Rattle.std.proofs.Common.{List, ◌++◌, ◌+◌, map, ap, ◌∙◌, arith}
use Rattle.exact_field.specs.Rational.{ℚ}
use Rattle.polyhedra.specs.Vectors.{zeros}
use Rattle.tableaux.specs.Table.{column_of}
use Rattle.lin_rows.specs.Read.{numbers}
use Rattle.lp_form.proofs.Joined.{joined_more}
use Rattle.lp_form.proofs.Joined.{pushed2, appended}
use Rattle.lp_form.proofs.Figures.{wide_enough}
use Rattle.lp_form.proofs.cone.push_columns.Goals as goal

pub column-requires-clause-high : goal.column-requires-clause-high
column-requires-clause-high g c = wide_enough g.F.Field.value c.args.q (c.loop-i.i + 1) c.args.vectors.now c.requires (omega arith)

pub loop-i-preserved : goal.loop-i-preserved
loop-i-preserved g c =
    let value = g.F.Field.value in
    let vectors = numbers value c.args.vectors.now in
    let row : List ℚ = map value c.as_slice.result.now in
    joined_more (map value c.args.list.now) (map value c.loop-i.list) (map value c.push_zeros.new.list) (row ++ zeros c.args.more) c.loop-i.i (λ i. column_of vectors i ++ zeros c.args.more) c.loop-i.invariant
    (pushed2 (map value c.loop-i.list) (map value c.append.new.self) (map value c.push_zeros.new.list) row (zeros c.args.more) (appended value c.loop-i.list c.append.new.self c.as_slice.result.now c.in_ok-append.ensures.ok)
    c.in_ok-push_zeros.ensures)
    (ap (λ l. l ++ zeros c.args.more) (ap (map value) c.as_slice.ensures.items ∙ c.in_ok-entries.ensures))
