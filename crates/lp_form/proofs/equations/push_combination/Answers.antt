use Rattle.std.proofs.Common.{◌+◌, map, ap, ap₂, ◌∙◌, arith}
use Rattle.polyhedra.specs.Negatives.{negated}
use Rattle.polyhedra.specs.Vectors.{zeros}
use Rattle.tableaux.specs.Table.{unit, column_of}
use Rattle.lin_rows.specs.Read.{numbers}
use Rattle.lp_form.specs.Programs.{on_parts}
use Rattle.lp_form.proofs.Joined.{joined_more}
use Rattle.lp_form.proofs.Figures.{wide_enough}
use Rattle.lp_form.proofs.equations.push_combination.Goals as goal

pub column-requires-clause-high : goal.column-requires-clause-high
column-requires-clause-high g c = wide_enough g.F.Field.value c.args.q (c.loop-i.i + 1) c.args.vectors.now c.requires (omega arith)

pub loop-i-preserved : goal.loop-i-preserved
loop-i-preserved g c =
    let value = g.F.Field.value in
    let vectors = numbers value c.args.vectors.now in
    joined_more (map value c.args.list.now) (map value c.loop-i.list) (map value c.push_on_w.new.list) (on_parts (zeros c.args.m) (map value c.as_slice-in-loop-i.result.now) (map value c.as_slice-in-loop-i-2.result.now)) c.loop-i.i
    (λ i. on_parts (zeros c.args.m) (unit c.args.q i) (negated (column_of vectors i))) c.loop-i.invariant c.in_ok-push_on_w.ensures
    (ap₂ (on_parts (zeros c.args.m)) (ap (map value) c.as_slice-in-loop-i.ensures.items ∙ c.in_ok-e.ensures) (ap (map value) c.as_slice-in-loop-i-2.ensures.items ∙ c.in_ok-minus.ensures ∙ ap negated (ap (map value) c.as_slice.ensures.items ∙ c.in_ok-entries.ensures)))
