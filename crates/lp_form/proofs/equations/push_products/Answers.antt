use Rattle.std.proofs.Common.{map, length, ap, ap₂, ◌∙◌, arith}
use Rattle.polyhedra.specs.Negatives.{negated}
use Rattle.polyhedra.specs.Vectors.{zeros}
use Rattle.tableaux.specs.Table.{unit, row_of}
use Rattle.lin_rows.specs.Read.{numbers}
use Rattle.lp_form.specs.Programs.{on_parts}
use Rattle.lp_form.proofs.Joined.{joined_more}
use Rattle.lp_form.proofs.Steps.{row_at}
use Rattle.lp_form.proofs.equations.push_products.Goals as goal

pub loop-g-preserved : goal.loop-g-preserved
loop-g-preserved g c =
    let value = g.F.Field.value in
    let vectors = numbers value c.args.vectors.now in
    joined_more (map value c.args.list.now) (map value c.loop-g.list) (map value c.push_on_w.new.list) (on_parts (zeros c.args.m) (map value c.as_slice-in-loop-g.result.now) (map value c.as_slice-in-loop-g-2.result.now)) c.loop-g.g
    (λ i. on_parts (zeros c.args.m) (row_of vectors i) (negated (unit (length c.args.vectors.now) i))) c.loop-g.invariant c.in_ok-push_on_w.ensures
    (ap₂ (on_parts (zeros c.args.m)) (ap (map value) c.as_slice-in-loop-g.ensures.items ∙ row_at value c.args.vectors.now c.loop-g.g c.index-vectors-g.result (omega arith) c.index-vectors-g.is) (ap (map value) c.as_slice-in-loop-g-2.ensures.items ∙ c.in_ok-minus.ensures ∙ ap negated (ap (map value) c.as_slice.ensures.items ∙ c.in_ok-e.ensures)))
