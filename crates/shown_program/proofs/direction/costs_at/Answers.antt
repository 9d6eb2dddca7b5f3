use Rattle.std.proofs.Common.{◌∷◌, ◌++◌, ◌∙◌, [], ap, map, slice_index_or, sym}
use Rattle.std.proofs.lemmas.List.{map_more}
use Rattle.exact_field.specs.Vector.{entry}
use Rattle.lp_form.proofs.Steps.{value_pushed}
use Rattle.shown_program.proofs.direction.costs_at.Goals as goal

pub loop-column-preserved : goal.loop-column-preserved
loop-column-preserved g c =
    let value = g.F.Field.value in
    let cost = entry (map value c.args.program.now.cost) in
    let columns = c.args.columns.now in
    let i = c.loop-column.column-index in
    let own = cost (slice_index_or columns i 0) in
    value_pushed value c.loop-column.costs c.push.new.self c.cost_at.result own
    c.in_ok-push.ensures.ok c.cost_at.ensures
    ∙ ap (λ l. l ++ own ∷ []) c.loop-column.invariant
    ∙ sym (map_more cost columns i 0 c.loop-column-test.true)
