use Rattle.std.proofs.Common.{map, refl, ap, ap₂, ◌∙◌}
use Rattle.polyhedra.specs.Vectors.{zeros}
use Rattle.tableaux.specs.Table.{unit}
use Rattle.lp_form.specs.Programs.{on_parts}
use Rattle.lp_form.proofs.Joined.{joined_more}
use Rattle.lp_form.proofs.equations.push_entries_of_w.Goals as goal

pub loop-i-preserved : goal.loop-i-preserved
loop-i-preserved g c =
    let value = g.F.Field.value in
    joined_more (map value c.args.list.now) (map value c.loop-i.list) (map value c.push_on_w.new.list) (on_parts (zeros c.args.m) (map value c.as_slice.result.now) (map value c.args.after.now)) c.loop-i.i
    (λ i. on_parts (zeros c.args.m) (unit c.args.q i) (map value c.args.after.now)) c.loop-i.invariant c.in_ok-push_on_w.ensures
    (ap₂ (on_parts (zeros c.args.m)) (ap (map value) c.as_slice.ensures.items ∙ c.in_ok-e.ensures) refl)
