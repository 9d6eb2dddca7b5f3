use Rattle.std.proofs.Common.{◌∙◌, ap, map}
use Rattle.polyhedra.specs.Vectors.{zeros}
use Rattle.shown_program.proofs.solution.sum_to.Goals as goal

pub sum_from-requires-clause-zero : goal.sum_from-requires-clause-zero
sum_from-requires-clause-zero g c =
    ap (map g.F.Field.value) (c.deref_mut.ensures.value ∙ c.into_vec-total.ensures.items)
    ∙ c.in_ok-zeros.ensures ∙ ap zeros c.len.ensures.value
