use Rattle.std.proofs.Common.{take}
use Rattle.benson_dual.proofs.AllPicked.{ArePickedAt}
use Rattle.benson_dual.proofs.picking.facets_in_order.Given as goal

abbrev pub ghost-take : goal.ghost-take
ghost-take g a = g.task

abbrev pub invariant-loop-place : goal.invariant-loop-place
invariant-loop-place g l = ArePickedAt g.F.Field.value g.task l.most l.cuts (take l.place-index l.order) l.facets.first.items l.facets.others.items
