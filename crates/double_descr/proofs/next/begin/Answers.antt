use Rattle.std.proofs.Common.{false, length, ap, ◌∙◌}
use Rattle.std.proofs.lemmas.List.{length-replicate}
use Rattle.double_descr.proofs.NextLists.{begun}
use Rattle.double_descr.proofs.next.begin.Goals as goal

pub returns : goal.returns
returns g c = λ gens. begun g.F.Field.value g.F.Field.holds g.addition gens _ c.new-2.ensures c.new-3.ensures c.requires.1.1
    (ap length c.in_ok-common.ensures ∙ length-replicate c.args.count false ∙ c.requires.1.0)
