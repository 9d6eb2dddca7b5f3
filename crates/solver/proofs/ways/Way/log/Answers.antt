use Rattle.std.proofs.Common.{map}
use Rattle.solver.proofs.Anyhow.{facet_anyhow, left_anyhow}
use Rattle.solver.proofs.ways.Way.log.Goals as goal

pub returns-in-LowerImage-clause-own : goal.returns-in-LowerImage-clause-own
returns-in-LowerImage-clause-own g c =
    facet_anyhow g.F.Field.holds g.file (map g.F.Field.value c.args.duality.now.c)
    (map g.F.Field.value c.args.duality.now.weights) c.dual.result c.dual.ensures.ok

pub returns-in-LowerImage-clause-left : goal.returns-in-LowerImage-clause-left
returns-in-LowerImage-clause-left g c =
    left_anyhow g.F.Field.holds g.file (map g.F.Field.value c.args.duality.now.c)
    (map g.F.Field.value c.args.duality.now.weights) c.requires.1.1.1.sound c.dual.result c.dual.ensures.left
