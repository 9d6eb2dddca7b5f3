use Rattle.std.proofs.Common.{List, All, sym, subst}
use Rattle.log_rules.specs.declared.answer.Gen.{Gen}
use Rattle.projection.specs.Levels.{TellsLevel}
use Rattle.projection.proofs.Told.{tell_level, not_whole}
use Rattle.projection.proofs.project.project_answer.Goals as goal

pub unreachable-requires : goal.unreachable-requires
unreachable-requires c = not_whole c.args.k c.args.answer.now c.requires c.in-Whole.c c.in-Whole.x c.in-Whole.ray c.in-Whole.is

pub short_directions-requires : goal.short_directions-requires
short_directions-requires c =
    subst (λ (ds : List Gen). All (TellsLevel c.args.k) ds) (sym c.as_slice-in-Solved-2.ensures.items)
    (tell_level c.args.k c.args.answer.now c.requires c.in-Solved.c c.in-Solved.lines c.in-Solved.points c.in-Solved.directions c.in-Solved.facets c.in-Solved.is)
