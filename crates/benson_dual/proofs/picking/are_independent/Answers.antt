use Rattle.std.proofs.Common.{sym}
use Rattle.outer_approx.specs.Task.{setting}
use Rattle.recession.proofs.Opposites.{wide_cuts}
use Rattle.recession.proofs.Trails.{licensed, trail_base, trail_has, trail_of}
use Rattle.benson_dual.proofs.picking.are_independent.Goals as goal

pub level_vectors-requires : goal.level_vectors-requires
level_vectors-requires g c = wide_cuts g.F.Field.value g.task c.args.q c.args.cuts.now c.requires.1.0 c.requires.1.1.1

pub returns-in_ok-entries-in-Err-clause-left : goal.returns-in_ok-entries-in-Err-clause-left
returns-in_ok-entries-in-Err-clause-left g c =
    let value = g.F.Field.value in
    let holds = g.F.Field.holds in
    let fitting = c.requires.1.1.0 in
    let each = c.requires.1.1.1 in
    let cuts = c.args.cuts.now in
    let entries = c.in_ok-entries-in-Err.entries in
    let says = c.in_ok-entries-in-Err.ensures in
    let base = trail_base holds g.task fitting value cuts entries each says in
    let has = trail_has holds g.task fitting value cuts entries each says in
    let s = setting g.task (trail_of holds g.task fitting entries) in
    licensed holds g.task fitting entries base c.with_trail.result (c.with_trail.ensures.licensed holds s (c.in-Err.ensures.left s (sym c.requires.1.0) has))
