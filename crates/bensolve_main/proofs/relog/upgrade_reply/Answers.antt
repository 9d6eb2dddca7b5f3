use Rattle.std.proofs.Common.{refl}
use Rattle.bensolve_main.proofs.Relogged.{relogged}
use Rattle.bensolve_main.proofs.relog.upgrade_reply.Goals as goal

pub returns-clause-told : goal.returns-clause-told
returns-clause-told c =
    relogged c.args.file.now c.args.entries.now c.in_ok-check.field-0 _ c.requires
    c.in_ok-check.ensures.ok refl c.in_ok-text.ensures refl
