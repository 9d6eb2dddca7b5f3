use Rattle.std.proofs.Common.{List, All, subst}
use Rattle.std.proofs.lemmas.List.{take_all}
use Rattle.std.proofs.lemmas.List.Elements.{All-more}
use Rattle.deriv_log.specs.declared.entry.Entry.{Entry}
use Rattle.commands.specs.Told.{IsHeldEntry}
use Rattle.commands.proofs.held.read_entries.Goals as goal

pub loop-entry-preserved : goal.loop-entry-preserved
loop-entry-preserved c =
    All-more IsHeldEntry c.args.entries.now c.loop-entry.entry-index c.entry-item.result c.loop-entry-test.true c.loop-entry.invariant
    (subst IsHeldEntry c.entry-item.is c.read_entry.ensures)

pub returns : goal.returns
returns c =
    subst (λ (xs : List Entry). All IsHeldEntry xs) (take_all c.loop-entry.entry-index c.args.entries.now c.loop-entry-test.false) c.loop-entry.invariant
