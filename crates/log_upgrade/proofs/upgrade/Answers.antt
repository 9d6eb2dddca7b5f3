use Rattle.std.proofs.Common.{◌≡◌, List, sym, ap, ◌∙◌}
use Rattle.deriv_log.specs.declared.entry.Entry.{Entry}
use Rattle.log_versions.specs.Plain.{is_version_2}
use Rattle.log_upgrade.proofs.Whole.{upgrade_of_first}
use Rattle.log_upgrade.proofs.upgrade.Goals as goal

pub returns-in_ok-make_upgrade-clause-ok : goal.returns-in_ok-make_upgrade-clause-ok
returns-in_ok-make_upgrade-clause-ok c =
    let all = c.args.entries.now in
    let first = ap is_version_2 (sym c.as_slice.ensures.items) ∙ sym c.if-is_second.ensures in
    upgrade_of_first c.args.problem.now all c.in_ok-make_upgrade.field-0 c.in_ok-check.field-0 c.requires c.in_ok-check.ensures.ok first c.in_ok-make_upgrade.ensures
