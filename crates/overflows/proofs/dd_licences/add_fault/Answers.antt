use Rattle.std.proofs.Common.{map, subst}
use Rattle.double_descr.specs.Adding.{IsAddFault, add_blocks}
use Rattle.double_descr.specs.declared.fault.DdFault.{DdFault}
use Rattle.overflows.proofs.Additions.{addition_overflows}
use Rattle.overflows.proofs.dd_licences.add_fault.Goals as goal

pub returns-in-Left-clause-licensed : goal.returns-in-Left-clause-licensed
returns-in-Left-clause-licensed g c =
    let value = g.F.Field.value in
    let holds = g.F.Field.holds in
    let dd = c.args.dd.now in
    let row = map value c.args.row.now in
    let here = c.in-Left in
    λ s may.
    addition_overflows value holds g.met.F.Field.holds_zero s c.args.family dd.rows row dd.list may here.first here.second here.step here.left c.pair_fault.result
    (subst (λ (f : DdFault _). IsAddFault value holds (add_blocks dd.rows dd.list.live row) f) here.is c.requires.fault) c.pair_fault.ensures
