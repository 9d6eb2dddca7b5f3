use Rattle.std.proofs.Common.{[], ◌∷◌, ◌++◌, map, sym, subst}
use Rattle.double_descr.specs.Adding.{IsAddFault, add_blocks}
use Rattle.double_descr.specs.State.{State}
use Rattle.overflows.specs.Generators.{IsAddition}
use Rattle.overflows.specs.Faults.{OnLicence}
use Rattle.cone_dual.specs.Generators.{IsOver}
use Rattle.cone_dual.proofs.Licences.{addition_alone, addition_over}
use Rattle.cone_dual.proofs.described.add_row.Goals as goal

pub returns-clause-left : goal.returns-clause-left
returns-clause-left g c = λ s allowed.
    let row = map g.F.Field.value c.args.row.now in
    c.add_fault.ensures.licensed s
    (subst (λ (d : State). IsAddition s d.rows row d.list c.args.family) (sym c.in-Err.ensures.err) allowed)

pub returns-clause-place : goal.returns-clause-place
returns-clause-place g c =
    let value = g.F.Field.value in
    let family = c.args.family in
    let row = map value c.args.row.now in
    subst (λ (s : State). OnLicence c.add_fault.result (λ licence. IsOver family (s.rows ++ row ∷ []) licence.place)) c.in-Err.ensures.err
    (addition_over value g.F.Field.holds family _ _ row c.in-Err.fault c.add_fault.result
    (subst (λ (s : State). IsAddFault value g.F.Field.holds (add_blocks s.rows s.list.live row) c.in-Err.fault) (sym c.in-Err.ensures.err) c.in-Err.ensures.left)
    c.add_fault.ensures.told)

pub returns-clause-told : goal.returns-clause-told
returns-clause-told g c =
    let value = g.F.Field.value in
    let row = map value c.args.row.now in
    addition_alone value g.F.Field.holds g.met.F.Field.holds_zero c.args.family _ _ row c.in-Err.fault c.add_fault.result
    (subst (λ (s : State). IsAddFault value g.F.Field.holds (add_blocks s.rows s.list.live row) c.in-Err.fault) (sym c.in-Err.ensures.err) c.in-Err.ensures.left)
    c.add_fault.ensures.told
