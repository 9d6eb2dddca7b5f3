use Rattle.std.proofs.Common.{ℕ, List, map, refl, sym, subst}
use Rattle.polyhedra.specs.Cone.{HasFullRank}
use Rattle.tableaux.proofs.Orthogonal.{not_full}
use Rattle.deriv_log.specs.declared.entry.Entry.{Entry}
use Rattle.lin_rows.specs.Answers.{IsIndep}
use Rattle.lin_rows.specs.Eliminate.{IsElimFault}
use Rattle.lin_rows.specs.Read.{numbers}
use Rattle.overflows.specs.Dictionaries.{IsElimTable}
use Rattle.overflows.specs.Faults.{Overflows}
use Rattle.cone_dual.proofs.Licences.{elimination_alone, elimination_over}
use Rattle.cone_dual.proofs.described.basis_of.Goals as goal

pub unreachable-requires : goal.unreachable-requires
unreachable-requires g c =
    let value = g.F.Field.value in
    let t = numbers value c.args.rows.now.list in
    let here = c.in-Ok-Orthogonal in
    not_full c.width.result t (map value here.field-0-0) (subst (IsIndep value c.width.result t) here.field-0-is here.ensures.ok).orthogonal
    (subst (λ (n : ℕ). HasFullRank n t) (sym c.width.ensures) c.requires)

pub returns-in-Err-clause-left : goal.returns-in-Err-clause-left
returns-in-Err-clause-left g c = λ s allowed.
    let value = g.F.Field.value in
    let holds = g.F.Field.holds in
    let rows = c.args.rows.now in
    let t = numbers value rows.list in
    subst (λ (trail : List Entry). Overflows holds s trail c.elimination_fault.result) c.new.ensures
    (c.elimination_fault.ensures.licensed s rows.width rows.width t (IsElimTable.alone allowed refl refl)
    (subst (λ (n : ℕ). IsElimFault value holds n t c.in-Err.fault) c.width.ensures c.in-Err.ensures.left))

pub returns-in-Err-clause-place : goal.returns-in-Err-clause-place
returns-in-Err-clause-place g c = λ family.
    let value = g.F.Field.value in
    elimination_over value family (numbers value c.args.rows.now.list) c.new.result c.in-Err.fault c.elimination_fault.result c.elimination_fault.ensures.told

pub returns-in-Err-clause-told : goal.returns-in-Err-clause-told
returns-in-Err-clause-told g c =
    let value = g.F.Field.value in
    let t = numbers value c.args.rows.now.list in
    elimination_alone value g.F.Field.holds g.met.F.Field.holds_zero t c.new.result c.width.result t c.in-Err.fault c.elimination_fault.result c.new.ensures c.in-Err.ensures.left
    c.elimination_fault.ensures.told
