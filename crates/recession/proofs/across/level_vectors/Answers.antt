use Rattle.std.proofs.Common.{List, refl, sym, ◌∙◌, subst}
use Rattle.exact_field.specs.Rational.{ℚ}
use Rattle.deriv_log.specs.declared.entry.Entry.{Entry}
use Rattle.overflows.specs.Dictionaries.{AreElimRows, IsElimTable}
use Rattle.lin_rows.specs.Complement.{AreComplement}
use Rattle.lin_rows.specs.Read.{numbers}
use Rattle.overflows.specs.Faults.{Overflows}
use Rattle.recession.proofs.across.level_vectors.Goals as goal

pub returns-clause-left : goal.returns-clause-left
returns-clause-left g c = λ s q_is has.
    let value = g.F.Field.value in
    let holds = g.F.Field.holds in
    let t = numbers value c.in_ok-rows.rows.list in
    subst (λ (trail : List Entry). Overflows holds s trail c.elimination_fault.result) c.new.ensures
    (c.elimination_fault.ensures.licensed s s.file.objs c.args.q t
    (IsElimTable.alone (AreElimRows.of_normals (c.in_ok-rows.ensures.rows ∙ sym has)) refl (sym q_is)) c.in-Err.ensures.left)

pub returns-in-Ok-clause-ok : goal.returns-in-Ok-clause-ok
returns-in-Ok-clause-ok g c =
    let value = g.F.Field.value in
    subst (λ (rows : List (List ℚ)). AreComplement c.args.q rows (numbers value c.in-Ok.vectors.list)) c.in_ok-rows.ensures.rows c.in-Ok.ensures.ok
