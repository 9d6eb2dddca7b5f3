use Rattle.std.proofs.Common.{◌≡◌, ℕ, List, ap, sym, subst, refl, ◌∙◌, All, Contains}
use Rattle.exact_field.specs.Rational.{ℚ}
use Rattle.deriv_log.specs.declared.entry.Entry.{Entry}
use Rattle.overflows.specs.Dictionaries.{AreStartRows, AreElimRows, IsElimTable}
use Rattle.lin_rows.specs.Read.{numbers}
use Rattle.lp_form.proofs.Figures.{objective_number}
use Rattle.overflows.specs.Faults.{Overflows}
use Rattle.vlp_problem.specs.Values.{cone_vectors}
use Rattle.cone_dual.proofs.Asked.{rows_licensed}
use Rattle.cone_dual.proofs.Picks.{all_among}
use Rattle.cone_dual.proofs.asking.independent_vectors.Goals as goal

pub returns-clause-left : goal.returns-clause-left
returns-clause-left g c = λ file stands given.
    let value = g.F.Field.value in
    let holds = g.F.Field.holds in
    let form = c.args.form.now in
    let rows : List (List ℚ) = numbers value c.in_ok-rows.rows.list in
    let q : ℕ = c.len-q.result in
    let q_is : q ≡ file.objs = c.len-q.ensures.value ∙ objective_number value file form stands in
    let among : All (Contains (cone_vectors file.cone)) rows =
    subst (λ (vs : List (List ℚ)). All (Contains (cone_vectors file.cone)) vs) (given ∙ sym (ap (numbers value) c.in_ok-rows.ensures.rows)) (all_among (cone_vectors file.cone)) in
    rows_licensed value holds form file stands rows rows q c.in-Err.fault c.elimination_fault.result (IsElimTable.alone (AreElimRows.of_start file.objs (AreStartRows.of_cone among)) refl q_is)
    (λ s width columns t table h.
    subst (λ (trail : List Entry). Overflows holds s trail c.elimination_fault.result) c.new.ensures (c.elimination_fault.ensures.licensed s width columns t table h))
    c.in-Err.ensures.left
