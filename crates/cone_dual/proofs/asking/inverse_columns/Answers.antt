use Rattle.std.proofs.Common.{◌≡◌, ℕ, List, length, map, ap, ap₂, sym, subst, refl, ◌∙◌, ◌+◌, All, Contains}
use Rattle.std.proofs.lemmas.List.{length-map}
use Rattle.exact_field.specs.Rational.{ℚ}
use Rattle.deriv_log.specs.declared.entry.Entry.{Entry}
use Rattle.overflows.specs.Dictionaries.{AreStartRows, IsElimTable}
use Rattle.lin_rows.specs.Read.{numbers}
use Rattle.lp_form.proofs.Figures.{objective_number}
use Rattle.overflows.specs.Faults.{Overflows}
use Rattle.tableaux.specs.Table.{beside_unit, row_of}
use Rattle.vlp_problem.specs.Values.{cone_vectors}
use Rattle.cone_dual.proofs.Asked.{rows_licensed}
use Rattle.cone_dual.proofs.Picks.{picks_among}
use Rattle.cone_dual.proofs.asking.inverse_columns.Goals as goal

pub returns-clause-left : goal.returns-clause-left
returns-clause-left g c = λ file stands given.
    let value = g.F.Field.value in
    let holds = g.F.Field.holds in
    let form = c.args.form.now in
    let all : List (List ℚ) = numbers value c.args.vectors.now in
    let picks : List ℕ = c.args.picks.now in
    let rows : List (List ℚ) = numbers value c.in_ok-rows.rows.list in
    let width : ℕ = c.in_ok-rows.rows.width in
    let rows_is : rows ≡ map (row_of all) picks = c.in_ok-rows.ensures.rows in
    let many : length rows ≡ length form.p = ap length rows_is ∙ length-map picks (row_of all) ∙ c.requires.picks.many in
    let width_is : width ≡ length rows = c.in_ok-rows.ensures.width ∙ c.len-q.ensures.value ∙ sym many in
    let among : All (Contains (cone_vectors file.cone)) rows =
    subst (λ (vs : List (List ℚ)). All (Contains (cone_vectors file.cone)) vs) (sym rows_is)
    (subst (λ (vs : List (List ℚ)). All (Contains vs) (map (row_of all) picks)) (sym given) (picks_among all picks c.requires.picks.from_one c.requires.picks.to_end)) in
    rows_licensed value holds form file stands rows (beside_unit rows) (width + width) c.in-Err.fault c.elimination_fault.result
    (IsElimTable.beside (AreStartRows.of_cone among) (many ∙ objective_number value file form stands) refl (ap₂ (λ (a b : ℕ). a + b) width_is width_is))
    (λ s width columns t table h.
    subst (λ (trail : List Entry). Overflows holds s trail c.elimination_fault.result) c.new.ensures (c.elimination_fault.ensures.licensed s width columns t table h))
    c.in-Err.ensures.left
