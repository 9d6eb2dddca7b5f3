use Rattle.std.proofs.Common.{◌≡◌, IsTrue, List, [], ◌∷◌, ◌++◌, arith, ap, sym, ◌∙◌, subst}
use Rattle.std.specs.Prelude.{unsigned_abs}
use Rattle.std.proofs.lemmas.Bool.{eq-eqb, ne_eqb}
use Rattle.std.proofs.lemmas.Int.{ints}
use Rattle.std.proofs.lemmas.List.{append_assoc, append-nil}
use Rattle.vlp_problem.specs.Cells.{are_cells, coefficient}
use Rattle.vlp_problem.specs.declared.problem.Cell.{Cell}
use Rattle.vlp_reader.proofs.Tables.{cells_of, are_cells_of, coefficient_of, cells_of-zero, cells_of-some}
use Rattle.vlp_reader.proofs.table.Table.to_cells.Goals as goal

pub loop-place-init : goal.loop-place-init
loop-place-init c =
    ap (λ (l : List Cell). l ++ cells_of c.into_iter-place-iterator.result) c.new-cells.ensures
    ∙ ap cells_of (c.into_iter-place-iterator.ensures.into_iter_gives ∙ c.iter-place-items.ensures.rest)

pub loop-place-preserved-in-Continue-1 : goal.loop-place-preserved-in-Continue-1
loop-place-preserved-in-Continue-1 c =
    let place = c.in-Some.place.now in
    let value = c.in-Some.value.now in
    let same = c.num.ensures.part in
    let big = c.num.type_inv in
    let some = ne_eqb (unsigned_abs value.num) 0 (λ e. absurd (omega (arith, ints))) in
    let step = c.in-Some.ensures.steps in
    ap (λ (l : List Cell). l ++ cells_of c.next.new.self) c.in_ok-push.ensures.ok
    ∙ append_assoc c.loop-place.cells (record { row = place.0; col = place.1; value = value } ∷ []) (cells_of c.next.new.self)
    ∙ ap (λ (l : List Cell). c.loop-place.cells ++ l) (sym (ap cells_of step ∙ cells_of-some (place, value) c.next.new.self some))
    ∙ c.loop-place.invariant

pub loop-place-preserved : goal.loop-place-preserved
loop-place-preserved c =
    let place = c.in-Some.place.now in
    let value = c.in-Some.value.now in
    let same = c.num.ensures.part in
    let big = c.num.type_inv in
    let none = eq-eqb (unsigned_abs value.num) 0 (omega (arith, ints)) in
    let step = c.in-Some.ensures.steps in
    ap (λ (l : List Cell). c.loop-place.cells ++ l) (sym (ap cells_of step ∙ cells_of-zero (place, value) c.next.new.self none))
    ∙ c.loop-place.invariant

pub returns-clause-cells : goal.returns-clause-cells
returns-clause-cells c =
    let table = c.args.self.now in
    let step = c.in-None.ensures.steps in
    let all : c.loop-place.cells ≡ cells_of table.cells.entries =
    sym (ap (λ es. c.loop-place.cells ++ cells_of es) step.0 ∙ append-nil c.loop-place.cells) ∙ c.loop-place.invariant in
    subst (λ (l : List Cell). IsTrue (are_cells table.rows table.cols l)) (sym all)
    (are_cells_of table.rows table.cols table.cells.entries c.iter-place-items.ensures.ordered table.within)

pub returns-clause-values : goal.returns-clause-values
returns-clause-values c =
    let table = c.args.self.now in
    let step = c.in-None.ensures.steps in
    let all : c.loop-place.cells ≡ cells_of table.cells.entries =
    sym (ap (λ es. c.loop-place.cells ++ cells_of es) step.0 ∙ append-nil c.loop-place.cells) ∙ c.loop-place.invariant in
    λ i j. ap (λ (l : List Cell). coefficient l i j) all ∙ coefficient_of i j table.cells.entries c.iter-place-items.ensures.ordered
