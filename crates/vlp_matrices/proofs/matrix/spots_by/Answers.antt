use Rattle.std.proofs.Common.{sym, subst, ap, ap₂, arith, ◌∙◌, ◌-◌, ◌≤◌, ℕ, List, [], ◌∷◌, ◌++◌, length, slice_index_or}
use Rattle.std.proofs.lemmas.List.{length-map}
use Rattle.frac128.specs.declared.vectors.Spot.{Spot}
use Rattle.vlp_problem.specs.Sides.{numbers_from}
use Rattle.std.proofs.Math.ListN.{set}
use Rattle.vlp_matrices.proofs.Cells.{none-lists, spots_by-more}
use Rattle.std.proofs.Common.{take}
use Rattle.vlp_matrices.specs.Matrices.{key_of, spots_in}
use Rattle.vlp_problem.specs.declared.problem.Cell.{Cell}
use Rattle.vlp_problem.proofs.Numbers.{length-numbers}
use Rattle.vlp_matrices.proofs.matrix.spots_by.Goals as goal

pub from_vec-requires : goal.from_vec-requires
from_vec-requires c =
    let long = ap (λ (ls : List (List Spot)). length ls) c.loop-cell.invariant in
    let count = length-map (numbers_from 1 c.args.count) (spots_in c.args.axis c.args.dir (take c.loop-cell.cell-index c.args.cells.now)) in
    let numbers = length-numbers 1 c.args.count in
    let few = c.requires.few in
    omega (arith, long, count, numbers, few)

pub loop-cell-init : goal.loop-cell-init
loop-cell-init c = c.in_ok-lists.ensures ∙ none-lists {X = Spot} c.args.count 1

pub loop-cell-preserved : goal.loop-cell-preserved
loop-cell-preserved c =
    let low = subst (λ (d : Cell). 1 ≤ key_of c.args.axis d) (sym c.cell-item.is) (c.requires.from_one c.loop-cell.cell-index c.cell-item.result (omega arith)) in
    let high = subst (λ (d : Cell). key_of c.args.axis d ≤ c.args.count) (sym c.cell-item.is) (c.requires.to_end c.loop-cell.cell-index c.cell-item.result (omega arith)) in
    ap₂ (λ (ls : List (List Spot)) (k : ℕ). set ls (k - 1) c.push.new.self) c.loop-cell.invariant c.key_of.ensures
    ∙ spots_by-more c.args.axis c.args.dir c.args.cells.now c.loop-cell.cell-index c.args.count c.cell-item.result c.index_mut.result.now c.push.new.self (omega arith) c.cell-item.is low high
    (c.index_mut.ensures.value ∙ ap₂ (λ (ls : List (List Spot)) (k : ℕ). slice_index_or ls (k - 1) c.index_mut.result.now) c.loop-cell.invariant c.key_of.ensures)
    (c.in_ok-push.ensures.ok ∙ ap (λ (s : Spot). c.index_mut.result.now ++ s ∷ []) c.spot_of-spot.ensures)
