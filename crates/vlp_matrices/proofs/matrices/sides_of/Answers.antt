use Rattle.std.proofs.Common.{sym, subst, ap, ap₂, ◌∙◌, ◌≤◌, List, ◌++◌, length, map, All}
use Rattle.std.specs.List.{flat_map}
use Rattle.std.proofs.lemmas.List.{length-map}
use Rattle.frac128.specs.declared.vectors.Spot.{Spot}
use Rattle.upper_image.specs.Spots.{IsVector, dense}
use Rattle.vlp_problem.specs.Sides.{numbers_from}
use Rattle.vlp_matrices.specs.Matrices.{spots_in, unit_spots, side_values, all_side_spots}
use Rattle.vlp_problem.specs.declared.problem.Bound.{Bound}
use Rattle.vlp_problem.specs.declared.problem.Cell.{Cell}
use Rattle.vlp_matrices.proofs.Cells.{each_cell, sides-made, values-sides, sparse-sides}
use Rattle.vlp_problem.specs.declared.problem.Dir.TheVariants.{Min}
use Rattle.vlp_problem.specs.declared.problem.Axis.TheVariants.{Row}
use Rattle.vlp_problem.proofs.Numbers.{length-numbers}
use Rattle.vlp_matrices.proofs.matrices.sides_of.Goals as goal

pub spots_by-requires-clause-from_one : goal.spots_by-requires-clause-from_one
spots_by-requires-clause-from_one c = subst (λ (cs : List Cell). All (λ d. 1 ≤ d.row) cs) (sym c.as_slice-cells.ensures.items) (each_cell (λ d. 1 ≤ d.row) c.args.problem.now.rows c.args.problem.now.cols 0 0 c.args.problem.now.a c.args.problem.now.a_cells (λ d a b e f. a))

pub spots_by-requires-clause-to_end : goal.spots_by-requires-clause-to_end
spots_by-requires-clause-to_end c = subst (λ (cs : List Cell). All (λ d. d.row ≤ c.args.problem.now.rows) cs) (sym c.as_slice-cells.ensures.items) (each_cell (λ d. d.row ≤ c.args.problem.now.rows) c.args.problem.now.rows c.args.problem.now.cols 0 0 c.args.problem.now.a c.args.problem.now.a_cells (λ d a b e f. b))

pub push_bounds-requires : goal.push_bounds-requires
push_bounds-requires c =
    ap (λ (us : List (List Spot)). length us) (c.as_slice.ensures.items ∙ c.in_ok-rows.ensures) ∙ length-map (numbers_from 1 c.args.problem.now.rows) (spots_in Row Min c.as_slice-cells.result.now) ∙ length-numbers 1 c.args.problem.now.rows
    ∙ sym c.args.problem.now.row_count ∙ ap (λ (bs : List Bound). length bs) (sym c.as_slice-2.ensures.items)

pub push_bounds-requires-2 : goal.push_bounds-requires-2
push_bounds-requires-2 c =
    ap (λ (us : List (List Spot)). length us) (c.as_slice-3.ensures.value ∙ c.in_ok-units.ensures) ∙ length-map (numbers_from 1 c.args.problem.now.cols) unit_spots ∙ length-numbers 1 c.args.problem.now.cols
    ∙ sym c.args.problem.now.col_count ∙ ap (λ (bs : List Bound). length bs) (sym c.as_slice-4.ensures.items)

pub returns-clause-vectors : goal.returns-clause-vectors
returns-clause-vectors c = subst (λ (us : List (List Spot)). All (IsVector c.args.problem.now.cols) us) (sym (c.in_ok-push_bounds-2.ensures.normals ∙ ap₂ (λ a b. a ++ b) (c.in_ok-push_bounds.ensures.normals ∙ ap₂ (λ a b. a ++ b) c.new.ensures (ap₂ all_side_spots (c.as_slice.ensures.items ∙ c.in_ok-rows.ensures ∙ ap (λ cs. map (spots_in Row Min cs) (numbers_from 1 c.args.problem.now.rows)) c.as_slice-cells.ensures.items) c.as_slice-2.ensures.items)) (ap₂ all_side_spots (c.as_slice-3.ensures.value ∙ c.in_ok-units.ensures) c.as_slice-4.ensures.items))) (sparse-sides c.args.problem.now)

pub returns-clause-normals : goal.returns-clause-normals
returns-clause-normals c = ap (map (dense c.args.problem.now.cols)) (c.in_ok-push_bounds-2.ensures.normals ∙ ap₂ (λ a b. a ++ b) (c.in_ok-push_bounds.ensures.normals ∙ ap₂ (λ a b. a ++ b) c.new.ensures (ap₂ all_side_spots (c.as_slice.ensures.items ∙ c.in_ok-rows.ensures ∙ ap (λ cs. map (spots_in Row Min cs) (numbers_from 1 c.args.problem.now.rows)) c.as_slice-cells.ensures.items) c.as_slice-2.ensures.items)) (ap₂ all_side_spots (c.as_slice-3.ensures.value ∙ c.in_ok-units.ensures) c.as_slice-4.ensures.items)) ∙ sides-made c.args.problem.now

pub returns-clause-bounds : goal.returns-clause-bounds
returns-clause-bounds c = c.in_ok-push_bounds-2.ensures.bounds ∙ ap₂ (λ a b. a ++ b) (c.in_ok-push_bounds.ensures.bounds ∙ ap₂ (λ a b. a ++ b) c.new-2.ensures (ap (flat_map side_values) c.as_slice-2.ensures.items)) (ap (flat_map side_values) c.as_slice-4.ensures.items) ∙ values-sides c.args.problem.now
