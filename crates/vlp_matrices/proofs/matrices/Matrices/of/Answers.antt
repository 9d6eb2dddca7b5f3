use Rattle.std.proofs.Common.{sym, subst, ap, arith, ◌∙◌, List, length, map, All, IsTrue}
use Rattle.std.proofs.lemmas.List.{length-map}
use Rattle.exact_field.specs.Rational.{ℚ}
use Rattle.frac128.specs.declared.vectors.Spot.{Spot}
use Rattle.upper_image.specs.Spots.{IsVector, dense}
use Rattle.vlp_problem.specs.Sides.{sides, numbers_from}
use Rattle.vlp_matrices.specs.Matrices.{spots_in, cells_from}
use Rattle.vlp_problem.specs.declared.problem.Cell.{Cell}
use Rattle.vlp_matrices.proofs.Cells.{matrices-stands}
use Rattle.vlp_matrices.proofs.Cells.{few_sides}
use Rattle.vlp_problem.specs.declared.problem.Dir.TheVariants.{Min}
use Rattle.vlp_problem.specs.declared.problem.Axis.TheVariants.{Row, Column}
use Rattle.vlp_problem.specs.Cells.{are_cells}
use Rattle.vlp_matrices.proofs.matrices.Matrices.of.Goals as goal

pub of_rows-requires-clause-rows : goal.of_rows-requires-clause-rows
of_rows-requires-clause-rows c =
    let long = ap (λ (vs : List (List ℚ)). length vs) c.in_ok-normals.ensures.normals in
    let all = length-map (sides c.args.problem.now) (λ s. s.normal) in
    let rows = length-map c.in_ok-normals.field-0.normals (dense c.args.problem.now.cols) in
    let few = few_sides c.args.problem.now in
    omega (arith, long, all, rows, few)

pub returns : goal.returns
returns c =
    matrices-stands c.args.problem.now record { sides = c.in_ok-sides.sides; bounds = c.in_ok-normals.field-0.bounds; objectives = c.in_ok-objectives.objectives }
    (subst (λ (us : List (List Spot)). All (IsVector c.args.problem.now.cols) us) (sym c.in_ok-sides.ensures.rows) c.in_ok-normals.ensures.vectors)
    (ap (map (dense c.args.problem.now.cols)) c.in_ok-sides.ensures.rows ∙ c.in_ok-normals.ensures.normals)
    c.in_ok-normals.ensures.bounds
    (c.in_ok-sides.ensures.columns ∙ ap (λ rs. map (spots_in Column Min (cells_from 1 rs)) (numbers_from 1 c.args.problem.now.cols)) (sym c.in_ok-sides.ensures.rows))
    (c.in_ok-objectives.ensures.rows ∙ ap (λ cs. map (spots_in Row c.args.problem.now.dir cs) (numbers_from 1 c.args.problem.now.objs)) c.as_slice-cells.ensures.items)
    (c.in_ok-objectives.ensures.columns ∙ ap (λ cs. map (spots_in Column c.args.problem.now.dir cs) (numbers_from 1 c.args.problem.now.cols)) c.as_slice-cells.ensures.items)

pub of_cells-requires-clause-cells : goal.of_cells-requires-clause-cells
of_cells-requires-clause-cells c = subst (λ (cs : List Cell). IsTrue (are_cells c.args.problem.now.objs c.args.problem.now.cols cs)) (sym c.as_slice-cells.ensures.items) c.args.problem.now.o_cells
