use Rattle.std.proofs.Common.{[], ◌∷◌, rules, sym, ◌∙◌, ap, arith}
use Rattle.std.proofs.lemmas.List.Sorted.{IsPartitionPoint-from_clause}
use Rattle.vlp_problem.specs.Cells.{coefficient, place_before}
use Rattle.vlp_problem.specs.declared.problem.Cell.{Cell}
use Rattle.vlp_problem.proofs.CellPlaces.{coefficient_found, coefficient_past, partitioned}
use Rattle.vlp_problem.proofs.problem.value_among.Goals as goal

pub returns-then-at-cells : goal.returns-then-at-cells
returns-then-at-cells c =
    let row = c.args.row in
    let col = c.args.col in
    let point = IsPartitionPoint-from_clause (λ y. place_before y.row y.col row col) _ _ c.partition_point-at.ensures.partitioned
    (partitioned 0 0 row col c.args.cells.now c.requires) (λ a r q k. search rules) in
    c.value_at.ensures ∙ ap (λ (y : Cell). coefficient (y ∷ []) row col) c.index-cells-at.is
    ∙ sym (coefficient_found 0 0 row col c.partition_point-at.result c.args.cells.now c.requires
    (λ k d lt. point.0 k d (omega arith) lt) point.1 c.index-cells-at.result c.if-at-cells.true)

pub returns-else-at-cells : goal.returns-else-at-cells
returns-else-at-cells c =
    let row = c.args.row in
    let col = c.args.col in
    let point = IsPartitionPoint-from_clause (λ y. place_before y.row y.col row col) _ _ c.partition_point-at.ensures.partitioned
    (partitioned 0 0 row col c.args.cells.now c.requires) (λ a r q k. search rules) in
    c.from.ensures ∙ sym (coefficient_past row col c.args.cells.now (λ k d lt. point.0 k d (omega arith) (omega (arith, c.if-at-cells.false))))
