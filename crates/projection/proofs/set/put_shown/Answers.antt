use Rattle.std.specs.List.{flat_map}
use Rattle.std.proofs.Common.{◌++◌, ◌∷◌, [], codes, ap, ◌∙◌}
use Rattle.log_rules.specs.Report.{sparse_line}
use Rattle.sol_writer.proofs.Written.{first_lines, then_each, ways-text}
use Rattle.projection.proofs.set.put_shown.Goals as goal

pub returns : goal.returns
returns c =
    let ls = c.args.lines.now in
    let ways = first_lines (flat_map (λ l. sparse_line (codes "r") l.ray ∷ sparse_line (codes "r") l.back ∷ []) ls) (c.in_ok-put_ways.ensures ∙ ap (λ r. c.args.into.now ++ r) (ways-text ls)) in
    (then_each (λ g. sparse_line (codes "r") g.pre) c.args.directions.now
    (then_each (λ g. sparse_line (codes "x") g.pre) c.args.points.now ways c.in_ok-put_preimages.ensures) c.in_ok-put_preimages-2.ensures).text
