use Rattle.std.proofs.Common.{codes}
use Rattle.log_rules.specs.Report.{vector_line, section}
use Rattle.sol_writer.proofs.Written.{first_lines, then_lines}
use Rattle.projection.specs.Text.{side_line}
use Rattle.projection.proofs.set.put_found.Goals as goal

pub returns : goal.returns
returns c =
    (then_lines (section (codes "sides") side_line c.args.sides.now)
    (then_lines (section (codes "directions") (λ g. vector_line (codes "0") g.y) c.args.directions.now)
    (then_lines (section (codes "points") (λ g. vector_line (codes "1") g.y) c.args.points.now)
    (first_lines (section (codes "lines") (λ l. vector_line (codes "l") l.d) c.args.lines.now) c.in_ok-put_lines.ensures)
    c.in_ok-put_generators.ensures) c.in_ok-put_generators-2.ensures) c.in_ok-put_sides.ensures).text
