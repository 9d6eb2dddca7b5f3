use Rattle.std.proofs.Common.{◌∷◌, [], codes, decimal, length}
use Rattle.sol_writer.proofs.Written.{first_line, then_each}
use Rattle.projection.specs.Text.{side_line}
use Rattle.projection.proofs.set.put_sides.Goals as goal

pub returns : goal.returns
returns c =
    (then_each side_line c.args.sides.now (first_line (codes "sides" ∷ decimal (length c.args.sides.now) ∷ []) c.in_ok-put_counted.ensures)
    c.in_ok-put_side_lines.ensures).text
