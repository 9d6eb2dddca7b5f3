use Rattle.std.proofs.Common.{◌∷◌, [], codes, length, decimal}
use Rattle.log_rules.specs.Report.{vector_line}
use Rattle.sol_writer.proofs.Written.{first_line, then_each}
use Rattle.projection.proofs.set.put_lines.Goals as goal

pub returns : goal.returns
returns c =
    (then_each (λ l. vector_line (codes "l") l.d) c.args.lines.now (first_line (codes "lines" ∷ decimal (length c.args.lines.now) ∷ []) c.in_ok-put_counted.ensures)
    c.in_ok-put_line_lines.ensures).text
