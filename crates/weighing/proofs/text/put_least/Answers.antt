use Rattle.std.proofs.Common.{◌∷◌, [], codes, decimal, length}
use Rattle.frac128.specs.Text.{frac_text}
use Rattle.log_rules.specs.Report.{vector_line}
use Rattle.sol_writer.proofs.Written.{first_line, then_line, then_each}
use Rattle.weighing.specs.Text.{answer_line}
use Rattle.weighing.specs.Weighing.{point_at}
use Rattle.weighing.proofs.text.put_least.Goals as goal

pub returns : goal.returns
returns c =
    (then_each (λ k. vector_line (codes "1") (point_at c.args.points.now k)) c.args.numbers.now
    (then_line (codes "points" ∷ decimal (length c.args.numbers.now) ∷ [])
    (then_line (codes "value" ∷ frac_text c.args.value ∷ []) (first_line (answer_line (codes "solved")) c.in_ok-put_answer.ensures) c.in_ok-put_value.ensures)
    c.in_ok-put_counted.ensures) c.in_ok-put_points.ensures).text
