use Rattle.std.proofs.Common.{codes}
use Rattle.log_rules.specs.Report.{vector_line}
use Rattle.sol_writer.proofs.Written.{first_line, then_line}
use Rattle.weighing.specs.Text.{answer_line}
use Rattle.weighing.proofs.text.put_unbounded.Goals as goal

pub returns : goal.returns
returns c = (then_line (vector_line (codes "0") c.args.d.now) (first_line (answer_line (codes "unbounded")) c.in_ok-put_answer.ensures) c.in_ok-put_vector_line.ensures).text
