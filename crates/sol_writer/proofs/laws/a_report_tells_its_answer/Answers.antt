use Rattle.sol_writer.proofs.OneReport.{one_answer_to_a_report}
use Rattle.sol_writer.proofs.laws.a_report_tells_its_answer.Goals as goal

pub returns : goal.returns
returns c = one_answer_to_a_report
