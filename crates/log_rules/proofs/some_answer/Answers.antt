use Rattle.log_rules.proofs.SomeAnswer.{some_answer}
use Rattle.log_rules.proofs.some_answer.Goals as goal

pub returns : goal.returns
returns c = some_answer
