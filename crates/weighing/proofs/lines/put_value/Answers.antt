use Rattle.sol_writer.proofs.Written.{begun, number, ended}
use Rattle.weighing.proofs.lines.put_value.Goals as goal

pub returns : goal.returns
returns c = ended (number c.args.value (begun c.in_ok-append.ensures.ok) c.in_ok-put_number.ensures) c.in_ok-push.ensures.ok
