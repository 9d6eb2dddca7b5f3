use Rattle.std.proofs.Common.{◌∷◌, [], codes, decimal}
use Rattle.sol_writer.proofs.Written.{further, ended}
use Rattle.commands.specs.Text.{operation_words}
use Rattle.commands.proofs.Written.{fault_begun}
use Rattle.commands.proofs.licence.weigh_line.Goals as goal

pub returns : goal.returns
returns c =
    ended (further (operation_words c.args.left.now) (further (decimal c.args.item ∷ [])
    (fault_begun (codes "17") (rw c.new-text.ensures at c.in_ok-append.ensures.ok)) c.in_ok-put_natural.ensures) c.in_ok-put_operation.ensures) c.in_ok-push.ensures.ok
