use Rattle.std.proofs.Common.{codes}
use Rattle.sol_writer.proofs.Written.{further, ended}
use Rattle.commands.specs.Text.{operation_words, place_words, basis_words}
use Rattle.commands.proofs.Written.{fault_begun}
use Rattle.commands.proofs.licence.licence_line.Goals as goal

pub returns : goal.returns
returns c =
    ended (further (basis_words c.args.licence.now.place) (further (operation_words c.args.licence.now.left) (further (place_words c.args.licence.now.place)
    (fault_begun (codes "5") (rw c.new-text.ensures at c.in_ok-append.ensures.ok)) c.in_ok-put_place.ensures) c.in_ok-put_operation.ensures) c.in_ok-put_basis.ensures) c.in_ok-push.ensures.ok
