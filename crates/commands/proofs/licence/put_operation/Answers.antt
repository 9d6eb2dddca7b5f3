use Rattle.std.proofs.Common.{◌∷◌, []}
use Rattle.sol_writer.proofs.Written.{number}
use Rattle.commands.specs.Names.{operation_name}
use Rattle.commands.proofs.Written.{words_put}
use Rattle.commands.proofs.licence.put_operation.Goals as goal

pub returns : goal.returns
returns c =
    (number c.args.left.now.b (number c.args.left.now.a (words_put (operation_name c.args.left.now.op ∷ []) (rw c.operation_name.ensures at c.in_ok-put_word.ensures)) c.in_ok-put_number.ensures)
    c.in_ok-put_number-2.ensures).text
