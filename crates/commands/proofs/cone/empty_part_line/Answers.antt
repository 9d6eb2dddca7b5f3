use Rattle.std.proofs.Common.{◌∷◌, [], codes}
use Rattle.word_lines.specs.Parts.{part_words, sparse}
use Rattle.sol_writer.proofs.Written.{further, ended}
use Rattle.commands.specs.Text.{part_name}
use Rattle.commands.proofs.Written.{fault_begun}
use Rattle.commands.proofs.cone.empty_part_line.Goals as goal

pub returns : goal.returns
returns c =
    ended (further (part_words (sparse c.args.u.now)) (further (part_name c.args.second ∷ [])
    (fault_begun (codes "14") (rw c.new-text.ensures at c.in_ok-append.ensures.ok)) (rw c.part_name.ensures at c.in_ok-put_word.ensures)) c.in_ok-put_sparse.ensures) c.in_ok-push.ensures.ok
