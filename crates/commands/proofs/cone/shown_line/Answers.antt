use Rattle.std.proofs.Common.{◌∷◌, [], codes}
use Rattle.word_lines.specs.Parts.{part_words, sparse, vector}
use Rattle.sol_writer.proofs.Written.{further, ended}
use Rattle.commands.proofs.Written.{fault_begun}
use Rattle.commands.proofs.cone.shown_line.Goals as goal

pub returns : goal.returns
returns c =
    ended (further (part_words (sparse c.args.m.now)) (further (part_words (vector c.args.w.now)) (further (c.args.name.now ∷ [])
    (fault_begun (codes "4") (rw c.new-text.ensures at c.in_ok-append.ensures.ok)) c.in_ok-put_word.ensures) c.in_ok-put_vector.ensures) c.in_ok-put_sparse.ensures) c.in_ok-push.ensures.ok
