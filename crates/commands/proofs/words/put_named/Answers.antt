use Rattle.std.proofs.Common.{◌∷◌, []}
use Rattle.sol_writer.proofs.Written.{naturals}
use Rattle.commands.proofs.Written.{words_put}
use Rattle.commands.proofs.words.put_named.Goals as goal

pub returns : goal.returns
returns c = (naturals c.args.numbers.now (words_put (c.args.name.now ∷ []) c.in_ok-put_word.ensures) c.in_ok-put_counts.ensures).text
