use Rattle.std.proofs.Common.{sym}
use Rattle.word_lines.proofs.Taken.{nonzero_read}
use Rattle.word_lines.proofs.parts.nonzero_number.Goals as goal

pub returns : goal.returns
returns c = nonzero_read c.args.word.now c.fraction.result (sym c.if-is_word.ensures) c.fraction.ensures
