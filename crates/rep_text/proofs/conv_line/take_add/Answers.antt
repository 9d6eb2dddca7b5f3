use Rattle.std.proofs.Common.{[], refl, codes}
use Rattle.word_lines.specs.LineFault as form
use Rattle.word_lines.specs.Parts.{natural}
use Rattle.word_lines.proofs.Fronts.{none, more, fails}
use Rattle.rep_text.specs.ConvText.{conv_grammar}
use Rattle.rep_text.proofs.conv_line.take_add.Goals as goal

pub returns-in_err-pairs : goal.returns-in_err-pairs
returns-in_err-pairs c =
    fails conv_grammar (codes "add") c.take_pairs.new.words form.pairs [] c.in_err-pairs.field-0.0 c.from_residual-in_err-pairs.result refl (more (natural c.in_ok-row.row) (none c.args.words.now) c.in_ok-row.ensures) c.in_err-pairs.ensures c.from_residual-in_err-pairs.ensures
