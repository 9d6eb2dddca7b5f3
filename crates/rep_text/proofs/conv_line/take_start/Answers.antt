use Rattle.std.proofs.Common.{[], refl, codes}
use Rattle.word_lines.specs.LineFault as form
use Rattle.word_lines.specs.Parts.{naturals}
use Rattle.word_lines.proofs.Fronts.{none, more, fails}
use Rattle.rep_text.specs.ConvText.{conv_grammar}
use Rattle.rep_text.proofs.conv_line.take_start.Goals as goal

pub returns-in_err-gens : goal.returns-in_err-gens
returns-in_err-gens c =
    fails conv_grammar (codes "start") c.take_vector.new.words form.vector [] c.in_err-gens.field-0.0 c.from_residual-in_err-gens.result refl (more (naturals c.in_ok-rows.rows) (none c.args.words.now) c.in_ok-rows.ensures) c.in_err-gens.ensures c.from_residual-in_err-gens.ensures
