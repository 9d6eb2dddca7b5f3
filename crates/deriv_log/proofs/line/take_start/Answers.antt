use Rattle.std.proofs.Common.{◌∷◌, [], refl, codes}
use Rattle.word_lines.specs.LineFault as form
use Rattle.word_lines.specs.Parts.{naturals, vector}
use Rattle.word_lines.proofs.Fronts.{none, more, fails}
use Rattle.deriv_log.specs.LogGrammar.{log_grammar}
use Rattle.deriv_log.proofs.line.take_start.Goals as goal

pub returns-in_err-point : goal.returns-in_err-point
returns-in_err-point c =
    fails log_grammar (codes "start") c.take_vector.new.words form.vector (form.vector ∷ []) c.in_err-point.field-0.0 c.from_residual-in_err-point.result refl (more (naturals c.in_ok-cuts.cuts) (none c.args.words.now) c.in_ok-cuts.ensures) c.in_err-point.ensures c.from_residual-in_err-point.ensures

pub returns-in_err-directions : goal.returns-in_err-directions
returns-in_err-directions c =
    fails log_grammar (codes "start") c.take_vector-2.new.words form.vector [] c.in_err-directions.field-0.0 c.from_residual-in_err-directions.result refl (more (vector c.in_ok-point.point) (more (naturals c.in_ok-cuts.cuts) (none c.args.words.now) c.in_ok-cuts.ensures) c.in_ok-point.ensures) c.in_err-directions.ensures c.from_residual-in_err-directions.ensures
