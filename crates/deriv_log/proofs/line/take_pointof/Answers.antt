use Rattle.std.proofs.Common.{◌∷◌, [], refl, codes}
use Rattle.word_lines.specs.LineFault as form
use Rattle.word_lines.specs.Parts.{natural}
use Rattle.word_lines.proofs.Fronts.{none, more, fails}
use Rattle.deriv_log.specs.LogGrammar.{log_grammar}
use Rattle.deriv_log.proofs.line.take_pointof.Goals as goal

pub returns-in_err-share : goal.returns-in_err-share
returns-in_err-share c =
    fails log_grammar (codes "pointof") c.take_natural-2.new.words form.natural (form.sparse ∷ []) c.in_err-share.field-0.0 c.from_residual-in_err-share.result refl (more (natural c.in_ok-generator.generator) (none c.args.words.now) c.in_ok-generator.ensures) c.in_err-share.ensures c.from_residual-in_err-share.ensures

pub returns-in_err-m : goal.returns-in_err-m
returns-in_err-m c =
    fails log_grammar (codes "pointof") c.take_sparse.new.words form.sparse [] c.in_err-m.field-0.0 c.from_residual-in_err-m.result refl (more (natural c.in_ok-share.share) (more (natural c.in_ok-generator.generator) (none c.args.words.now) c.in_ok-generator.ensures) c.in_ok-share.ensures) c.in_err-m.ensures c.from_residual-in_err-m.ensures
