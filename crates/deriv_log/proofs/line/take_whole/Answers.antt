use Rattle.std.proofs.Common.{◌∷◌, [], refl, codes}
use Rattle.word_lines.specs.LineFault as form
use Rattle.word_lines.specs.Parts.{sparse}
use Rattle.word_lines.proofs.Fronts.{none, more, fails}
use Rattle.deriv_log.specs.LogGrammar.{log_grammar}
use Rattle.deriv_log.proofs.line.take_whole.Goals as goal

pub returns-in_err-ray : goal.returns-in_err-ray
returns-in_err-ray c =
    fails log_grammar (codes "whole") c.take_sparse-2.new.words form.sparse (form.sparse ∷ []) c.in_err-ray.field-0.0 c.from_residual-in_err-ray.result refl (more (sparse c.in_ok-x.x) (none c.args.words.now) c.in_ok-x.ensures) c.in_err-ray.ensures c.from_residual-in_err-ray.ensures

pub returns-in_err-m : goal.returns-in_err-m
returns-in_err-m c =
    fails log_grammar (codes "whole") c.take_sparse-3.new.words form.sparse [] c.in_err-m.field-0.0 c.from_residual-in_err-m.result refl (more (sparse c.in_ok-ray.ray) (more (sparse c.in_ok-x.x) (none c.args.words.now) c.in_ok-x.ensures) c.in_ok-ray.ensures) c.in_err-m.ensures c.from_residual-in_err-m.ensures
