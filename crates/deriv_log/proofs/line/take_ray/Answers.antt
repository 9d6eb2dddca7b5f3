use Rattle.std.proofs.Common.{◌∷◌, [], refl, codes}
use Rattle.word_lines.specs.LineFault as form
use Rattle.word_lines.specs.Parts.{natural, sparse}
use Rattle.word_lines.proofs.Fronts.{none, more, fails}
use Rattle.deriv_log.specs.LogGrammar.{log_grammar}
use Rattle.deriv_log.proofs.line.take_ray.Goals as goal

pub returns-in_err-x : goal.returns-in_err-x
returns-in_err-x c =
    fails log_grammar (codes "ray") c.take_sparse.new.words form.sparse (form.sparse ∷ []) c.in_err-x.field-0.0 c.from_residual-in_err-x.result refl (more (natural c.in_ok-generator.generator) (none c.args.words.now) c.in_ok-generator.ensures) c.in_err-x.ensures c.from_residual-in_err-x.ensures

pub returns-in_err-m : goal.returns-in_err-m
returns-in_err-m c =
    fails log_grammar (codes "ray") c.take_sparse-2.new.words form.sparse [] c.in_err-m.field-0.0 c.from_residual-in_err-m.result refl (more (sparse c.in_ok-x.x) (more (natural c.in_ok-generator.generator) (none c.args.words.now) c.in_ok-generator.ensures) c.in_ok-x.ensures) c.in_err-m.ensures c.from_residual-in_err-m.ensures
