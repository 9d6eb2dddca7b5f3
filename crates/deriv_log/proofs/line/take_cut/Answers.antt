use Rattle.std.proofs.Common.{◌∷◌, [], refl, codes}
use Rattle.word_lines.specs.LineFault as form
use Rattle.word_lines.specs.Parts.{number, sparse, vector}
use Rattle.word_lines.proofs.Fronts.{none, more, fails}
use Rattle.deriv_log.specs.LogGrammar.{log_grammar}
use Rattle.deriv_log.proofs.line.take_cut.Goals as goal

pub returns-in_err-gamma : goal.returns-in_err-gamma
returns-in_err-gamma c =
    fails log_grammar (codes "cut") c.take_number.new.words form.number (form.sparse ∷ form.sparse ∷ []) c.in_err-gamma.field-0.0 c.from_residual-in_err-gamma.result refl (more (vector c.in_ok-w.w) (none c.args.words.now) c.in_ok-w.ensures) c.in_err-gamma.ensures c.from_residual-in_err-gamma.ensures

pub returns-in_err-u : goal.returns-in_err-u
returns-in_err-u c =
    fails log_grammar (codes "cut") c.take_sparse.new.words form.sparse (form.sparse ∷ []) c.in_err-u.field-0.0 c.from_residual-in_err-u.result refl (more (number c.in_ok-gamma.gamma) (more (vector c.in_ok-w.w) (none c.args.words.now) c.in_ok-w.ensures) c.in_ok-gamma.ensures) c.in_err-u.ensures c.from_residual-in_err-u.ensures

pub returns-in_err-v : goal.returns-in_err-v
returns-in_err-v c =
    fails log_grammar (codes "cut") c.take_sparse-2.new.words form.sparse [] c.in_err-v.field-0.0 c.from_residual-in_err-v.result refl (more (sparse c.in_ok-u.u) (more (number c.in_ok-gamma.gamma) (more (vector c.in_ok-w.w) (none c.args.words.now) c.in_ok-w.ensures) c.in_ok-gamma.ensures) c.in_ok-u.ensures) c.in_err-v.ensures c.from_residual-in_err-v.ensures
