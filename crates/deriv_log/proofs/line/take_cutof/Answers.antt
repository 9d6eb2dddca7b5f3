use Rattle.std.proofs.Common.{◌∷◌, [], refl, codes}
use Rattle.word_lines.specs.LineFault as form
use Rattle.word_lines.specs.Parts.{natural, number, vector}
use Rattle.word_lines.proofs.Fronts.{none, more, fails}
use Rattle.deriv_log.specs.LogGrammar.{log_grammar}
use Rattle.deriv_log.proofs.line.take_cutof.Goals as goal

pub returns-in_err-gamma : goal.returns-in_err-gamma
returns-in_err-gamma c =
    fails log_grammar (codes "cutof") c.take_number.new.words form.number (form.natural ∷ form.sparse ∷ []) c.in_err-gamma.field-0.0 c.from_residual-in_err-gamma.result refl (more (vector c.in_ok-w.w) (none c.args.words.now) c.in_ok-w.ensures) c.in_err-gamma.ensures c.from_residual-in_err-gamma.ensures

pub returns-in_err-share : goal.returns-in_err-share
returns-in_err-share c =
    fails log_grammar (codes "cutof") c.take_natural.new.words form.natural (form.sparse ∷ []) c.in_err-share.field-0.0 c.from_residual-in_err-share.result refl (more (number c.in_ok-gamma.gamma) (more (vector c.in_ok-w.w) (none c.args.words.now) c.in_ok-w.ensures) c.in_ok-gamma.ensures) c.in_err-share.ensures c.from_residual-in_err-share.ensures

pub returns-in_err-v : goal.returns-in_err-v
returns-in_err-v c =
    fails log_grammar (codes "cutof") c.take_sparse.new.words form.sparse [] c.in_err-v.field-0.0 c.from_residual-in_err-v.result refl (more (natural c.in_ok-share.share) (more (number c.in_ok-gamma.gamma) (more (vector c.in_ok-w.w) (none c.args.words.now) c.in_ok-w.ensures) c.in_ok-gamma.ensures) c.in_ok-share.ensures) c.in_err-v.ensures c.from_residual-in_err-v.ensures
