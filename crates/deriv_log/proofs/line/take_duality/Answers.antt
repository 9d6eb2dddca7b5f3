use Rattle.std.proofs.Common.{◌∷◌, [], refl, codes}
use Rattle.word_lines.specs.LineFault as form
use Rattle.word_lines.specs.Parts.{naturals, vector}
use Rattle.word_lines.proofs.Fronts.{none, more, fails}
use Rattle.deriv_log.specs.LogGrammar.{log_grammar}
use Rattle.deriv_log.proofs.line.take_duality.Goals as goal

pub returns-in_err-weights : goal.returns-in_err-weights
returns-in_err-weights c =
    fails log_grammar (codes "duality") c.take_vector-2.new.words form.vector (form.naturals ∷ form.vector ∷ []) c.in_err-weights.field-0.0 c.from_residual-in_err-weights.result refl (more (vector c.in_ok-c.c) (none c.args.words.now) c.in_ok-c.ensures) c.in_err-weights.ensures c.from_residual-in_err-weights.ensures

pub returns-in_err-picks : goal.returns-in_err-picks
returns-in_err-picks c =
    fails log_grammar (codes "duality") c.take_naturals.new.words form.naturals (form.vector ∷ []) c.in_err-picks.field-0.0 c.from_residual-in_err-picks.result refl (more (vector c.in_ok-weights.weights) (more (vector c.in_ok-c.c) (none c.args.words.now) c.in_ok-c.ensures) c.in_ok-weights.ensures) c.in_err-picks.ensures c.from_residual-in_err-picks.ensures

pub returns-in_err-inverse : goal.returns-in_err-inverse
returns-in_err-inverse c =
    fails log_grammar (codes "duality") c.take_vector-3.new.words form.vector [] c.in_err-inverse.field-0.0 c.from_residual-in_err-inverse.result refl (more (naturals c.in_ok-picks.picks) (more (vector c.in_ok-weights.weights) (more (vector c.in_ok-c.c) (none c.args.words.now) c.in_ok-c.ensures) c.in_ok-weights.ensures) c.in_ok-picks.ensures) c.in_err-inverse.ensures c.from_residual-in_err-inverse.ensures
