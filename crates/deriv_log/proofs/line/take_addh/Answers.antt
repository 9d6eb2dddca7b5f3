use Rattle.std.proofs.Common.{◌∷◌, [], refl, codes}
use Rattle.word_lines.specs.LineFault as form
use Rattle.word_lines.specs.Parts.{natural, pairs}
use Rattle.word_lines.proofs.Fronts.{none, more, fails}
use Rattle.deriv_log.specs.LogGrammar.{log_grammar}
use Rattle.deriv_log.proofs.line.take_addh.Goals as goal

pub returns-in_err-pairs : goal.returns-in_err-pairs
returns-in_err-pairs c =
    fails log_grammar (codes "addh") c.take_pairs.new.words form.pairs (form.naturals ∷ []) c.in_err-pairs.field-0.0 c.from_residual-in_err-pairs.result refl (more (natural c.in_ok-cut.cut) (none c.args.words.now) c.in_ok-cut.ensures) c.in_err-pairs.ensures c.from_residual-in_err-pairs.ensures

pub returns-in_err-hints : goal.returns-in_err-hints
returns-in_err-hints c =
    fails log_grammar (codes "addh") c.take_naturals.new.words form.naturals [] c.in_err-hints.field-0.0 c.from_residual-in_err-hints.result refl (more (pairs c.in_ok-pairs.pairs) (more (natural c.in_ok-cut.cut) (none c.args.words.now) c.in_ok-cut.ensures) c.in_ok-pairs.ensures) c.in_err-hints.ensures c.from_residual-in_err-hints.ensures
