use Rattle.std.proofs.Common.{◌∷◌, [], refl, codes}
use Rattle.word_lines.specs.LineFault as form
use Rattle.word_lines.specs.Parts.{sparse, vector}
use Rattle.word_lines.proofs.Fronts.{none, more, fails}
use Rattle.deriv_log.specs.LogGrammar.{log_grammar}
use Rattle.deriv_log.proofs.line.take_line.Goals as goal

pub returns-in_err-x : goal.returns-in_err-x
returns-in_err-x c =
    fails log_grammar (codes "line") c.take_sparse.new.words form.sparse (form.sparse ∷ form.sparse ∷ form.sparse ∷ form.sparse ∷ []) c.in_err-x.field-0.0 c.from_residual-in_err-x.result refl (more (vector c.in_ok-d.d) (none c.args.words.now) c.in_ok-d.ensures) c.in_err-x.ensures c.from_residual-in_err-x.ensures

pub returns-in_err-ray : goal.returns-in_err-ray
returns-in_err-ray c =
    fails log_grammar (codes "line") c.take_sparse-2.new.words form.sparse (form.sparse ∷ form.sparse ∷ form.sparse ∷ []) c.in_err-ray.field-0.0 c.from_residual-in_err-ray.result refl (more (sparse c.in_ok-x.x) (more (vector c.in_ok-d.d) (none c.args.words.now) c.in_ok-d.ensures) c.in_ok-x.ensures) c.in_err-ray.ensures c.from_residual-in_err-ray.ensures

pub returns-in_err-m : goal.returns-in_err-m
returns-in_err-m c =
    fails log_grammar (codes "line") c.take_sparse-3.new.words form.sparse (form.sparse ∷ form.sparse ∷ []) c.in_err-m.field-0.0 c.from_residual-in_err-m.result refl (more (sparse c.in_ok-ray.ray) (more (sparse c.in_ok-x.x) (more (vector c.in_ok-d.d) (none c.args.words.now) c.in_ok-d.ensures) c.in_ok-x.ensures) c.in_ok-ray.ensures) c.in_err-m.ensures c.from_residual-in_err-m.ensures

pub returns-in_err-back : goal.returns-in_err-back
returns-in_err-back c =
    fails log_grammar (codes "line") c.take_sparse-4.new.words form.sparse (form.sparse ∷ []) c.in_err-back.field-0.0 c.from_residual-in_err-back.result refl (more (sparse c.in_ok-m.m) (more (sparse c.in_ok-ray.ray) (more (sparse c.in_ok-x.x) (more (vector c.in_ok-d.d) (none c.args.words.now) c.in_ok-d.ensures) c.in_ok-x.ensures) c.in_ok-ray.ensures) c.in_ok-m.ensures) c.in_err-back.ensures c.from_residual-in_err-back.ensures

pub returns-in_err-n : goal.returns-in_err-n
returns-in_err-n c =
    fails log_grammar (codes "line") c.take_sparse-5.new.words form.sparse [] c.in_err-n.field-0.0 c.from_residual-in_err-n.result refl (more (sparse c.in_ok-back.back) (more (sparse c.in_ok-m.m) (more (sparse c.in_ok-ray.ray) (more (sparse c.in_ok-x.x) (more (vector c.in_ok-d.d) (none c.args.words.now) c.in_ok-d.ensures) c.in_ok-x.ensures) c.in_ok-ray.ensures) c.in_ok-m.ensures) c.in_ok-back.ensures) c.in_err-n.ensures c.from_residual-in_err-n.ensures

pub returns : goal.returns
returns c = let front = more (sparse c.in_ok-n.n) (more (sparse c.in_ok-back.back) (more (sparse c.in_ok-m.m) (more (sparse c.in_ok-ray.ray) (more (sparse c.in_ok-x.x) (more (vector c.in_ok-d.d) (none c.args.words.now) c.in_ok-d.ensures) c.in_ok-x.ensures) c.in_ok-ray.ensures) c.in_ok-m.ensures) c.in_ok-back.ensures) c.in_ok-n.ensures in (front.formed, refl, front.text)
