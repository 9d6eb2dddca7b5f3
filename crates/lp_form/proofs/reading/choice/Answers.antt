use Rattle.std.proofs.Common.{◌≡◌, map, take, sym, ap, ◌∙◌}
use Rattle.lp_form.specs.Programs.{choice_of}
use Rattle.std.proofs.lemmas.Result.{IfOk-weaker}
use Rattle.std.proofs.lemmas.List.{take-map}
use Rattle.lp_form.proofs.reading.choice.Goals as goal

pub returns : goal.returns
returns g c = λ file stands.
    let value = g.F.Field.value in
    let y = c.args.dual.now in
    IfOk-weaker c.copy.result (λ x. x ≡ take c.args.form.now.cols y) (λ x. map value x ≡ choice_of file (map value y))
    (λ x e. ap (map value) e ∙ sym (take-map value c.args.form.now.cols y) ∙ ap (λ n. take n (map value y)) stands.cols) c.copy.ensures
