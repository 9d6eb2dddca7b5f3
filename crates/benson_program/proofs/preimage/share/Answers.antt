use Rattle.std.proofs.Common.{◌≡◌, List, map, length, take, drop, ap, ap₂, ◌∙◌, arith, ◌+◌, ◌-◌}
use Rattle.std.proofs.lemmas.Result.{IfOk-weaker}
use Rattle.polyhedra.specs.Negatives.{negated}
use Rattle.lp_form.specs.Programs.{generators, share_of}
use Rattle.lp_form.proofs.Joined.{slice-map}
use Rattle.benson_program.proofs.Divided.{share_is}
use Rattle.benson_program.proofs.preimage.share.Goals as goal

pub returns : goal.returns
returns g c = λ file stands.
    let F = g.row.F.Denot in
    let value = g.F.Field.value in
    let cols = c.args.form.now.cols in
    let dual = c.args.dual.now in
    let n = c.generator_count.result in
    let count : n ≡ length (generators file.cone) = c.generator_count.ensures ∙ ap (λ k. length (generators k)) stands.cone in
    let back : cols + n - cols ≡ n = omega arith in
    let part = slice-map value dual cols (cols + n) ∙ ap (λ k. take k (drop cols (map value dual))) back
    ∙ ap₂ (λ k l. take k (drop l (map value dual))) count stands.cols in
    IfOk-weaker c.negative.result _ (λ (m : List F). map value m ≡ share_of file file.cone (map value dual))
    (λ m e. e ∙ ap negated part ∙ share_is file file.cone (map value dual)) c.negative.ensures
