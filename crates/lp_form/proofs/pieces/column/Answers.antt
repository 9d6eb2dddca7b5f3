use Rattle.std.proofs.Common.{map, sym, ap, ◌∙◌, arith}
use Rattle.exact_field.specs.Vector.{entry}
use Rattle.std.proofs.lemmas.List.{take_all}
use Rattle.std.proofs.lemmas.Simd.{map-map}
use Rattle.lp_form.proofs.pieces.column.Goals as goal

pub returns : goal.returns
returns g c =
    let value = g.F.Field.value in
    let vectors = c.args.vectors.now in
    c.loop-vector.invariant ∙ ap (map (λ v. entry (map value v) c.args.i)) (take_all c.loop-vector.vector-index vectors (omega arith)) ∙ sym (map-map (λ r. entry r c.args.i) (map value) vectors)
