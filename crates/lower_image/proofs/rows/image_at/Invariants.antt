use Rattle.std.proofs.Common.{◌≡◌, map, take, length}
use Rattle.exact_field.specs.Vector.{dot}
use Rattle.lp_form.specs.Data.{vector_of}
use Rattle.lower_image.proofs.rows.image_at.Given as goal

abbrev pub invariant-loop-line : goal.invariant-loop-line
invariant-loop-line g l =
    let value = g.F.Field.value in
    map value l.y ≡ map (λ r. dot (vector_of value (length l.x) r) (map value l.x)) (take l.line-index l.form.p)
