use Rattle.std.proofs.Common.{◌∙◌, sym, ap, List, map, take}
use Rattle.exact_field.specs.Rational.{zero_ℚ}
use Rattle.exact_field.specs.Order.{same_ℚ}
use Rattle.exact_field.specs.Vector.{sum_ℚ}
use Rattle.exact_field.proofs.Comparison.{same_ℚ-is}
use Rattle.frac128.specs.declared.vectors.Spot.{Spot}
use Rattle.polyhedra.specs.Sparse.{value_at, values_from}
use Rattle.upper_image.specs.Spots.{entry_of}
use Rattle.projection.proofs.Fronts.{none_named, level_if, level_unless}
use Rattle.projection.proofs.levels.is_level.Goals as goal

pub returns-then-begins_with : goal.returns-then-begins_with
returns-then-begins_with c =
    let k = c.args.k in
    let d = c.args.direction.now in
    let y_is = c.as_slice-entries.ensures.items in
    let pre_is = c.as_slice.ensures.items in
    level_if c.begins_with.result c.begins_with-then-begins_with.result (same_ℚ (sum_ℚ d.y) zero_ℚ)
    (λ t. ap (take k) (sym y_is) ∙ c.begins_with.ensures.0 t ∙ ap (λ (x : List Spot). values_from k 1 (value_at (map entry_of x))) pre_is)
    (λ q. c.begins_with-then-begins_with.ensures.1 (ap (take k) y_is ∙ q ∙ sym (none_named 1 k)))
    (λ t. ap (take k) (sym y_is) ∙ c.begins_with-then-begins_with.ensures.0 t ∙ none_named 1 k)
    c.requires.tells.0 c.requires.tells.1 (same_ℚ-is (sum_ℚ d.y) zero_ℚ).0 (same_ℚ-is (sum_ℚ d.y) zero_ℚ).1 c.if-begins_with.true

pub returns-else-begins_with : goal.returns-else-begins_with
returns-else-begins_with c =
    let k = c.args.k in
    let d = c.args.direction.now in
    let y_is = c.as_slice-entries.ensures.items in
    let pre_is = c.as_slice.ensures.items in
    level_unless c.begins_with.result (same_ℚ (sum_ℚ d.y) zero_ℚ)
    (λ p. c.begins_with.ensures.1 (ap (take k) y_is ∙ p ∙ sym (ap (λ (x : List Spot). values_from k 1 (value_at (map entry_of x))) pre_is)))
    c.requires.tells.0 (same_ℚ-is (sum_ℚ d.y) zero_ℚ).0 c.if-begins_with.false
