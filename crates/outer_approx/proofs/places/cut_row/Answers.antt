use Rattle.std.proofs.Common.{◌≡◌, List, [], ◌∷◌, ◌++◌, map, sym, ap, ap₂, ◌∙◌}
use Rattle.std.proofs.lemmas.List.{length-map}
use Rattle.exact_field.specs.Rational.{ℚ, neg_ℚ}
use Rattle.lineality.specs.Without.{without}
use Rattle.lineality.proofs.Masks.{without-homogenised}
use Rattle.lineality.proofs.Reading.{values_more}
use Rattle.outer_approx.proofs.places.cut_row.Goals as goal

pub returns : goal.returns
returns g c =
    let value = g.F.Field.value in
    let bs = c.args.places.now in
    let cut = c.args.cut.now in
    let short = c.in_ok-row.row in
    let short_is : map value short ≡ without bs (map value cut.w) =
    c.in_ok-row.ensures ∙ ap (λ (w : List g.row.F.Denot). without bs (map value w)) c.as_slice.ensures.items in
    values_more value short c.push.new.self c.neg.result c.in_ok-push.ensures.ok
    ∙ ap₂ (λ (us : List ℚ) (t : ℚ). us ++ t ∷ []) short_is c.neg.ensures
    ∙ sym (without-homogenised bs (map value cut.w) (neg_ℚ (value cut.gamma)) (length-map cut.w value ∙ sym c.requires))
