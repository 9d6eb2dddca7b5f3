use Rattle.std.proofs.Common.{◌≡◌, List, ap, sym, ◌∙◌, arith, length, map, min, suc, subst, take}
use Rattle.std.specs.Prelude.{IfOk}
use Rattle.std.proofs.lemmas.List.{length-map, length-take, take-map}
use Rattle.exact_field.specs.Rational.{ℚ}
use Rattle.lineality.specs.Without.{open_count, with_zeros}
use Rattle.lineality.proofs.Masks.{length-filled}
use Rattle.outer_approx.proofs.Fronts.{entries_are, number_listed, wide_here}
use Rattle.outer_approx.proofs.start.front_of.Goals as goal

pub generator-requires : goal.generator-requires
generator-requires g c = number_listed (open_count c.args.places.now) c.args.dd.now.list c.requires.first c.args.g c.requires.low c.requires.high

pub slice_bounds-fractions-end : goal.slice_bounds-fractions-end
slice_bounds-fractions-end g c =
    let value = g.F.Field.value in
    let bs = c.args.places.now in
    let entries = c.as_slice-entries.result.now in
    let count = open_count bs in
    let full_is : map value entries ≡ with_zeros bs (map value c.generator.result.now) = ap (map value) c.as_slice-entries.ensures.items ∙ c.in_ok-full.ensures in
    let is = entries_are count c.args.dd.now.list c.requires.first c.args.g c.requires.low c.requires.high value c.generator.result.now c.generator.ensures.only in
    let long : length entries ≡ suc (length bs) =
    sym (length-map entries value) ∙ ap (λ (v : List ℚ). length v) (full_is ∙ ap (with_zeros bs) is)
    ∙ length-filled bs _ (wide_here count c.args.dd.now.list c.requires.first c.args.g c.requires.low c.requires.high) in
    let cut : length (take (length bs) entries) ≡ min (length bs) (length entries) = length-take (length bs) entries in
    omega (arith, cut, long)

pub returns : goal.returns
returns g c =
    let value = g.F.Field.value in
    let bs = c.args.places.now in
    let entries = c.as_slice-entries.result.now in
    let full_is : map value entries ≡ with_zeros bs (map value c.generator.result.now) = ap (map value) c.as_slice-entries.ensures.items ∙ c.in_ok-full.ensures in
    let is = entries_are (open_count bs) c.args.dd.now.list c.requires.first c.args.g c.requires.low c.requires.high value c.generator.result.now c.generator.ensures.only in
    subst (λ (x : List ℚ). IfOk c.fractions.result (λ front. front ≡ x))
    (sym (take-map value (length bs) entries) ∙ ap (take (length bs)) (full_is ∙ ap (with_zeros bs) is)) c.fractions.ensures.same
