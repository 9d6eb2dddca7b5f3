use Rattle.std.proofs.Common.{◌≡◌, ap, ◌∙◌, map, subst, sym}
use Rattle.std.proofs.lemmas.Result.{IfOk-weaker}
use Rattle.lineality.specs.Without.{with_zeros}
use Rattle.outer_approx.specs.Lines.{line_places}
use Rattle.outer_approx.specs.LiveVectors.{IsLiveVector}
use Rattle.outer_approx.proofs.LiveVectors.{live_vector}
use Rattle.benson_primal.proofs.search.Search.vector.Goals as goal

pub returns-clause-live : goal.returns-clause-live
returns-clause-live g c =
    let s = c.args.self.now in
    let value = g.F.Field.value in
    let h = c.requires.1.0 in
    let short = map value c.generator.result.now in
    let places : c.as_slice.result.now ≡ line_places g.task s.trail = c.as_slice.ensures.items ∙ h.places_are in
    IfOk-weaker c.full_vector.result _ _
    (λ full is. subst (λ v. IsLiveVector g.task s.trail c.args.g v) (sym (is ∙ ap (λ bs. with_zeros bs short) places))
    (live_vector g.task s.trail s.dd h.outer c.args.g short c.generator.ensures.listed))
    c.full_vector.ensures

pub returns-clause-only : goal.returns-clause-only
returns-clause-only g c =
    let s = c.args.self.now in
    IfOk-weaker c.full_vector.result _ _
    (λ full is v listed.
    is ∙ ap (with_zeros c.as_slice.result.now) (c.generator.ensures.only v listed) ∙ ap (λ bs. with_zeros bs v) c.as_slice.ensures.items)
    c.full_vector.ensures
