use Rattle.std.proofs.Common.{◌&&◌, List, Bool, sym, ap₂, ◌∙◌, subst}
use Rattle.double_descr.specs.ByRow.{HasPlace, HasPlaceIn}
use Rattle.double_descr.proofs.by_row.thirds_of.Goals as goal

pub returns-clause-thirds : goal.returns-clause-thirds
returns-clause-thirds c = λ place tight holds full had.
    c.keep_common.ensures.thirds place tight (subst (λ (l : List (List Bool)). HasPlace l c.args.common.now tight place) (sym c.as_slice.ensures.items)
    (subst (λ o. HasPlaceIn o c.args.common.now tight place) c.in-Some.is holds)) full
    (c.in_ok-thirds.ensures.common place ∙ ap₂ (λ x y. x && y) had had)
