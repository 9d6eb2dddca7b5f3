use Rattle.std.proofs.Common.{◌++◌, ◌∷◌, [], ◌+◌, List, take, sym, ap, ◌∙◌, subst}
use Rattle.std.proofs.lemmas.List.{take_more}
use Rattle.deriv_log.specs.declared.entry.Entry.{Entry}
use Rattle.lp_form.specs.declared.shown.Cut.{Cut}
use Rattle.recession.specs.Further.{SayCuts}
use Rattle.recession.proofs.Trails.{say_more}
use Rattle.recession.proofs.further.entries_of.Goals as goal

pub loop-cut-preserved : goal.loop-cut-preserved
loop-cut-preserved g c =
    let value = g.F.Field.value in
    let cuts = c.args.cuts.now in
    let i = c.loop-cut.cut-index in
    let cut = c.cut-item.result in
    let k = c.in_ok-push_cut_entry.ensures.ok in
    let more = take_more cuts i cut c.loop-cut-test.true ∙ ap (λ (y : Cut _). take i cuts ++ y ∷ []) (sym c.cut-item.is) in
    subst (λ (es : List Entry). SayCuts value (take (i + 1) cuts) es) (sym k.2)
    (subst (λ (cs : List (Cut _)). SayCuts value cs (c.loop-cut.entries ++ k.0 ∷ [])) (sym more)
    (say_more value (take i cuts) cut c.loop-cut.entries k.0 c.loop-cut.invariant k.1))
