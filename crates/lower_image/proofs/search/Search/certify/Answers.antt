use Rattle.std.proofs.Common.{◌≡◌, ◌++◌, ◌∷◌, [], ℕ, List, Contains, refl, subst, sym}
use Rattle.std.proofs.lemmas.List.Elements.{Contains-append_right}
use Rattle.std.proofs.lemmas.Result.{on_ok_weaker}
use Rattle.polyhedra.proofs.Lists.{Contains-here}
use Rattle.lower_image.proofs.Searched.{with_cut}
use Rattle.lower_image.proofs.search.Search.certify.Goals as goal

pub returns-clause-searching : goal.returns-clause-searching
returns-clause-searching g c =
    let s = c.args.self.now in
    let cut = c.args.cut in
    on_ok_weaker c.push-2.result
    (λ (pushed : c.push-2.new.self ≡ s.cuts ++ cut ∷ []).
    with_cut g.F.Field.value g.F.Field.holds g.task s c.mark.new.marks c.push.new.self c.push-2.new.self c.args.g cut c.requires.1.0 c.requires.1.1
    c.in_ok-mark.ensures c.in_ok-push.ensures.ok pushed)
    c.push-2.ensures.ok

pub returns-clause-here : goal.returns-clause-here
returns-clause-here g c =
    let s = c.args.self.now in
    let n : ℕ = c.args.g in
    let here : Contains (s.certified ++ n ∷ []) n = Contains-append_right s.certified (n ∷ []) n (Contains-here n [] n refl) in
    on_ok_weaker c.push-2.result
    (λ (pushed : c.push-2.new.self ≡ s.cuts ++ c.args.cut ∷ []). subst (λ (ns : List ℕ). Contains ns n) (sym c.in_ok-push.ensures.ok) here)
    c.push-2.ensures.ok
