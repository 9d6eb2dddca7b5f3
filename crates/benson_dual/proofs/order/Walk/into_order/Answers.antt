use Rattle.std.proofs.Common.{◌≡◌, ◌++◌, ◌∷◌, [], List, ℕ, sym, ap, ◌∙◌, take, append_assoc, subst, arith, if◌then◌else◌, IsPermutation}
use Rattle.std.specs.List.{range_with_len}
use Rattle.std.proofs.lemmas.List.{take_all}
use Rattle.benson_dual.specs.Order.{unmarked_from}
use Rattle.benson_dual.proofs.Listed.{unmarked_more}
use Rattle.benson_dual.proofs.order.Walk.into_order.Goals as goal

pub loop-place-preserved : goal.loop-place-preserved
loop-place-preserved c =
    let marks = c.args.self.listed.items in
    let place = c.loop-place.place in
    let b = c.index.result.now in
    let more : List ℕ = if b then [] else place ∷ [] in
    c.in_ok-push_unlisted.ensures
    ∙ ap (λ l. l ++ more) c.loop-place.invariant
    ∙ append_assoc c.args.self.order (unmarked_from 0 (take place marks)) more
    ∙ ap (λ l. c.args.self.order ++ l) (sym (unmarked_more marks place b (omega (arith, c.requires.long, c.loop-place-test.true)) (sym c.index.ensures)))

pub returns : goal.returns
returns c =
    let marks = c.args.self.listed.items in
    let same : c.loop-place.order ≡ c.args.self.order ++ unmarked_from 0 marks =
    c.loop-place.invariant ∙ ap (λ l. c.args.self.order ++ unmarked_from 0 l) (take_all c.loop-place.place marks (omega (arith, c.requires.long, c.loop-place-test.false))) in
    subst (IsPermutation (range_with_len 0 c.args.count)) (sym same) c.requires.parted
