use Rattle.std.proofs.Common.{◌≡◌, List, [], ◌∷◌, ◌++◌, map, refl, ap, ◌∙◌}
use Rattle.exact_field.specs.Rational.{ℚ, one_ℚ, neg_ℚ}
use Rattle.polyhedra.specs.Negatives.{negated}
use Rattle.polyhedra.specs.Vectors.{zeros}
use Rattle.tableaux.specs.Table.{unit}
use Rattle.lp_form.proofs.Joined.{joined_more}
use Rattle.lp_form.proofs.Joined.{pushed2, pushed3}
use Rattle.lp_form.proofs.Steps.{value_pushed}
use Rattle.lp_form.proofs.cone.push_gaps.Goals as goal

pub loop-g-preserved : goal.loop-g-preserved
loop-g-preserved g c =
    let value = g.F.Field.value in
    let n = c.args.n in
    let more = c.args.more in
    let l0 : List ℚ = map value c.loop-g.list in
    let l1 : List ℚ = map value c.push_difference.new.list in
    let l2 : List ℚ = map value c.push.new.self in
    let l3 : List ℚ = map value c.push_zeros.new.list in
    let e : List ℚ = map value c.as_slice.result.now in
    let pushed : l2 ≡ l1 ++ neg_ℚ one_ℚ ∷ [] = value_pushed value c.push_difference.new.list c.push.new.self c.neg.result (neg_ℚ one_ℚ) c.in_ok-push.ensures.ok (c.neg.ensures ∙ ap neg_ℚ c.one.ensures) in
    joined_more (map value c.args.list.now) l0 l3 (e ++ negated e ++ neg_ℚ one_ℚ ∷ zeros more) c.loop-g.g (λ g. unit n g ++ negated (unit n g) ++ neg_ℚ one_ℚ ∷ zeros more) c.loop-g.invariant
    (pushed3 l0 (l0 ++ e) l1 l3 e (negated e) (neg_ℚ one_ℚ ∷ zeros more) refl c.in_ok-push_difference.ensures (pushed2 l1 l2 l3 (neg_ℚ one_ℚ ∷ []) (zeros more) pushed c.in_ok-push_zeros.ensures))
    (ap (λ u. u ++ negated u ++ neg_ℚ one_ℚ ∷ zeros more) (ap (map value) c.as_slice.ensures.items ∙ c.in_ok-e.ensures))
