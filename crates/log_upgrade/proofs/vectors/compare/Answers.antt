use Rattle.std.proofs.Common.{rules, refl, ◌≡◌}
use Rattle.std.proofs.lemmas.Iterator.{YieldsList-from_map, YieldsList-from_slice}
use Rattle.std.proofs.lemmas.Iterator.Consumers.{YieldsList-at}
use Rattle.std.proofs.lemmas.Iterator.Search.{cmp_from_yields_List}
use Rattle.log_upgrade.specs.Vectors.{pair, cmp_pairs}
use Rattle.log_upgrade.proofs.vectors.compare.Goals as goal

pub returns : goal.returns
returns c =
    cmp_from_yields_List (λ x y. y ≡ x) _ cmp_pairs _ c.cmp.ensures.ran
    (YieldsList-from_map _ pair (YieldsList-at c.map.ensures.source (YieldsList-from_slice c.args.u.now c.iter.ensures.rest)) c.map.ensures.closure (λ x r q k. search rules))
    (λ it e. YieldsList-at e (YieldsList-from_map _ pair (YieldsList-at c.map-2.ensures.source (YieldsList-from_slice c.args.v.now c.iter-2.ensures.rest)) c.map-2.ensures.closure (λ x r q k. search rules)))
    (λ x y. refl)
