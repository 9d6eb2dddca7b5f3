use Rattle.std.proofs.Common.{◌≡◌, map, length, sym, ap, ◌∙◌, subst}
use Rattle.std.proofs.lemmas.List.{length-map}
use Rattle.upper_image.specs.Spots.{dense, IsVector}
use Rattle.log_rules.specs.Live.{state}
use Rattle.recession.proofs.OwnLogs.{meets_farkas, ray_read}
use Rattle.recession.proofs.logs.contradiction_log.Goals as goal

pub returns-clause-ended : goal.returns-clause-ended
returns-clause-ended g c =
    let value = g.F.Field.value in
    let list = c.args.u.now in
    let u = map value list in
    let spots = c.in_ok-spots.spots in
    let h = c.requires.1.1 in
    let long : length u ≡ length list = length-map list value in
    let vector : IsVector (length u) spots = subst (λ n. IsVector n spots) (sym long) c.in_ok-spots.ensures.vector in
    let same : dense (length u) spots ≡ u = ap (λ n. dense n spots) long ∙ c.in_ok-spots.ensures.numbers in
    let made = c.in_ok-log.ensures in
    let meets = meets_farkas g.file u spots h vector same in
    λ d weights. record { log = made.log vector.sparse; base = made.base g.file d weights meets (ray_read g.file u spots h vector same) }

pub returns-clause-cuts : goal.returns-clause-cuts
returns-clause-cuts g c = λ q. ap (λ es. (state q es).cuts) c.in_ok-log.ensures.entries
