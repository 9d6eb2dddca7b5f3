use Rattle.std.proofs.Common.{rules, refl, ◌∙◌}
use Rattle.benson_primal.proofs.Searched.{grown_more, ok_both}
use Rattle.benson_primal.proofs.search.Search.try_known.Goals as goal

pub try_take-requires : goal.try_take-requires
try_take-requires g c κs within = (
  search rules,
  (c.requires.1.0.outer, (c.as_slice.ensures.items ∙ c.requires.1.0.places_are, c.requires.1.1)),
)

pub returns : goal.returns
returns g c =
    let s = c.args.self.now in
    let h = c.requires.1.0 in
    let taken = c.try_take.ensures in
    ok_both c.try_take.result _ _ _ taken.ok taken.preimages
    (λ outer same. grown_more g.F.Field.value g.F.Field.holds g.task s (record s { trail = c.try_take.new.trail; dd = c.try_take.new.dd }) h h.known refl outer taken.lines refl same)
