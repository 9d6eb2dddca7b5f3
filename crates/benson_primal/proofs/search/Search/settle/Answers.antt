use Rattle.std.proofs.Common.{rules, refl, ◌∙◌}
use Rattle.benson_primal.proofs.Searched.{grown_from, grown_more, ok_both}
use Rattle.benson_primal.proofs.search.Search.settle.Goals as goal

pub take-requires : goal.take-requires
take-requires g c κs within = (
  search rules,
  (
    c.in_ok-cut.ensures.searching.outer,
    (c.as_slice.ensures.items ∙ c.in_ok-cut.ensures.searching.places_are, c.in_ok-cut.ensures.cut.is),
  ),
)

pub returns-clause-searching : goal.returns-clause-searching
returns-clause-searching g c =
    let s = c.kept_cut.new.self in
    let h = c.in_ok-cut.ensures.searching in
    let taken = c.take.ensures in
    ok_both c.take.result _ _ _ taken.ok taken.preimages
    (λ outer same. grown_more g.F.Field.value g.F.Field.holds g.task s (record s { trail = c.take.new.trail; dd = c.take.new.dd }) h h.known refl outer taken.lines refl
    same)

pub returns-clause-grown : goal.returns-clause-grown
returns-clause-grown g c =
    let taken = c.take.ensures in
    ok_both c.take.result _ _ _ taken.rows taken.rows
    (λ rows _. grown_from g.F.Field.value g.task c.args.self.now.trail c.kept_cut.new.self.trail c.take.new.trail c.in_ok-cut.ensures.rows.rows_same
    (record { cut = c.in_ok-cut.cut; next = c.in_ok-cut.ensures.cut; rows = rows }))
