use Rattle.std.proofs.Common.{rules, refl, ap, ◌∙◌}
use Rattle.outer_approx.specs.Standing.{rows_of_trail}
use Rattle.benson_primal.proofs.Searched.{grown_more}
use Rattle.benson_primal.proofs.search.Search.try_cut.Goals as goal

pub try_take-requires : goal.try_take-requires
try_take-requires g c κs within = (
  search rules,
  (c.requires.1.0.outer, (c.as_slice.ensures.items ∙ c.requires.1.0.places_are, c.requires.1.1.is)),
)

pub returns-then-branch-clause-searching : goal.returns-then-branch-clause-searching
returns-then-branch-clause-searching g c =
    let s = c.args.self.now in
    let h = c.requires.1.0 in
    let taken = c.in_ok-try_take.ensures in
    grown_more g.F.Field.value g.F.Field.holds g.task s (record s { trail = c.try_take.new.trail; dd = c.try_take.new.dd }) h h.known refl taken.ok taken.lines refl
    taken.preimages

pub returns-then-branch-clause-grown : goal.returns-then-branch-clause-grown
returns-then-branch-clause-grown g c =
    λ yes. record { cut = c.args.cut.now; next = c.requires.1.1; rows = c.in_ok-try_take.ensures.rows c.if-branch.true }

pub returns-clause-searching : goal.returns-clause-searching
returns-clause-searching g c =
    let s = c.args.self.now in
    let h = c.requires.1.0 in
    let taken = c.in_ok-try_take.ensures in
    grown_more g.F.Field.value g.F.Field.holds g.task s
    (record s { trail = c.try_take.new.trail; dd = c.try_take.new.dd; failed = c.saturating_add-self.result }) h h.known refl taken.ok taken.lines refl taken.preimages

pub returns-clause-as_before : goal.returns-clause-as_before
returns-clause-as_before g c =
    let same = c.in_ok-try_take.ensures.as_before c.if-branch.false in
    λ no. record { dd_same = same.1; rows_same = ap (rows_of_trail g.task) same.0 }
