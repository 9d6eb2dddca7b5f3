-- Small examples, each of which would fail if a definition were wrong.
use Rattle.std.specs.Prelude.{[], ◌∷◌}
use Rattle.log_rules.specs.Examples.{n, at, minus_one}
use Rattle.log_rules.specs.declared.answer.Answer.{Answer}
use Rattle.log_rules.specs.declared.answer.Answer.TheVariants.{Infeasible, Solved}
use Rattle.log_rules.specs.declared.answer.Facet.{Facet}
use Rattle.log_rules.specs.declared.answer.Gen.{Gen}
use Rattle.projection.specs.Found.{shortened, IsProjectionFrom}
use Rattle.projection.specs.Right.{MeetsSide}
use Rattle.projection.specs.declared.found.Projection.TheVariants.{Empty, Found}

-- from the origin upwards, which is no direction of the projection, and along (1, -1), which is one
abbrev pub origin : Gen
origin = record { y = n 0 ∷ n 0 ∷ []; pre = [] }

abbrev pub upward : Gen
upward = record { y = n 0 ∷ n 1 ∷ []; pre = [] }

abbrev pub onward : Gen
onward = record { y = n 1 ∷ minus_one ∷ []; pre = at 1 (n 1) ∷ [] }

-- the inequality y ≥ -1
abbrev pub side : Facet
side = record { w = n 0 ∷ n 1 ∷ []; gamma = minus_one; u = []; tight = [] }

-- the answer that lists these
abbrev pub half_line : Answer
half_line = Solved (n 1 ∷ n 1 ∷ []) [] (origin ∷ []) (upward ∷ onward ∷ []) (side ∷ [])

-- what is found of it on one column, with all its sides; not with both directions, without the side,
-- or nothing; the multipliers of an empty set stay; and 1 meets the side, as -1 ≥ -1, and 2 does not
pub record FoundExample : Type 0 where
  pub found : IsProjectionFrom 1 half_line
      (Found [] (record { y = n 0 ∷ []; pre = [] } ∷ [])
      (record { y = n 1 ∷ []; pre = at 1 (n 1) ∷ [] } ∷ []) (side ∷ []))
  pub not_both : IsProjectionFrom 1 half_line
      (Found [] (shortened 1 origin ∷ []) (shortened 1 upward ∷ shortened 1 onward ∷ [])
      (side ∷ [])) → ⊥
  pub not_without : IsProjectionFrom 1 half_line
      (Found [] (shortened 1 origin ∷ []) (shortened 1 onward ∷ []) []) → ⊥
  pub not_empty : IsProjectionFrom 1 half_line (Empty []) → ⊥
  pub empty : IsProjectionFrom 1 (Infeasible (at 1 (n 1) ∷ [])) (Empty (at 1 (n 1) ∷ []))
  pub not_found : IsProjectionFrom 1 (Infeasible []) (Found [] [] [] []) → ⊥
  pub meets : MeetsSide (n 1 ∷ []) side
  pub meets_not : MeetsSide (n 2 ∷ []) side → ⊥
