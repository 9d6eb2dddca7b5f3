-- What is right of a projection: its lines, points and directions, what shows them, and its sides.
use Rattle.std.specs.Prelude.{◌≡◌, ◌↔◌, ℕ, ◌≤◌, List, map, length, All}
use Rattle.exact_field.specs.Rational.{ℚ, ◌≤ℚ◌}
use Rattle.exact_field.specs.Vector.{dot}
use Rattle.frac128.specs.declared.vectors.Spot.{Spot}
use Rattle.polyhedra.specs.Hull.{IsInHull}
use Rattle.polyhedra.specs.Negatives.{negated}
use Rattle.upper_image.specs.Spots.{dense, IsVector}
use Rattle.upper_image.specs.Witnesses.{IsInfeasible}
use Rattle.vlp_problem.specs.Sides.{IsFeasible, IsRecession}
use Rattle.vlp_problem.specs.declared.problem.Problem.{Problem}
use Rattle.deriv_log.specs.declared.entry.Entry.{Entry}
use Rattle.log_rules.specs.Proves.{PlainProves}
use Rattle.log_rules.specs.declared.answer.Answer.{Answer}
use Rattle.log_rules.specs.declared.answer.Facet.{Facet}
use Rattle.log_rules.specs.declared.answer.Gen.{Gen}
use Rattle.log_rules.specs.declared.answer.LineGen.{LineGen}
use Rattle.representations.specs.Needed.{NoneIsTooMuch}
use Rattle.representations.specs.Projection.{spread}
use Rattle.projection.specs.Associated.{Begins, IsAssociated, IsInProjection}
use Rattle.projection.specs.Found.{IsProjectionFrom}
use Rattle.projection.specs.declared.found.Projection.{Projection}
use Rattle.projection.specs.declared.found.Projection.TheVariants.{Empty, Found}

-- the choices of a point are feasible, and begin with it
pub record ShowsPoint (file : Problem) (k : ℕ) (g : Gen) : Type 0 where
  pub vector : IsVector file.cols g.pre
  pub feasible : IsFeasible file (dense file.cols g.pre)
  pub begins : Begins k (dense file.cols g.pre) g.y

-- the choices of a direction are one of the feasible set, and begin with it
pub record ShowsDirection (file : Problem) (k : ℕ) (d : List ℚ) (choices : List Spot) : Type 0 where
  pub vector : IsVector file.cols choices
  pub recedes : IsRecession file (dense file.cols choices)
  pub begins : Begins k (dense file.cols choices) d

-- a line has those of itself and of its negative
pub record ShowsLine (file : Problem) (k : ℕ) (l : LineGen) : Type 0 where
  pub forth : ShowsDirection file k l.d l.ray
  pub back_too : ShowsDirection file k (negated l.d) l.back

-- z meets a side: z, followed by minus the sum of its entries, meets the inequality
abbrev pub MeetsSide : List ℚ → Facet → Type 0
MeetsSide z f = f.gamma ≤ℚ dot f.w (spread z)

-- points, directions and lines whose hull is the projection, each with what shows it, of which none
-- can be left out, and sides that exactly its members meet
pub record IsProjectionOf (file : Problem) (k : ℕ) (lines : List LineGen)
    (points directions : List Gen) (sides : List Facet) : Type 0 where
  pub hull : (z : List ℚ) → IsInProjection file k z
      ↔ IsInHull k (map (λ g. g.y) points) (map (λ g. g.y) directions) (map (λ l. l.d) lines) z
  pub cut_out : (z : List ℚ) → length z ≡ k → IsInProjection file k z ↔ All (MeetsSide z) sides
  pub points_shown : All (ShowsPoint file k) points
  pub directions_shown : All (λ g. ShowsDirection file k g.y g.pre) directions
  pub lines_shown : All (ShowsLine file k) lines
  pub needed : NoneIsTooMuch k (map (λ g. g.y) points) (map (λ g. g.y) directions)
      (map (λ l. l.d) lines)

-- the projection is right for the feasible set of the file, which is empty where nothing is found
abbrev pub IsRightProjection : Problem → ℕ → Projection → Type 0
IsRightProjection file k (Empty u) = IsInfeasible file u
IsRightProjection file k (Found lines points directions sides) =
    IsProjectionOf file k lines points directions sides

-- what is found of an answer that a log proves for the associated problem is right
abbrev pub FoundIsRight : Type 0
FoundIsRight = (k : ℕ) (file made : Problem) (entries : List Entry) (answer : Answer)
    (found : Projection) → k ≤ file.cols → IsAssociated k file made →
    PlainProves made entries answer → IsProjectionFrom k answer found → IsRightProjection file k found
