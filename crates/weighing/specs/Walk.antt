-- The walk over the items of an answer. For the clauses of the code alone.
use Rattle.std.specs.Prelude.{◌≡◌, ◌+◌, ◌++◌, ℕ, List, length, All, Option, None, Some, if◌then◌else◌}
use Rattle.exact_field.specs.Rational.{ℚ, zero_ℚ, lt_ℚ, ◌≤ℚ◌}
use Rattle.polyhedra.specs.Negatives.{negated}
use Rattle.frac128.specs.Held.{is_held}
use Rattle.lin_rows.specs.Sums.{IsDotLeft}
use Rattle.vlp_problem.specs.declared.problem.Dir.{Dir}
use Rattle.vlp_problem.specs.declared.problem.Problem.{Problem}
use Rattle.upper_image.specs.UpperImage.{signed}
use Rattle.log_rules.specs.declared.answer.Answer.{Answer}
use Rattle.log_rules.specs.declared.answer.Gen.{Gen}
use Rattle.log_rules.specs.declared.answer.LineGen.{LineGen}
use Rattle.weighing.specs.Stages.{Item, IsPassed, EndsDown, EndsLeft, EndsLeast, StopsWeighing, line_items, direction_items, point_items}
use Rattle.weighing.specs.declared.weighed.Weighed.{Weighed}
use Rattle.weighing.specs.declared.weighed.Weighed.TheVariants.{Unbounded, Least}
use Rattle.weighing.specs.declared.weighed.WeighEnd.{WeighEnd}
use Rattle.weighing.specs.declared.weighed.WeighEnd.TheVariants.{Left, NoMemory}

-- the product with this item is given up
abbrev pub IsProductLeft : List ℚ → List ℚ → ℕ → WeighEnd → Type 0
IsProductLeft w v item (Left k left) = (k ≡ item) × IsDotLeft (λ q. q) is_held w v left
IsProductLeft w v item NoMemory = Unit {0}

-- the way along a line whose product with the weights is this value, which is not 0
abbrev pub way_of : Dir → ℚ → List ℚ → List ℚ
way_of dir value d = if lt_ℚ (signed dir value) zero_ℚ then d else negated d

-- all items are passed, or the walk ends at one, and this is the way down along it
abbrev pub IsWalked : Dir → List ℚ → List Item → Option (List ℚ) → Type 0
IsWalked dir w items None = All (IsPassed dir w) items
IsWalked dir w items (Some d) = EndsDown dir w items d

-- a product is given up with an item, which comes after so many others
abbrev pub StopsWalk : Dir → List ℚ → List Item → ℕ → WeighEnd → Type 0
StopsWalk dir w items earlier (Left k left) =
    (number : ℕ) × (k ≡ earlier + number) × EndsLeft dir w items number left
StopsWalk dir w items earlier NoMemory = Unit {0}

-- the value a is no less than b, or, where the file maximises, no greater
abbrev pub IsNoLess : Dir → ℚ → ℚ → Type 0
IsNoLess dir a b = signed dir b ≤ℚ signed dir a

-- what is found among points that are all passed
abbrev pub IsFoundFrom : Dir → List ℚ → List Gen → Weighed → Type 0
IsFoundFrom dir w points (Least value listed) =
    EndsLeast dir w (point_items points) points value listed
IsFoundFrom dir w points _ = ⊥

-- each vector has so many entries
pub record AreAllWide (n : ℕ) (ls : List LineGen) (directions points : List Gen) : Type 0 where
  pub lines : All (λ l. n ≡ length l.d) ls
  pub directions_wide : All (λ g. n ≡ length g.y) directions
  pub points_wide : All (λ g. n ≡ length g.y) points

-- all items of an image: its lines, then its directions, then its points
abbrev pub cone_items : List Gen → List Gen → List Item
cone_items directions points = direction_items directions ++ point_items points

-- the lines, then the directions, then the points
abbrev pub all_items : List LineGen → List Gen → List Gen → List Item
all_items ls directions points = line_items ls ++ cone_items directions points

-- what is told of an image
abbrev pub WeighsTo : Dir → List ℚ → List Item → List Gen → Weighed → Type 0
WeighsTo dir w items points (Unbounded d) = EndsDown dir w items d
WeighsTo dir w items points (Least value listed) = EndsLeast dir w items points value listed
WeighsTo dir w items points _ = ⊥

-- nothing is told, since a product is given up
abbrev pub WeighStops : Problem → Answer → List ℚ → WeighEnd → Type 0
WeighStops file answer w (Left k left) = StopsWeighing file answer w k left
WeighStops file answer w NoMemory = Unit {0}
