-- How a weighing goes: which products are taken, in which order, and where that ends.
use Rattle.std.specs.Prelude.{◌≡◌, ◌⊎◌, ℕ, suc, List, [], ◌∷◌, ◌++◌, map, length, All}
use Rattle.exact_field.specs.Rational.{ℚ, zero_ℚ, ◌-ℚ◌, ◌≤ℚ◌, ◌<ℚ◌}
use Rattle.exact_field.specs.Vector.{dot}
use Rattle.exact_field.specs.declared.op.Left.{Left}
use Rattle.polyhedra.specs.Negatives.{negated}
use Rattle.frac128.specs.Held.{is_held}
use Rattle.frac128.specs.declared.frac.Frac.{Frac}
use Rattle.lin_rows.specs.Sums.{AreHeld, IsDotLeft}
use Rattle.vlp_problem.specs.declared.problem.Dir.{Dir}
use Rattle.vlp_problem.specs.declared.problem.Problem.{Problem}
use Rattle.upper_image.specs.UpperImage.{signed}
use Rattle.log_rules.specs.declared.answer.Answer.{Answer}
use Rattle.log_rules.specs.declared.answer.Answer.TheVariants.{Infeasible, Whole as WholeImage, Solved}
use Rattle.log_rules.specs.declared.answer.Gen.{Gen}
use Rattle.log_rules.specs.declared.answer.LineGen.{LineGen}
use Rattle.weighing.specs.Weighing.{points_with}
use Rattle.weighing.specs.declared.weighed.Weighed.{Weighed}
use Rattle.weighing.specs.declared.weighed.Weighed.TheVariants.{Empty, Whole, Unbounded, Least}

-- ---- what is multiplied with the weights
-- a line, a direction or a point
pub data Item : Type 0 where
  line : (d : List ℚ) → Item
  direction : (d : List ℚ) → Item
  point : (y : List ℚ) → Item

-- its vector
abbrev pub vector_of : Item → List ℚ
vector_of (line d) = d
vector_of (direction d) = d
vector_of (point y) = y

-- the lines of an answer, its directions and its points, as items
abbrev pub line_items : List LineGen → List Item
line_items ls = map (λ l. line l.d) ls

abbrev pub direction_items : List Gen → List Item
direction_items directions = map (λ g. direction g.y) directions

abbrev pub point_items : List Gen → List Item
point_items points = map (λ g. point g.y) points

-- the lines of an answer, then its directions, then its points, numbered from 1
abbrev pub items_of : Answer → List Item
items_of (Solved c ls points directions facets) =
    line_items ls ++ (direction_items directions ++ point_items points)
items_of _ = []

-- ---- where it goes on
-- each step of the product is held
abbrev pub IsTaken : List ℚ → List ℚ → Type 0
IsTaken w v = AreHeld is_held w v (length w)

-- the product is one with which it goes on: 0 with a line, none that goes down with a direction
abbrev pub GoesOn : Dir → List ℚ → Item → Type 0
GoesOn dir w (line d) = dot w d ≡ zero_ℚ
GoesOn dir w (direction d) = zero_ℚ ≤ℚ signed dir (dot w d)
GoesOn dir w (point y) = Unit {0}

-- the product with an item is calculated, and the weighing goes on
pub record IsPassed (dir : Dir) (w : List ℚ) (item : Item) : Type 0 where
  pub taken : IsTaken w (vector_of item)
  pub on : GoesOn dir w item

-- ---- where it ends
-- this is item k, and all before it are passed
pub record IsReached (dir : Dir) (w : List ℚ) (items : List Item) (k : ℕ) (item : Item)
    : Type 0 where
  pub before : List Item
  pub after : List Item
  pub split : items ≡ before ++ item ∷ after
  pub number : k ≡ suc (length before)
  pub passed : All (IsPassed dir w) before

-- an item's product goes down: d is the way along it, or for a line that way of both that goes down
abbrev pub IsWay : Item → List ℚ → Type 0
IsWay (line l) d = (d ≡ l) ⊎ (d ≡ negated l)
IsWay (direction e) d = d ≡ e
IsWay (point y) d = ⊥

-- the weighing ends at an item whose product goes down, along d
pub record EndsDown (dir : Dir) (w : List ℚ) (items : List Item) (d : List ℚ) : Type 0 where
  pub number : ℕ
  pub item : Item
  pub reached : IsReached dir w items number item
  pub taken : IsTaken w (vector_of item)
  pub way : IsWay item d
  pub down : signed dir (dot w d) <ℚ zero_ℚ

-- the first operation of item k's product that is not held
pub record EndsLeft (dir : Dir) (w : List ℚ) (items : List Item) (k : ℕ) (left : Left Frac)
    : Type 0 where
  pub item : Item
  pub reached : IsReached dir w items k item
  pub stuck : IsDotLeft (λ q. q) is_held w (vector_of item) left

-- all items are passed; the value is that of points, of which none has less, and exactly these
-- points have it
pub record EndsLeast (dir : Dir) (w : List ℚ) (items : List Item) (points : List Gen) (value : ℚ)
    (listed : List ℕ) : Type 0 where
  pub passed : All (IsPassed dir w) items
  pub least : All (λ g. zero_ℚ ≤ℚ signed dir (dot w g.y -ℚ value)) points
  pub have : listed ≡ points_with points w value
  pub some : listed ≡ [] → ⊥

-- ---- what a weighing answers
-- nothing is feasible, the image is everything, the value goes down along d, or it is least at
-- these points
abbrev pub IsWeighedFrom : Problem → Answer → List ℚ → Weighed → Type 0
IsWeighedFrom file (Infeasible u) w Empty = Unit {0}
IsWeighedFrom file (WholeImage c x ray) w Whole = Unit {0}
IsWeighedFrom file (Solved c ls points directions facets) w (Unbounded d) =
    EndsDown file.dir w (items_of (Solved c ls points directions facets)) d
IsWeighedFrom file (Solved c ls points directions facets) w (Least value listed) =
    EndsLeast file.dir w (items_of (Solved c ls points directions facets)) points value listed
IsWeighedFrom file _ w _ = ⊥

-- the product with item k has an operation whose exact result is not held, and no earlier one ends
-- the work
abbrev pub StopsWeighing : Problem → Answer → List ℚ → ℕ → Left Frac → Type 0
StopsWeighing file answer w k left = EndsLeft file.dir w (items_of answer) k left
