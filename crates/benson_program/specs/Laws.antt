-- What an end of the linear programs `Feasible` and `Benson` of a file shows of the file, and which answers exclude each other.
use Rattle.std.specs.Prelude.{ℕ, Bool, true, false, List, ◌≡◌, map, length, if◌then◌else◌}
use Rattle.exact_field.specs.Rational.{ℚ, zero_ℚ, neg_ℚ, ◌-ℚ◌, ◌≤ℚ◌, ◌<ℚ◌}
use Rattle.exact_field.specs.Vector.{dot}
use Rattle.frac128.specs.declared.vectors.Spot.{Spot}
use Rattle.tableaux.specs.Simplex.{IsOptimal, IsInfeasible, IsUnbounded}
use Rattle.vlp_problem.specs.Sides.{side_bounds, IsFeasible, IsRecession}
use Rattle.vlp_problem.specs.declared.problem.Problem.{Problem}
use Rattle.upper_image.specs.Laws.{InfeasibleIsEmpty}
use Rattle.upper_image.specs.OrderingCone.{IsInteriorToCone, Fits}
use Rattle.upper_image.specs.Shows.{ShowsFitting, ShowsRecession, ShowsAbove, ShowsCut}
use Rattle.upper_image.specs.Spots.{dense, product, IsVector}
use Rattle.upper_image.specs.Witnesses.{IsWhole}
use Rattle.upper_image.specs.Witnesses as witnesses
use Rattle.log_rules.specs.Meets.{MeetsFarkas}
use Rattle.lp_form.specs.Programs.{side_total, generators, feasible_system, benson_system, w_of, v_of, choice_of, value_of, share_of, full_share_of}
use Rattle.overflows.specs.Base.{AreCutParts}
use Rattle.overflows.specs.Trails.{divided_by}

-- ---- the program `Feasible`
-- what each of its three ends shows
pub record FeasibleEnds : Type 0 where
  -- it has a solution
  pub solvable : (file : Problem) (y : List ℚ) → IsInfeasible (feasible_system file) y → ⊥
  -- a ray on which it is unbounded, as a sparse vector, meets the rules of the entry `farkas`, and shows that no point is feasible
  pub farkas : (file : Problem) (x r : List ℚ) (u : List Spot) → IsUnbounded (feasible_system file) x r → IsVector (side_total file) u →
      dense (side_total file) u ≡ r → MeetsFarkas file u
  pub unbounded : (file : Problem) (x r : List ℚ) (u : List Spot) → IsUnbounded (feasible_system file) x r → IsVector (side_total file) u →
      dense (side_total file) u ≡ r → witnesses.IsInfeasible file u
  -- the multipliers of an optimum are a feasible point
  pub optimal : (file : Problem) (z y : List ℚ) → IsOptimal (feasible_system file) z y → IsFeasible file (choice_of file y)

-- ---- Benson's program at v: an optimum
-- an optimum is a cut, by its parts as sparse vectors; the value of the cut at v, a point where t and else a direction, is the negated
-- last multiplier
pub record BensonCut : Type 0 where
  pub cut : (file : Problem) (c v : List ℚ) (t : Bool) (z y : List ℚ) (gamma : ℚ) (u m : List Spot) → length c ≡ file.objs →
      length v ≡ file.objs → IsOptimal (benson_system file c v t) z y → IsVector (side_total file) u → IsVector (length (v_of file file.cone z)) m →
      AreCutParts file z u m → product (side_bounds file) u ≡ gamma → ShowsCut file c (w_of file z) gamma u m
  pub value : (file : Problem) (c v : List ℚ) (t : Bool) (z y : List ℚ) (gamma : ℚ) (u m : List Spot) → length c ≡ file.objs →
      length v ≡ file.objs → IsOptimal (benson_system file c v t) z y → AreCutParts file z u m → product (side_bounds file) u ≡ gamma →
      dot (w_of file z) v -ℚ (if t then gamma else zero_ℚ) ≡ neg_ℚ (value_of y)

-- its multipliers are a feasible point, or a direction of the feasible set where v is one; where the last is not positive, they are a
-- pre-image of v, with what weights that show c add to it
pub record BensonPreimage : Type 0 where
  pub feasible : (file : Problem) (c v : List ℚ) (z y : List ℚ) → length c ≡ file.objs → length v ≡ file.objs →
      IsOptimal (benson_system file c v true) z y → IsFeasible file (choice_of file y)
  pub recedes : (file : Problem) (c v : List ℚ) (z y : List ℚ) → length c ≡ file.objs → length v ≡ file.objs →
      IsOptimal (benson_system file c v false) z y → IsRecession file (choice_of file y)
  pub above : (file : Problem) (c weights : List ℚ) (picks : List ℕ) (inverse v : List ℚ) (t : Bool) (z y : List ℚ) (x m : List Spot) →
      ShowsFitting file c weights picks inverse → length v ≡ file.objs → IsOptimal (benson_system file c v t) z y → value_of y ≤ℚ zero_ℚ →
      IsVector (length (generators file.cone)) m → dense file.cols x ≡ choice_of file y →
      dense (length (generators file.cone)) m ≡ full_share_of file file.cone weights y → ShowsAbove file v x m

-- ---- Benson's program at v: no solution
-- the multipliers that show it, divided by the magnitude of the last, which is negative, are a pre-image of the direction -c; so with
-- a feasible point the image is everything
pub record BensonWhole : Type 0 where
  pub below : (file : Problem) (c v : List ℚ) (t : Bool) (y : List ℚ) → length c ≡ file.objs → length v ≡ file.objs →
      IsInfeasible (benson_system file c v t) y → value_of y <ℚ zero_ℚ
  pub recedes : (file : Problem) (c v : List ℚ) (t : Bool) (y : List ℚ) (ray : List Spot) → length c ≡ file.objs → length v ≡ file.objs →
      IsInfeasible (benson_system file c v t) y → IsVector file.cols ray → dense file.cols ray ≡ divided_by (value_of y) (choice_of file y) →
      ShowsRecession file ray
  pub above : (file : Problem) (c v : List ℚ) (t : Bool) (y : List ℚ) (ray m : List Spot) → length c ≡ file.objs → length v ≡ file.objs →
      IsInfeasible (benson_system file c v t) y → IsVector (length (generators file.cone)) m →
      dense file.cols ray ≡ divided_by (value_of y) (choice_of file y) →
      dense (length (generators file.cone)) m ≡ divided_by (value_of y) (share_of file file.cone y) → ShowsAbove file (map neg_ℚ c) ray m
  pub whole : (file : Problem) (c v : List ℚ) (t : Bool) (y : List ℚ) (x ray : List Spot) → Fits file c → length v ≡ file.objs →
      IsInfeasible (benson_system file c v t) y → IsVector file.cols x → IsFeasible file (dense file.cols x) → IsVector file.cols ray →
      dense file.cols ray ≡ divided_by (value_of y) (choice_of file y) → IsWhole file c x ray

-- ---- Benson's program at v: no bound
-- where c is interior to the cone it is bounded, at a point v if some point is feasible
pub record BensonBounded : Type 0 where
  pub direction : (file : Problem) (c v z r : List ℚ) → IsInteriorToCone file c → length v ≡ file.objs →
      IsUnbounded (benson_system file c v false) z r → ⊥
  pub point : (file : Problem) (c v z r x : List ℚ) → IsInteriorToCone file c → length v ≡ file.objs → IsFeasible file x →
      IsUnbounded (benson_system file c v true) z r → ⊥

-- ---- answers
-- w is the normal of some valid cut
abbrev pub IsCutNormal : Problem → (c w : List ℚ) → Type 0
IsCutNormal file c w = (gamma : ℚ) × (u v : List Spot) × ShowsCut file c w gamma u v

-- no file has both multipliers that show it infeasible and a feasible point, or both witnesses that
-- its image is everything and a cut
pub record AnswersExclude : Type 0 where
  pub infeasible : InfeasibleIsEmpty
  pub whole : (file : Problem) (c w : List ℚ) (x ray : List Spot) → IsWhole file c x ray → IsCutNormal file c w → ⊥
