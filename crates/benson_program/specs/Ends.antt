-- What the ends of the linear programs of the sides say of a file.
use Rattle.std.specs.Prelude.{ℕ, ◌≡◌, Bool, true, List, map, length}
use Rattle.exact_field.specs.Rational.{ℚ}
use Rattle.frac128.specs.declared.vectors.Spot.{Spot}
use Rattle.tableaux.specs.Table.{Table, System}
use Rattle.tableaux.specs.Simplex.{IsOptimal, IsInfeasible, OptimalAt, InfeasibleAt}
use Rattle.vlp_problem.specs.Sides.{IsFeasible}
use Rattle.vlp_problem.specs.declared.problem.Problem.{Problem}
use Rattle.upper_image.specs.OrderingCone.{IsInteriorToCone}
use Rattle.upper_image.specs.Spots.{dense, IsVector}
use Rattle.upper_image.specs.Witnesses as witnesses
use Rattle.deriv_log.specs.declared.licence.Place.{Place}
use Rattle.deriv_log.specs.declared.licence.Place.TheVariants.{Pivot}
use Rattle.vlp_problem.specs.declared.program.Program.TheVariants.{Feasible}
use Rattle.log_rules.specs.Meets.{MeetsFarkas}
use Rattle.lp_form.specs.Data.{IsDataOf}
use Rattle.lp_form.specs.Programs.{side_total, feasible_system, benson_system}
use Rattle.lp_form.specs.declared.data.Data.{Data}
use Rattle.overflows.specs.Base.{IsRayOff, IsBaseChoice}
use Rattle.benson_program.specs.declared.ends.FeasibleEnd.{FeasibleEnd}
use Rattle.benson_program.specs.declared.ends.FeasibleEnd.TheVariants.{Contradiction, Point}
use Rattle.benson_program.specs.declared.ends.BensonEnd.{BensonEnd}
use Rattle.benson_program.specs.declared.ends.BensonEnd.TheVariants.{Optimal, Empty}

-- the data stand for some file
abbrev pub StandForSome : {F : Type 0} → (F → ℚ) → Data F → Type 0
StandForSome value form = (file : Problem) × IsDataOf value file form

-- ---- `Feasible`
-- u, one number for each side, is a ray that is read off; as a sparse vector it meets the rules of the entry `farkas`, and shows that no
-- point is feasible
pub record IsContradiction (file : Problem) (u : List ℚ) : Type 0 where
  pub wide : length u ≡ side_total file
  pub read : IsRayOff (feasible_system file) u
  pub meets : (v : List Spot) → IsVector (side_total file) v → dense (side_total file) v ≡ u → MeetsFarkas file v
  pub shows : (v : List Spot) → IsVector (side_total file) v → dense (side_total file) v ≡ u → witnesses.IsInfeasible file v

-- multipliers that show a contradiction, or a feasible point that is a base choice
abbrev pub IsFeasibleEnd : {F : Type 0} → (F → ℚ) → Problem → FeasibleEnd F → Type 0
IsFeasibleEnd value file (Contradiction u) = IsContradiction file (map value u)
IsFeasibleEnd value file (Point x) = IsBaseChoice file (map value x)

-- a place is a pivot of the program that asks for a feasible point
pub record IsPivotOfFeasible (place : Place) : Type 0 where
  pub basis : List ℕ
  pub row : ℕ
  pub col : ℕ
  pub step : ℕ
  pub is : place ≡ Pivot Feasible basis row col step

-- ---- Benson's program
-- the data stand for some file at which c is interior to the ordering cone and which, where the start vector is a point, has a feasible
-- one: so Benson's program is bounded
pub record CanStart {F : Type 0} (value : F → ℚ) (form : Data F) (c : List ℚ) (t : Bool) : Type 0 where
  pub file : Problem
  pub stands : IsDataOf value file form
  pub interior : IsInteriorToCone file c
  pub solvable : t ≡ true → (x : List ℚ) × IsFeasible file x

-- z and the multipliers y are an optimum of the system, as it is read off its dictionary at the basis
pub record IsOptimumAt (s : System) (basis : List ℕ) (z y : List ℚ) : Type 0 where
  pub optimal : IsOptimal s z y
  pub dictionary : Table
  pub read : OptimalAt s basis dictionary z y

-- the multipliers y show that the system has no solution, as they are read off its dictionary at the basis
pub record IsEmptyAt (s : System) (basis : List ℕ) (y : List ℚ) : Type 0 where
  pub infeasible : IsInfeasible s y
  pub dictionary : Table
  pub read : InfeasibleAt s basis dictionary y

-- an optimum, or multipliers that show that there is no solution
abbrev pub IsBensonEnd : {F : Type 0} → (F → ℚ) → Problem → List ℚ → List ℚ → Bool → BensonEnd F → Type 0
IsBensonEnd value file c v t (Optimal z dual basis) = IsOptimumAt (benson_system file c v t) basis (map value z) (map value dual)
IsBensonEnd value file c v t (Empty dual basis) = IsEmptyAt (benson_system file c v t) basis (map value dual)
