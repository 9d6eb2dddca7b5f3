-- The parts of a join: whether they have feasible vectors.
use Rattle.std.specs.Prelude.{◌≡◌, Bool, true, List, if◌then◌else◌}
use Rattle.frac128.specs.Held.{is_held}
use Rattle.frac128.specs.declared.vectors.Spot.{Spot}
use Rattle.vlp_problem.specs.declared.problem.Problem.{Problem}
use Rattle.upper_image.specs.Witnesses.{IsInfeasible}
use Rattle.deriv_log.specs.declared.licence.Licence.{Licence}
use Rattle.benson_program.specs.Ends.{IsPivotOfFeasible}
use Rattle.overflows.specs.Licence.{LicensedWithout}
use Rattle.poly_calc.specs.Sets.{HasFeasible}
use Rattle.commands.specs.Replies.{TellsFault}
use Rattle.commands.specs.Told.{CanBeTold}
use Rattle.commands.specs.declared.reply.Reply.{Reply}
use Rattle.commands.specs.declared.status.Status.TheVariants.{EmptyPart, Left}

-- the second part, or the first
abbrev pub part_of : Bool → Problem → Problem → Problem
part_of second a b = if second then b else a

-- the second part is asked only where the first has a feasible vector
abbrev pub IsReached : Bool → Problem → Type 0
IsReached second a = second ≡ true → HasFeasible a

-- a part has no feasible vector, which these multipliers of its sides show
pub record EmptyTold (second : Bool) (part : Problem) (r : Reply) : Type 0 where
  pub u : List Spot
  pub status : r.status ≡ EmptyPart second u
  pub shown : IsInfeasible part u
  pub told : TellsFault r

-- a pivot of the program that asks it has a result that is not held, and is licensed for this part;
-- what its licence shows is held
pub record StopTold (part : Problem) (r : Reply) : Type 0 where
  pub licence : Licence
  pub status : r.status ≡ Left licence
  pub place : IsPivotOfFeasible licence.place
  pub licensed : LicensedWithout is_held part licence
  pub can : CanBeTold licence
  pub told : TellsFault r

-- one of the parts that are asked has no feasible vector
pub record PartIsEmpty (a b : Problem) (r : Reply) : Type 0 where
  pub second : Bool
  pub reached : IsReached second a
  pub empty : EmptyTold second (part_of second a b) r

-- of one of them it is not decided
pub record PartStopped (a b : Problem) (r : Reply) : Type 0 where
  pub second : Bool
  pub reached : IsReached second a
  pub stopped : StopTold (part_of second a b) r

-- both have one
pub record BothAreFeasible (a b : Problem) : Type 0 where
  pub first : HasFeasible a
  pub second : HasFeasible b

-- no overflow of the question that can be told is licensed
abbrev pub IsAskable : Problem → Type 0
IsAskable file = (l : Licence) → IsPivotOfFeasible l.place → CanBeTold l →
    LicensedWithout is_held file l → ⊥
