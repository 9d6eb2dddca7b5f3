-- What is replied of the first columns of a problem: the projection of its feasible set on them, by
-- an answer to the associated problem.
use Rattle.std.specs.Prelude.{◌≡◌, ◌⊎◌, ℕ, Bool}
use Rattle.frac128.specs.Held.{is_held}
use Rattle.vlp_problem.specs.declared.problem.Problem.{Problem}
use Rattle.deriv_log.specs.declared.licence.Licence.{Licence}
use Rattle.projection.specs.Associated.{IsAssociated}
use Rattle.projection.specs.Found.{IsProjectionFrom}
use Rattle.projection.specs.Right.{IsRightProjection}
use Rattle.projection.specs.Text.{projection_text}
use Rattle.projection.specs.declared.found.Projection.{Projection}
use Rattle.solver.specs.Replies.{IsLogged}
use Rattle.solver.specs.Solving.{IsSolutionOf, LicensedInOrder}
use Rattle.solver.specs.declared.end.Solution.{Solution}
use Rattle.commands.specs.Replies.{TellsFault}
use Rattle.commands.specs.Told.{CanBeTold}
use Rattle.commands.specs.declared.reply.Reply.{Reply}
use Rattle.commands.specs.declared.status.Status.TheVariants.{Done, Left}

-- the text is that of a projection, which is right for the feasible set and the first k columns: it
-- is read off the answer of a solution of the associated problem, whose log, where one is wanted, is
-- written
pub record Described (k : ℕ) (file : Problem) (logs : Bool) (r : Reply) : Type 0 where
  pub status : r.status ≡ Done
  pub made : Problem
  pub associated : IsAssociated k file made
  pub solution : Solution
  pub solves : IsSolutionOf made solution
  pub found : Projection
  pub from : IsProjectionFrom k solution.answer found
  pub right : IsRightProjection file k found
  pub text : r.text ≡ projection_text k found
  pub logged : IsLogged logs made solution r.log

-- an operation whose exact result is not held is licensed for the associated problem; what its
-- licence shows is held
pub record DescriptionStopped (k : ℕ) (file : Problem) (r : Reply) : Type 0 where
  pub licence : Licence
  pub status : r.status ≡ Left licence
  pub made : Problem
  pub associated : IsAssociated k file made
  pub licensed : LicensedInOrder is_held made licence
  pub can : CanBeTold licence
  pub told : TellsFault r

-- what is replied of the first k columns, with a log or without
abbrev pub Describes : ℕ → Problem → Bool → Reply → Type 0
Describes k file logs r = Described k file logs r ⊎ DescriptionStopped k file r

-- nothing stands against a description: no overflow that can be told is licensed for the associated
-- problem
abbrev pub IsDescribable : ℕ → Problem → Type 0
IsDescribable k file = (made : Problem) → IsAssociated k file made →
    (l : Licence) → CanBeTold l → LicensedInOrder is_held made l → ⊥
