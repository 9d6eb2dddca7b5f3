-- How one entry is taken. For the clauses of the code alone.
use Rattle.std.specs.Prelude.{◌≡◌, ⊤, ℕ, IsTrue, List, [], ◌∷◌, ◌++◌, Result}
use Rattle.frac128.specs.Held.{is_held}
use Rattle.frac128.specs.declared.vectors.Spot.{Spot}
use Rattle.vlp_problem.specs.declared.problem.Problem.{Problem}
use Rattle.deriv_log.specs.declared.entry.Entry.{Entry}
use Rattle.deriv_log.specs.declared.entry.Entry.TheVariants as entry
use Rattle.log_rules.specs.Order.{Kind}
use Rattle.log_rules.specs.Runs.{Runs, steps}
use Rattle.log_rules.specs.declared.stop.Stop.{Stop}
use Rattle.log_solved.specs.Solving.{IsSolving, StandsBefore}
use Rattle.log_solved.specs.declared.shown.GenKind.{GenKind}
use Rattle.log_solved.specs.declared.shown.GenKind.TheVariants.{Point, Direction}
use Rattle.log_solved.specs.declared.solving.Solving.{Solving}
use Rattle.log_versions.specs.Plain.{plain}
use Rattle.log_versions.specs.Written.{may_follow}
use Rattle.log_versions.specs.WrittenEvents.{written_kind_events}
use Rattle.cert_check.specs.Standing.{IsKnown, FitsScale}
use Rattle.cert_check.specs.declared.known.Known.{Known}

-- this is known and stands of the entries before one whose plain entry is of this kind
pub record MayTake (file : Problem) (before : List Entry) (k : Kind) (known : Known)
    (solving : Solving) : Type 0 where
  pub knows : IsKnown file before known
  pub stands : StandsBefore file (plain before) k solving

-- the events of the entry were gone through, and then it stands after those before
abbrev pub Takes : Problem → List Entry → Entry → Solving → Result (Unit {0}) Stop → Type 0
Takes file before e solving result =
    Runs is_held (written_kind_events file before e) 0 (steps (written_kind_events file before e))
    (λ _. IsSolving file (plain (before ++ e ∷ [])) solving) result

-- the entry of a pre-image that names a shared vector
abbrev pub sharing_entry : GenKind → ℕ → ℕ → List Spot → Entry
sharing_entry Point generator share m = entry.PointOf generator share m
sharing_entry Direction generator share m = entry.RayOf generator share m

-- an entry that shows something of the problem, and one that shows directions of the image
abbrev pub IsWitness : Entry → Type 0
IsWitness (entry.Duality c weights picks inverse) = ⊤
IsWitness (entry.Point generator x m) = ⊤
IsWitness (entry.Ray generator x m) = ⊤
IsWitness (entry.Farkas u) = ⊤
IsWitness (entry.Whole x ray m) = ⊤
IsWitness (entry.Line d x ray m back n) = ⊤
IsWitness _ = ⊥

abbrev pub IsDirection : Entry → Type 0
IsDirection (entry.Whole x ray m) = ⊤
IsDirection (entry.Line d x ray m back n) = ⊤
IsDirection _ = ⊥

-- what is known of an entry that passed its tests, after entries that did
pub record IsTested (file : Problem) (before : List Entry) (e : Entry) : Type 0 where
  pub begun : plain before ≡ [] → before ≡ []
  pub order : IsTrue (may_follow before e)
  pub scale : FitsScale file e
