-- Points and directions: what holds of the entries of both.
use Rattle.std.proofs.Common.{ℕ, List, [], ◌∷◌, ◌++◌, ◌≤◌, IsTrue}
use Rattle.std.specs.Prelude.{Result, OnOk}
use Rattle.frac128.specs.declared.vectors.Spot.{Spot}
use Rattle.deriv_log.specs.declared.entry.Entry.{Entry}
use Rattle.deriv_log.specs.declared.entry.Entry.TheVariants as entry
use Rattle.exact_field.specs.Rational.{zero_ℚ, one_ℚ}
use Rattle.vlp_problem.specs.declared.problem.Problem.{Problem}
use Rattle.log_rules.specs.Live.{state}
use Rattle.log_rules.specs.Order.{has, in_order}
use Rattle.log_rules.specs.Order as order
use Rattle.log_rules.specs.Runs.{steps}
use Rattle.log_rules.specs.declared.stop.Stop.{Stop}
use Rattle.log_rules.proofs.Entries.{order_of}
use Rattle.entry_checks.proofs.StepBounds.{steps-feasible, steps-recession}
use Rattle.log_live.specs.Live.{IsOpenAt}
use Rattle.log_solved.specs.Shown.{entry_of, kind_of, member_events, t_of}
use Rattle.log_solved.specs.Solving.{IsSolving, StandsBefore}
use Rattle.log_solved.specs.declared.shown.GenKind.{GenKind}
use Rattle.log_solved.specs.declared.shown.GenKind.TheVariants.{Point, Direction}
use Rattle.log_solved.specs.declared.solving.Solving.{Solving}

pub steps-member : (kind : GenKind) (file : Problem) (x : List Spot) → steps (member_events kind file x) ≤ 80000000000
steps-member Point file x = steps-feasible file x
steps-member Direction file x = steps-recession file x

-- a `start` stands before both
pub started : (kind : GenKind) (before : List Entry) → IsTrue (in_order before (kind_of kind)) → IsTrue (has order.start before)
started Point before h = (order_of before order.point h).start
started Direction before h = (order_of before order.ray h).start

-- what a call gives for a point and for a direction it gives for both
pub given_by : (kind : GenKind) (file : Problem) (before : List Entry) (k : ℕ) (x m : List Spot) (old new : Solving) (place : ℕ) (result : Result (Unit {0}) Stop) →
    (StandsBefore file before order.point old → IsOpenAt file.objs before (state file.objs before) k one_ℚ old.live place →
    OnOk result (IsSolving file (before ++ entry.Point k x m ∷ []) new)) →
    (StandsBefore file before order.ray old → IsOpenAt file.objs before (state file.objs before) k zero_ℚ old.live place →
    OnOk result (IsSolving file (before ++ entry.Ray k x m ∷ []) new)) →
    StandsBefore file before (kind_of kind) old → IsOpenAt file.objs before (state file.objs before) k (t_of kind) old.live place →
    OnOk result (IsSolving file (before ++ entry_of kind k x m ∷ []) new)
given_by Point file before k x m old new place result p r = p
given_by Direction file before k x m old new place result p r = r
