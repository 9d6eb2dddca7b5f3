-- The tests and steps of all entries of a log in their order, and the first that fails.
use Rattle.std.specs.Prelude.{ℕ, suc, ◌==◌, Bool, false, List, [], ◌∷◌, ◌++◌, length, Option, None, Some}
use Rattle.exact_field.specs.Rational.{ℚ}
use Rattle.log_rules.specs.Live.{State, state, duality_vector, lines}
use Rattle.log_rules.specs.Order.{in_order}
use Rattle.log_rules.specs.Events.{Event, Failure, first_failure}
use Rattle.log_rules.specs.Events.Event.{test}
use Rattle.log_rules.specs.CutEvents.{duality_events, cut_events, farkas_events}
use Rattle.log_rules.specs.LiveEvents.{start_events, add_events}
use Rattle.log_rules.specs.AnswerEvents.{point_events, ray_events, whole_events, line_events, facet_events, end_events}
use Rattle.vlp_problem.specs.declared.problem.Problem.{Problem}
use Rattle.deriv_log.specs.declared.entry.Entry.{Entry}
use Rattle.deriv_log.specs.declared.entry.Entry.TheVariants.{Version, Duality, Cut, Start, Add, Point, Ray, Farkas, Whole, Line, Facet, End, Share, CutOf, PointOf, RayOf, AddHints}
use Rattle.log_rules.specs.declared.rule.Rule.TheVariants as rule
use Rattle.log_rules.specs.Order as order

-- ---- all kinds
-- an entry of version 2 stands in no plain log
abbrev pub never : List Event
never = test rule.Order false ∷ []

-- the tests and steps of an entry after the entries before it, after the test of its order
abbrev pub kind_events : Problem → List Entry → State → Entry → List Event
kind_events file before s (Version n) = test rule.Version (n == 1) ∷ []
kind_events file before s (Duality c weights picks inverse) = duality_events file c weights picks inverse
kind_events file before s (Cut w gamma u v) = cut_events file before w gamma u v
kind_events file before s (Start cuts point directions) = start_events file (lines before) s cuts point directions
kind_events file before s (Add cut pairs) = add_events file s cut pairs
kind_events file before s (Point k x m) = point_events file before s k x m
kind_events file before s (Ray k x m) = ray_events file before s k x m
kind_events file before s (Farkas u) = farkas_events file u
kind_events file before s (Whole x ray m) = whole_events file (duality_vector before) x ray m
kind_events file before s (Line d x ray m back n) = line_events file (lines before) d x ray m back n
kind_events file before s (Facet cut) = facet_events file before s cut
kind_events file before s (End kind) = end_events file before s kind
kind_events file before s (Share _) = never
kind_events file before s (CutOf _ _ _ _) = never
kind_events file before s (PointOf _ _ _) = never
kind_events file before s (RayOf _ _ _) = never
kind_events file before s (AddHints _ _ _) = never

-- the tests and steps of an entry after the entries before it
abbrev pub events : Problem → List Entry → Entry → List Event
events file before e = test rule.Order (in_order before (order.kind e)) ∷ kind_events file before (state file.objs before) e

-- ---- the whole log
-- a failure with the number of its entry
pub record Failing : Type 0 where
  pub entry : ℕ
  pub failure : Failure

-- the first failure of the entries, after those before them
abbrev pub first_failing : (ℚ → Bool) → Problem → List Entry → List Entry → Option Failing
first_failing holds file before [] = None
first_failing holds file before (e ∷ entries) =
    elim (first_failure holds 1 (events file before e)) [
      | Some failure ↦ Some (record { entry = suc (length before); failure = failure })
      | None ↦ first_failing holds file (before ++ e ∷ []) entries
    ]

-- the first failure of a plain log, if there is one
abbrev pub plain_failure : (ℚ → Bool) → Problem → List Entry → Option Failing
plain_failure holds file entries = first_failing holds file [] entries
