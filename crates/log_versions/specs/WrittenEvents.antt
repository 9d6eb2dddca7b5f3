-- The tests and steps of a log as it is written, in their order, and the first that fails.
use Rattle.std.specs.Prelude.{ℕ, suc, ◌==◌, Bool, not, ◌&&◌, ◌||◌, nat_le, List, [], ◌∷◌, ◌++◌, length, flat_map, Option, None, Some}
use Rattle.std.specs.List.{list_all}
use Rattle.exact_field.specs.Rational.{ℚ}
use Rattle.vlp_problem.specs.declared.problem.Problem.{Problem}
use Rattle.word_lines.specs.declared.part.LogPair.{LogPair}
use Rattle.deriv_log.specs.declared.entry.Entry.{Entry}
use Rattle.deriv_log.specs.declared.entry.Entry.TheVariants.{Version, Cut, Point, Ray, Share, CutOf, PointOf, RayOf, AddHints}
use Rattle.log_rules.specs.Events.{Event, test, first_failure}
use Rattle.log_rules.specs.Live.{State, state, cut_at, cut_row, rows_in_use, required_pairs, contains}
use Rattle.log_rules.specs.LiveEvents.{value_steps, pair_of}
use Rattle.log_rules.specs.LogEvents.{Failing, kind_events}
use Rattle.log_rules.specs.declared.rule.Rule.TheVariants as rule
use Rattle.log_versions.specs.Hints.{lists, pairs_rise, unlisted, are_hints}
use Rattle.log_versions.specs.Plain.{shares, shared, plain}
use Rattle.log_versions.specs.Written.{may_follow}

-- the vector is there
abbrev pub is_there : List Entry → ℕ → Event
is_there before k = test rule.Index (nat_le 1 k && nat_le k (length (shares before)))

-- the values as in `add`; then the pairs, the hints, and the new generators
abbrev pub hinted_events : Problem → State → ℕ → List LogPair → List ℕ → List Event
hinted_events file s cut pairs hints =
    let rows = rows_in_use file.objs s in
    let row = cut_row s cut in
    test rule.Index (nat_le 1 cut && nat_le cut (length s.cuts) && not (contains s.used cut))
    ∷ flat_map (value_steps file.objs (cut_at s.cuts cut)) s.list.live
    ++ test rule.Pairs
    (pairs_rise pairs && list_all (lists (required_pairs rows s.list.live row)) pairs)
    ∷ test rule.Hint (are_hints rows s.list.live (unlisted s.list.live row pairs) hints)
    ∷ flat_map (pair_of file.objs row s.list.live) pairs

-- the tests and steps of an entry after the test of its order: those of its plain entry, after the
-- plain log of those before it
abbrev pub written_kind_events : Problem → List Entry → Entry → List Event
written_kind_events file before (Version n) = test rule.Version (n == 1 || n == 2) ∷ []
written_kind_events file before (Share v) = []
written_kind_events file before (CutOf w gamma share v) =
    is_there before share ∷ kind_events file (plain before) (state file.objs (plain before))
    (Cut w gamma (shared (shares before) share) v)
written_kind_events file before (PointOf generator share m) =
    is_there before share ∷ kind_events file (plain before) (state file.objs (plain before))
    (Point generator (shared (shares before) share) m)
written_kind_events file before (RayOf generator share m) =
    is_there before share ∷ kind_events file (plain before) (state file.objs (plain before))
    (Ray generator (shared (shares before) share) m)
written_kind_events file before (AddHints cut pairs hints) =
    hinted_events file (state file.objs (plain before)) cut pairs hints
written_kind_events file before e =
    kind_events file (plain before) (state file.objs (plain before)) e

-- the tests and steps of an entry, the test of its order first
abbrev pub written_events : Problem → List Entry → Entry → List Event
written_events file before e =
    test rule.Order (may_follow before e) ∷ written_kind_events file before e

-- the first failure of the entries, after those before them
abbrev pub first_written_failing : (ℚ → Bool) → Problem → List Entry → List Entry → Option Failing
first_written_failing holds file before [] = None
first_written_failing holds file before (e ∷ entries) =
    elim (first_failure holds 1 (written_events file before e)) [
      | Some failure ↦ Some (record { entry = suc (length before); failure = failure })
      | None ↦ first_written_failing holds file (before ++ e ∷ []) entries
    ]

-- the first failure of a log, if there is one
abbrev pub log_failure : (ℚ → Bool) → Problem → List Entry → Option Failing
log_failure holds file entries = first_written_failing holds file [] entries
