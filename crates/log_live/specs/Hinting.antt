-- What an `addh` entry does to the live generators, and what it has in common with an `add` entry.
use Rattle.std.specs.Prelude.{◌≡◌, ℕ, Bool, List, [], ◌∷◌, ◌++◌, ◌&&◌, drop, if◌then◌else◌, Option, None, Some}
use Rattle.std.specs.List.{list_all, flat_map}
use Rattle.exact_field.specs.Rational.{ℚ, zero_ℚ, lt_ℚ}
use Rattle.frac128.specs.Held.{is_held}
use Rattle.polyhedra.specs.LiveList.{Numbered, LivePair}
use Rattle.vlp_problem.specs.declared.problem.Problem.{Problem}
use Rattle.word_lines.specs.declared.part.LogPair.{LogPair}
use Rattle.log_rules.specs.Events.{Event, first_failure}
use Rattle.log_rules.specs.Events.Event.{test}
use Rattle.log_rules.specs.Live.{State, value, cut_at, cut_row, required_pairs, rows_in_use}
use Rattle.log_rules.specs.LiveEvents.{pair_of, same_pairs, value_steps}
use Rattle.log_rules.specs.declared.rule.Rule.TheVariants as rule
use Rattle.log_versions.specs.Hints.{lists, named_pair, pairs_rise, unlisted, are_hints, first_cover}
use Rattle.log_versions.specs.Walk.{walk, is_next}
use Rattle.log_live.specs.Adding.{IsAddition, added_events, negatives_of}
use Rattle.log_live.specs.declared.hinting.Meeting.{Meeting}
use Rattle.log_live.specs.declared.live.Live.{Live}
use Rattle.log_live.specs.declared.telling.Telling.{Telling}

-- the test that the pairs rise and are among those that are required
abbrev pub pairs_test : ℕ → State → ℕ → List LogPair → Event
pairs_test q s cut pairs =
    test rule.Pairs (pairs_rise pairs
    && list_all (lists (required_pairs (rows_in_use q s) s.list.live (cut_row s cut))) pairs)

-- the test that each opposite pair that is not listed has its hint
abbrev pub hints_test : ℕ → State → ℕ → List LogPair → List ℕ → Event
hints_test q s cut pairs hints =
    test rule.Hint (are_hints (rows_in_use q s) s.list.live
    (unlisted s.list.live (cut_row s cut) pairs) hints)

-- the events of an `addh` entry after the test that its number is that of a cut that is not in use
abbrev pub hinted_added_events : ℕ → State → ℕ → List LogPair → List ℕ → List Event
hinted_added_events q s cut pairs hints =
    flat_map (value_steps q (cut_at s.cuts cut)) s.list.live
    ++ pairs_test q s cut pairs
    ∷ hints_test q s cut pairs hints
    ∷ flat_map (pair_of q (cut_row s cut) s.list.live) pairs

-- the same of an `add` entry or, with hints, of an `addh` entry
abbrev pub addition_events : ℕ → State → ℕ → List LogPair → Option (List ℕ) → List Event
addition_events q s cut pairs None = added_events q s cut pairs
addition_events q s cut pairs (Some hints) = hinted_added_events q s cut pairs hints

-- an addition of which no event fails
pub record PassesAddition (file : Problem) (s : State) (cut : ℕ) (w : List ℚ) (gamma : ℚ)
    (pairs : List LogPair) (live : Live) : Type 0 where
  pub addition : IsAddition file s cut w gamma live
  pub passes : first_failure is_held 1 (added_events file.objs s cut pairs) ≡ None

-- ---- its parts
-- whether the pairs rise and are among those that a row asks for
abbrev pub are_right : List (List ℚ) → List Numbered → List ℚ → List LogPair → Bool
are_right rows live row pairs =
    pairs_rise pairs && list_all (lists (required_pairs rows live row)) pairs

-- whether each opposite pair that is not listed has its hint
abbrev pub are_hinted : List (List ℚ) → List Numbered → List ℚ → List LogPair → List ℕ → Bool
are_hinted rows live row pairs hints = are_hints rows live (unlisted live row pairs) hints

-- the tests of the pairs of an addition and, where it gives them, of its hints
abbrev pub addition_tests : List (List ℚ) → List Numbered → List ℚ → List LogPair →
    Option (List ℕ) → List Event
addition_tests rows live row pairs None =
    test rule.Pairs (same_pairs pairs (required_pairs rows live row)) ∷ []
addition_tests rows live row pairs (Some hints) = test rule.Pairs (are_right rows live row pairs)
    ∷ test rule.Hint (are_hinted rows live row pairs hints) ∷ []

-- a generator with each of a list
abbrev pub pairs_beside : Numbered → List Numbered → List LivePair
pairs_beside p ms = flat_map (λ m. record { plus_side = p; minus_side = m } ∷ []) ms

-- with each at which the row is negative, if it is positive there
abbrev pub pairs_beside_at : List ℚ → List Numbered → Numbered → List LivePair
pairs_beside_at row live p =
    if lt_ℚ zero_ℚ (value row p) then pairs_beside p (negatives_of row live) else []

-- from where the one value stands, the walk along the block comes to where the other stands,
-- whatever follows; or it ends
abbrev pub Walks : List (List ℚ) → List Numbered → List LogPair → List ℕ → Meeting → Bool →
    Meeting → List LivePair → Type 0
Walks rows live pairs hints old result new block = (more : List LivePair) →
    walk rows live (block ++ more) (drop old.listed pairs) (drop old.hinted hints) old.right
    ≡ (if result
    then walk rows live more (drop new.listed pairs) (drop new.hinted hints) new.right
    else None)

-- ---- least hints
-- those of some opposite pairs, but for each that is the next listed one
abbrev pub hints_along : List (List ℚ) → List Numbered → List LivePair → List LogPair → List ℕ
hints_along rows live [] pairs = []
hints_along rows live (o ∷ opposite) pairs =
    if is_next pairs (named_pair o) then hints_along rows live opposite (drop 1 pairs)
    else first_cover rows o live ∷ hints_along rows live opposite pairs

-- the one value with the hints of the block comes to the other, whatever follows
abbrev pub Tells : List (List ℚ) → List Numbered → List LogPair → Telling → Telling →
    List LivePair → Type 0
Tells rows live pairs old new block = (more : List LivePair) →
    old.hints ++ hints_along rows live (block ++ more) (drop old.listed pairs)
    ≡ new.hints ++ hints_along rows live more (drop new.listed pairs)
