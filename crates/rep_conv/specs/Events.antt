-- The tests and steps of a conversion in their order, and the first that fails.
use Rattle.std.specs.Prelude.{◌≡◌, ℕ, suc, ◌+◌, ◌*◌, ◌==◌, Bool, not, ◌&&◌, nat_lt, IsTrue, List, [], ◌∷◌, ◌++◌, map, length, All, Option, None, Some}
use Rattle.std.specs.List.{flat_map, list_all, enumerate_from, range_with_len}
use Rattle.exact_field.specs.Field.{exact}
use Rattle.exact_field.specs.Rational.{ℚ, one_ℚ, ◌/ℚ◌, neg_ℚ}
use Rattle.exact_field.specs.Order.{same_ℚ}
use Rattle.exact_field.specs.Vector.{dot, entry}
use Rattle.exact_field.specs.declared.op.Op.TheVariants as op
use Rattle.frac128.specs.Sparse.{is_zero}
use Rattle.lineality.specs.Lines.{leading_place}
use Rattle.polyhedra.specs.DoubleDescription.{magnitude, norming}
use Rattle.polyhedra.specs.LiveList.{Numbered}
use Rattle.upper_image.specs.Spots.{pieces}
use Rattle.log_rules.specs.AnswerEvents.{goes_on}
use Rattle.log_rules.specs.CutEvents.{rises}
use Rattle.log_rules.specs.Events.{Event, first_failure, dot_steps}
use Rattle.log_rules.specs.Events.Event.{test, step}
use Rattle.log_rules.specs.Live.{value, find, contains, required_pairs}
use Rattle.log_rules.specs.LiveEvents.{same_pairs, meeting_steps, meeting_point}
use Rattle.log_rules.specs.LogEvents.{Failing}
use Rattle.word_lines.specs.declared.part.LogPair.{LogPair}
use Rattle.log_rules.specs.declared.rule.Rule.TheVariants as rule
use Rattle.entry_checks.specs.Parts.{corner_events}
use Rattle.rep_conv.specs.Rows.{text_rows, row_at, has_rows}
use Rattle.rep_conv.specs.Live.{State, state, rows_in_use}
use Rattle.rep_conv.specs.Meets.{in_order}
use Rattle.rep_text.specs.declared.rep.Rep.{Rep}
use Rattle.rep_text.specs.declared.conv.ConvEntry.{ConvEntry}
use Rattle.rep_text.specs.declared.conv.ConvEntry.TheVariants.{Conv, Line, Start, Add, End}

-- ---- line: its form, and then the rows in turn
-- a row, at which d must be tight
abbrev pub tight_events : List ℚ → List ℚ → List Event
tight_events d r = dot_steps r d ++ test rule.Corner (is_zero (dot r d)) ∷ []

-- `line`: the length, that d goes on the lines before it, and then each row
abbrev pub line_events : Rep → List (List ℚ) → List ℚ → List Event
line_events rep lines d =
    test rule.Length (length d == suc rep.width)
    ∷ test rule.Scaled (goes_on lines d)
    ∷ flat_map (tight_events d) (text_rows rep)

-- ---- start: of each generator in turn, that it is reduced and normed, and then the rows in turn
-- whether a generator is reduced by the lines, and normed
abbrev pub is_first : List (List ℚ) → List ℚ → Bool
is_first lines g =
    list_all (λ l. is_zero (entry g (leading_place l))) lines && same_ℚ (magnitude (norming g)) one_ℚ

-- of each row in turn, that it is positive at its own generator, and 0 at the others
abbrev pub corners_events : Rep → ℕ × List ℚ → List ℕ → List Event
corners_events rep g rows =
    flat_map (λ row. corner_events (row_at rep row.1) (row.0 == g.0) g.1) (enumerate_from 1 rows)

-- a generator with its number, counted from 1
abbrev pub generator_events : Rep → List (List ℚ) → List ℕ → ℕ × List ℚ → List Event
generator_events rep lines rows g =
    test rule.Corner (is_first lines g.1) ∷ corners_events rep g rows

-- each number is less than n
abbrev pub all_below : ℕ → List ℕ → Bool
all_below n ks = list_all (λ k. nat_lt k n) ks

-- `start`: the lengths, the numbers of the rows, and then each generator
abbrev pub start_events : Rep → List (List ℚ) → List ℕ → List ℚ → List Event
start_events rep lines rows gens =
    test rule.Length (length rows + length lines == suc rep.width
    && length gens == length rows * suc rep.width)
    ∷ test rule.Index (rises rows && all_below (length (text_rows rep)) rows)
    ∷ flat_map (generator_events rep lines rows)
    (enumerate_from 1 (pieces (length rows) (suc rep.width) gens))

-- ---- add: all values, the test of the pairs, and then the new generators
-- each entry divided by the magnitude that norms the vector
abbrev pub quotient_steps : List ℚ → List Event
quotient_steps z = map (λ x. step op.Div x (magnitude (norming z))) z

-- the new generator of a pair: the quotient of both values, the meeting point, and its norming
abbrev pub pair_steps : List ℚ → Numbered → Numbered → List Event
pair_steps row plus minus =
    let k = value row plus /ℚ neg_ℚ (value row minus) in
    step op.Div (value row plus) (neg_ℚ (value row minus))
    ∷ meeting_steps k plus.vector minus.vector
    ++ quotient_steps (meeting_point k plus.vector minus.vector)

-- the steps of a pair of numbers; none where they name no live generators
abbrev pub pair_of : List ℚ → List Numbered → LogPair → List Event
pair_of row live pair =
    elim (find live pair.plus) [
      | Some plus ↦ elim (find live pair.minus) [
        | Some minus ↦ pair_steps row plus minus
        | None ↦ []
      ]
      | None ↦ []
    ]

-- after the test of the row's number
abbrev pub added_events : List (List ℚ) → List Numbered → List ℚ → List LogPair → List Event
added_events rows live row pairs =
    flat_map (λ g. dot_steps row g.vector) live
    ++ test rule.Pairs (same_pairs pairs (required_pairs rows live row))
    ∷ flat_map (pair_of row live) pairs

-- `add`: a row that is not in use, and then these
abbrev pub add_events : Rep → State → ℕ → List LogPair → List Event
add_events rep s row pairs =
    test rule.Index (nat_lt row (length (text_rows rep)) && not (contains s.used row))
    ∷ added_events (rows_in_use rep s) s.list.live (row_at rep row) pairs

-- ---- end
-- each row is in use
abbrev pub all_used : Rep → State → Bool
all_used rep s = list_all (contains s.used) (range_with_len 0 (length (text_rows rep)))

-- ---- all kinds
-- the tests and steps of an entry after the test of its order
abbrev pub kind_events : Rep → State → ConvEntry → List Event
kind_events rep s (Conv n) = test rule.Version (n == 1) ∷ []
kind_events rep s (Line d) = line_events rep s.lines d
kind_events rep s (Start rows gens) = start_events rep s.lines rows gens
kind_events rep s (Add row pairs) = add_events rep s row pairs
kind_events rep s End = test rule.Missing (all_used rep s) ∷ []

-- the tests and steps of an entry, the test of its order first
abbrev pub events : Rep → List ConvEntry → ConvEntry → List Event
events rep before e =
    test rule.Order (in_order (has_rows rep) before e) ∷ kind_events rep (state rep before) e

-- ---- the whole log
-- the first failure of some entries, after those before them
abbrev pub first_failing : (ℚ → Bool) → Rep → List ConvEntry → List ConvEntry → Option Failing
first_failing holds rep before [] = None
first_failing holds rep before (e ∷ entries) =
    elim (first_failure holds 1 (events rep before e)) [
      | Some failure ↦ Some (record { entry = suc (length before); failure = failure })
      | None ↦ first_failing holds rep (before ++ e ∷ []) entries
    ]

-- the first failure of the log of a conversion, if there is one
abbrev pub conv_failure : (ℚ → Bool) → Rep → List ConvEntry → Option Failing
conv_failure holds rep entries = first_failing holds rep [] entries

-- ---- steps that are held
-- the result of a step is held
abbrev pub IsHeldStep : (ℚ → Bool) → Event → Type 0
IsHeldStep holds (test r passed) = Unit {0}
IsHeldStep holds (step o a b) = IsTrue (holds (exact o a b))

-- the result of each step of each entry is held
abbrev pub AllHeld : (ℚ → Bool) → Rep → List ConvEntry → Type 0
AllHeld holds rep entries = (before : List ConvEntry) (e : ConvEntry) (after : List ConvEntry) →
    entries ≡ before ++ e ∷ after → All (IsHeldStep holds) (events rep before e)
