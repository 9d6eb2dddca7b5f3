-- The tests and steps of `start` and `add` entries, which make the live generators.
use Rattle.std.specs.Prelude.{ℕ, suc, ◌+◌, ◌*◌, ◌==◌, Bool, true, false, not, ◌&&◌, nat_le, if◌then◌else◌, List, [], ◌∷◌, ◌++◌, map, length, take, flat_map, zip, None, Some}
use Rattle.std.specs.List.{list_all, enumerate_from}
use Rattle.exact_field.specs.Rational.{ℚ, zero_ℚ, one_ℚ, ◌+ℚ◌, ◌*ℚ◌, ◌/ℚ◌, neg_ℚ, lt_ℚ}
use Rattle.exact_field.specs.Order.{same_ℚ}
use Rattle.exact_field.specs.Vector.{dot, entry}
use Rattle.exact_field.specs.declared.op.Op.TheVariants as op
use Rattle.lineality.specs.Lines.{leading_place}
use Rattle.polyhedra.specs.DoubleDescription.{magnitude, leading}
use Rattle.upper_image.specs.Spots.{pieces}
use Rattle.polyhedra.specs.LiveList.{Numbered}
use Rattle.log_rules.specs.Live.{Stated, State, y_of, t_of, value, find, cut_at, cut_row, rows_in_use, required_pairs, contains}
use Rattle.log_rules.specs.Events.{Event, dot_steps}
use Rattle.log_rules.specs.Events.Event.{test, step}
use Rattle.log_rules.specs.CutEvents.{rises, all_within}
use Rattle.frac128.specs.Sparse.{is_zero}
use Rattle.vlp_problem.specs.declared.problem.Problem.{Problem}
use Rattle.word_lines.specs.declared.part.LogPair.{LogPair}
use Rattle.log_rules.specs.declared.rule.Rule.TheVariants as rule

-- ---- start
-- the cut's product with each direction: positive for its own, 0 for the others
abbrev pub corner : List (List ℚ) → ℕ × Stated → List Event
corner directions cut =
    flat_map (λ d. dot_steps cut.1.w d.1
    ++ test rule.Corner (if d.0 == cut.0 then lt_ℚ zero_ℚ (dot cut.1.w d.1) else is_zero (dot cut.1.w d.1)) ∷ [])
    (enumerate_from 1 directions)

-- each vector is 0 at the place of each line
abbrev pub all_reduced : List (List ℚ) → List (List ℚ) → Bool
all_reduced ls vs = list_all (λ v. list_all (λ d. is_zero (entry v (leading_place d))) ls) vs

-- `start`: the lengths and numbers; point and directions reduced, and the directions normed; then
-- each cut tight at the point, and its products with the directions
abbrev pub start_events : Problem → List (List ℚ) → State → List ℕ → List ℚ → List ℚ → List Event
start_events file ls s cuts point directions =
    let named_cuts = map (cut_at s.cuts) cuts in
    let ds = pieces (length cuts) file.objs directions in
    test rule.Length (length cuts + length ls == file.objs && nat_le 1 (length cuts) && length point == file.objs
    && length directions == length cuts * file.objs)
    ∷ test rule.Index (rises cuts && all_within (length s.cuts) cuts)
    ∷ test rule.Corner (all_reduced ls (point ∷ ds))
    ∷ test rule.Corner (list_all (λ d. same_ℚ (magnitude (leading d)) one_ℚ) ds)
    ∷ flat_map (λ cut. dot_steps cut.w point ++ test rule.Corner (same_ℚ (dot cut.w point) cut.gamma) ∷ []) named_cuts
    ++ flat_map (corner ds) (enumerate_from 1 named_cuts)

-- ---- add
-- the value of a cut at a generator: a sum and, for a point, the difference with gamma
abbrev pub value_steps : ℕ → Stated → Numbered → List Event
value_steps q cut g =
    dot_steps cut.w (y_of q g) ++ (if is_zero (t_of q g) then [] else step op.Sub (dot cut.w (y_of q g)) cut.gamma ∷ [])

-- the same pairs in the same order
abbrev pub same_pairs : List LogPair → List LogPair → Bool
same_pairs [] [] = true
same_pairs [] (_ ∷ _) = false
same_pairs (_ ∷ _) [] = false
same_pairs (p ∷ ps) (r ∷ rs) = p.plus == r.plus && p.minus == r.minus && same_pairs ps rs

-- k times the minus entry, and then the sum with the plus entry
abbrev pub meeting_steps : ℚ → List ℚ → List ℚ → List Event
meeting_steps k plus minus = flat_map (λ e. step op.Mul k e.1 ∷ step op.Add e.0 (k *ℚ e.1) ∷ []) (zip plus minus)

-- where the row is 0 between two generators with the values a and b, before it is normed
abbrev pub meeting_point : ℚ → List ℚ → List ℚ → List ℚ
meeting_point k plus minus = map (λ e. e.0 +ℚ k *ℚ e.1) (zip plus minus)

-- the divisor that norms (y, t): t or, where that is 0, the magnitude of the first entry of y that
-- is not 0
abbrev pub divisor : ℕ → List ℚ → ℚ
divisor q z = if is_zero (entry z (suc q)) then magnitude (leading (take q z)) else entry z (suc q)

-- a new generator: the quotient k, the entries, and the quotients that norm y
abbrev pub pair_steps : ℕ → List ℚ → Numbered → Numbered → List Event
pair_steps q row plus minus =
    let k = value row plus /ℚ neg_ℚ (value row minus) in
    let z = meeting_point k plus.vector minus.vector in
    step op.Div (value row plus) (neg_ℚ (value row minus))
    ∷ meeting_steps k plus.vector minus.vector
    ++ map (λ x. step op.Div x (divisor q z)) (take q z)

-- the steps of a pair of numbers; none where they name no live generators
abbrev pub pair_of : ℕ → List ℚ → List Numbered → LogPair → List Event
pair_of q row live pair =
    elim (find live pair.plus) [
      | Some plus ↦ elim (find live pair.minus) [ Some minus ↦ pair_steps q row plus minus | None ↦ [] ]
      | None ↦ []
    ]

-- `add`: a cut that is not in use, its values at the live generators, then the pairs, and the new
-- generator of each
abbrev pub add_events : Problem → State → ℕ → List LogPair → List Event
add_events file s cut pairs =
    test rule.Index (nat_le 1 cut && nat_le cut (length s.cuts) && not (contains s.used cut))
    ∷ flat_map (value_steps file.objs (cut_at s.cuts cut)) s.list.live
    ++ test rule.Pairs (same_pairs pairs (required_pairs (rows_in_use file.objs s) s.list.live (cut_row s cut)))
    ∷ flat_map (pair_of file.objs (cut_row s cut) s.list.live) pairs
