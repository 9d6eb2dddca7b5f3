-- The tests and steps of `point`, `ray`, `whole`, `line`, `facet` and `end` entries.
use Rattle.std.specs.Prelude.{ℕ, ◌==◌, Bool, false, not, ◌&&◌, ◌||◌, nat_lt, List, [], ◌∷◌, ◌++◌, map, length, None, Some}
use Rattle.std.specs.List.{list_all, list_any}
use Rattle.exact_field.specs.Rational.{ℚ, zero_ℚ, one_ℚ, neg_ℚ}
use Rattle.exact_field.specs.Order.{same_ℚ}
use Rattle.exact_field.specs.Vector.{entry}
use Rattle.lineality.specs.Lines.{leading_place}
use Rattle.polyhedra.specs.DoubleDescription.{leading}
use Rattle.polyhedra.specs.Exactness.{level}
use Rattle.polyhedra.specs.LiveList.{Numbered}
use Rattle.log_rules.specs.Live.{State, y_of, t_of, value, find, cut_row, rows_in_use, preimages, named, contains}
use Rattle.log_rules.specs.Events.{Event}
use Rattle.log_rules.specs.Events.Event.{test}
use Rattle.log_rules.specs.VectorEvents.{in_feasible, in_recession, above}
use Rattle.frac128.specs.Sparse.{is_zero}
use Rattle.frac128.specs.declared.vectors.Spot.{Spot}
use Rattle.vlp_problem.specs.declared.problem.Problem.{Problem}
use Rattle.word_lines.specs.declared.part.EndKind.{EndKind}
use Rattle.word_lines.specs.declared.part.EndKind.TheVariants as kind
use Rattle.deriv_log.specs.declared.entry.Entry.{Entry}
use Rattle.log_rules.specs.declared.rule.Rule.TheVariants as rule
use Rattle.log_rules.specs.Order as order

-- ---- point and ray
-- the live generator number k has this t and no pre-image
abbrev pub is_open : ℕ → List Entry → List Numbered → ℕ → ℚ → Bool
is_open q before live k t =
    list_any (λ g. g.number == k && same_ℚ (t_of q g) t) live && length (preimages before k) == 0

-- the y of the live generator number k
abbrev pub y_at : ℕ → List Numbered → ℕ → List ℚ
y_at q live k = elim (find live k) [ Some g ↦ y_of q g | None ↦ [] ]

-- `point`: an open generator of height 1, a feasible x, and y above its value
abbrev pub point_events : Problem → List Entry → State → ℕ → List Spot → List Spot → List Event
point_events file before s k x m =
    test rule.Index (is_open file.objs before s.list.live k one_ℚ) ∷ in_feasible file x ++ above file (y_at file.objs s.list.live k) x m

-- `ray`: an open generator of height 0, an x in the recession cone, and y above its value
abbrev pub ray_events : Problem → List Entry → State → ℕ → List Spot → List Spot → List Event
ray_events file before s k x m =
    test rule.Index (is_open file.objs before s.list.live k zero_ℚ) ∷ in_recession file x ++ above file (y_at file.objs s.list.live k) x m

-- ---- whole and line
-- `whole`: a feasible x, and a pre-image of the direction -c
abbrev pub whole_events : Problem → List ℚ → List Spot → List Spot → List Spot → List Event
whole_events file c x ray m = in_feasible file x ++ in_recession file ray ++ above file (map neg_ℚ c) ray m

-- d goes on the reduced echelon form of the lines before it: its first entry that is not 0 is 1 and
-- stands after their places, and they are 0 at its place
abbrev pub goes_on : List (List ℚ) → List ℚ → Bool
goes_on ls d =
    same_ℚ (leading d) one_ℚ
    && list_all (λ e. nat_lt (leading_place e) (leading_place d) && is_zero (entry e (leading_place d))) ls

-- `line`: d goes on the lines before it; a feasible x, and pre-images of d and of -d
abbrev pub line_events : Problem → List (List ℚ) → List ℚ → List Spot → List Spot → List Spot → List Spot → List Spot → List Event
line_events file ls d x ray m back n =
    test rule.Length (length d == file.objs)
    ∷ test rule.Scaled (goes_on ls d)
    ∷ in_feasible file x
    ++ in_recession file ray ++ above file d ray m
    ++ in_recession file back ++ above file (map neg_ℚ d) back n

-- ---- facet and end
-- whether each live generator that is tight at row a is tight at row b
abbrev pub lies_in : List Numbered → List ℚ → List ℚ → Bool
lies_in live a b = list_all (λ g. not (is_zero (value a g)) || is_zero (value b g)) live

-- the row's tight generators do not lie in those of row 0, nor properly in those of a row in use
abbrev pub is_largest : ℕ → State → List ℚ → Bool
is_largest q s row =
    not (lies_in s.list.live row (level q))
    && list_all (λ other. not (lies_in s.list.live row other) || lies_in s.list.live other row) (rows_in_use q s)

-- the row has the tight generators of a named facet
abbrev pub is_taken : State → List ℕ → List ℚ → Bool
is_taken s names row = list_any (λ k. lies_in s.list.live row (cut_row s k) && lies_in s.list.live (cut_row s k) row) names

-- `facet`: a cut in use that is not named, with a largest tight set, which no named one has
abbrev pub facet_events : Problem → List Entry → State → ℕ → List Event
facet_events file before s cut =
    test rule.Index (contains s.used cut && not (contains (named before) cut))
    ∷ test rule.Facet (is_largest file.objs s (cut_row s cut) && not (is_taken s (named before) (cut_row s cut))) ∷ []

-- the row's tight generators lie in those of row 0 or of a named facet
abbrev pub is_accounted : ℕ → State → List ℕ → List ℚ → Bool
is_accounted q s names row = lies_in s.list.live row (level q) || list_any (λ k. lies_in s.list.live row (cut_row s k)) names

-- `end`: what an answer of the kind needs stands before it; nothing ends with `novertex`
abbrev pub end_events : Problem → List Entry → State → EndKind → List Event
end_events file before s kind.Infeasible = test rule.Missing (order.has order.farkas before) ∷ []
end_events file before s kind.Whole = test rule.Missing (order.has order.whole before) ∷ []
end_events file before s kind.NoVertex = test rule.Missing false ∷ []
end_events file before s kind.Solved =
    test rule.Missing (order.has order.start before
    && list_all (λ g. not (length (preimages before g.number) == 0)) s.list.live
    && list_all (λ k. is_accounted file.objs s (named before) (cut_row s k)) s.used) ∷ []
