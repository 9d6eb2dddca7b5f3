-- The worked logs, computed.
use Rattle.std.proofs.Common.{◌≡◌, List, [], ◌∷◌, ◌++◌, refl, arith, pos, true, None, Some, map, IsTrue, ◌&&◌, Bool, All, length, ◌≤◌, ◌<◌}
use Rattle.std.specs.List.{list_all}
use Rattle.std.proofs.lemmas.List.Elements.{All-nil, All-cons, Contains-push}
use Rattle.exact_field.specs.Gcd.{gcd}
use Rattle.exact_field.specs.Rational.{ℚ, zero_ℚ, one_ℚ, whole, fraction, ◌+ℚ◌, ◌*ℚ◌, neg_ℚ, inverse_ℚ, le_ℚ}
use Rattle.frac128.specs.Held.{is_held}
use Rattle.vlp_problem.specs.declared.problem.Problem.{Problem}
use Rattle.vlp_problem.specs.declared.problem.Bound.TheVariants.{Unsaid, Lower}
use Rattle.vlp_problem.specs.Cells.{are_cells}
use Rattle.vlp_problem.specs.Cones.{cone_fits, duality_fits}
use Rattle.deriv_log.specs.Formed.{is_formed}
use Rattle.word_lines.specs.declared.part.EndKind.TheVariants as kind
use Rattle.deriv_log.specs.declared.entry.Entry.{Entry}
use Rattle.deriv_log.specs.declared.entry.Entry.TheVariants as entry
use Rattle.polyhedra.proofs.Members.{pairs-nil, pairs-cons}
use Rattle.polyhedra.proofs.Tests.{both_true}
use Rattle.log_rules.specs.LogEvents.{plain_failure}
use Rattle.log_rules.specs.Examples.{n, wide, Parts, Says, Fails, small, small_cuts, small_front, last_ray, solved_end, large, large_log, plain, line_file, the_line, line_end, line_log, line_first_log, line_cuts, line_above, line_add_log, line_below, LineBelow, half_space, first_line, second_line, mixed_line, half_space_log, wide_cone, cone_log, cone_alone, cone_alone_log, dual_cone, dual_log, one, whole_log, bounded_log, empty, farkas_log, largest, largest_front, largest_log, LargestLog, WorkedLogs, pair}
use Rattle.log_rules.specs.Live.{duality_vector}
use Rattle.log_rules.specs.ReportExamples.{line_answer}
use Rattle.log_rules.specs.Proves.{PlainProves, live_at, named_facets}
use Rattle.log_rules.specs.Right.{Rise, is_before, key, stated}
use Rattle.log_rules.proofs.LogMeets.{events_give_meets}
use Rattle.log_rules.specs.declared.answer.Answer.TheVariants.{Solved}
use Rattle.log_rules.specs.declared.answer.Gen.{Gen}
use Rattle.log_rules.specs.declared.answer.Facet.{Facet}

-- ---- the files
-- a file of these parts, from what a problem keeps
pub record IsProblem (p : Parts) : Type 0 where
  pub rows_bounded : length p.row_bounds ≤ 100000
  pub some_column : 0 < length p.col_bounds
  pub cols_bounded : length p.col_bounds ≤ 100000
  pub some_objective : 0 < p.objs
  pub objs_bounded : p.objs ≤ 100000
  pub a_cells : IsTrue (are_cells (length p.row_bounds) (length p.col_bounds) p.a)
  pub o_cells : IsTrue (are_cells p.objs (length p.col_bounds) p.o)
  pub cone_vectors : IsTrue (cone_fits p.objs p.cone)
  pub duality_entries : IsTrue (duality_fits p.objs p.duality)

abbrev pub file_of : (p : Parts) → IsProblem p → Problem
file_of p h = record {
  dir = p.dir;
  rows = length p.row_bounds;
  cols = length p.col_bounds;
  objs = p.objs;
  a = p.a;
  o = p.o;
  row_bounds = p.row_bounds;
  col_bounds = p.col_bounds;
  cone = p.cone;
  duality = p.duality;
  rows_bounded = h.rows_bounded;
  some_column = h.some_column;
  cols_bounded = h.cols_bounded;
  some_objective = h.some_objective;
  objs_bounded = h.objs_bounded;
  a_cells = h.a_cells;
  o_cells = h.o_cells;
  row_count = refl;
  col_count = refl;
  cone_vectors = h.cone_vectors;
  duality_entries = h.duality_entries;
}

pub file_says : (p : Parts) (h : IsProblem p) → Says (file_of p h) p
file_says p h = record {
  dir = refl;
  rows = refl;
  cols = refl;
  objs = refl;
  a = refl;
  o = refl;
  row_bounds = refl;
  col_bounds = refl;
  cone = refl;
  duality = refl;
}

unfoldable pub small_kept : IsProblem small
unfolding whole fraction gcd
small_kept = record {
  rows_bounded = omega arith;
  some_column = omega arith;
  cols_bounded = omega arith;
  some_objective = omega arith;
  objs_bounded = omega arith;
  a_cells = refl;
  o_cells = refl;
  cone_vectors = refl;
  duality_entries = refl;
}

large_kept : IsProblem large
unfolding whole fraction gcd
large_kept = record {
  rows_bounded = omega arith;
  some_column = omega arith;
  cols_bounded = omega arith;
  some_objective = omega arith;
  objs_bounded = omega arith;
  a_cells = refl;
  o_cells = refl;
  cone_vectors = refl;
  duality_entries = refl;
}

unfoldable pub line_kept : IsProblem line_file
unfolding whole fraction gcd
line_kept = record {
  rows_bounded = omega arith;
  some_column = omega arith;
  cols_bounded = omega arith;
  some_objective = omega arith;
  objs_bounded = omega arith;
  a_cells = refl;
  o_cells = refl;
  cone_vectors = refl;
  duality_entries = refl;
}

line_above_kept : IsProblem line_above
unfolding whole fraction gcd
line_above_kept = record {
  rows_bounded = omega arith;
  some_column = omega arith;
  cols_bounded = omega arith;
  some_objective = omega arith;
  objs_bounded = omega arith;
  a_cells = refl;
  o_cells = refl;
  cone_vectors = refl;
  duality_entries = refl;
}

line_below_kept : IsProblem line_below
unfolding whole fraction gcd
line_below_kept = record {
  rows_bounded = omega arith;
  some_column = omega arith;
  cols_bounded = omega arith;
  some_objective = omega arith;
  objs_bounded = omega arith;
  a_cells = refl;
  o_cells = refl;
  cone_vectors = refl;
  duality_entries = refl;
}

half_space_kept : IsProblem half_space
unfolding whole fraction gcd
half_space_kept = record {
  rows_bounded = omega arith;
  some_column = omega arith;
  cols_bounded = omega arith;
  some_objective = omega arith;
  objs_bounded = omega arith;
  a_cells = refl;
  o_cells = refl;
  cone_vectors = refl;
  duality_entries = refl;
}

cone_kept : IsProblem (plain wide_cone (Some (n 2 ∷ n 2 ∷ [])) (Lower (n 0) ∷ Lower (n 0) ∷ []))
unfolding whole fraction gcd
cone_kept = record {
  rows_bounded = omega arith;
  some_column = omega arith;
  cols_bounded = omega arith;
  some_objective = omega arith;
  objs_bounded = omega arith;
  a_cells = refl;
  o_cells = refl;
  cone_vectors = refl;
  duality_entries = refl;
}

cone_alone_kept : IsProblem cone_alone
unfolding whole fraction gcd
cone_alone_kept = record {
  rows_bounded = omega arith;
  some_column = omega arith;
  cols_bounded = omega arith;
  some_objective = omega arith;
  objs_bounded = omega arith;
  a_cells = refl;
  o_cells = refl;
  cone_vectors = refl;
  duality_entries = refl;
}

dual_kept : IsProblem (plain dual_cone None (Lower (n 0) ∷ Lower (n 0) ∷ []))
unfolding whole fraction gcd
dual_kept = record {
  rows_bounded = omega arith;
  some_column = omega arith;
  cols_bounded = omega arith;
  some_objective = omega arith;
  objs_bounded = omega arith;
  a_cells = refl;
  o_cells = refl;
  cone_vectors = refl;
  duality_entries = refl;
}

unfoldable pub free_kept : IsProblem (one Unsaid)
unfolding whole fraction gcd
free_kept = record {
  rows_bounded = omega arith;
  some_column = omega arith;
  cols_bounded = omega arith;
  some_objective = omega arith;
  objs_bounded = omega arith;
  a_cells = refl;
  o_cells = refl;
  cone_vectors = refl;
  duality_entries = refl;
}

unfoldable pub bounded_kept : IsProblem (one (Lower (fraction (pos 3) 2)))
unfolding whole fraction gcd
bounded_kept = record {
  rows_bounded = omega arith;
  some_column = omega arith;
  cols_bounded = omega arith;
  some_objective = omega arith;
  objs_bounded = omega arith;
  a_cells = refl;
  o_cells = refl;
  cone_vectors = refl;
  duality_entries = refl;
}

unfoldable pub empty_kept : IsProblem empty
unfolding whole fraction gcd
empty_kept = record {
  rows_bounded = omega arith;
  some_column = omega arith;
  cols_bounded = omega arith;
  some_objective = omega arith;
  objs_bounded = omega arith;
  a_cells = refl;
  o_cells = refl;
  cone_vectors = refl;
  duality_entries = refl;
}

unfoldable pub largest_kept : IsProblem largest
unfolding whole fraction gcd
largest_kept = record {
  rows_bounded = omega arith;
  some_column = omega arith;
  cols_bounded = omega arith;
  some_objective = omega arith;
  objs_bounded = omega arith;
  a_cells = refl;
  o_cells = refl;
  cone_vectors = refl;
  duality_entries = refl;
}

-- ---- the logs
small_solved : Fails small (small_front ++ last_ray ∷ entry.Facet 1 ∷ entry.Facet 2 ∷ entry.Facet 3 ∷ solved_end) ([])
unfolding small_kept whole fraction ◌+ℚ◌ ◌*ℚ◌ neg_ℚ inverse_ℚ le_ℚ gcd
small_solved = record { file = file_of small small_kept; says = file_says small small_kept; first = refl }

small_bound : Fails small (small_cuts (n 4) ++ solved_end) (6 ∷ 0 ∷ 10 ∷ [])
unfolding small_kept whole fraction ◌+ℚ◌ ◌*ℚ◌ neg_ℚ inverse_ℚ le_ℚ gcd
small_bound = record { file = file_of small small_kept; says = file_says small small_kept; first = refl }

small_left_out : Fails small (small_cuts (n 3) ++ entry.Add 3 (pair 2 1 ∷ []) ∷ solved_end) (7 ∷ 0 ∷ 13 ∷ [])
unfolding small_kept whole fraction ◌+ℚ◌ ◌*ℚ◌ neg_ℚ inverse_ℚ le_ℚ gcd
small_left_out = record { file = file_of small small_kept; says = file_says small small_kept; first = refl }

small_no_ray : Fails small (small_front ++ entry.Facet 1 ∷ entry.Facet 2 ∷ entry.Facet 3 ∷ solved_end) (14 ∷ 0 ∷ 15 ∷ [])
unfolding small_kept whole fraction ◌+ℚ◌ ◌*ℚ◌ neg_ℚ inverse_ℚ le_ℚ gcd
small_no_ray = record { file = file_of small small_kept; says = file_says small small_kept; first = refl }

small_no_facet : Fails small (small_front ++ last_ray ∷ entry.Facet 1 ∷ entry.Facet 2 ∷ solved_end) (14 ∷ 0 ∷ 15 ∷ [])
unfolding small_kept whole fraction ◌+ℚ◌ ◌*ℚ◌ neg_ℚ inverse_ℚ le_ℚ gcd
small_no_facet = record { file = file_of small small_kept; says = file_says small small_kept; first = refl }

small_add_last : Fails small (small_front ++ entry.Facet 1 ∷ entry.Add 1 [] ∷ solved_end) (12 ∷ 0 ∷ 2 ∷ [])
unfolding small_kept whole fraction ◌+ℚ◌ ◌*ℚ◌ neg_ℚ inverse_ℚ le_ℚ gcd
small_add_last = record { file = file_of small small_kept; says = file_says small small_kept; first = refl }

overflow : Fails large (large_log) (3 ∷ 1 ∷ 11 ∷ wide ∷ wide ∷ [])
unfolding large_kept whole fraction ◌+ℚ◌ ◌*ℚ◌ neg_ℚ inverse_ℚ le_ℚ gcd
overflow = record { file = file_of large large_kept; says = file_says large large_kept; first = refl }

has_line : Fails line_file (line_log) ([])
unfolding line_kept whole fraction ◌+ℚ◌ ◌*ℚ◌ neg_ℚ inverse_ℚ le_ℚ gcd
has_line = record { file = file_of line_file line_kept; says = file_says line_file line_kept; first = refl }

line_first : Fails line_file (line_first_log) ([])
unfolding line_kept whole fraction ◌+ℚ◌ ◌*ℚ◌ neg_ℚ inverse_ℚ le_ℚ gcd
line_first = record { file = file_of line_file line_kept; says = file_says line_file line_kept; first = refl }

way_not_reduced : Fails line_file (line_cuts ++ the_line ∷ line_end (n 0 ∷ n 0 ∷ []) (n 1 ∷ n 1 ∷ [])) (5 ∷ 0 ∷ 12 ∷ [])
unfolding line_kept whole fraction ◌+ℚ◌ ◌*ℚ◌ neg_ℚ inverse_ℚ le_ℚ gcd
way_not_reduced = record { file = file_of line_file line_kept; says = file_says line_file line_kept; first = refl }

point_not_reduced : Fails line_file (line_cuts ++ the_line ∷ line_end (n 1 ∷ n 0 ∷ []) (n 0 ∷ n 1 ∷ [])) (5 ∷ 0 ∷ 12 ∷ [])
unfolding line_kept whole fraction ◌+ℚ◌ ◌*ℚ◌ neg_ℚ inverse_ℚ le_ℚ gcd
point_not_reduced = record { file = file_of line_file line_kept; says = file_says line_file line_kept; first = refl }

line_twice : Fails line_file (line_cuts ++ the_line ∷ the_line ∷ solved_end) (5 ∷ 0 ∷ 5 ∷ [])
unfolding line_kept whole fraction ◌+ℚ◌ ◌*ℚ◌ neg_ℚ inverse_ℚ le_ℚ gcd
line_twice = record { file = file_of line_file line_kept; says = file_says line_file line_kept; first = refl }

line_late : Fails line_file (line_log ++ the_line ∷ []) (10 ∷ 0 ∷ 2 ∷ [])
unfolding line_kept whole fraction ◌+ℚ◌ ◌*ℚ◌ neg_ℚ inverse_ℚ le_ℚ gcd
line_late = record { file = file_of line_file line_kept; says = file_says line_file line_kept; first = refl }

no_vertex : Fails line_file (line_cuts ++ the_line ∷ entry.End kind.NoVertex ∷ []) (5 ∷ 0 ∷ 15 ∷ [])
unfolding line_kept whole fraction ◌+ℚ◌ ◌*ℚ◌ neg_ℚ inverse_ℚ le_ℚ gcd
no_vertex = record { file = file_of line_file line_kept; says = file_says line_file line_kept; first = refl }

line_added : Fails line_above (line_add_log (pair 2 1 ∷ [])) ([])
unfolding line_above_kept whole fraction ◌+ℚ◌ ◌*ℚ◌ neg_ℚ inverse_ℚ le_ℚ gcd
line_added = record { file = file_of line_above line_above_kept; says = file_says line_above line_above_kept; first = refl }

line_left_out : Fails line_above (line_add_log []) (7 ∷ 0 ∷ 13 ∷ [])
unfolding line_above_kept whole fraction ◌+ℚ◌ ◌*ℚ◌ neg_ℚ inverse_ℚ le_ℚ gcd
line_left_out = record { file = file_of line_above line_above_kept; says = file_says line_above line_above_kept; first = refl }

two_lines : Fails half_space (half_space_log first_line second_line) ([])
unfolding half_space_kept whole fraction ◌+ℚ◌ ◌*ℚ◌ neg_ℚ inverse_ℚ le_ℚ gcd
two_lines = record { file = file_of half_space half_space_kept; says = file_says half_space half_space_kept; first = refl }

mixed : Fails half_space (half_space_log mixed_line second_line) (5 ∷ 0 ∷ 5 ∷ [])
unfolding half_space_kept whole fraction ◌+ℚ◌ ◌*ℚ◌ neg_ℚ inverse_ℚ le_ℚ gcd
mixed = record { file = file_of half_space half_space_kept; says = file_says half_space half_space_kept; first = refl }

falling : Fails half_space (half_space_log second_line first_line) (5 ∷ 0 ∷ 5 ∷ [])
unfolding half_space_kept whole fraction ◌+ℚ◌ ◌*ℚ◌ neg_ℚ inverse_ℚ le_ℚ gcd
falling = record { file = file_of half_space half_space_kept; says = file_says half_space half_space_kept; first = refl }

by_generators : Fails (plain wide_cone (Some (n 2 ∷ n 2 ∷ [])) (Lower (n 0) ∷ Lower (n 0) ∷ [])) (cone_log) (7 ∷ 0 ∷ 9 ∷ [])
unfolding cone_kept whole fraction ◌+ℚ◌ ◌*ℚ◌ neg_ℚ inverse_ℚ le_ℚ gcd
by_generators = record { file = file_of (plain wide_cone (Some (n 2 ∷ n 2 ∷ [])) (Lower (n 0) ∷ Lower (n 0) ∷ [])) cone_kept; says = file_says (plain wide_cone (Some (n 2 ∷ n 2 ∷ [])) (Lower (n 0) ∷ Lower (n 0) ∷ [])) cone_kept; first = refl }

generators : Fails cone_alone cone_alone_log ([])
unfolding cone_alone_kept whole fraction ◌+ℚ◌ ◌*ℚ◌ neg_ℚ inverse_ℚ le_ℚ gcd
generators = record { file = file_of cone_alone cone_alone_kept; says = file_says cone_alone cone_alone_kept; first = refl }

by_rows : Fails (plain dual_cone None (Lower (n 0) ∷ Lower (n 0) ∷ [])) (dual_log) ([])
unfolding dual_kept whole fraction ◌+ℚ◌ ◌*ℚ◌ neg_ℚ inverse_ℚ le_ℚ gcd
by_rows = record { file = file_of (plain dual_cone None (Lower (n 0) ∷ Lower (n 0) ∷ [])) dual_kept; says = file_says (plain dual_cone None (Lower (n 0) ∷ Lower (n 0) ∷ [])) dual_kept; first = refl }

everything : Fails (one Unsaid) (whole_log) ([])
unfolding free_kept whole fraction ◌+ℚ◌ ◌*ℚ◌ neg_ℚ inverse_ℚ le_ℚ gcd
everything = record { file = file_of (one Unsaid) free_kept; says = file_says (one Unsaid) free_kept; first = refl }

bounded : Fails (one (Lower (fraction (pos 3) 2))) (bounded_log (fraction (pos 3) 2)) ([])
unfolding bounded_kept whole fraction ◌+ℚ◌ ◌*ℚ◌ neg_ℚ inverse_ℚ le_ℚ gcd
bounded = record { file = file_of (one (Lower (fraction (pos 3) 2))) bounded_kept; says = file_says (one (Lower (fraction (pos 3) 2))) bounded_kept; first = refl }

no_solution : Fails empty (farkas_log (n 1)) ([])
unfolding empty_kept whole fraction ◌+ℚ◌ ◌*ℚ◌ neg_ℚ inverse_ℚ le_ℚ gcd
no_solution = record { file = file_of empty empty_kept; says = file_says empty empty_kept; first = refl }

unbalanced : Fails empty (farkas_log (n 2)) (2 ∷ 0 ∷ 8 ∷ [])
unfolding empty_kept whole fraction ◌+ℚ◌ ◌*ℚ◌ neg_ℚ inverse_ℚ le_ℚ gcd
unbalanced = record { file = file_of empty empty_kept; says = file_says empty empty_kept; first = refl }

cut_first : Fails (one Unsaid) (entry.Version 1 ∷ entry.Cut [] (n 0) [] [] ∷ entry.End kind.Whole ∷ []) (2 ∷ 0 ∷ 2 ∷ [])
unfolding free_kept whole fraction ◌+ℚ◌ ◌*ℚ◌ neg_ℚ inverse_ℚ le_ℚ gcd
cut_first = record { file = file_of (one Unsaid) free_kept; says = file_says (one Unsaid) free_kept; first = refl }

second_version : Fails (one Unsaid) (entry.Version 1 ∷ entry.Version 1 ∷ []) (2 ∷ 0 ∷ 2 ∷ [])
unfolding free_kept whole fraction ◌+ℚ◌ ◌*ℚ◌ neg_ℚ inverse_ℚ le_ℚ gcd
second_version = record { file = file_of (one Unsaid) free_kept; says = file_says (one Unsaid) free_kept; first = refl }

end_first : Fails (one Unsaid) (entry.End kind.Whole ∷ []) (1 ∷ 0 ∷ 2 ∷ [])
unfolding free_kept whole fraction ◌+ℚ◌ ◌*ℚ◌ neg_ℚ inverse_ℚ le_ℚ gcd
end_first = record { file = file_of (one Unsaid) free_kept; says = file_says (one Unsaid) free_kept; first = refl }

-- ---- the log that maximises
abbrev largest_file : Problem
largest_file = file_of largest largest_kept

all_by_test : {X : Type 0} (P : X → Type 0) (test : X → Bool) → ((x : X) → test x ≡ true → P x) → (xs : List X) → list_all test xs ≡ true → All P xs
all_by_test P test says [] h = All-nil P
all_by_test P test says (x ∷ xs) h =
    let b = both_true (test x) (list_all test xs) h in
    All-cons P x xs (says x b.0) (all_by_test P test says xs b.1)

rising : List (List ℚ) → Bool
rising [] = true
rising (v ∷ vs) = list_all (is_before v) vs && rising vs

rise_by_test : (vs : List (List ℚ)) → rising vs ≡ true → Rise vs
unfolding rising
rise_by_test [] h = pairs-nil (λ u v. IsTrue (is_before u v))
rise_by_test (v ∷ vs) h =
    let b = both_true (list_all (is_before v) vs) (rising vs) h in
    pairs-cons (λ u w. IsTrue (is_before u w)) v vs (all_by_test (λ w. IsTrue (is_before v w)) (is_before v) (λ w t. t) vs b.0) (rise_by_test vs b.1)

points : List Gen
points = live_at largest_file largest_log one_ℚ

directions : List Gen
directions = live_at largest_file largest_log zero_ℚ

facets : List Facet
facets = named_facets largest_file largest_log (map (λ g. g.y) points) (map (λ g. g.y) directions)

accepted : plain_failure is_held largest_file largest_log ≡ None
unfolding largest_kept whole fraction ◌+ℚ◌ ◌*ℚ◌ neg_ℚ inverse_ℚ le_ℚ gcd
accepted = refl

formed : list_all is_formed largest_log ≡ true
unfolding whole fraction ◌+ℚ◌ ◌*ℚ◌ neg_ℚ inverse_ℚ le_ℚ gcd
formed = refl

points_rise : rising (map (λ g. g.y) points) ≡ true
unfolding rising points whole fraction ◌+ℚ◌ ◌*ℚ◌ neg_ℚ inverse_ℚ le_ℚ gcd
points_rise = refl

directions_rise : rising (map (λ g. g.y) directions) ≡ true
unfolding rising directions whole fraction ◌+ℚ◌ ◌*ℚ◌ neg_ℚ inverse_ℚ le_ℚ gcd
directions_rise = refl

facets_rise : rising (map (λ f. key (stated f)) facets) ≡ true
unfolding rising facets points directions whole fraction ◌+ℚ◌ ◌*ℚ◌ neg_ℚ inverse_ℚ le_ℚ gcd
facets_rise = refl

proves : PlainProves largest_file largest_log (Solved (duality_vector largest_log) [] points directions facets)
unfolding points directions facets
proves = record {
  log = record { formed = formed; ends = refl };
  meet = events_give_meets is_held largest_file largest_log accepted;
  gives = (
    Contains-push largest_front (entry.End kind.Solved),
    record {
      c_given = refl;
      lines_are = refl;
      points_are = record { same = λ x. (λ h. h, λ h. h); rise = rise_by_test (map (λ g. g.y) points) points_rise };
      directions_are = record { same = λ x. (λ h. h, λ h. h); rise = rise_by_test (map (λ g. g.y) directions) directions_rise };
      facets_are = record { same = λ x. (λ h. h, λ h. h); rise = rise_by_test (map (λ f. key (stated f)) facets) facets_rise };
    },
  );
}

found : LargestLog
unfolding points directions facets largest_kept whole fraction ◌+ℚ◌ ◌*ℚ◌ neg_ℚ inverse_ℚ le_ℚ gcd
found = record {
  file = largest_file;
  says = file_says largest largest_kept;
  points = refl;
  directions = refl;
  tight = refl;
  bounds = refl;
  proves = proves;
}

-- ---- lines
-- the log with a line proves the answer whose report is worked
abbrev whole_line : Problem
whole_line = file_of line_file line_kept

abbrev line_front : List Entry
line_front =
    line_cuts ++ the_line ∷ entry.Start (1 ∷ []) (n 0 ∷ n 0 ∷ []) (n 0 ∷ n 1 ∷ [])
    ∷ entry.Point 1 [] []
    ∷ entry.Ray 2 [] []
    ∷ entry.Facet 1 ∷ []

line_accepted : plain_failure is_held whole_line line_log ≡ None
unfolding line_kept whole fraction ◌+ℚ◌ ◌*ℚ◌ neg_ℚ inverse_ℚ le_ℚ gcd
line_accepted = refl

line_formed : list_all is_formed line_log ≡ true
unfolding whole fraction ◌+ℚ◌ ◌*ℚ◌ neg_ℚ inverse_ℚ le_ℚ gcd
line_formed = refl

lone_rises : (v : List ℚ) → Rise (v ∷ [])
lone_rises v = pairs-cons (λ u w. IsTrue (is_before u w)) v [] (All-nil (λ w. IsTrue (is_before v w))) (pairs-nil (λ u w. IsTrue (is_before u w)))

pub line_proves : PlainProves whole_line line_log line_answer
unfolding line_kept whole fraction ◌+ℚ◌ ◌*ℚ◌ neg_ℚ inverse_ℚ le_ℚ gcd
line_proves = record {
  log = record { formed = line_formed; ends = refl };
  meet = events_give_meets is_held whole_line line_log line_accepted;
  gives = (
    Contains-push line_front (entry.End kind.Solved),
    record {
      c_given = refl;
      lines_are = refl;
      points_are = record { same = λ x. (λ h. h, λ h. h); rise = lone_rises (n 0 ∷ n 0 ∷ []) };
      directions_are = record { same = λ x. (λ h. h, λ h. h); rise = lone_rises (n 0 ∷ n 1 ∷ []) };
      facets_are = record { same = λ x. (λ h. h, λ h. h); rise = lone_rises (n 0 ∷ n 1 ∷ n 0 ∷ []) };
    },
  );
}

line_turned : LineBelow
unfolding line_below_kept whole fraction ◌+ℚ◌ ◌*ℚ◌ neg_ℚ inverse_ℚ le_ℚ gcd
line_turned = record {
  file = file_of line_below line_below_kept;
  says = file_says line_below line_below_kept;
  passes = refl;
  line = refl;
  direction = refl;
}

pub worked_logs : WorkedLogs
worked_logs = record {
  small = record { solved = small_solved; bound = small_bound; left_out = small_left_out; no_ray = small_no_ray; no_facet = small_no_facet; add_last = small_add_last };
  lines = record {
    has_line = has_line;
    line_first = line_first;
    way_not_reduced = way_not_reduced;
    point_not_reduced = point_not_reduced;
    line_twice = line_twice;
    line_late = line_late;
    no_vertex = no_vertex;
    added = line_added;
    left_out = line_left_out;
    two_lines = two_lines;
    mixed = mixed;
    falling = falling;
  };
  below = line_turned;
  other = record {
    overflow = overflow;
    by_generators = by_generators;
    generators = generators;
    by_rows = by_rows;
    everything = everything;
    bounded = bounded;
    no_solution = no_solution;
    unbalanced = unbalanced;
    cut_first = cut_first;
    second_version = second_version;
    end_first = end_first;
  };
  largest = found;
}
