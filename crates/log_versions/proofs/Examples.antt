-- The worked logs of version 2, computed.
use Rattle.std.proofs.Common.{[], ◌∷◌, ◌++◌, refl, arith}
use Rattle.exact_field.specs.Gcd.{gcd}
use Rattle.exact_field.specs.Rational.{whole, fraction, ◌+ℚ◌, ◌*ℚ◌, neg_ℚ, inverse_ℚ, le_ℚ}
use Rattle.deriv_log.specs.declared.entry.Entry.TheVariants as entry
use Rattle.log_rules.specs.Examples.{n, at, pair, small, small_front, last_ray, solved_end, bounded_log}
use Rattle.log_rules.proofs.Examples.{IsProblem, file_of, file_says, small_kept}
use Rattle.log_versions.specs.Examples.{Upgrades, FailsWritten, PassesWritten, hinted_log, corner, corner_log, corner_hints, first_pairs, second_pairs, half_line, one_duality, unit, own_cut, shared_cut, shared_front, half_line_end, WorkedVersions}

-- ---- the files
corner_kept : IsProblem corner
unfolding whole fraction gcd
corner_kept = record {
  rows_bounded = omega arith;
  some_column = omega arith;
  cols_bounded = omega arith;
  some_objective = omega arith;
  objs_bounded = omega arith;
  a_cells = refl;
  o_cells = refl;
  cone_vectors = refl;
  duality_entries = refl;
}

half_line_kept : IsProblem half_line
unfolding whole fraction gcd
half_line_kept = record {
  rows_bounded = omega arith;
  some_column = omega arith;
  cols_bounded = omega arith;
  some_objective = omega arith;
  objs_bounded = omega arith;
  a_cells = refl;
  o_cells = refl;
  cone_vectors = refl;
  duality_entries = refl;
}

-- ---- hints
hinted : Upgrades small
    (small_front ++ last_ray ∷ entry.Facet 1 ∷ entry.Facet 2 ∷ entry.Facet 3 ∷ solved_end)
    (hinted_log (entry.AddHints 3 (pair 2 1 ∷ pair 3 1 ∷ []) []))
unfolding small_kept whole fraction ◌+ℚ◌ ◌*ℚ◌ neg_ℚ inverse_ℚ le_ℚ gcd
hinted = record { file = file_of small small_kept; says = file_says small small_kept; is = refl; passes = refl }

one_hint_more : FailsWritten small
    (hinted_log (entry.AddHints 3 (pair 2 1 ∷ pair 3 1 ∷ []) (2 ∷ []))) (7 ∷ 0 ∷ 17 ∷ [])
unfolding small_kept whole fraction ◌+ℚ◌ ◌*ℚ◌ neg_ℚ inverse_ℚ le_ℚ gcd
one_hint_more = record { file = file_of small small_kept; says = file_says small small_kept; first = refl }

not_covered : FailsWritten small
    (hinted_log (entry.AddHints 3 (pair 2 1 ∷ []) (2 ∷ []))) (7 ∷ 0 ∷ 17 ∷ [])
unfolding small_kept whole fraction ◌+ℚ◌ ◌*ℚ◌ neg_ℚ inverse_ℚ le_ℚ gcd
not_covered = record { file = file_of small small_kept; says = file_says small small_kept; first = refl }

out_of_order : FailsWritten small
    (hinted_log (entry.AddHints 3 (pair 3 1 ∷ pair 2 1 ∷ []) [])) (7 ∷ 0 ∷ 13 ∷ [])
unfolding small_kept whole fraction ◌+ℚ◌ ◌*ℚ◌ neg_ℚ inverse_ℚ le_ℚ gcd
out_of_order = record { file = file_of small small_kept; says = file_says small small_kept; first = refl }

covered : Upgrades corner
    (corner_log 1 (entry.Add 3 first_pairs) (entry.Add 4 second_pairs))
    (corner_hints second_pairs (3 ∷ 2 ∷ []))
unfolding corner_kept whole fraction ◌+ℚ◌ ◌*ℚ◌ neg_ℚ inverse_ℚ le_ℚ gcd
covered = record { file = file_of corner corner_kept; says = file_says corner corner_kept; is = refl; passes = refl }

other_hints : PassesWritten corner (corner_hints second_pairs (4 ∷ 5 ∷ []))
unfolding corner_kept whole fraction ◌+ℚ◌ ◌*ℚ◌ neg_ℚ inverse_ℚ le_ℚ gcd
other_hints = record { file = file_of corner corner_kept; says = file_says corner corner_kept; first = refl }

plus_of_pair : FailsWritten corner (corner_hints second_pairs (2 ∷ 2 ∷ [])) (9 ∷ 0 ∷ 17 ∷ [])
unfolding corner_kept whole fraction ◌+ℚ◌ ◌*ℚ◌ neg_ℚ inverse_ℚ le_ℚ gcd
plus_of_pair = record { file = file_of corner corner_kept; says = file_says corner corner_kept; first = refl }

minus_of_pair : FailsWritten corner (corner_hints second_pairs (3 ∷ 4 ∷ [])) (9 ∷ 0 ∷ 17 ∷ [])
unfolding corner_kept whole fraction ◌+ℚ◌ ◌*ℚ◌ neg_ℚ inverse_ℚ le_ℚ gcd
minus_of_pair = record { file = file_of corner corner_kept; says = file_says corner corner_kept; first = refl }

not_live : FailsWritten corner (corner_hints second_pairs (1 ∷ 2 ∷ [])) (9 ∷ 0 ∷ 17 ∷ [])
unfolding corner_kept whole fraction ◌+ℚ◌ ◌*ℚ◌ neg_ℚ inverse_ℚ le_ℚ gcd
not_live = record { file = file_of corner corner_kept; says = file_says corner corner_kept; first = refl }

one_hint_less : FailsWritten corner (corner_hints second_pairs (3 ∷ [])) (9 ∷ 0 ∷ 17 ∷ [])
unfolding corner_kept whole fraction ◌+ℚ◌ ◌*ℚ◌ neg_ℚ inverse_ℚ le_ℚ gcd
one_hint_less = record { file = file_of corner corner_kept; says = file_says corner corner_kept; first = refl }

both_wrong : FailsWritten corner
    (corner_hints (pair 2 4 ∷ pair 2 5 ∷ pair 3 5 ∷ []) (3 ∷ [])) (9 ∷ 0 ∷ 13 ∷ [])
unfolding corner_kept whole fraction ◌+ℚ◌ ◌*ℚ◌ neg_ℚ inverse_ℚ le_ℚ gcd
both_wrong = record { file = file_of corner corner_kept; says = file_says corner corner_kept; first = refl }

-- ---- shared vectors
shared_once : Upgrades half_line (bounded_log (n 1))
    (shared_front ++ half_line_end (entry.PointOf 1 1 []) (entry.Ray 2 [] []) [])
unfolding half_line_kept whole fraction ◌+ℚ◌ ◌*ℚ◌ neg_ℚ inverse_ℚ le_ℚ gcd
shared_once = record { file = file_of half_line half_line_kept; says = file_says half_line half_line_kept; is = refl; passes = refl }

share_late : PassesWritten half_line
    (shared_front ++ half_line_end (entry.PointOf 1 1 []) (entry.Ray 2 [] []) (unit ∷ []))
unfolding half_line_kept whole fraction ◌+ℚ◌ ◌*ℚ◌ neg_ℚ inverse_ℚ le_ℚ gcd
share_late = record { file = file_of half_line half_line_kept; says = file_says half_line half_line_kept; first = refl }

share_early : PassesWritten half_line
    (entry.Version 2 ∷ unit ∷ one_duality ∷ shared_cut 1
    ∷ half_line_end (entry.PointOf 1 1 []) (entry.Ray 2 [] []) [])
unfolding half_line_kept whole fraction ◌+ℚ◌ ◌*ℚ◌ neg_ℚ inverse_ℚ le_ℚ gcd
share_early = record { file = file_of half_line half_line_kept; says = file_says half_line half_line_kept; first = refl }

no_cut : FailsWritten half_line
    (entry.Version 2 ∷ one_duality ∷ unit ∷ shared_cut 2 ∷ solved_end) (4 ∷ 0 ∷ 4 ∷ [])
unfolding half_line_kept whole fraction ◌+ℚ◌ ◌*ℚ◌ neg_ℚ inverse_ℚ le_ℚ gcd
no_cut = record { file = file_of half_line half_line_kept; says = file_says half_line half_line_kept; first = refl }

no_point : FailsWritten half_line
    (shared_front ++ half_line_end (entry.PointOf 1 2 []) (entry.Ray 2 [] []) [])
    (6 ∷ 0 ∷ 4 ∷ [])
unfolding half_line_kept whole fraction ◌+ℚ◌ ◌*ℚ◌ neg_ℚ inverse_ℚ le_ℚ gcd
no_point = record { file = file_of half_line half_line_kept; says = file_says half_line half_line_kept; first = refl }

point_0 : FailsWritten half_line
    (shared_front ++ half_line_end (entry.PointOf 1 0 []) (entry.Ray 2 [] []) [])
    (6 ∷ 0 ∷ 4 ∷ [])
unfolding half_line_kept whole fraction ◌+ℚ◌ ◌*ℚ◌ neg_ℚ inverse_ℚ le_ℚ gcd
point_0 = record { file = file_of half_line half_line_kept; says = file_says half_line half_line_kept; first = refl }

no_ray : FailsWritten half_line
    (shared_front ++ half_line_end (entry.PointOf 1 1 []) (entry.RayOf 2 2 []) [])
    (7 ∷ 0 ∷ 4 ∷ [])
unfolding half_line_kept whole fraction ◌+ℚ◌ ◌*ℚ◌ neg_ℚ inverse_ℚ le_ℚ gcd
no_ray = record { file = file_of half_line half_line_kept; says = file_says half_line half_line_kept; first = refl }

-- ---- versions
share_in_1 : FailsWritten half_line
    (entry.Version 1 ∷ entry.Share [] ∷ solved_end) (2 ∷ 0 ∷ 2 ∷ [])
unfolding half_line_kept whole fraction ◌+ℚ◌ ◌*ℚ◌ neg_ℚ inverse_ℚ le_ℚ gcd
share_in_1 = record { file = file_of half_line half_line_kept; says = file_says half_line half_line_kept; first = refl }

cut_of_in_1 : FailsWritten half_line
    (entry.Version 1 ∷ one_duality ∷ shared_cut 1 ∷ solved_end) (3 ∷ 0 ∷ 2 ∷ [])
unfolding half_line_kept whole fraction ◌+ℚ◌ ◌*ℚ◌ neg_ℚ inverse_ℚ le_ℚ gcd
cut_of_in_1 = record { file = file_of half_line half_line_kept; says = file_says half_line half_line_kept; first = refl }

point_of_in_1 : FailsWritten half_line
    (entry.Version 1 ∷ one_duality ∷ own_cut
    ∷ half_line_end (entry.PointOf 1 1 []) (entry.Ray 2 [] []) [])
    (5 ∷ 0 ∷ 2 ∷ [])
unfolding half_line_kept whole fraction ◌+ℚ◌ ◌*ℚ◌ neg_ℚ inverse_ℚ le_ℚ gcd
point_of_in_1 = record { file = file_of half_line half_line_kept; says = file_says half_line half_line_kept; first = refl }

ray_of_in_1 : FailsWritten half_line
    (entry.Version 1 ∷ one_duality ∷ own_cut
    ∷ half_line_end (entry.Point 1 (at 1 (n 1) ∷ []) []) (entry.RayOf 2 1 []) [])
    (6 ∷ 0 ∷ 2 ∷ [])
unfolding half_line_kept whole fraction ◌+ℚ◌ ◌*ℚ◌ neg_ℚ inverse_ℚ le_ℚ gcd
ray_of_in_1 = record { file = file_of half_line half_line_kept; says = file_says half_line half_line_kept; first = refl }

hints_in_1 : FailsWritten corner
    (corner_log 1 (entry.AddHints 3 first_pairs []) (entry.Add 4 second_pairs))
    (7 ∷ 0 ∷ 2 ∷ [])
unfolding corner_kept whole fraction ◌+ℚ◌ ◌*ℚ◌ neg_ℚ inverse_ℚ le_ℚ gcd
hints_in_1 = record { file = file_of corner corner_kept; says = file_says corner corner_kept; first = refl }

share_first : FailsWritten half_line
    (entry.Share [] ∷ entry.Version 2 ∷ solved_end) (1 ∷ 0 ∷ 2 ∷ [])
unfolding half_line_kept whole fraction ◌+ℚ◌ ◌*ℚ◌ neg_ℚ inverse_ℚ le_ℚ gcd
share_first = record { file = file_of half_line half_line_kept; says = file_says half_line half_line_kept; first = refl }

version_3 : FailsWritten half_line (entry.Version 3 ∷ solved_end) (1 ∷ 0 ∷ 1 ∷ [])
unfolding half_line_kept whole fraction ◌+ℚ◌ ◌*ℚ◌ neg_ℚ inverse_ℚ le_ℚ gcd
version_3 = record { file = file_of half_line half_line_kept; says = file_says half_line half_line_kept; first = refl }

pub worked_versions : WorkedVersions
worked_versions = record {
  listed = record {
    hinted = hinted;
    one_hint_more = one_hint_more;
    not_covered = not_covered;
    out_of_order = out_of_order;
  };
  covered = record {
    covered = covered;
    other_hints = other_hints;
    plus_of_pair = plus_of_pair;
    minus_of_pair = minus_of_pair;
    not_live = not_live;
    one_hint_less = one_hint_less;
    both_wrong = both_wrong;
  };
  shared = record {
    shared_once = shared_once;
    share_late = share_late;
    share_early = share_early;
    no_cut = no_cut;
    no_point = no_point;
    point_0 = point_0;
    no_ray = no_ray;
  };
  versions = record {
    share_in_1 = share_in_1;
    cut_of_in_1 = cut_of_in_1;
    point_of_in_1 = point_of_in_1;
    ray_of_in_1 = ray_of_in_1;
    hints_in_1 = hints_in_1;
    share_first = share_first;
    version_3 = version_3;
  };
}
