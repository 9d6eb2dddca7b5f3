-- The worked representations and conversions, computed.
use Rattle.std.proofs.Common.{◌≡◌, Bool, true, false, true≢false, IsTrue, ◌&&◌, List, [], ◌∷◌, map, All, pos, negsuc, refl, sym, ap, ap₂, subst}
use Rattle.std.specs.List.{list_all}
use Rattle.std.proofs.lemmas.List.Elements.{All-nil, All-cons}
use Rattle.exact_field.specs.Gcd.{gcd}
use Rattle.exact_field.specs.Rational.{ℚ, one_ℚ, whole, fraction, ◌+ℚ◌, ◌*ℚ◌, neg_ℚ, inverse_ℚ, le_ℚ}
use Rattle.exact_field.specs.Vector.{dot}
use Rattle.polyhedra.specs.Examples.{wholes}
use Rattle.polyhedra.proofs.Members.{pairs-nil, pairs-cons}
use Rattle.polyhedra.specs.DoubleDescription.{same_vector}
use Rattle.polyhedra.proofs.Tests.{both_true, same_vector_is}
use Rattle.log_rules.specs.Proves.{IsSorting}
use Rattle.log_rules.specs.Right.{Rise, is_before}
use Rattle.rep_conv.specs.Sets.{MeetsRow}
use Rattle.rep_conv.specs.Examples.{row, triangle, corners, sides_again, one_number, one_point, half_plane, line_and_way, plane_point, two_equations, no_number, nothing, no_point, nothing_meets_it, RowExamples, triangle_log, corners_log, number_log, half_plane_log, equations_log, no_rows_log, AddedLogs, StartedLogs, ConvertsTo, ConversionExamples}
use Rattle.rep_text.specs.declared.rep.RepKind.TheVariants.{Side, Equal}
use Rattle.rep_text.specs.declared.rep.RepRow.{RepRow}
use Rattle.std.proofs.Math.Dec.{lit<}
use Rattle.log_rules.proofs.PassedTests.{same_number}
use Rattle.rep_conv.proofs.SameSets.{no_points}

-- ---- lists that rise, by a test
rising : List (List ℚ) → Bool
rising [] = true
rising (v ∷ vs) = list_all (is_before v) vs && rising vs

all_by_test : (t : List ℚ → Bool) (vs : List (List ℚ)) → list_all t vs ≡ true → All (λ v. IsTrue (t v)) vs
all_by_test t [] h = All-nil (λ v. IsTrue (t v))
all_by_test t (v ∷ vs) h = let b = both_true (t v) (list_all t vs) h in All-cons (λ u. IsTrue (t u)) v vs b.0 (all_by_test t vs b.1)

rise_by_test : (vs : List (List ℚ)) → rising vs ≡ true → Rise vs
unfolding rising
rise_by_test [] h = pairs-nil (λ u v. IsTrue (is_before u v))
rise_by_test (v ∷ vs) h =
    let b = both_true (list_all (is_before v) vs) (rising vs) h in
    pairs-cons (λ u w. IsTrue (is_before u w)) v vs (all_by_test (is_before v) vs b.0) (rise_by_test vs b.1)

-- equal lists of vectors, by a test
same_lists : List (List ℚ) → List (List ℚ) → Bool
same_lists [] [] = true
same_lists [] (v ∷ vs) = false
same_lists (u ∷ us) [] = false
same_lists (u ∷ us) (v ∷ vs) = same_vector u v && same_lists us vs

same_lists_are : (us vs : List (List ℚ)) → same_lists us vs ≡ true → us ≡ vs
unfolding same_lists
same_lists_are [] [] h = refl
same_lists_are [] (v ∷ vs) h = absurd (true≢false (sym h))
same_lists_are (u ∷ us) [] h = absurd (true≢false (sym h))
same_lists_are (u ∷ us) (v ∷ vs) h =
    let b = both_true (same_vector u v) (same_lists us vs) h in
    ap₂ (λ a as_. a ∷ as_) (same_vector_is u v b.0) (same_lists_are us vs b.1)

sorted_as : (found vs : List (List ℚ)) → same_lists found vs ≡ true → rising (map (λ (v : List ℚ). v) vs) ≡ true → IsSorting (λ (v : List ℚ). v) found vs
sorted_as found vs e h = subst (λ (us : List (List ℚ)). IsSorting (λ (v : List ℚ). v) us vs) (sym (same_lists_are found vs e))
    (record { same = λ x. (λ c. c, λ c. c); rise = rise_by_test (map (λ (v : List ℚ). v) vs) h })

sorted : (vs : List (List ℚ)) → rising (map (λ (v : List ℚ). v) vs) ≡ true → IsSorting (λ (v : List ℚ). v) vs vs
sorted vs h = record { same = λ x. (λ c. c, λ c. c); rise = rise_by_test (map (λ (v : List ℚ). v) vs) h }

-- ---- members and rows
meets_row : (z : List ℚ) (row : RepRow) (rows : List RepRow) → MeetsRow z row row.kind → All (λ r. MeetsRow z r r.kind) rows → All (λ r. MeetsRow z r r.kind) (row ∷ rows)
meets_row z row rows h k = All-cons (λ r. MeetsRow z r r.kind) row rows h k

nothing_said : RepRow
nothing_said = record { kind = Side; v = [] }

row_examples : RowExamples
unfolding same_lists whole fraction ◌+ℚ◌ ◌*ℚ◌ neg_ℚ inverse_ℚ le_ℚ gcd
row_examples =
    let up : List ℚ = wholes (pos 0 ∷ pos 1 ∷ []) in
    let first : RepRow = row Side (pos 0 ∷ pos 1 ∷ pos 0 ∷ []) in
    let second : RepRow = row Side (pos 1 ∷ pos 0 ∷ pos 0 ∷ []) in
    let third : RepRow = row Side (negsuc 0 ∷ negsuc 0 ∷ negsuc 0 ∷ []) in
    record {
      inside = record {
        wide = refl;
        meets = meets_row up first (second ∷ third ∷ []) refl (meets_row up second (third ∷ []) refl (meets_row up third [] refl (All-nil (λ r. MeetsRow up r r.kind))));
      };
      outside = λ h. true≢false (sym (h.meets 2 nothing_said (lit< tt)));
      equal = record {
        wide = refl;
        meets = meets_row (wholes (pos 1 ∷ [])) (row Equal (pos 1 ∷ pos 1 ∷ [])) []
            (same_number (dot (wholes (pos 1 ∷ [])) (wholes (pos 1 ∷ []))) (whole (pos 1)) refl) (All-nil (λ r. MeetsRow (wholes (pos 1 ∷ [])) r r.kind));
      };
      not_equal = λ h. true≢false (sym (ap (λ (q : ℚ). le_ℚ q one_ℚ) (h.meets 0 nothing_said (lit< tt))));
      no_member = λ h. no_points 1 (wholes (pos 1 ∷ []) ∷ []) [] (wholes (pos 1 ∷ [])) h;
      side_rows = same_lists_are _ _ refl;
      equal_rows = same_lists_are _ _ refl;
      point_rows = same_lists_are _ _ refl;
      line_rows = same_lists_are _ _ refl;
      no_rows = refl;
    }

-- ---- logs with faults
added_logs : AddedLogs
unfolding whole fraction ◌+ℚ◌ ◌*ℚ◌ neg_ℚ inverse_ℚ le_ℚ gcd
added_logs = record {
  left_out = refl;
  too_many = refl;
  falling = refl;
  with_more = refl;
  without_more = refl;
  more_paired = refl;
  half_equal = refl;
  twice = refl;
  no_such = refl;
}

started_logs : StartedLogs
unfolding whole fraction ◌+ℚ◌ ◌*ℚ◌ neg_ℚ inverse_ℚ le_ℚ gcd
started_logs = record {
  lines_fall = refl;
  line_short = refl;
  line_cut = refl;
  line_double = refl;
  not_reduced = refl;
  not_normed = refl;
  other_sign = refl;
  version = refl;
  no_conv = refl;
  no_start = refl;
  line_late = refl;
  no_rows = refl;
  overflow = refl;
}

-- ---- whole logs
to_corners : ConvertsTo triangle triangle_log corners
unfolding rising same_lists whole fraction ◌+ℚ◌ ◌*ℚ◌ neg_ℚ inverse_ℚ le_ℚ gcd
to_corners = record {
  passes = refl;
  gives = record {
    turned = refl;
    width = refl;
    rows = record {
      points = wholes (pos 0 ∷ pos 0 ∷ []) ∷ wholes (pos 0 ∷ pos 1 ∷ []) ∷ wholes (pos 1 ∷ pos 0 ∷ []) ∷ [];
      directions = [];
      points_are = sorted_as _ (wholes (pos 0 ∷ pos 0 ∷ []) ∷ wholes (pos 0 ∷ pos 1 ∷ []) ∷ wholes (pos 1 ∷ pos 0 ∷ []) ∷ []) refl refl;
      directions_are = sorted [] refl;
      all = refl;
    };
  };
}

to_sides : ConvertsTo corners corners_log sides_again
unfolding rising whole fraction ◌+ℚ◌ ◌*ℚ◌ neg_ℚ inverse_ℚ le_ℚ gcd
to_sides =
    let sides : List (List ℚ) = wholes (negsuc 0 ∷ negsuc 0 ∷ negsuc 0 ∷ []) ∷ wholes (pos 0 ∷ pos 1 ∷ pos 0 ∷ []) ∷ wholes (pos 1 ∷ pos 0 ∷ pos 0 ∷ []) ∷ [] in
    record {
      passes = refl;
      gives = record { turned = refl; width = refl; rows = record { sides = sides; sides_are = sorted sides refl; all = refl } };
    }

to_point : ConvertsTo one_number number_log one_point
unfolding rising whole fraction ◌+ℚ◌ ◌*ℚ◌ neg_ℚ inverse_ℚ le_ℚ gcd
to_point =
    let points : List (List ℚ) = wholes (pos 1 ∷ []) ∷ [] in
    record {
      passes = refl;
      gives = record {
        turned = refl;
        width = refl;
        rows = record { points = points; directions = []; points_are = sorted points refl; directions_are = sorted [] refl; all = refl };
      };
    }

to_line : ConvertsTo half_plane half_plane_log line_and_way
unfolding rising whole fraction ◌+ℚ◌ ◌*ℚ◌ neg_ℚ inverse_ℚ le_ℚ gcd
to_line =
    let points : List (List ℚ) = wholes (pos 0 ∷ pos 0 ∷ []) ∷ [] in
    let ways : List (List ℚ) = wholes (pos 0 ∷ pos 1 ∷ []) ∷ [] in
    record {
      passes = refl;
      gives = record {
        turned = refl;
        width = refl;
        rows = record { points = points; directions = ways; points_are = sorted points refl; directions_are = sorted ways refl; all = refl };
      };
    }

to_equations : ConvertsTo plane_point equations_log two_equations
unfolding rising whole fraction ◌+ℚ◌ ◌*ℚ◌ neg_ℚ inverse_ℚ le_ℚ gcd
to_equations = record {
  passes = refl;
  gives = record { turned = refl; width = refl; rows = record { sides = []; sides_are = sorted [] refl; all = refl } };
}

to_nothing : ConvertsTo no_number number_log nothing
unfolding rising whole fraction ◌+ℚ◌ ◌*ℚ◌ neg_ℚ inverse_ℚ le_ℚ gcd
to_nothing = record {
  passes = refl;
  gives = record {
    turned = refl;
    width = refl;
    rows = record { points = []; directions = []; points_are = sorted [] refl; directions_are = sorted [] refl; all = refl };
  };
}

from_nothing : ConvertsTo no_point no_rows_log nothing_meets_it
unfolding rising whole fraction ◌+ℚ◌ ◌*ℚ◌ neg_ℚ inverse_ℚ le_ℚ gcd
from_nothing = record { passes = refl; gives = record { turned = refl; width = refl; rows = refl } }

pub conversion_examples : ConversionExamples
conversion_examples = record {
  rows = row_examples;
  added = added_logs;
  started = started_logs;
  whole_logs = record {
    to_corners = to_corners;
    to_sides = to_sides;
    to_point = to_point;
    to_line = to_line;
    to_equations = to_equations;
    to_nothing = to_nothing;
    from_nothing = from_nothing;
  };
}
