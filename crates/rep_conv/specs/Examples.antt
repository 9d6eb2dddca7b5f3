-- Worked representations and conversions, beside near ones that fail: each example would fail if a
-- definition were wrong.
use Rattle.std.specs.Prelude.{◌≡◌, ℕ, pos, negsuc, ℤ, true, false, List, [], ◌∷◌, ◌++◌, map, None, refl}
use Rattle.std.proofs.Math.Dec.{lit≤}
use Rattle.exact_field.specs.Rational.{whole}
use Rattle.frac128.specs.Held.{is_held}
use Rattle.polyhedra.specs.Examples.{wholes}
use Rattle.word_lines.specs.declared.part.LogPair.{LogPair}
use Rattle.log_rules.specs.Examples.{in_numbers, pair, wide}
use Rattle.rep_conv.specs.Sets.{IsMember}
use Rattle.rep_conv.specs.Rows.{text_rows}
use Rattle.rep_conv.specs.Events.{conv_failure}
use Rattle.rep_conv.specs.Converted.{Gives}
use Rattle.rep_text.specs.declared.rep.Rep.{Rep}
use Rattle.rep_text.specs.declared.rep.RepKind.{RepKind}
use Rattle.rep_text.specs.declared.rep.RepKind.TheVariants.{Side, Equal, Line, Point, Direction}
use Rattle.rep_text.specs.declared.rep.RepRow.{RepRow}
use Rattle.rep_text.specs.declared.conv.ConvEntry.{ConvEntry}
use Rattle.rep_text.specs.declared.conv.ConvEntry.TheVariants as entry

-- ---- representations
-- a row of whole numbers
abbrev pub row : RepKind → List ℤ → RepRow
row kind xs = record { kind = kind; v = wholes xs }

-- y ≥ 0, x ≥ 0 and -x - y ≥ -1
abbrev pub triangle : Rep
unfolding whole
triangle = record {
  gens = false;
  width = 2;
  rows = row Side (pos 0 ∷ pos 1 ∷ pos 0 ∷ []) ∷ row Side (pos 1 ∷ pos 0 ∷ pos 0 ∷ [])
      ∷ row Side (negsuc 0 ∷ negsuc 0 ∷ negsuc 0 ∷ []) ∷ [];
  some_entry = lit≤ tt;
  few_entries = lit≤ tt;
  fitting = refl;
}

-- and the redundant x ≥ -1
abbrev pub redundant : Rep
unfolding whole
redundant = record {
  gens = false;
  width = 2;
  rows = row Side (pos 0 ∷ pos 1 ∷ pos 0 ∷ []) ∷ row Side (pos 1 ∷ pos 0 ∷ pos 0 ∷ [])
      ∷ row Side (negsuc 0 ∷ negsuc 0 ∷ negsuc 0 ∷ []) ∷ row Side (pos 1 ∷ pos 0 ∷ negsuc 0 ∷ [])
      ∷ [];
  some_entry = lit≤ tt;
  few_entries = lit≤ tt;
  fitting = refl;
}

-- its corners
abbrev pub corners : Rep
unfolding whole
corners = record {
  gens = true;
  width = 2;
  rows = row Point (pos 0 ∷ pos 0 ∷ []) ∷ row Point (pos 0 ∷ pos 1 ∷ [])
      ∷ row Point (pos 1 ∷ pos 0 ∷ []) ∷ [];
  some_entry = lit≤ tt;
  few_entries = lit≤ tt;
  fitting = refl;
}

-- the sides of the corners, in their order
abbrev pub sides_again : Rep
unfolding whole
sides_again = record {
  gens = false;
  width = 2;
  rows = row Side (negsuc 0 ∷ negsuc 0 ∷ negsuc 0 ∷ []) ∷ row Side (pos 0 ∷ pos 1 ∷ pos 0 ∷ [])
      ∷ row Side (pos 1 ∷ pos 0 ∷ pos 0 ∷ []) ∷ [];
  some_entry = lit≤ tt;
  few_entries = lit≤ tt;
  fitting = refl;
}

-- z = 1
abbrev pub one_number : Rep
unfolding whole
one_number = record {
  gens = false;
  width = 1;
  rows = row Equal (pos 1 ∷ pos 1 ∷ []) ∷ [];
  some_entry = lit≤ tt;
  few_entries = lit≤ tt;
  fitting = refl;
}

-- the point 1
abbrev pub one_point : Rep
unfolding whole
one_point = record {
  gens = true;
  width = 1;
  rows = row Point (pos 1 ∷ []) ∷ [];
  some_entry = lit≤ tt;
  few_entries = lit≤ tt;
  fitting = refl;
}

-- y ≥ 0
abbrev pub half_plane : Rep
unfolding whole
half_plane = record {
  gens = false;
  width = 2;
  rows = row Side (pos 0 ∷ pos 1 ∷ pos 0 ∷ []) ∷ [];
  some_entry = lit≤ tt;
  few_entries = lit≤ tt;
  fitting = refl;
}

-- the line (1, 0), the point 0 and the direction (0, 1)
abbrev pub line_and_way : Rep
unfolding whole
line_and_way = record {
  gens = true;
  width = 2;
  rows = row Line (pos 1 ∷ pos 0 ∷ []) ∷ row Point (pos 0 ∷ pos 0 ∷ [])
      ∷ row Direction (pos 0 ∷ pos 1 ∷ []) ∷ [];
  some_entry = lit≤ tt;
  few_entries = lit≤ tt;
  fitting = refl;
}

-- the point (1, 2), and its equations
abbrev pub plane_point : Rep
unfolding whole
plane_point = record {
  gens = true;
  width = 2;
  rows = row Point (pos 1 ∷ pos 2 ∷ []) ∷ [];
  some_entry = lit≤ tt;
  few_entries = lit≤ tt;
  fitting = refl;
}

abbrev pub two_equations : Rep
unfolding whole
two_equations = record {
  gens = false;
  width = 2;
  rows = row Equal (pos 1 ∷ pos 0 ∷ pos 1 ∷ []) ∷ row Equal (pos 0 ∷ pos 1 ∷ pos 2 ∷ []) ∷ [];
  some_entry = lit≤ tt;
  few_entries = lit≤ tt;
  fitting = refl;
}

-- z ≥ 1 and -z ≥ 0
abbrev pub no_number : Rep
unfolding whole
no_number = record {
  gens = false;
  width = 1;
  rows = row Side (pos 1 ∷ pos 1 ∷ []) ∷ row Side (negsuc 0 ∷ pos 0 ∷ []) ∷ [];
  some_entry = lit≤ tt;
  few_entries = lit≤ tt;
  fitting = refl;
}

-- no point
abbrev pub nothing : Rep
unfolding whole
nothing = record {
  gens = true;
  width = 1;
  rows = [];
  some_entry = lit≤ tt;
  few_entries = lit≤ tt;
  fitting = refl;
}

-- a direction without a point, and 0 ≥ 1
abbrev pub no_point : Rep
unfolding whole
no_point = record {
  gens = true;
  width = 1;
  rows = row Direction (pos 1 ∷ []) ∷ [];
  some_entry = lit≤ tt;
  few_entries = lit≤ tt;
  fitting = refl;
}

abbrev pub nothing_meets_it : Rep
unfolding whole
nothing_meets_it = record {
  gens = false;
  width = 1;
  rows = row Side (pos 0 ∷ pos 1 ∷ []) ∷ [];
  some_entry = lit≤ tt;
  few_entries = lit≤ tt;
  fitting = refl;
}

-- 10^20 y ≥ 0
abbrev pub large : Rep
unfolding whole
large = record {
  gens = false;
  width = 2;
  rows = row Side (pos 0 ∷ pos wide ∷ pos 0 ∷ []) ∷ [];
  some_entry = lit≤ tt;
  few_entries = lit≤ tt;
  fitting = refl;
}

-- members and others; rows: that of t ≥ 0 first, of an equation and of a line with their negatives,
-- and none without a point
pub record RowExamples : Type 0 where
  pub inside : IsMember triangle (wholes (pos 0 ∷ pos 1 ∷ []))
  pub outside : IsMember triangle (wholes (pos 1 ∷ pos 1 ∷ [])) → ⊥
  pub equal : IsMember one_number (wholes (pos 1 ∷ []))
  pub not_equal : IsMember one_number (wholes (pos 2 ∷ [])) → ⊥
  pub no_member : IsMember no_point (wholes (pos 1 ∷ [])) → ⊥
  pub side_rows : text_rows triangle
      ≡ wholes (pos 0 ∷ pos 0 ∷ pos 1 ∷ []) ∷ wholes (pos 0 ∷ pos 1 ∷ pos 0 ∷ [])
      ∷ wholes (pos 1 ∷ pos 0 ∷ pos 0 ∷ []) ∷ wholes (negsuc 0 ∷ negsuc 0 ∷ pos 1 ∷ []) ∷ []
  pub equal_rows : text_rows one_number
      ≡ wholes (pos 0 ∷ pos 1 ∷ []) ∷ wholes (pos 1 ∷ negsuc 0 ∷ [])
      ∷ wholes (negsuc 0 ∷ pos 1 ∷ []) ∷ []
  pub point_rows : text_rows corners
      ≡ wholes (pos 0 ∷ pos 0 ∷ negsuc 0 ∷ []) ∷ wholes (pos 0 ∷ pos 1 ∷ negsuc 0 ∷ [])
      ∷ wholes (pos 1 ∷ pos 0 ∷ negsuc 0 ∷ []) ∷ []
  pub line_rows : text_rows line_and_way
      ≡ wholes (pos 1 ∷ pos 0 ∷ pos 0 ∷ []) ∷ wholes (negsuc 0 ∷ pos 0 ∷ pos 0 ∷ [])
      ∷ wholes (pos 0 ∷ pos 0 ∷ negsuc 0 ∷ []) ∷ wholes (pos 0 ∷ pos 1 ∷ pos 0 ∷ []) ∷ []
  pub no_rows : text_rows no_point ≡ []

-- ---- logs
-- the rows 0 to 2 of the triangle, with their generators
abbrev pub triangle_start : List ConvEntry
triangle_start =
    entry.Conv 1
    ∷ entry.Start (0 ∷ 1 ∷ 2 ∷ [])
    (wholes (pos 0 ∷ pos 0 ∷ pos 1 ∷ pos 0 ∷ pos 1 ∷ pos 0 ∷ pos 1 ∷ pos 0 ∷ pos 0 ∷ [])) ∷ []

-- with these pairs
abbrev pub triangle_added : List LogPair → List ConvEntry
triangle_added pairs = triangle_start ++ entry.Add 3 pairs ∷ []

-- the log of the triangle
abbrev pub triangle_log : List ConvEntry
triangle_log = triangle_added (pair 1 2 ∷ pair 1 3 ∷ []) ++ entry.End ∷ []

-- the same, and then the redundant row with these pairs
abbrev pub redundant_log : List LogPair → List ConvEntry
redundant_log pairs =
    triangle_added (pair 1 2 ∷ pair 1 3 ∷ []) ++ entry.Add 4 pairs ∷ entry.End ∷ []

-- the log of the corners
abbrev pub corners_log : List ConvEntry
corners_log =
    entry.Conv 1
    ∷ entry.Start (0 ∷ 1 ∷ 2 ∷ [])
    (wholes (negsuc 0 ∷ negsuc 0 ∷ negsuc 0 ∷ pos 0 ∷ pos 1 ∷ pos 0 ∷ pos 1 ∷ pos 0 ∷ pos 0 ∷ []))
    ∷ entry.End ∷ []

-- the rows 0 and 1 of z = 1, with their generators
abbrev pub number_start : List ConvEntry
number_start =
    entry.Conv 1 ∷ entry.Start (0 ∷ 1 ∷ []) (wholes (pos 1 ∷ pos 1 ∷ pos 1 ∷ pos 0 ∷ [])) ∷ []

-- the log of z = 1
abbrev pub number_log : List ConvEntry
number_log = number_start ++ entry.Add 2 [] ∷ entry.End ∷ []

-- with these lines, rows and generators
abbrev pub started_log : List (List ℤ) → List ℕ → List ℤ → List ConvEntry
started_log lines rows gens =
    entry.Conv 1 ∷ map (λ d. entry.Line (wholes d)) lines
    ++ entry.Start rows (wholes gens) ∷ entry.End ∷ []

-- the log of the half plane
abbrev pub half_plane_log : List ConvEntry
half_plane_log = started_log ((pos 1 ∷ pos 0 ∷ pos 0 ∷ []) ∷ []) (0 ∷ 1 ∷ [])
    (pos 0 ∷ pos 0 ∷ pos 1 ∷ pos 0 ∷ pos 1 ∷ pos 0 ∷ [])

-- two vectors at which the row (1, 2, -1) of the point is 0
abbrev pub first_line : List ℤ
first_line = pos 1 ∷ pos 0 ∷ pos 1 ∷ []

abbrev pub second_line : List ℤ
second_line = pos 0 ∷ pos 1 ∷ pos 2 ∷ []

-- with these lines, and the one generator of row 0
abbrev pub point_log : List (List ℤ) → List ℤ → List ConvEntry
point_log lines gens = started_log lines (0 ∷ []) gens

-- the log of the point (1, 2)
abbrev pub equations_log : List ConvEntry
equations_log = point_log (first_line ∷ second_line ∷ []) (pos 0 ∷ pos 0 ∷ negsuc 0 ∷ [])

-- a log without a row
abbrev pub no_rows_log : List ConvEntry
no_rows_log = entry.Conv 1 ∷ entry.End ∷ []

-- the first failure of the log is this one: its entry, and 0 with the rule, or 1 with the step and
-- its operands
abbrev pub Fails : Rep → List ConvEntry → List ℕ → Type 0
Fails rep log failure = in_numbers (conv_failure is_held rep log) ≡ failure

-- a pair left out, one too many, and the two in the other order; a redundant row left out, and with
-- a pair; an equation without its second row; a row twice, and one that does not exist
pub record AddedLogs : Type 0 where
  pub left_out : Fails triangle (triangle_added (pair 1 2 ∷ []) ++ entry.End ∷ []) (3 ∷ 0 ∷ 13 ∷ [])
  pub too_many : Fails triangle
      (triangle_added (pair 1 2 ∷ pair 1 3 ∷ pair 2 3 ∷ []) ++ entry.End ∷ []) (3 ∷ 0 ∷ 13 ∷ [])
  pub falling : Fails triangle (triangle_added (pair 1 3 ∷ pair 1 2 ∷ []) ++ entry.End ∷ [])
      (3 ∷ 0 ∷ 13 ∷ [])
  pub with_more : Fails redundant (redundant_log []) []
  pub without_more : Fails redundant triangle_log (4 ∷ 0 ∷ 15 ∷ [])
  pub more_paired : Fails redundant (redundant_log (pair 1 4 ∷ [])) (4 ∷ 0 ∷ 13 ∷ [])
  pub half_equal : Fails one_number (number_start ++ entry.End ∷ []) (3 ∷ 0 ∷ 15 ∷ [])
  pub twice : Fails triangle (triangle_start ++ entry.Add 1 [] ∷ []) (3 ∷ 0 ∷ 4 ∷ [])
  pub no_such : Fails triangle (triangle_start ++ entry.Add 4 [] ∷ []) (3 ∷ 0 ∷ 4 ∷ [])

-- lines in falling order, one too few, one at which a row is not 0, and one that does not begin with
-- 1; a generator that is not reduced, not normed, and of the other sign; another version, no `conv`,
-- no `start`, a line after the start, and a line where there are no rows; and a product that is not
-- held
pub record StartedLogs : Type 0 where
  pub lines_fall : Fails plane_point
      (point_log (second_line ∷ first_line ∷ []) (pos 0 ∷ pos 0 ∷ negsuc 0 ∷ [])) (3 ∷ 0 ∷ 5 ∷ [])
  pub line_short : Fails plane_point
      (point_log (first_line ∷ []) (pos 0 ∷ pos 0 ∷ negsuc 0 ∷ [])) (3 ∷ 0 ∷ 3 ∷ [])
  pub line_cut : Fails plane_point
      (point_log ((pos 1 ∷ pos 0 ∷ pos 0 ∷ []) ∷ []) []) (2 ∷ 0 ∷ 12 ∷ [])
  pub line_double : Fails plane_point
      (point_log ((pos 2 ∷ pos 0 ∷ pos 2 ∷ []) ∷ []) []) (2 ∷ 0 ∷ 5 ∷ [])
  pub not_reduced : Fails plane_point
      (point_log (first_line ∷ second_line ∷ []) (pos 1 ∷ pos 0 ∷ pos 0 ∷ [])) (4 ∷ 0 ∷ 12 ∷ [])
  pub not_normed : Fails plane_point
      (point_log (first_line ∷ second_line ∷ []) (pos 0 ∷ pos 0 ∷ negsuc 1 ∷ [])) (4 ∷ 0 ∷ 12 ∷ [])
  pub other_sign : Fails plane_point
      (point_log (first_line ∷ second_line ∷ []) (pos 0 ∷ pos 0 ∷ pos 1 ∷ [])) (4 ∷ 0 ∷ 12 ∷ [])
  pub version : Fails triangle (entry.Conv 2 ∷ []) (1 ∷ 0 ∷ 1 ∷ [])
  pub no_conv : Fails triangle (entry.End ∷ []) (1 ∷ 0 ∷ 2 ∷ [])
  pub no_start : Fails triangle no_rows_log (2 ∷ 0 ∷ 2 ∷ [])
  pub line_late : Fails triangle (triangle_start ++ entry.Line [] ∷ []) (3 ∷ 0 ∷ 2 ∷ [])
  pub no_rows : Fails no_point (entry.Conv 1 ∷ entry.Line [] ∷ []) (2 ∷ 0 ∷ 2 ∷ [])
  pub overflow : Fails large (started_log ((pos 1 ∷ pos wide ∷ pos 0 ∷ []) ∷ []) [] [])
      (2 ∷ 1 ∷ 1 ∷ wide ∷ wide ∷ [])

-- a log of which no event fails, and what it gives
pub record ConvertsTo (rep : Rep) (log : List ConvEntry) (other : Rep) : Type 0 where
  pub passes : conv_failure is_held rep log ≡ None
  pub gives : Gives rep log other

-- a triangle and its corners, both ways; an equation; a half plane, with its line; a point, with its
-- equations; and the empty set, both ways
pub record WholeLogs : Type 0 where
  pub to_corners : ConvertsTo triangle triangle_log corners
  pub to_sides : ConvertsTo corners corners_log sides_again
  pub to_point : ConvertsTo one_number number_log one_point
  pub to_line : ConvertsTo half_plane half_plane_log line_and_way
  pub to_equations : ConvertsTo plane_point equations_log two_equations
  pub to_nothing : ConvertsTo no_number number_log nothing
  pub from_nothing : ConvertsTo no_point no_rows_log nothing_meets_it

-- all of these
pub record ConversionExamples : Type 0 where
  pub rows : RowExamples
  pub added : AddedLogs
  pub started : StartedLogs
  pub whole_logs : WholeLogs
