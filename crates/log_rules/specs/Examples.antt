-- Worked logs, each of which would fail if a definition were wrong.
use Rattle.std.specs.Prelude.{◌≡◌, ℕ, pos, negsuc, ℤ, unsigned_abs, List, [], ◌∷◌, ◌++◌, map, length, Option, None, Some}
use Rattle.exact_field.specs.Rational.{ℚ, zero_ℚ, one_ℚ, whole, fraction}
use Rattle.frac128.specs.Held.{is_held}
use Rattle.frac128.specs.declared.vectors.Spot.{Spot}
use Rattle.vlp_problem.specs.declared.problem.Problem.{Problem}
use Rattle.vlp_problem.specs.declared.problem.Cell.{Cell}
use Rattle.vlp_problem.specs.declared.problem.Dir.{Dir}
use Rattle.vlp_problem.specs.declared.problem.Dir.TheVariants.{Min, Max}
use Rattle.vlp_problem.specs.declared.problem.Bound.{Bound}
use Rattle.vlp_problem.specs.declared.problem.Bound.TheVariants.{Unsaid, Free, Lower, Upper, Fixed}
use Rattle.vlp_problem.specs.declared.problem.Cone.{Cone}
use Rattle.vlp_problem.specs.declared.problem.Cone.TheVariants.{Orthant, Gens, Dual}
use Rattle.word_lines.specs.declared.part.LogPair.{LogPair}
use Rattle.word_lines.specs.declared.part.EndKind.TheVariants as kind
use Rattle.deriv_log.specs.declared.entry.Entry.{Entry}
use Rattle.deriv_log.specs.declared.entry.Entry.TheVariants as entry
use Rattle.log_rules.specs.LogEvents.{Failing, plain_failure}
use Rattle.log_rules.specs.Live.{duality_vector}
use Rattle.log_rules.specs.Names.{rule_number}
use Rattle.log_rules.specs.Proves.{PlainProves, live_at, named_facets, shown_lines}
use Rattle.log_rules.specs.Events.Failure.{wrong, left}
use Rattle.log_rules.specs.declared.answer.Answer.TheVariants.{Solved}

-- ---- files and logs in short
-- whole numbers, and -1, 1/2 and 1/3
abbrev pub n : ℕ → ℚ
n k = whole (pos k)

abbrev pub minus_one : ℚ
minus_one = whole (negsuc 0)

abbrev pub half : ℚ
half = fraction (pos 1) 2

abbrev pub third : ℚ
third = fraction (pos 1) 3

-- 10^20
abbrev pub wide : ℕ
wide = 100000000000000000000

-- an entry of a matrix, a place of a sparse vector with its value, and a pair of generators
abbrev pub cell : ℕ → ℕ → ℚ → Cell
cell i j v = record { row = i; col = j; value = v }

abbrev pub at : ℕ → ℚ → Spot
at k v = record { at = k; value = v }

abbrev pub pair : ℕ → ℕ → LogPair
pair p m = record { plus = p; minus = m }

-- what a file says
pub record Parts : Type 0 where
  pub dir : Dir
  pub objs : ℕ
  pub a : List Cell
  pub o : List Cell
  pub row_bounds : List Bound
  pub col_bounds : List Bound
  pub cone : Cone
  pub duality : Option (List ℚ)

-- the file says this
pub record Says (file : Problem) (parts : Parts) : Type 0 where
  pub dir : file.dir ≡ parts.dir
  pub rows : file.rows ≡ length parts.row_bounds
  pub cols : file.cols ≡ length parts.col_bounds
  pub objs : file.objs ≡ parts.objs
  pub a : file.a ≡ parts.a
  pub o : file.o ≡ parts.o
  pub row_bounds : file.row_bounds ≡ parts.row_bounds
  pub col_bounds : file.col_bounds ≡ parts.col_bounds
  pub cone : file.cone ≡ parts.cone
  pub duality : file.duality ≡ parts.duality

-- a failure in numbers: its entry, and 0 with the rule, or 1 with the step and the numerators of
-- its operands without their signs
abbrev pub in_numbers : Option Failing → List ℕ
in_numbers None = []
in_numbers (Some f) = f.entry ∷ elim (f.failure) [ wrong r ↦ 0 ∷ rule_number r ∷ [] | left k op a b ↦ 1 ∷ k ∷ unsigned_abs a.num ∷ unsigned_abs b.num ∷ [] ]

-- a file that says this, of whose log the first failure is this one
pub record Fails (parts : Parts) (log : List Entry) (failure : List ℕ) : Type 0 where
  pub file : Problem
  pub says : Says file parts
  pub first : in_numbers (plain_failure is_held file log) ≡ failure

-- none fails
abbrev pub Passes : Parts → List Entry → Type 0
Passes parts log = Fails parts log []

-- ---- two rows, two objectives: three cuts, and so two vertices, two directions and three facets
-- 2 x1 + x2 and x1 + 2 x2 are at least 6, and x ≥ 0; the objectives are x1 - x2 and x1 + x2
abbrev pub small : Parts
small = record {
  dir = Min;
  objs = 2;
  a = cell 1 1 (n 2) ∷ cell 1 2 (n 1) ∷ cell 2 1 (n 1) ∷ cell 2 2 (n 2) ∷ [];
  o = cell 1 1 (n 1) ∷ cell 1 2 minus_one ∷ cell 2 1 (n 1) ∷ cell 2 2 (n 1) ∷ [];
  row_bounds = Lower (n 6) ∷ Lower (n 6) ∷ [];
  col_bounds = Lower (n 0) ∷ Lower (n 0) ∷ [];
  cone = Orthant;
  duality = None;
}

-- the entries up to the third cut, with its bound
abbrev pub small_cuts : ℚ → List Entry
small_cuts bound =
    entry.Version 1
    ∷ entry.Duality (n 1 ∷ n 1 ∷ []) [] [] []
    ∷ entry.Cut (half ∷ half ∷ []) (n 0) (at 3 (n 1) ∷ []) []
    ∷ entry.Cut (n 0 ∷ n 1 ∷ []) (n 4) (at 1 third ∷ at 2 third ∷ []) []
    ∷ entry.Start (1 ∷ 2 ∷ []) (whole (negsuc 3) ∷ n 4 ∷ []) (n 1 ∷ n 0 ∷ minus_one ∷ n 1 ∷ [])
    ∷ entry.Cut (fraction (pos 1) 4 ∷ fraction (pos 3) 4 ∷ []) bound (at 1 half ∷ []) []
    ∷ []

-- up to the pre-image of the first direction
abbrev pub small_front : List Entry
small_front =
    small_cuts (n 3)
    ++ entry.Add 3 (pair 2 1 ∷ pair 3 1 ∷ [])
    ∷ entry.Point 4 (at 1 (n 2) ∷ at 2 (n 2) ∷ []) []
    ∷ entry.Point 5 (at 2 (n 6) ∷ []) []
    ∷ entry.Ray 2 [] []
    ∷ []

-- the pre-image of the second direction
abbrev pub last_ray : Entry
last_ray = entry.Ray 3 (at 2 (n 1) ∷ []) []

-- the end of a solved log
abbrev pub solved_end : List Entry
solved_end = entry.End kind.Solved ∷ []

-- the log as it should be; the bound of a cut changed; a pair left out; no pre-image of a
-- direction; a facet not named; an `add` after a facet
pub record SmallLogs : Type 0 where
  pub solved : Passes small (small_front ++ last_ray ∷ entry.Facet 1 ∷ entry.Facet 2 ∷ entry.Facet 3 ∷ solved_end)
  pub bound : Fails small (small_cuts (n 4) ++ solved_end) (6 ∷ 0 ∷ 10 ∷ [])
  pub left_out : Fails small (small_cuts (n 3) ++ entry.Add 3 (pair 2 1 ∷ []) ∷ solved_end) (7 ∷ 0 ∷ 13 ∷ [])
  pub no_ray : Fails small (small_front ++ entry.Facet 1 ∷ entry.Facet 2 ∷ entry.Facet 3 ∷ solved_end) (14 ∷ 0 ∷ 15 ∷ [])
  pub no_facet : Fails small (small_front ++ last_ray ∷ entry.Facet 1 ∷ entry.Facet 2 ∷ solved_end) (14 ∷ 0 ∷ 15 ∷ [])
  pub add_last : Fails small (small_front ++ entry.Facet 1 ∷ entry.Add 1 [] ∷ solved_end) (12 ∷ 0 ∷ 2 ∷ [])

-- ---- x2 ≥ 10^20 x1 and x1 ≥ 10^20: the sum of the bounds is not held, at step 11
-- -10^20 x1 + x2 is at least 0, and x1 at least 10^20; the objective is x2
abbrev pub large : Parts
large = record {
  dir = Min;
  objs = 1;
  a = cell 1 1 (whole (negsuc 99999999999999999999)) ∷ cell 1 2 (n 1) ∷ [];
  o = cell 1 2 (n 1) ∷ [];
  row_bounds = Lower (n 0) ∷ [];
  col_bounds = Lower (n wide) ∷ Unsaid ∷ [];
  cone = Orthant;
  duality = None;
}

-- the first entries of a log with one objective
abbrev pub one_duality : List Entry
one_duality = entry.Version 1 ∷ entry.Duality (n 1 ∷ []) [] [] [] ∷ []

-- a cut by the multipliers 1 and 10^20
abbrev pub large_log : List Entry
large_log = one_duality ++ entry.Cut (n 1 ∷ []) (n 0) (at 1 (n 1) ∷ at 2 (n wide) ∷ []) [] ∷ solved_end

-- ---- no rows, and the variables as objectives
-- two variables, with these bounds
abbrev pub plain : Cone → Option (List ℚ) → List Bound → Parts
plain cone duality bounds = record {
  dir = Min;
  objs = 2;
  a = [];
  o = cell 1 1 (n 1) ∷ cell 2 2 (n 1) ∷ [];
  row_bounds = [];
  col_bounds = bounds;
  cone = cone;
  duality = duality;
}

-- the first variable free: the image has a line
abbrev pub line_file : Parts
line_file = plain Orthant None (Free ∷ Lower (n 0) ∷ [])

-- the line (1, 0), by x1 and by -x1
abbrev pub the_line : Entry
the_line = entry.Line (n 1 ∷ n 0 ∷ []) [] (at 1 (n 1) ∷ []) [] (at 1 minus_one ∷ []) []

-- the cut y2 ≥ 0, by the bound of x2
abbrev pub line_cuts : List Entry
line_cuts =
    entry.Version 1 ∷ entry.Duality (n 1 ∷ n 1 ∷ []) [] [] []
    ∷ entry.Cut (n 0 ∷ n 1 ∷ []) (n 0) (at 1 (n 1) ∷ []) []
    ∷ []

-- from the start on, with this point and these directions
abbrev pub line_end : List ℚ → List ℚ → List Entry
line_end point directions =
    entry.Start (1 ∷ []) point directions
    ∷ entry.Point 1 [] []
    ∷ entry.Ray 2 [] []
    ∷ entry.Facet 1 ∷ solved_end

-- the line after the cut
abbrev pub line_log : List Entry
line_log = line_cuts ++ the_line ∷ line_end (n 0 ∷ n 0 ∷ []) (n 0 ∷ n 1 ∷ [])

-- the line before the cut
abbrev pub line_first_log : List Entry
line_first_log =
    entry.Version 1 ∷ entry.Duality (n 1 ∷ n 1 ∷ []) [] [] []
    ∷ the_line
    ∷ entry.Cut (n 0 ∷ n 1 ∷ []) (n 0) (at 1 (n 1) ∷ []) []
    ∷ line_end (n 0 ∷ n 0 ∷ []) (n 0 ∷ n 1 ∷ [])

-- a row x2 ≥ 1 beside the bound x2 ≥ 0: the cut of the bound comes first, and then that of the row
abbrev pub line_above : Parts
line_above = record line_file {
  a = cell 1 2 (n 1) ∷ [];
  row_bounds = Lower (n 1) ∷ [];
}

-- with these pairs
abbrev pub line_add_log : List LogPair → List Entry
line_add_log pairs =
    entry.Version 1 ∷ entry.Duality (n 1 ∷ n 1 ∷ []) [] [] []
    ∷ entry.Cut (n 0 ∷ n 1 ∷ []) (n 0) (at 2 (n 1) ∷ []) []
    ∷ entry.Line (n 1 ∷ n 0 ∷ []) (at 2 (n 1) ∷ []) (at 1 (n 1) ∷ []) [] (at 1 minus_one ∷ []) []
    ∷ entry.Start (1 ∷ []) (n 0 ∷ n 0 ∷ []) (n 0 ∷ n 1 ∷ [])
    ∷ entry.Cut (n 0 ∷ n 1 ∷ []) (n 1) (at 1 (n 1) ∷ []) []
    ∷ entry.Add 2 pairs
    ∷ entry.Point 3 (at 2 (n 1) ∷ []) []
    ∷ entry.Ray 2 [] []
    ∷ entry.Facet 2 ∷ solved_end

-- x3 - x1 - x2 as third objective, x1 and x2 free and x3 ≥ 0: the sum of the objectives is at least 0,
-- and the image has two lines
abbrev pub half_space : Parts
half_space = record {
  dir = Min;
  objs = 3;
  a = [];
  o = cell 1 1 (n 1) ∷ cell 2 2 (n 1) ∷ cell 3 1 minus_one ∷ cell 3 2 minus_one ∷ cell 3 3 (n 1) ∷ [];
  row_bounds = [];
  col_bounds = Free ∷ Free ∷ Lower (n 0) ∷ [];
  cone = Orthant;
  duality = None;
}

-- a line with its pre-image, and the negative of both
abbrev pub line_by : List ℚ → List Spot → List Spot → Entry
line_by d ray back = entry.Line d [] ray [] back []

-- the line (1, 0, -1), by the first variable,
abbrev pub first_line : Entry
first_line = line_by (n 1 ∷ n 0 ∷ minus_one ∷ []) (at 1 (n 1) ∷ []) (at 1 minus_one ∷ [])

-- and (0, 1, -1), by the second
abbrev pub second_line : Entry
second_line = line_by (n 0 ∷ n 1 ∷ minus_one ∷ []) (at 2 (n 1) ∷ []) (at 2 minus_one ∷ [])

-- the first minus the second
abbrev pub mixed_line : Entry
mixed_line = line_by (n 1 ∷ minus_one ∷ n 0 ∷ []) (at 1 (n 1) ∷ at 2 minus_one ∷ []) (at 1 minus_one ∷ at 2 (n 1) ∷ [])

-- with these two lines
abbrev pub half_space_log : Entry → Entry → List Entry
half_space_log one two =
    entry.Version 1 ∷ entry.Duality (n 1 ∷ n 1 ∷ n 1 ∷ []) [] [] []
    ∷ entry.Cut (third ∷ third ∷ third ∷ []) (n 0) (at 1 third ∷ []) []
    ∷ one
    ∷ two
    ∷ entry.Start (1 ∷ []) (n 0 ∷ n 0 ∷ n 0 ∷ []) (n 0 ∷ n 0 ∷ n 1 ∷ [])
    ∷ entry.Point 1 [] []
    ∷ entry.Ray 2 [] []
    ∷ entry.Facet 1 ∷ solved_end

-- the cone of (1, 2) and (2, 1), with c = (1, 1) = 1/3 (1, 2) + 1/3 (2, 1), and the inverse of the
-- two; (0, 1) is no multiple of (1, 2)
abbrev pub wide_cone : Cone
wide_cone = Gens ((n 1 ∷ n 2 ∷ []) ∷ (n 2 ∷ n 1 ∷ []) ∷ [])

-- a log with this cone
abbrev pub cone_log : List Entry
cone_log =
    entry.Version 1
    ∷ entry.Duality (n 1 ∷ n 1 ∷ []) (third ∷ third ∷ []) (1 ∷ 2 ∷ [])
    (fraction (negsuc 0) 3 ∷ fraction (pos 2) 3 ∷ fraction (pos 2) 3 ∷ fraction (negsuc 0) 3 ∷ [])
    ∷ entry.Cut (n 0 ∷ n 1 ∷ []) (n 0) (at 2 (n 1) ∷ []) []
    ∷ entry.Cut (n 1 ∷ n 0 ∷ []) (n 0) (at 1 (n 1) ∷ []) []
    ∷ entry.Start (1 ∷ 2 ∷ []) (n 0 ∷ n 0 ∷ []) (n 0 ∷ n 1 ∷ n 1 ∷ n 0 ∷ [])
    ∷ entry.Point 1 [] []
    ∷ entry.Ray 2 [] (at 1 (n 1) ∷ [])
    ∷ solved_end

-- the same cone with both variables fixed at 0: the image is the cone itself, and each direction is
-- a multiple of a generator
abbrev pub cone_alone : Parts
cone_alone = plain wide_cone (Some (n 2 ∷ n 2 ∷ [])) (Fixed (n 0) ∷ Fixed (n 0) ∷ [])

-- its log, whose directions are multiples of the second vector and of the first
abbrev pub cone_alone_log : List Entry
cone_alone_log =
    entry.Version 1
    ∷ entry.Duality (n 1 ∷ n 1 ∷ []) (third ∷ third ∷ []) (1 ∷ 2 ∷ [])
    (fraction (negsuc 0) 3 ∷ fraction (pos 2) 3 ∷ fraction (pos 2) 3 ∷ fraction (negsuc 0) 3 ∷ [])
    ∷ entry.Cut (n 2 ∷ minus_one ∷ []) (n 0) (at 1 (n 2) ∷ at 4 (n 1) ∷ []) []
    ∷ entry.Cut (minus_one ∷ n 2 ∷ []) (n 0) (at 2 (n 1) ∷ at 3 (n 2) ∷ []) []
    ∷ entry.Start (1 ∷ 2 ∷ []) (n 0 ∷ n 0 ∷ []) (n 1 ∷ half ∷ n 1 ∷ n 2 ∷ [])
    ∷ entry.Point 1 [] []
    ∷ entry.Ray 2 [] (at 2 half ∷ [])
    ∷ entry.Ray 3 [] (at 1 (n 1) ∷ [])
    ∷ entry.Facet 1 ∷ entry.Facet 2 ∷ solved_end

-- the orthant by rows, in dual form
abbrev pub dual_cone : Cone
dual_cone = Dual ((n 1 ∷ n 0 ∷ []) ∷ (n 0 ∷ n 1 ∷ []) ∷ [])

-- a log with this cone
abbrev pub dual_log : List Entry
dual_log =
    entry.Version 1
    ∷ entry.Duality (n 1 ∷ n 1 ∷ []) [] [] []
    ∷ entry.Cut (n 0 ∷ n 1 ∷ []) (n 0) (at 2 (n 1) ∷ []) (at 2 (n 1) ∷ [])
    ∷ entry.Cut (n 1 ∷ n 0 ∷ []) (n 0) (at 1 (n 1) ∷ []) (at 1 (n 1) ∷ [])
    ∷ entry.Start (1 ∷ 2 ∷ []) (n 0 ∷ n 0 ∷ []) (n 0 ∷ n 1 ∷ n 1 ∷ n 0 ∷ [])
    ∷ entry.Point 1 [] []
    ∷ entry.Ray 2 [] []
    ∷ entry.Ray 3 [] []
    ∷ entry.Facet 1 ∷ entry.Facet 2 ∷ solved_end

-- one variable and one objective
abbrev pub one : Bound → Parts
one bound = record {
  dir = Min;
  objs = 1;
  a = [];
  o = cell 1 1 (n 1) ∷ [];
  row_bounds = [];
  col_bounds = bound ∷ [];
  cone = Orthant;
  duality = None;
}

-- a log of it where there is no bound,
abbrev pub whole_log : List Entry
whole_log = one_duality ++ entry.Whole [] (at 1 minus_one ∷ []) [] ∷ entry.End kind.Whole ∷ []

-- and where there is a lower bound
abbrev pub bounded_log : ℚ → List Entry
bounded_log bound =
    one_duality ++ entry.Cut (n 1 ∷ []) bound (at 1 (n 1) ∷ []) [] ∷ entry.Start (1 ∷ []) (bound ∷ []) (n 1 ∷ [])
    ∷ entry.Point 1 (at 1 bound ∷ []) [] ∷ entry.Ray 2 [] [] ∷ entry.Facet 1 ∷ solved_end

-- x ≥ 1 and -x ≥ 0 contradict each other
abbrev pub empty : Parts
empty = record {
  dir = Min;
  objs = 1;
  a = cell 1 1 (n 1) ∷ [];
  o = cell 1 1 (n 1) ∷ [];
  row_bounds = Lower (n 1) ∷ [];
  col_bounds = Upper (n 0) ∷ [];
  cone = Orthant;
  duality = None;
}

-- 1 times the first side and u times the second
abbrev pub farkas_log : ℚ → List Entry
farkas_log u = entry.Version 1 ∷ entry.Farkas (at 1 (n 1) ∷ at 2 u ∷ []) ∷ entry.End kind.Infeasible ∷ []

-- a line, after a cut and before it, and a start whose direction is not reduced, or whose point is not;
-- a line twice, one after the start, and the end that no log has. A row that comes into use beside a
-- line, and its one pair left out. Two lines, of which the first is not 0 at the place of the second,
-- and whose places fall
pub record LineLogs : Type 0 where
  pub has_line : Passes line_file line_log
  pub line_first : Passes line_file line_first_log
  pub way_not_reduced : Fails line_file (line_cuts ++ the_line ∷ line_end (n 0 ∷ n 0 ∷ []) (n 1 ∷ n 1 ∷ [])) (5 ∷ 0 ∷ 12 ∷ [])
  pub point_not_reduced : Fails line_file (line_cuts ++ the_line ∷ line_end (n 1 ∷ n 0 ∷ []) (n 0 ∷ n 1 ∷ [])) (5 ∷ 0 ∷ 12 ∷ [])
  pub line_twice : Fails line_file (line_cuts ++ the_line ∷ the_line ∷ solved_end) (5 ∷ 0 ∷ 5 ∷ [])
  pub line_late : Fails line_file (line_log ++ the_line ∷ []) (10 ∷ 0 ∷ 2 ∷ [])
  pub no_vertex : Fails line_file (line_cuts ++ the_line ∷ entry.End kind.NoVertex ∷ []) (5 ∷ 0 ∷ 15 ∷ [])
  pub added : Passes line_above (line_add_log (pair 2 1 ∷ []))
  pub left_out : Fails line_above (line_add_log []) (7 ∷ 0 ∷ 13 ∷ [])
  pub two_lines : Passes half_space (half_space_log first_line second_line)
  pub mixed : Fails half_space (half_space_log mixed_line second_line) (5 ∷ 0 ∷ 5 ∷ [])
  pub falling : Fails half_space (half_space_log second_line first_line) (5 ∷ 0 ∷ 5 ∷ [])

-- an operation that is not held; a direction by a wrong generator; cones by generators and by rows;
-- everything; one objective; no solution; a cut before the duality vector, a second version and none
pub record OtherLogs : Type 0 where
  pub overflow : Fails large large_log (3 ∷ 1 ∷ 11 ∷ wide ∷ wide ∷ [])
  pub by_generators : Fails (plain wide_cone (Some (n 2 ∷ n 2 ∷ [])) (Lower (n 0) ∷ Lower (n 0) ∷ [])) cone_log (7 ∷ 0 ∷ 9 ∷ [])
  pub generators : Passes cone_alone cone_alone_log
  pub by_rows : Passes (plain dual_cone None (Lower (n 0) ∷ Lower (n 0) ∷ [])) dual_log
  pub everything : Passes (one Unsaid) whole_log
  pub bounded : Passes (one (Lower (fraction (pos 3) 2))) (bounded_log (fraction (pos 3) 2))
  pub no_solution : Passes empty (farkas_log (n 1))
  pub unbalanced : Fails empty (farkas_log (n 2)) (2 ∷ 0 ∷ 8 ∷ [])
  pub cut_first : Fails (one Unsaid) (entry.Version 1 ∷ entry.Cut [] (n 0) [] [] ∷ entry.End kind.Whole ∷ []) (2 ∷ 0 ∷ 2 ∷ [])
  pub second_version : Fails (one Unsaid) (entry.Version 1 ∷ entry.Version 1 ∷ []) (2 ∷ 0 ∷ 2 ∷ [])
  pub end_first : Fails (one Unsaid) (entry.End kind.Whole ∷ []) (1 ∷ 0 ∷ 2 ∷ [])

-- ---- a file that maximises: x1 + x2 ≤ 1 and x ≥ 0, the variables as objectives
-- both objectives are maximised
abbrev pub largest : Parts
largest = record {
  dir = Max;
  objs = 2;
  a = cell 1 1 (n 1) ∷ cell 1 2 (n 1) ∷ [];
  o = cell 1 1 (n 1) ∷ cell 2 2 (n 1) ∷ [];
  row_bounds = Upper (n 1) ∷ [];
  col_bounds = Lower (n 0) ∷ Lower (n 0) ∷ [];
  cone = Orthant;
  duality = None;
}

-- its log without the end,
abbrev pub largest_front : List Entry
largest_front =
    entry.Version 1
    ∷ entry.Duality (n 1 ∷ n 1 ∷ []) [] [] []
    ∷ entry.Cut (n 1 ∷ n 0 ∷ []) minus_one (at 1 (n 1) ∷ at 3 (n 1) ∷ []) []
    ∷ entry.Cut (n 0 ∷ n 1 ∷ []) minus_one (at 1 (n 1) ∷ at 2 (n 1) ∷ []) []
    ∷ entry.Cut (half ∷ half ∷ []) (fraction (negsuc 0) 2) (at 1 half ∷ []) []
    ∷ entry.Start (1 ∷ 2 ∷ []) (minus_one ∷ minus_one ∷ []) (n 1 ∷ n 0 ∷ n 0 ∷ n 1 ∷ [])
    ∷ entry.Add 3 (pair 2 1 ∷ pair 3 1 ∷ [])
    ∷ entry.Point 4 (at 2 (n 1) ∷ []) []
    ∷ entry.Point 5 (at 1 (n 1) ∷ []) []
    ∷ entry.Ray 2 [] []
    ∷ entry.Ray 3 [] []
    ∷ entry.Facet 2 ∷ entry.Facet 3 ∷ entry.Facet 1 ∷ []

-- and with it
abbrev pub largest_log : List Entry
largest_log = largest_front ++ solved_end

-- the numerators of vectors
abbrev pub numerators : List (List ℚ) → List (List ℤ)
numerators vs = map (λ v. map (λ q. q.num) v) vs

-- the points (0, 1) and (1, 0), the directions (-1, 0) and (0, -1) and the facets y2 ≤ 1, (y1 + y2)
-- / 2 ≤ 1 / 2 and y1 ≤ 1 in the coordinates of the file, each facet with the numbers of its tight
-- points and directions; and the log proves this answer
pub record LargestLog : Type 0 where
  pub file : Problem
  pub says : Says file largest
  pub points : numerators (map (λ g. g.y) (live_at file largest_log one_ℚ)) ≡ (pos 0 ∷ pos 1 ∷ []) ∷ (pos 1 ∷ pos 0 ∷ []) ∷ []
  pub directions : numerators (map (λ g. g.y) (live_at file largest_log zero_ℚ)) ≡ (negsuc 0 ∷ pos 0 ∷ []) ∷ (pos 0 ∷ negsuc 0 ∷ []) ∷ []
  pub tight : map (λ f. f.tight) (named_facets file largest_log (map (λ g. g.y) (live_at file largest_log one_ℚ)) (map (λ g. g.y) (live_at file largest_log zero_ℚ)))
      ≡ (1 ∷ 3 ∷ []) ∷ (1 ∷ 2 ∷ []) ∷ (2 ∷ 4 ∷ []) ∷ []
  pub bounds : map (λ f. f.gamma.num) (named_facets file largest_log [] []) ≡ pos 1 ∷ pos 1 ∷ pos 1 ∷ []
  pub proves : PlainProves file largest_log
      (Solved (duality_vector largest_log) [] (live_at file largest_log one_ℚ) (live_at file largest_log zero_ℚ)
      (named_facets file largest_log (map (λ g. g.y) (live_at file largest_log one_ℚ)) (map (λ g. g.y) (live_at file largest_log zero_ℚ))))

-- the first variable free and the second at most 0, maximised
abbrev pub line_below : Parts
line_below = record line_file {
  dir = Max;
  col_bounds = Free ∷ Upper (n 0) ∷ [];
}

-- its log, in working coordinates: a pre-image of the line (1, 0) is (-1, 0)
abbrev pub line_below_log : List Entry
line_below_log =
    line_cuts
    ++ line_by (n 1 ∷ n 0 ∷ []) (at 1 minus_one ∷ []) (at 1 (n 1) ∷ [])
    ∷ line_end (n 0 ∷ n 0 ∷ []) (n 0 ∷ n 1 ∷ [])

-- the log passes; the line stands in the answer as in the log, with its two pre-images changed about;
-- and the direction is turned
pub record LineBelow : Type 0 where
  pub file : Problem
  pub says : Says file line_below
  pub passes : plain_failure is_held file line_below_log ≡ None
  pub line : shown_lines file line_below_log ≡ record { d = n 1 ∷ n 0 ∷ []; ray = at 1 (n 1) ∷ []; back = at 1 minus_one ∷ [] } ∷ []
  pub direction : numerators (map (λ g. g.y) (live_at file line_below_log zero_ℚ)) ≡ (pos 0 ∷ negsuc 0 ∷ []) ∷ []

-- all of these logs
pub record WorkedLogs : Type 0 where
  pub small : SmallLogs
  pub lines : LineLogs
  pub below : LineBelow
  pub other : OtherLogs
  pub largest : LargestLog
