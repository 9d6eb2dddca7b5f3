-- Rows, generators and sums of an image with a line, beside near ones that are none: each example
-- would fail if a definition were wrong.
use Rattle.std.specs.Prelude.{pos, List, [], ◌∷◌, ◌++◌, None, Some, refl}
use Rattle.std.proofs.Math.Dec.{lit≤, lit<}
use Rattle.exact_field.specs.Rational.{ℚ, whole}
use Rattle.exact_field.specs.declared.op.Op.TheVariants.{Mul, Div}
use Rattle.exact_field.specs.declared.op.Left.{Left}
use Rattle.frac128.specs.declared.vectors.Spot.{Spot}
use Rattle.vlp_problem.specs.declared.problem.Problem.{Problem}
use Rattle.vlp_problem.specs.declared.problem.Dir.TheVariants.{Min}
use Rattle.vlp_problem.specs.declared.problem.Cone.TheVariants.{Orthant}
use Rattle.vlp_problem.specs.declared.problem.Bound.TheVariants.{Free, Lower}
use Rattle.deriv_log.specs.declared.entry.Entry.{Entry}
use Rattle.deriv_log.specs.declared.entry.Entry.TheVariants.{Cut, Start, Line}
use Rattle.deriv_log.specs.declared.licence.Family.TheVariants.{Image}
use Rattle.deriv_log.specs.declared.licence.Place.{Place}
use Rattle.deriv_log.specs.declared.licence.Place.TheVariants.{Elim, Pair}
use Rattle.overflows.specs.Examples.{n, minus, is_few, cell, ones, trail_of}
use Rattle.overflows.specs.Licence.{IsOverflow, Licensed}
use Rattle.overflows.specs.Products.{AreMultiplied}
use Rattle.overflows.specs.Settings.{Setting}
use Rattle.overflows.specs.Steps.{operation}
use Rattle.overflows.specs.Trails.{IsBaseLine, IsBaseTrail}

-- ---- the file
-- x_1 is free, and x_2 is at least 4, and at least 0; the objectives are x_1 and x_2. So the image
-- is a half plane, with the line (1, 0)
abbrev pub half_plane : Problem
unfolding whole
half_plane =
    record {
      dir = Min;
      rows = 1;
      cols = 2;
      objs = 2;
      a = cell 1 2 (pos 1) ∷ [];
      o = cell 1 1 (pos 1) ∷ cell 2 2 (pos 1) ∷ [];
      row_bounds = Lower (whole (pos 4)) ∷ [];
      col_bounds = Free ∷ Lower (whole (pos 0)) ∷ [];
      cone = Orthant;
      duality = None;
      rows_bounded = lit≤ tt;
      some_column = lit< tt;
      cols_bounded = lit≤ tt;
      some_objective = lit< tt;
      objs_bounded = lit≤ tt;
      a_cells = refl;
      o_cells = refl;
      row_count = refl;
      col_count = refl;
      cone_vectors = refl;
      duality_entries = refl;
    }

-- ---- the trail
-- the cuts y_2 ≥ 0 and y_2 ≥ 4, by the two sides
abbrev pub cuts : List Entry
cuts =
    Cut (n 0 ∷ n 1 ∷ []) (n 0) (record { at = 2; value = n 1 } ∷ []) []
    ∷ Cut (n 0 ∷ n 1 ∷ []) (n 4) (record { at = 1; value = n 1 } ∷ []) []
    ∷ []

-- the line with the choice (0, 4), and its pre-images (1, 0) and (-1, 0); a start at (0, 0) by the
-- first cut
abbrev pub line : Entry
line =
    Line (n 1 ∷ n 0 ∷ []) (record { at = 2; value = n 4 } ∷ []) (record { at = 1; value = n 1 } ∷ []) []
    (record { at = 1; value = minus 1 } ∷ []) []

-- these entries, from the cuts to the start
abbrev pub beside : List Entry
beside = cuts ++ line ∷ Start (1 ∷ []) (n 0 ∷ n 0 ∷ []) (n 0 ∷ n 1 ∷ []) ∷ []

-- the same after a `version` and a `duality` entry
abbrev pub along : List Entry
along = trail_of ones ++ beside

-- the half plane with this trail
abbrev pub in_along : Setting
in_along = record { file = half_plane; c = Some ones; weights = []; trail = along }

-- the operation overflows at the place there
abbrev pub OverflowsAlong : Place → Left ℚ → Type 0
OverflowsAlong place left = IsOverflow is_few in_along place left

-- ---- rows
-- row 0 and the second cut, without the entries at the place of the line, and with them
abbrev pub short_rows : List (List ℚ)
short_rows = (n 0 ∷ n 1 ∷ []) ∷ (n 1 ∷ minus 4 ∷ []) ∷ []

abbrev pub full_rows : List (List ℚ)
full_rows = (n 0 ∷ n 0 ∷ n 1 ∷ []) ∷ (n 0 ∷ n 1 ∷ minus 4 ∷ []) ∷ []

-- row 0, the first cut, which is in use, and the second one
abbrev pub short_added : List (List ℚ)
short_added = (n 0 ∷ n 1 ∷ []) ∷ (n 1 ∷ n 0 ∷ []) ∷ (n 1 ∷ minus 4 ∷ []) ∷ []

abbrev pub full_added : List (List ℚ)
full_added = (n 0 ∷ n 0 ∷ n 1 ∷ []) ∷ (n 0 ∷ n 1 ∷ n 0 ∷ []) ∷ (n 0 ∷ n 1 ∷ minus 4 ∷ []) ∷ []

-- the live generators are the point 1, (0, 0), and the direction 2, (0, 1); where the second cut is
-- added, the point (0, 4) comes
pub record LineExamples : Type 0 where
  -- (1, 0) is a side of the cuts before it, and (0, 1) is none
  pub with_line : IsBaseTrail half_plane ones [] along
  pub no_line : (x ray m back k : List Spot) → IsBaseLine half_plane ones [] (trail_of ones ++ cuts) (n 0 ∷ n 1 ∷ []) x ray m back k → ⊥
  -- rows without the entries at the place of the line are eliminated, and not the full ones
  pub elimination : OverflowsAlong (Elim short_rows (0 ∷ 0 ∷ []) 2 2 1) (operation Div (n 1) (minus 4))
  pub full_elimination : OverflowsAlong (Elim full_rows (0 ∷ 0 ∷ []) 2 3 1) (operation Div (n 1) (minus 4)) → ⊥
  pub licence : Licensed is_few half_plane ones
      (record { place = Elim short_rows (0 ∷ 0 ∷ []) 2 2 1; left = operation Div (n 1) (minus 4); trail = beside })
  -- so it is where a row is added: 2 and 1 are a pair with the values 1 and -4, and the value of 1
  -- is -4 times 1
  pub pair : OverflowsAlong (Pair Image short_added 2 1 1) (operation Div (n 1) (n 4))
  pub full_pair : OverflowsAlong (Pair Image full_added 2 1 1) (operation Div (n 1) (n 4)) → ⊥
  pub value : OverflowsAlong (Pair Image short_added 1 0 1) (operation Mul (minus 4) (n 1))
  pub full_value : OverflowsAlong (Pair Image full_added 1 0 1) (operation Mul (minus 4) (n 1)) → ⊥
  -- the row of the first cut is multiplied with the point (0, 4) as the full generator (0, 4, 1),
  -- and not with (4, 1), where y_2 meets the entry of y_1, and t that of y_2
  pub product : OverflowsAlong (Elim [] [] 0 2 2) (operation Mul (n 1) (n 4))
  pub no_product : AreMultiplied in_along (n 0 ∷ n 1 ∷ n 0 ∷ []) (n 4 ∷ n 1 ∷ []) → ⊥
