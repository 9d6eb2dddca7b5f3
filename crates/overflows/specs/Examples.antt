-- Overflows that are licensed in a small file, and near ones that are not: each example would fail
-- if a definition were wrong.
use Rattle.std.specs.Prelude.{ℕ, ◌-◌, ℤ, pos, negsuc, codes, Bool, false, true, ◌||◌, IsTrue, List, [], ◌∷◌, ◌++◌, All, Option, None, Some, refl}
use Rattle.std.proofs.Math.Dec.{lit≤, lit<}
use Rattle.exact_field.specs.Rational.{ℚ, one_ℚ, whole, fraction}
use Rattle.exact_field.specs.Order.{same_ℚ}
use Rattle.exact_field.specs.declared.op.Op.TheVariants.{Sub, Mul, Div}
use Rattle.exact_field.specs.declared.op.Left.{Left}
use Rattle.polyhedra.specs.DoubleDescription.{is_zero}
use Rattle.polyhedra.specs.LiveList.{LiveList, starting}
use Rattle.vlp_problem.specs.Cones.{cone_fits, duality_fits}
use Rattle.lp_form.specs.Examples.{numbers, rows}
use Rattle.vlp_problem.specs.declared.problem.Problem.{Problem}
use Rattle.vlp_problem.specs.declared.problem.Cell.{Cell}
use Rattle.vlp_problem.specs.declared.problem.Dir.TheVariants.{Min}
use Rattle.vlp_problem.specs.declared.problem.Cone.{Cone}
use Rattle.vlp_problem.specs.declared.problem.Cone.TheVariants.{Orthant, Gens, Dual}
use Rattle.vlp_problem.specs.declared.problem.Bound.TheVariants.{Lower}
use Rattle.deriv_log.specs.declared.entry.Entry.{Entry}
use Rattle.deriv_log.specs.declared.entry.Entry.TheVariants.{Cut, End}
use Rattle.word_lines.specs.declared.part.EndKind.TheVariants as kind
use Rattle.deriv_log.specs.declared.licence.Licence.{Licence}
use Rattle.vlp_problem.specs.declared.program.Program.TheVariants.{Feasible, Benson, Weight}
use Rattle.deriv_log.specs.declared.licence.Family.TheVariants.{Exchanged, ConeRows}
use Rattle.deriv_log.specs.declared.licence.Place.{Place}
use Rattle.deriv_log.specs.declared.licence.Place.TheVariants.{Pivot, Elim, Pair, Exchange, Scale, Step}
use Rattle.overflows.specs.Base.{IsBaseChoice, IsBaseRay, IsBaseRow, IsBaseWeight, IsBaseCut, IsBaseStart}
use Rattle.overflows.specs.Generators.{IsPairStep}
use Rattle.overflows.specs.Licence.{IsOverflow, IsCheckOverflow, opening, StandsFor, Licensed}
use Rattle.overflows.specs.Products.{IsBaseX, AreBaseShares, AreMultiplied}
use Rattle.overflows.specs.Quotients.{IsOrthogonalOff, IsDivisor}
use Rattle.overflows.specs.Settings.{Setting}
use Rattle.overflows.specs.Steps.{operation}
use Rattle.overflows.specs.Trails.{IsBaseTrail}

-- ---- numbers
-- whole numbers, and -1/2, 1/2 and 4/5
abbrev pub n : ℕ → ℚ
n k = whole (pos k)

abbrev pub minus_half : ℚ
minus_half = fraction (negsuc 0) 2

abbrev pub half : ℚ
half = fraction (pos 1) 2

abbrev pub four_fifths : ℚ
four_fifths = fraction (pos 4) 5

-- a number type that holds 0, 4/5 and 1 alone
abbrev pub is_few : ℚ → Bool
is_few q = is_zero q || same_ℚ q one_ℚ || same_ℚ q four_fifths

-- ---- the file

-- the entry at row i and column j
abbrev pub cell : ℕ → ℕ → ℤ → Cell
cell i j v = record { row = i; col = j; value = whole v }

-- 2 x_1 + x_2 and x_1 + 2 x_2 are at least 6, x_1 and x_2 at least 0; the objectives are x_1 - x_2
-- and x_1 + x_2
abbrev pub file_with : (cone : Cone) → (duality : Option (List ℚ)) → IsTrue (cone_fits 2 cone) → IsTrue (duality_fits 2 duality) → Problem
unfolding whole
file_with cone duality vectors entries =
    record {
      dir = Min;
      rows = 2;
      cols = 2;
      objs = 2;
      a = cell 1 1 (pos 2) ∷ cell 1 2 (pos 1) ∷ cell 2 1 (pos 1) ∷ cell 2 2 (pos 2) ∷ [];
      o = cell 1 1 (pos 1) ∷ cell 1 2 (negsuc 0) ∷ cell 2 1 (pos 1) ∷ cell 2 2 (pos 1) ∷ [];
      row_bounds = Lower (whole (pos 6)) ∷ Lower (whole (pos 6)) ∷ [];
      col_bounds = Lower (whole (pos 0)) ∷ Lower (whole (pos 0)) ∷ [];
      cone = cone;
      duality = duality;
      rows_bounded = lit≤ tt;
      some_column = lit< tt;
      cols_bounded = lit≤ tt;
      some_objective = lit< tt;
      objs_bounded = lit≤ tt;
      a_cells = refl;
      o_cells = refl;
      row_count = refl;
      col_count = refl;
      cone_vectors = vectors;
      duality_entries = entries;
    }

-- the file with the orthant,
abbrev pub plain : Problem
plain = file_with Orthant None refl refl

-- and with a cone in dual form, of whose vectors one is 0, and a duality vector
abbrev pub dual_form : Problem
dual_form = file_with (Dual (rows (codes "2 1" ∷ codes "0 3" ∷ codes "0 0" ∷ []))) (Some (numbers (codes "4 5"))) refl refl

-- with the objectives 2 x_1 - 2 x_2 and x_1 + x_2, and x_2 at least -6
abbrev pub steep : Problem
unfolding whole
steep =
    record {
      dir = Min;
      rows = 2;
      cols = 2;
      objs = 2;
      a = cell 1 1 (pos 2) ∷ cell 1 2 (pos 1) ∷ cell 2 1 (pos 1) ∷ cell 2 2 (pos 2) ∷ [];
      o = cell 1 1 (pos 2) ∷ cell 1 2 (negsuc 1) ∷ cell 2 1 (pos 1) ∷ cell 2 2 (pos 1) ∷ [];
      row_bounds = Lower (whole (pos 6)) ∷ Lower (whole (pos 6)) ∷ [];
      col_bounds = Lower (whole (pos 0)) ∷ Lower (whole (negsuc 5)) ∷ [];
      cone = Orthant;
      duality = None;
      rows_bounded = lit≤ tt;
      some_column = lit< tt;
      cols_bounded = lit≤ tt;
      some_objective = lit< tt;
      objs_bounded = lit≤ tt;
      a_cells = refl;
      o_cells = refl;
      row_count = refl;
      col_count = refl;
      cone_vectors = refl;
      duality_entries = refl;
    }

-- with a cone by the generators (1, 0) and (2, 1)
abbrev pub generated : Problem
generated = file_with (Gens (rows (codes "1 0" ∷ codes "2 1" ∷ []))) None refl refl

-- without a cone its duality vector is (1, 1); with the cone of the vectors (2, 1), (0, 3), (0, 0)
-- in dual form, and (4, 5) given, it is (4/5, 1)
abbrev pub ones : List ℚ
ones = n 1 ∷ n 1 ∷ []

abbrev pub scaled_given : List ℚ
scaled_given = four_fifths ∷ n 1 ∷ []

-- a `version` and a `duality` entry
abbrev pub trail_of : List ℚ → List Entry
trail_of c = opening c [] [] []

-- the file with these two entries alone
abbrev pub setting : Problem → List ℚ → Setting
setting file c = record { file = file; c = Some c; weights = []; trail = trail_of c }

-- the operation overflows at the place, where the trail has these two entries alone
abbrev pub OverflowsPlain : Place → Left ℚ → Type 0
OverflowsPlain place left = IsOverflow is_few (setting plain ones) place left

-- the same of the file with the cone in dual form,
abbrev pub OverflowsDual : Place → Left ℚ → Type 0
OverflowsDual place left = IsOverflow is_few (setting dual_form scaled_given) place left

-- and of the steep one
abbrev pub OverflowsSteep : Place → Left ℚ → Type 0
OverflowsSteep place left = IsOverflow is_few (setting steep ones) place left

-- before any entry
abbrev pub at_start : Problem → List ℚ → Setting
at_start file c = record { file = file; c = Some c; weights = []; trail = [] }

-- ---- trails
-- the entry of the first cut
abbrev pub cut_entry : Entry
cut_entry = Cut (fraction (pos 1) 2 ∷ fraction (pos 1) 2 ∷ []) (n 0) (record { at = 3; value = n 1 } ∷ []) []

-- base trails, and a base cut
pub record TrailExamples : Type 0 where
  pub begins : StandsFor is_few plain ones [] [] (trail_of ones)
  pub given : StandsFor is_few dual_form scaled_given [] [] (trail_of scaled_given)
  -- without a cone and a given vector, c is all ones
  pub other : IsBaseTrail plain (n 2 ∷ n 1 ∷ []) [] (trail_of (n 2 ∷ n 1 ∷ [])) → ⊥
  -- the first cut of Benson's program, (y_1 + y_2) / 2 ≥ 0, by the third side
  pub first_cut : IsBaseCut plain ones (fraction (pos 1) 2 ∷ fraction (pos 1) 2 ∷ []) (record { at = 3; value = n 1 } ∷ []) []
  pub with_cut : IsBaseTrail plain ones [] (trail_of ones ++ cut_entry ∷ [])

-- ---- programs and eliminations
-- the first equation of the program of feasibility is 2 u_1 + u_2 + u_3 = 0: at its first column 1
-- is divided by 2, and not 2 by 1, in step 1; an entry that is 0 is no pivot, and no dictionary has
-- the first column in two rows
pub record DictionaryExamples : Type 0 where
  pub pivot : OverflowsPlain (Pivot Feasible [] 1 1 1) (operation Div (n 1) (n 2))
  pub turned : OverflowsPlain (Pivot Feasible [] 1 1 1) (operation Div (n 2) (n 1)) → ⊥
  pub other_step : OverflowsPlain (Pivot Feasible [] 1 1 2) (operation Div (n 1) (n 2)) → ⊥
  pub no_pivot : OverflowsPlain (Pivot Feasible [] 1 4 1) (operation Div (n 2) (n 0)) → ⊥
  pub no_dictionary : OverflowsPlain (Pivot Feasible (1 ∷ 1 ∷ []) 1 1 1) (operation Div (n 1) (n 2)) → ⊥
  pub licence : Licensed is_few plain ones (record { place = Pivot Feasible [] 1 1 1; left = operation Div (n 1) (n 2); trail = [] })
  -- Benson's program at the origin has the same first row; at another point it is not allowed, as
  -- none is live
  pub origin : OverflowsPlain (Pivot (Benson (n 0 ∷ n 0 ∷ []) true) [] 1 1 1) (operation Div (n 1) (n 2))
  pub no_start : OverflowsPlain (Pivot (Benson (n 5 ∷ n 7 ∷ []) true) [] 1 1 1) (operation Div (n 1) (n 2)) → ⊥
  -- vectors of the cone, and the norming of the second column (-1/6, 1/3) of their inverse
  pub elimination : OverflowsDual (Elim (rows (codes "2 1" ∷ codes "0 3" ∷ [])) (0 ∷ 0 ∷ []) 1 1 1) (operation Div (n 1) (n 2))
  pub turned_elimination : OverflowsDual (Elim (rows (codes "2 1" ∷ codes "0 3" ∷ [])) (0 ∷ 0 ∷ []) 1 1 1) (operation Div (n 2) (n 1)) → ⊥
  -- the basis has one place for each of them: not three, and none in row 0
  pub longer_basis : OverflowsDual (Elim (rows (codes "2 1" ∷ codes "0 3" ∷ [])) (0 ∷ 0 ∷ 0 ∷ []) 1 1 1) (operation Div (n 1) (n 2)) → ⊥
  pub norming : OverflowsDual (Elim (rows (codes "2 1" ∷ codes "0 3" ∷ [])) [] 0 1 1) (operation Div (fraction (negsuc 0) 6) (fraction (pos 1) 3))
  -- a vector of the cone times the given one, with either first; a sum of products has no step 4
  pub product : OverflowsDual (Elim [] [] 0 1 2) (operation Mul (n 2) (n 4))
  pub with_basis : OverflowsDual (Elim [] (1 ∷ []) 0 1 2) (operation Mul (n 2) (n 4)) → ⊥
  pub with_rows : OverflowsDual (Elim (rows (codes "2 1" ∷ [])) [] 0 1 2) (operation Mul (n 2) (n 4)) → ⊥
  pub turned_product : OverflowsDual (Elim [] [] 0 1 2) (operation Mul (n 4) (n 2))
  pub no_step : OverflowsDual (Elim [] [] 0 1 4) (operation Mul (n 2) (n 4)) → ⊥

-- ---- choices, rays, rows and weights
-- the number -k, for a k of at least 1
abbrev pub minus : ℕ → ℚ
minus k = whole (negsuc (k - 1))

-- the rows of the choice (2, 2), with the value (0, 4), and of the cone's directions (1, 0) and (0,
-- 1)
abbrev pub base_rows : List (List ℚ)
base_rows = (minus 4 ∷ minus 1 ∷ n 4 ∷ []) ∷ (n 1 ∷ n 0 ∷ n 0 ∷ []) ∷ (minus 1 ∷ n 0 ∷ n 1 ∷ []) ∷ []

-- that of the ray (0, 1/2), with the value (-1, 1/2)
abbrev pub ray_row : List ℚ
ray_row = fraction (negsuc 2) 2 ∷ n 0 ∷ half ∷ []

-- what a base fixes of the steep file, and overflows with it
pub record BaseExamples : Type 0 where
  -- (2, 2) is a corner of the feasible set; (0, -7) is not in it, and no direction of it
  pub choice : IsBaseChoice steep (n 2 ∷ n 2 ∷ [])
  pub no_choice : IsBaseChoice steep (n 0 ∷ minus 7 ∷ []) → ⊥
  -- (0, 1/2) is read off the program of the weight (1, 0), which has no solution
  pub ray : IsBaseRay steep (n 0 ∷ half ∷ [])
  pub no_ray : IsBaseRay steep (n 0 ∷ minus 7 ∷ []) → ⊥
  -- nor is it that of an entry: only a `version`, which has none, may come first
  pub no_x : IsBaseX (at_start steep ones) (n 0 ∷ minus 7 ∷ []) → ⊥
  pub rows_are : All (IsBaseRow steep ones) base_rows
  pub ray_row_is : IsBaseRow steep ones ray_row
  -- the entry of the bound is -1 for a choice, and 0 for a ray and a direction
  pub no_row : IsBaseRow steep ones (minus 4 ∷ n 5 ∷ n 4 ∷ []) → ⊥
  -- over these rows (1, 0, 1) is a generator; the entries of a weight sum to 1
  pub weight : IsBaseWeight steep ones (n 1 ∷ n 0 ∷ [])
  pub no_weight : IsBaseWeight steep ones (n 5 ∷ n 7 ∷ []) → ⊥
  -- without cuts (1, 0) spans what is 0 at the second place; (5, 7) does not start with 1, nor does
  -- its negative
  pub side : IsBaseStart 2 (trail_of ones) (n 1 ∷ n 0 ∷ []) false
  pub no_side : IsBaseStart 2 (trail_of ones) (n 5 ∷ n 7 ∷ []) false → ⊥
  -- the program of this weight may be asked, with (1, 0) on its right side; the row of the choice,
  -- and no other such row
  pub weight_pivot : OverflowsSteep (Pivot (Weight (n 1 ∷ n 0 ∷ [])) [] 1 1 1) (operation Div (n 1) (n 2))
  pub no_weight_pivot : OverflowsSteep (Pivot (Weight (n 5 ∷ n 7 ∷ [])) [] 1 1 1) (operation Div (n 1) (n 2)) → ⊥
  pub exchange : OverflowsSteep (Exchange (n 0 ∷ n 4 ∷ []) true 1) (operation Mul (n 4) (n 1))
  pub elimination : OverflowsSteep (Elim base_rows (0 ∷ 0 ∷ 0 ∷ []) 3 1 1) (operation Div (n 1) (minus 1))
  -- the ray's row at (1, 0, 1), the second of the generators, begins with -3/2 times 1
  pub addition : OverflowsSteep (Pair Exchanged (base_rows ++ ray_row ∷ []) 2 0 1) (operation Mul (fraction (negsuc 2) 2) (n 1))
  -- the ray by the first entry of its value that is not 0, whose magnitude is 1, and not by 3
  pub norming : OverflowsSteep (Scale (n 0 ∷ half ∷ []) 2) (operation Div half (n 1))
  pub no_norming : IsDivisor (setting steep ones) (n 0 ∷ half ∷ []) (n 3) → ⊥

-- ---- orthogonal vectors
-- another cut, with the normal (1, 0)
abbrev pub second_cut : Entry
second_cut = Cut (n 1 ∷ n 0 ∷ []) (n 0) [] []

-- these two entries, followed by cuts
abbrev pub with_cuts : List Entry → Setting
with_cuts cuts = record { file = plain; c = Some ones; weights = []; trail = trail_of ones ++ cuts }

-- a vector that has the product 0 with the normals of cuts
pub record OrthogonalExamples : Type 0 where
  -- (-1, 1) has the product 0 with the normal (1/2, 1/2) of the first cut, and not with that of the
  -- second
  pub orthogonal : IsOverflow is_few (with_cuts (cut_entry ∷ [])) (Scale (minus 1 ∷ n 1 ∷ []) 1) (operation Div (minus 1) (n 1))
  pub no_orthogonal : IsOrthogonalOff (with_cuts (cut_entry ∷ second_cut ∷ [])) (minus 1 ∷ n 1 ∷ []) → ⊥

-- ---- sums
-- the numbers of a file's bounds, and a number of its own of a body that gives up
abbrev pub bounds : List ℚ
bounds = n 6 ∷ n 6 ∷ n 0 ∷ minus 6 ∷ []

abbrev pub large : ℚ
large = n 1267650600228229401496703205376

-- lists that may be multiplied
pub record SumExamples : Type 0 where
  -- the duality vector and the weight (1/2, 1/2) of the first cut
  pub weighed : OverflowsPlain (Elim [] [] 0 1 2) (operation Mul (n 1) half)
  -- (1, -1) and the entries (1, 1) of the generator (1, 0, 1)
  pub last_weight : OverflowsSteep (Elim [] [] 0 2 2) (operation Mul (minus 1) (n 1))
  -- a side, and a row of the objectives, with the choice (2, 2)
  pub of_side : OverflowsSteep (Elim [] [] 0 1 2) (operation Mul (n 2) (n 2))
  pub of_objective : OverflowsSteep (Elim [] [] 0 2 2) (operation Mul (minus 2) (n 2))
  -- the first entries of both generators with the mu (0, 1) of an interior vector; mu is at least 0
  pub shares : IsOverflow is_few (at_start generated ones) (Elim [] [] 0 2 2) (operation Mul (n 2) (n 1))
  pub no_shares : AreBaseShares (at_start generated ones) (n 0 ∷ minus 1 ∷ []) → ⊥
  -- the weight of the first cut with the start (1, 0)
  pub across : OverflowsPlain (Elim [] [] 0 1 2) (operation Mul half (n 1))
  -- the bounds are not multiplied with themselves, nor is a number of its own with itself
  pub no_square : AreMultiplied (setting steep ones) bounds bounds → ⊥
  pub no_number : AreMultiplied (setting steep ones) (large ∷ []) (large ∷ []) → ⊥

-- ---- double description, rows, norming, the check
-- the square cone: its generators are (1, 1, 1), (-1, 1, 1), (-1, -1, 1) and (1, -1, 1)
abbrev pub square_rows : List (List ℚ)
square_rows = rows (codes "1 0 1" ∷ codes "-1 0 1" ∷ codes "0 1 1" ∷ codes "0 -1 1" ∷ [])

abbrev pub square_list : LiveList
square_list = starting 1 (rows (codes "1 1 1" ∷ codes "-1 1 1" ∷ codes "-1 -1 1" ∷ codes "1 -1 1" ∷ []))

-- the first two entries and an end: a whole log, whose check overflows at the second entry
abbrev pub ended : List Entry
ended = trail_of scaled_given ++ End kind.Solved ∷ []

-- the licence of step 3 of the second entry with this trail
abbrev pub step_licence : List Entry → Licence
step_licence trail = record { place = Step 2 3; left = operation Mul (n 2) four_fifths; trail = trail }

-- values and pairs, rows, quotients and the check of a log
pub record StepExamples : Type 0 where
  -- over (2, 1) and (0, 3) the second generator is (-1/2, 1): its value at (2, 1) begins with the
  -- product of 2 and -1/2
  pub value : OverflowsDual (Pair ConeRows (rows (codes "2 1" ∷ codes "0 3" ∷ codes "2 1" ∷ [])) 2 0 1) (operation Mul (n 2) minus_half)
  -- at (1, 0, 0) the generators 1 and 2 are a pair, and at (1, 1, 0) the generators 1 and 3 are
  -- covered by a third one
  pub pair : IsPairStep square_rows (numbers (codes "1 0 0")) square_list 1 2 1 (operation Div (n 1) (n 1))
  pub covered : IsPairStep square_rows (numbers (codes "1 1 0")) square_list 1 3 1 (operation Div (n 2) (n 2)) → ⊥
  -- the row of the direction (0, 1) is (-1, 0, 1): its first entry is 0 - 1 in step 2
  pub exchange : OverflowsPlain (Exchange (n 0 ∷ n 1 ∷ []) false 2) (operation Sub (n 0) (n 1))
  pub other_number : OverflowsPlain (Exchange (n 0 ∷ n 1 ∷ []) false 1) (operation Sub (n 0) (n 1)) → ⊥
  -- the given vector (4, 5) by one of its entries, and not by another number
  pub scale : OverflowsDual (Scale (n 4 ∷ n 5 ∷ []) 2) (operation Div (n 5) (n 4))
  pub other_divisor : OverflowsDual (Scale (n 4 ∷ n 5 ∷ []) 2) (operation Div (n 5) (n 3)) → ⊥
  -- the check of the `duality` entry: 4/5 and 5/5 are held, and step 3 is the product of 2 and 4/5
  pub check : IsCheckOverflow is_few dual_form ended (Step 2 3) (operation Mul (n 2) four_fifths)
  pub earlier_step : IsCheckOverflow is_few dual_form ended (Step 2 1) (operation Mul (n 2) four_fifths) → ⊥
  -- that of a licence has a whole log as its trail, and is no operation of a call
  pub no_trail : Licensed is_few dual_form scaled_given (step_licence []) → ⊥
  pub cut_trail : Licensed is_few dual_form scaled_given (step_licence (trail_of scaled_given)) → ⊥
  pub no_call : OverflowsDual (Step 2 3) (operation Mul (n 2) four_fifths) → ⊥

-- all of these
pub record WorkedLicences : Type 0 where
  pub trails : TrailExamples
  pub bases : BaseExamples
  pub orthogonals : OrthogonalExamples
  pub sums : SumExamples
  pub dictionaries : DictionaryExamples
  pub steps : StepExamples
