-- Lists that are multiplied and vectors that are divided in a file of one variable, whose lists
-- differ in their lengths, and near ones that are not: each example would fail if a definition were
-- wrong.
use Rattle.std.specs.Prelude.{pos, negsuc, codes, IsTrue, List, [], ◌∷◌, Option, None, refl}
use Rattle.std.proofs.Math.Dec.{lit≤, lit<}
use Rattle.exact_field.specs.Rational.{ℚ, whole, fraction}
use Rattle.exact_field.specs.declared.op.Op.TheVariants.{Mul, Div}
use Rattle.exact_field.specs.declared.op.Left.{Left}
use Rattle.vlp_problem.specs.Cones.{cone_fits, duality_fits}
use Rattle.vlp_problem.specs.declared.problem.Problem.{Problem}
use Rattle.vlp_problem.specs.declared.problem.Dir.TheVariants.{Min}
use Rattle.vlp_problem.specs.declared.problem.Cone.{Cone}
use Rattle.vlp_problem.specs.declared.problem.Cone.TheVariants.{Orthant, Dual}
use Rattle.vlp_problem.specs.declared.problem.Bound.TheVariants.{Lower}
use Rattle.deriv_log.specs.declared.licence.Place.{Place}
use Rattle.deriv_log.specs.declared.licence.Place.TheVariants.{Elim, Scale}
use Rattle.overflows.specs.Base.{IsConeDirection}
use Rattle.overflows.specs.Examples.{n, minus, half, minus_half, is_few, cell, generated, ones, setting, at_start}
use Rattle.lp_form.specs.Examples.{rows}
use Rattle.overflows.specs.Licence.{IsOverflow}
use Rattle.overflows.specs.Products.{AreBaseShares, AreMultiplied}
use Rattle.overflows.specs.Quotients.{IsScaled}
use Rattle.overflows.specs.Settings.{Setting}
use Rattle.overflows.specs.Steps.{operation, IsProductStep}

-- ---- the file
-- x_1 is at least 3; the objectives are 2 x_1 and -x_1
abbrev pub narrow_with : (cone : Cone) → (duality : Option (List ℚ)) → IsTrue (cone_fits 2 cone) → IsTrue (duality_fits 2 duality) → Problem
unfolding whole
narrow_with cone duality vectors entries =
    record {
      dir = Min;
      rows = 0;
      cols = 1;
      objs = 2;
      a = [];
      o = cell 1 1 (pos 2) ∷ cell 2 1 (negsuc 0) ∷ [];
      row_bounds = [];
      col_bounds = Lower (whole (pos 3)) ∷ [];
      cone = cone;
      duality = duality;
      rows_bounded = lit≤ tt;
      some_column = lit< tt;
      cols_bounded = lit≤ tt;
      some_objective = lit< tt;
      objs_bounded = lit≤ tt;
      a_cells = refl;
      o_cells = refl;
      row_count = refl;
      col_count = refl;
      cone_vectors = vectors;
      duality_entries = entries;
    }

-- the file with the orthant
abbrev pub narrow : Problem
narrow = narrow_with Orthant None refl refl

-- with the same cone by its vectors in dual form
abbrev pub in_dual_form : Problem
in_dual_form = narrow_with (Dual (rows (codes "1 0" ∷ codes "0 1" ∷ []))) None refl refl

-- and with a cone in dual form that is wider
abbrev pub wider : Problem
wider = narrow_with (Dual (rows (codes "2 1" ∷ codes "0 3" ∷ []))) None refl refl

-- 1/3
abbrev pub third : ℚ
third = fraction (pos 1) 3

-- its first two entries alone
abbrev pub in_narrow : Setting
in_narrow = setting narrow ones

-- the operation overflows at the place there
abbrev pub OverflowsNarrow : Place → Left ℚ → Type 0
OverflowsNarrow place left = IsOverflow is_few in_narrow place left

-- ---- lists that are multiplied
-- products of lists at one place
pub record PairExamples : Type 0 where
  -- the bound 3 and the u of the cut (1, 0); no u has a negative entry
  pub bounds : OverflowsNarrow (Elim [] [] 0 1 2) (operation Mul (n 3) (n 2))
  pub no_bounds : AreMultiplied in_narrow (n 3 ∷ []) (minus 2 ∷ []) → ⊥
  -- with c the choice 3 is not multiplied, nor a vector whose entries do not sum to 1
  pub no_weight : AreMultiplied in_narrow ones (half ∷ minus_half ∷ []) → ⊥
  pub no_choice_with_c : AreMultiplied in_narrow ones (n 3 ∷ []) → ⊥
  -- the last entry of a generator is 1, -1 or 0
  pub no_generator : AreMultiplied in_narrow (n 1 ∷ minus 1 ∷ []) (n 2 ∷ n 1 ∷ []) → ⊥
  -- the first objective with the choice 3; -3 is no feasible point, and no direction
  pub choice : OverflowsNarrow (Elim [] [] 0 1 2) (operation Mul (n 2) (n 3))
  pub no_choice : AreMultiplied in_narrow (n 2 ∷ []) (minus 3 ∷ []) → ⊥
  -- a start vector that is a side starts with 1 or -1
  pub no_start : AreMultiplied in_narrow (half ∷ half ∷ []) (n 2 ∷ n 0 ∷ []) → ⊥
  -- the v of the cut (1/3, 2/3) with the first entries of the cone's vectors; no v has a negative
  -- entry
  pub of_cut : IsOverflow is_few (setting in_dual_form ones) (Elim [] [] 0 1 2) (operation Mul (n 1) third)
  pub no_of_cut : AreBaseShares (setting in_dual_form ones) (minus 1 ∷ n 2 ∷ []) → ⊥
  -- the second product of c and the weight (1, 0), of (1, -1) and (1, 1), of a side and a choice,
  -- of a weight and a start vector is not the first one; and no lists have a fourth entry
  pub other_weight : IsProductStep 2 2 ones (n 1 ∷ n 0 ∷ []) (operation Mul (n 1) (n 1)) → ⊥
  pub other_last : IsProductStep 2 2 (n 1 ∷ minus 1 ∷ []) (n 1 ∷ n 1 ∷ []) (operation Mul (n 1) (n 1)) → ⊥
  pub other_side : IsProductStep 2 2 (n 2 ∷ n 1 ∷ []) (n 2 ∷ n 2 ∷ []) (operation Mul (n 2) (n 2)) → ⊥
  pub other_start : IsProductStep 2 2 (half ∷ half ∷ []) (n 1 ∷ n 0 ∷ []) (operation Mul half (n 1)) → ⊥
  pub no_place : OverflowsNarrow (Elim [] [] 0 4 2) (operation Mul (n 3) (n 2)) → ⊥

-- ---- vectors that are divided
-- quotients of a vector
pub record ScaleExamples : Type 0 where
  -- a generator of the cone by its first entry, and not with its entries exchanged
  pub direction : IsOverflow is_few (at_start generated ones) (Scale (n 2 ∷ n 1 ∷ []) 2) (operation Div (n 1) (n 2))
  pub no_direction : IsConeDirection generated (n 1 ∷ n 2 ∷ []) → ⊥
  -- (-1/2, 1) is a generator of the cone of (2, 1) and (0, 3)
  pub of_dual : IsOverflow is_few (at_start wider ones) (Scale (minus_half ∷ n 1 ∷ []) 1) (operation Div minus_half (n 1))
  -- the value (2, -1) of the ray 1, and not with another sign
  pub image : OverflowsNarrow (Scale (n 2 ∷ minus 1 ∷ []) 2) (operation Div (minus 1) (n 2))
  pub no_image : IsScaled in_narrow (n 2 ∷ n 1 ∷ []) → ⊥

-- all of these
pub record WorkedPairs : Type 0 where
  pub pairs : PairExamples
  pub scales : ScaleExamples
