-- What a vector of the ordering cone is multiplied with, in a file whose bound is far away, and a near
-- vector with which it is not: the example would fail if a generator over base rows had a y.
use Rattle.std.specs.Prelude.{pos, [], ◌∷◌, Some, refl}
use Rattle.std.proofs.Math.Dec.{lit≤, lit<}
use Rattle.exact_field.specs.Rational.{ℚ, whole}
use Rattle.vlp_problem.specs.declared.problem.Problem.{Problem}
use Rattle.vlp_problem.specs.declared.problem.Bound.TheVariants.{Lower}
use Rattle.vlp_problem.specs.declared.problem.Cone.TheVariants.{Gens}
use Rattle.vlp_problem.specs.declared.problem.Dir.TheVariants.{Min}
use Rattle.overflows.specs.Examples.{n, minus_half, cell, dual_form, scaled_given, setting, at_start, ones}
use Rattle.overflows.specs.Products.{IsBesideCone}

-- 10^24, and 10^13
abbrev pub far_bound : ℚ
far_bound = n 1000000000000000000000000

abbrev pub long : ℚ
long = n 10000000000000

-- x_1 is at least 10^24; the objectives are x_1 and 0, the cone has the generators (1, 0) and (0,
-- 10^13), and f is (1, 1)
abbrev pub far : Problem
unfolding whole
far =
    record {
      dir = Min;
      rows = 0;
      cols = 1;
      objs = 2;
      a = [];
      o = cell 1 1 (pos 1) ∷ [];
      row_bounds = [];
      col_bounds = Lower far_bound ∷ [];
      cone = Gens ((n 1 ∷ n 0 ∷ []) ∷ (n 0 ∷ long ∷ []) ∷ []);
      duality = Some ones;
      rows_bounded = lit≤ tt;
      some_column = lit< tt;
      cols_bounded = lit≤ tt;
      some_objective = lit< tt;
      objs_bounded = lit≤ tt;
      a_cells = refl;
      o_cells = refl;
      row_count = refl;
      col_count = refl;
      cone_vectors = refl;
      duality_entries = refl;
    }

-- a generator over vectors of the cone, and the front of one over base rows
pub record WorkedCones : Type 0 where
  -- over (2, 1) and (0, 3) the second generator is (-1/2, 1)
  pub generator : IsBesideCone (setting dual_form scaled_given) (minus_half ∷ n 1 ∷ [])
  -- over the row (10^24, -1, 0) of the choice and those of the cone, (1, 10^24, 1) is a generator: its
  -- front is the first entry of a w and a bound, and no y. So nothing licenses the product of 10^13
  -- and 10^24 in (0, 10^13) and (1, 10^24)
  pub no_y : IsBesideCone (at_start far ones) (n 1 ∷ far_bound ∷ []) → ⊥
