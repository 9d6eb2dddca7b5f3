-- Rows over dual vectors, generators and facets of a small file, beside near ones that are none:
-- each example would fail if a definition were wrong.
use Rattle.std.specs.Prelude.{pos, List, [], ◌∷◌, ◌≡◌, None, refl}
use Rattle.std.proofs.Math.Dec.{lit≤, lit<}
use Rattle.exact_field.specs.Rational.{ℚ, whole}
use Rattle.polyhedra.specs.Inequality.{Inequality}
use Rattle.vlp_problem.specs.declared.problem.Problem.{Problem}
use Rattle.vlp_problem.specs.declared.problem.Dir.TheVariants.{Min}
use Rattle.vlp_problem.specs.declared.problem.Cone.TheVariants.{Orthant}
use Rattle.vlp_problem.specs.declared.problem.Bound.TheVariants.{Lower}
use Rattle.overflows.specs.Base.{IsBaseChoice}
use Rattle.overflows.specs.Examples.{n, minus, cell, ones}
use Rattle.lower_image.specs.Lower.{AreAllFacets, AreLowerRows, IsCertified, dual_vector, weight_at, weighted}

-- x_1, x_2 and x_1 + x_2 - 4 are at least 0, and the objectives are x_1 and x_2
abbrev pub corners : Problem
unfolding whole
corners =
    record {
      dir = Min;
      rows = 1;
      cols = 2;
      objs = 2;
      a = cell 1 1 (pos 1) ∷ cell 1 2 (pos 1) ∷ [];
      o = cell 1 1 (pos 1) ∷ cell 2 2 (pos 1) ∷ [];
      row_bounds = Lower (whole (pos 4)) ∷ [];
      col_bounds = Lower (whole (pos 0)) ∷ Lower (whole (pos 0)) ∷ [];
      cone = Orthant;
      duality = None;
      rows_bounded = lit≤ tt;
      some_column = lit< tt;
      cols_bounded = lit≤ tt;
      some_objective = lit< tt;
      objs_bounded = lit≤ tt;
      a_cells = refl;
      o_cells = refl;
      row_count = refl;
      col_count = refl;
      cone_vectors = refl;
      duality_entries = refl;
    }

-- y_1 ≥ 0, and its dual vector
abbrev pub first_up : Inequality
first_up = record { normal = n 1 ∷ n 0 ∷ []; bound = n 0 }

abbrev pub across : List ℚ
across = n 1 ∷ n 0 ∷ n 1 ∷ []

-- the dual vectors of y_2 ≥ 4, and that in which the bound says less
abbrev pub four_up : List ℚ
four_up = n 0 ∷ n 4 ∷ n 1 ∷ []

abbrev pub less : List ℚ
less = n 0 ∷ minus 1 ∷ n 0 ∷ []

-- the row of the choice (0, 4), and those of the directions (1, 0) and (0, 1)
abbrev pub choice_row : List ℚ
choice_row = minus 4 ∷ minus 1 ∷ n 4 ∷ []

abbrev pub first_row : List ℚ
first_row = n 1 ∷ n 0 ∷ n 0 ∷ []

abbrev pub second_row : List ℚ
second_row = minus 1 ∷ n 0 ∷ n 1 ∷ []

-- weights, rows, certified generators and facets, and near ones that are none
pub record LowerExamples : Type 0 where
  -- the weight of (1, gamma, 1) is completed by c: its entries sum to the last one
  pub weight : weight_at ones (n 1 ∷ []) (n 1) ≡ n 1 ∷ n 0 ∷ []
  pub vector : dual_vector ones first_up ≡ across
  -- a generator with last entry 0 stands for no inequality
  pub standing : weighted (less ∷ across ∷ four_up ∷ []) ≡ across ∷ four_up ∷ []
  -- (0, 4) is a corner of the feasible set, and (0, 3) is not in it
  pub choice : IsBaseChoice corners (n 0 ∷ n 4 ∷ [])
  pub no_corner : IsBaseChoice corners (n 0 ∷ n 3 ∷ []) → ⊥
  -- the rows of the choice and of both unit vectors; without that of the second the weight (0, -1)
  -- passes, and without that of the choice any bound does
  pub rows_are : AreLowerRows corners ones (choice_row ∷ first_row ∷ second_row ∷ [])
  pub no_direction : AreLowerRows corners ones (choice_row ∷ first_row ∷ []) → ⊥
  pub no_choice : AreLowerRows corners ones (first_row ∷ second_row ∷ []) → ⊥
  -- y_2 is 0 at the point (4, 0)
  pub certified : IsCertified corners ones across
  pub not_certified : IsCertified corners ones four_up → ⊥
  -- some inequality is valid, and each facet stands once
  pub no_facets : AreAllFacets corners ones [] → ⊥
  pub no_repetition : AreAllFacets corners ones (first_up ∷ first_up ∷ []) → ⊥
