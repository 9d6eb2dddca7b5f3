-- What is feasible, or valid, in the file of one variable and no base thing, and overflows that
-- nothing licenses though they have operands of their place: each example would fail if a
-- definition asked for less.
use Rattle.std.specs.Prelude.{false, pos, List, [], ◌∷◌, ◌++◌, None}
use Rattle.exact_field.specs.Rational.{ℚ, fraction}
use Rattle.exact_field.specs.declared.op.Op.TheVariants.{Mul, Div}
use Rattle.frac128.specs.declared.vectors.Spot.{Spot}
use Rattle.deriv_log.specs.declared.entry.Entry.{Entry}
use Rattle.deriv_log.specs.declared.entry.Entry.TheVariants.{Cut}
use Rattle.vlp_problem.specs.declared.program.Program.TheVariants.{Feasible, Weight}
use Rattle.deriv_log.specs.declared.licence.Licence.{Licence}
use Rattle.deriv_log.specs.declared.licence.Place.TheVariants.{Pivot, Elim, Scale}
use Rattle.overflows.specs.Base.{IsBaseChoice, IsBaseRay, IsBaseRow, IsBaseWeight, IsBaseCut, IsBaseStart}
use Rattle.overflows.specs.Examples.{n, minus, half, is_few, plain, ones, trail_of, cut_entry, OverflowsPlain, OverflowsDual}
use Rattle.overflows.specs.Licence.{LicensedWithout}
use Rattle.overflows.specs.PairExamples.{narrow, in_narrow, OverflowsNarrow}
use Rattle.overflows.specs.Products.{AreMultiplied}
use Rattle.overflows.specs.Settings.{Setting}
use Rattle.overflows.specs.Steps.{operation}
use Rattle.overflows.specs.Trails.{IsBaseTrail}

-- ---- feasible things
-- y_1 / 2 + y_2 / 2 ≥ 3/2, which holds on the image, by half of the side
abbrev pub halves : List ℚ
halves = half ∷ half ∷ []

abbrev pub half_side : List Spot
half_side = record { at = 1; value = half } ∷ []

abbrev pub half_cut : Entry
half_cut = Cut halves (fraction (pos 3) 2) half_side []

-- of the file of one variable, x_1 ≥ 3 with the objectives 2 x_1 and -x_1, nothing of this is read
-- off a dictionary
pub record FeasibleExamples : Type 0 where
  -- 4 is feasible, and 3 is the base choice; so the row of the value (8, -4) is no base row
  pub no_choice : IsBaseChoice narrow (n 4 ∷ []) → ⊥
  pub no_row : IsBaseRow narrow ones (n 12 ∷ minus 1 ∷ minus 4 ∷ []) → ⊥
  -- 2 is a direction of the feasible set, and the base rays are 1 and 1/2
  pub no_ray : IsBaseRay narrow (n 2 ∷ []) → ⊥
  -- (1/2, 1/2) is in the dual cone, and its product with c is 1; base cuts have the normals (1, 0)
  -- and (1/3, 2/3)
  pub no_weight : IsBaseWeight narrow ones halves → ⊥
  pub no_cut : IsBaseCut narrow ones halves half_side [] → ⊥
  pub no_trail : IsBaseTrail narrow ones [] (trail_of ones ++ half_cut ∷ []) → ⊥
  pub no_product : AreMultiplied in_narrow ones halves → ⊥
  -- the first equation of the program of this weight is u - 2 w_1 + w_2 = 0
  pub no_program : OverflowsNarrow (Pivot (Weight halves) [] 1 1 1) (operation Div (minus 2) (n 1)) → ⊥
  -- (1, 7) starts with 1: without cuts it spans nothing that is 0 at some places, and with the
  -- normal (1/2, 1/2) its product is 4
  pub no_span : IsBaseStart 2 (trail_of ones) (n 1 ∷ n 7 ∷ []) false → ⊥
  pub not_across : IsBaseStart 2 (trail_of ones ++ cut_entry ∷ []) (n 1 ∷ n 7 ∷ []) false → ⊥

-- ---- operands of their place
-- before a duality vector is known
abbrev pub narrow_before : Setting
narrow_before = record { file = narrow; c = None; weights = []; trail = [] }

-- 1 by 2 in the program of the sides, after these entries
abbrev pub first_pivot : List Entry → Licence
first_pivot trail = record { place = Pivot Feasible [] 1 1 1; left = operation Div (n 1) (n 2); trail = trail }

-- overflows that are licensed nowhere
pub record OperandExamples : Type 0 where
  -- 0 times 4, of a cone vector and the given one, is held; and no entry is divided by an entry 0
  pub held : OverflowsDual (Elim [] [] 0 1 2) (operation Mul (n 0) (n 4)) → ⊥
  pub no_quotient : OverflowsPlain (Scale (n 1 ∷ n 0 ∷ []) 1) (operation Div (n 1) (n 0)) → ⊥
  -- before a duality vector is known, nothing is multiplied with one, and no entry stands
  pub no_vector : AreMultiplied narrow_before ones (n 1 ∷ n 0 ∷ []) → ⊥
  pub before : LicensedWithout is_few plain (first_pivot [])
  pub after : LicensedWithout is_few plain (first_pivot (trail_of ones)) → ⊥

-- all of these
pub record WorkedFeasible : Type 0 where
  pub feasible : FeasibleExamples
  pub operands : OperandExamples
