-- Rows and generators of the image in a trail with a start, and the numbers of entries of a trail
-- or after one, beside near ones that are none: each example would fail if a definition were
-- wrong.
use Rattle.std.specs.Prelude.{◌||◌, pos, negsuc, codes, Bool, List, [], ◌∷◌, ◌++◌, Some, refl}
use Rattle.exact_field.specs.Rational.{ℚ, fraction}
use Rattle.exact_field.specs.Order.{same_ℚ}
use Rattle.exact_field.specs.declared.op.Op.TheVariants.{Add, Mul, Div}
use Rattle.exact_field.specs.declared.op.Left.{Left}
use Rattle.vlp_problem.specs.declared.problem.Problem.{Problem}
use Rattle.vlp_problem.specs.declared.problem.Cone.TheVariants.{Gens}
use Rattle.deriv_log.specs.declared.entry.Entry.{Entry}
use Rattle.deriv_log.specs.declared.entry.Entry.TheVariants.{Cut, Start, Add, Point, Ray}
use Rattle.deriv_log.specs.declared.licence.Family.TheVariants.{Image}
use Rattle.deriv_log.specs.declared.licence.Place.{Place}
use Rattle.deriv_log.specs.declared.licence.Place.TheVariants.{Elim, Pair}
use Rattle.log_rules.specs.Proves.{AllMeet}
use Rattle.overflows.specs.Examples.{n, minus, half, minus_half, is_few, plain, ones, trail_of, cut_entry}
use Rattle.lp_form.specs.Examples.{numbers, rows}
use Rattle.overflows.specs.Dictionaries.{AreElimRows}
use Rattle.overflows.specs.Licence.{IsOverflow, opening, Licensed}
use Rattle.overflows.specs.PairExamples.{narrow_with, third}
use Rattle.overflows.specs.Products.{IsTrailEntry, IsShareStep}
use Rattle.overflows.specs.Settings.{Setting}
use Rattle.overflows.specs.Steps.{operation}
use Rattle.overflows.specs.Trails.{IsBaseTrail}

-- ---- the image of a file with four cuts
-- 1/4 and 3/4
abbrev pub quarter : ℚ
quarter = fraction (pos 1) 4

abbrev pub three_quarters : ℚ
three_quarters = fraction (pos 3) 4

-- after (y_1 + y_2) / 2 ≥ 0 the cuts y_2 ≥ 0, y_1 / 4 + 3 y_2 / 4 ≥ 3 and y_2 ≥ 4; the first two
-- meet in (0, 0), and the third one comes into use
abbrev pub chain : List Entry
chain =
    trail_of ones
    ++ cut_entry
    ∷ Cut (n 0 ∷ n 1 ∷ []) (n 0) (record { at = 3; value = n 1 } ∷ record { at = 4; value = n 1 } ∷ []) []
    ∷ Start (1 ∷ 2 ∷ []) (n 0 ∷ n 0 ∷ []) (n 1 ∷ n 0 ∷ minus 1 ∷ n 1 ∷ [])
    ∷ Cut (quarter ∷ three_quarters ∷ []) (n 3) (record { at = 1; value = half } ∷ []) []
    ∷ Add 3 (record { plus = 2; minus = 1 } ∷ record { plus = 3; minus = 1 } ∷ [])
    ∷ Cut (n 0 ∷ n 1 ∷ []) (n 4) (record { at = 1; value = third } ∷ record { at = 2; value = third } ∷ []) []
    ∷ []

-- the plain file with this trail
abbrev pub in_chain : Setting
in_chain = record { file = plain; c = Some ones; weights = []; trail = chain }

-- the operation overflows at the place there
abbrev pub OverflowsChain : Place → Left ℚ → Type 0
OverflowsChain place left = IsOverflow is_few in_chain place left

-- row 0 with the third cut and the fourth one
abbrev pub image_rows : List (List ℚ)
image_rows = (n 0 ∷ n 0 ∷ n 1 ∷ []) ∷ (quarter ∷ three_quarters ∷ minus 3 ∷ []) ∷ (n 0 ∷ n 1 ∷ minus 4 ∷ []) ∷ []

-- row 0 with the second cut and the fourth one, whose normals are equal
abbrev pub parallel_rows : List (List ℚ)
parallel_rows = (n 0 ∷ n 0 ∷ n 1 ∷ []) ∷ (n 0 ∷ n 1 ∷ n 0 ∷ []) ∷ (n 0 ∷ n 1 ∷ minus 4 ∷ []) ∷ []

-- row 0, the three cuts in use, and the fourth cut
abbrev pub added_rows : List (List ℚ)
added_rows =
    (n 0 ∷ n 0 ∷ n 1 ∷ [])
    ∷ (half ∷ half ∷ n 0 ∷ [])
    ∷ (n 0 ∷ n 1 ∷ n 0 ∷ [])
    ∷ (quarter ∷ three_quarters ∷ minus 3 ∷ [])
    ∷ (n 0 ∷ n 1 ∷ minus 4 ∷ [])
    ∷ []

-- the live generators are the directions 2, (1, 0), and 3, (-1, 1), and the points 4, (12, 0), and
-- 5, (-6, 6)
pub record ImageExamples : Type 0 where
  pub meets : AllMeet plain chain
  -- the normals of the cuts, and rows of the image by two cuts; not by two whose normals are
  -- dependent
  pub of_normals : OverflowsChain (Elim ((half ∷ half ∷ []) ∷ (n 0 ∷ n 1 ∷ []) ∷ (quarter ∷ three_quarters ∷ []) ∷ (n 0 ∷ n 1 ∷ []) ∷ []) (0 ∷ 0 ∷ 0 ∷ 0 ∷ []) 3 1 1)
      (operation Div three_quarters quarter)
  pub elimination : OverflowsChain (Elim image_rows (0 ∷ 0 ∷ 0 ∷ []) 3 3 1) (operation Div (n 1) (minus 4))
  pub no_elimination : AreElimRows in_chain parallel_rows 3 → ⊥
  -- the value of the fourth cut at 4 begins with -4 times 1; 1 is not live any more
  pub value : OverflowsChain (Pair Image added_rows 4 0 1) (operation Mul (minus 4) (n 1))
  pub not_live : OverflowsChain (Pair Image added_rows 1 0 1) (operation Mul (minus 4) (n 1)) → ⊥
  -- 5 and 4 are a pair with the values 2 and -4; 3 and 4 are covered by a third one
  pub pair : OverflowsChain (Pair Image added_rows 5 4 1) (operation Div (n 2) (n 4))
  pub covered : OverflowsChain (Pair Image added_rows 3 4 1) (operation Div (n 1) (n 4)) → ⊥

-- ---- the entries of a trail
-- x_1 is at least 3, the objectives are 2 x_1 and -x_1, the generators (1, 0) and (1, 2), and the
-- duality vector (1, 1)
abbrev pub leaning : Problem
leaning = narrow_with (Gens (rows (codes "1 0" ∷ codes "1 2" ∷ []))) (Some (numbers (codes "1 1"))) refl refl

-- half the sum of the generators is the duality vector
abbrev pub weights : List ℚ
weights = half ∷ half ∷ []

-- a number type that holds 0, 4/5, 1, 1/2 and -1/2 alone
abbrev pub is_some : ℚ → Bool
is_some q = is_few q || same_ℚ q half || same_ℚ q minus_half

-- y_1 / 3 + 2 y_2 / 3 ≥ 0 and 2 y_1 - y_2 ≥ 15 meet in (6, -3), the value of 3
abbrev pub after_duality : List Entry
after_duality =
    Cut (third ∷ fraction (pos 2) 3 ∷ []) (n 0) [] []
    ∷ Cut (n 2 ∷ minus 1 ∷ []) (n 15) (record { at = 1; value = n 5 } ∷ []) []
    ∷ Start (1 ∷ 2 ∷ []) (n 6 ∷ minus 3 ∷ []) (n 1 ∷ n 2 ∷ n 1 ∷ minus_half ∷ [])
    ∷ []

-- these entries, after a `version` and a `duality` entry
abbrev pub started : List Entry
started = opening ones weights (1 ∷ 2 ∷ []) (n 1 ∷ minus_half ∷ n 0 ∷ half ∷ []) ++ after_duality

-- the pre-image of the point, and that of the direction (1, 2), which is the second generator
abbrev pub point : Entry
point = Point 1 (record { at = 1; value = n 3 } ∷ []) []

abbrev pub ray : Entry
ray = Ray 2 [] (record { at = 2; value = n 1 } ∷ [])

-- the leaning file with this trail and the pre-image of the point,
abbrev pub at_point : Setting
at_point = record { file = leaning; c = Some ones; weights = weights; trail = started ++ point ∷ [] }

-- and without it
abbrev pub at_begin : Setting
at_begin = record { file = leaning; c = Some ones; weights = weights; trail = started }

-- numbers of entries that stand in the trail, or may stand next
pub record EntryExamples : Type 0 where
  pub with_point : IsBaseTrail leaning ones weights (started ++ point ∷ [])
  -- the side with the x of the point, which stands in the trail; the second entries of the
  -- generators with the m of the ray, which may stand next
  pub x_of_point : IsOverflow is_some at_point (Elim [] [] 0 1 2) (operation Mul (n 1) (n 3))
  pub m_of_ray : IsOverflow is_some at_point (Elim [] [] 0 2 2) (operation Mul (n 2) (n 1))
  pub licence : Licensed is_some leaning ones
      (record { place = Elim [] [] 0 2 2; left = operation Mul (n 2) (n 1); trail = after_duality ++ point ∷ [] })
  -- the other generator is not (1, 2), 4 has another value than the point, and the second generator
  -- of the image is a direction
  pub no_ray : IsTrailEntry at_point (Ray 2 [] (record { at = 1; value = n 1 } ∷ [])) → ⊥
  pub no_point : IsTrailEntry at_begin (Point 1 (record { at = 1; value = n 4 } ∷ []) []) → ⊥
  pub other_kind : IsTrailEntry at_begin (Point 2 (record { at = 1; value = n 3 } ∷ []) []) → ⊥

-- Benson's program at the direction 3 has at one of its bases the multipliers (0, 0, 3/2, -5/2), of
-- which the last is negative: its magnitude times the weight 1/2 of the second generator is added
-- to the share -3/2
pub record ShareExamples : Type 0 where
  pub product : IsOverflow is_some at_begin (Elim [] [] 0 2 2) (operation Mul (fraction (pos 5) 2) half)
  pub sum : IsOverflow is_some at_begin (Elim [] [] 0 2 3) (operation Add (fraction (negsuc 2) 2) (fraction (pos 5) 4))
  -- not with its sign, nor with another number than the weight; and there is no third weight
  pub with_sign : IsShareStep at_begin 2 2 (operation Mul (fraction (negsuc 4) 2) half) → ⊥
  pub other_weight : IsShareStep at_begin 2 2 (operation Mul (fraction (pos 5) 2) third) → ⊥
  pub no_weight : IsShareStep at_begin 3 2 (operation Mul (fraction (pos 5) 2) half) → ⊥

-- all of these
pub record WorkedImages : Type 0 where
  pub images : ImageExamples
  pub entries : EntryExamples
  pub shares : ShareExamples
