-- Operands of double description: of the addition of a row, and of the row of a generator.
use Rattle.std.specs.Prelude.{ℕ, suc, ◌≤◌, Bool, List, [], ◌∷◌, ◌++◌, ◌≡◌, ◌⊎◌, map, length, All, Contains}
use Rattle.exact_field.specs.Rational.{ℚ}
use Rattle.exact_field.specs.declared.op.Left.{Left}
use Rattle.polyhedra.specs.Dependence.{AreCorners}
use Rattle.polyhedra.specs.DoubleDescription.{IsNormed}
use Rattle.polyhedra.specs.LiveList.{Numbered, LiveList, LivePair, live_pairs, starting, step, steps}
use Rattle.deriv_log.specs.declared.licence.Family.{Family}
use Rattle.deriv_log.specs.declared.licence.Family.TheVariants.{Image, Exchanged, ConeRows, Rep}
use Rattle.lineality.specs.Steps.{list_without}
use Rattle.lineality.specs.Without.{without, with_zeros}
use Rattle.log_rules.specs.Live.{rows_in_use, cut_row}
use Rattle.lp_form.specs.Programs.{nonzero_vectors}
use Rattle.overflows.specs.Steps.{IsNumbered, value_steps, pair_steps, exchange_steps}
use Rattle.geo_duality.specs.Rows.{exchange_row}
use Rattle.overflows.specs.Base.{IsBaseRow, IsLiveAfter}
use Rattle.overflows.specs.Settings.{Setting, standing, Knows, line_marks}

-- ---- double description
-- the live generators over rows, by their making: the normed corners of the first n rows are
-- numbered from 1, and each further row takes one step
pub record IsMadeOver (n : ℕ) (rows : List (List ℚ)) (list : LiveList) : Type 0 where
  pub first : List (List ℚ)
  pub more : List (List ℚ)
  pub parted : rows ≡ first ++ more
  pub vectors : List (List ℚ)
  pub corners : AreCorners n first vectors
  pub normed : All IsNormed vectors
  pub same : list ≡ steps first (starting 1 vectors) more

-- the rows before one that is added, with the live generators over them: row 0 and the trail's cuts
-- in use, and a cut of the trail, all without the places of the trail's lines; base rows; or
-- vectors of the ordering cone that are not 0
pub data IsAddition (s : Setting) (before : List (List ℚ)) (last : List ℚ) (list : LiveList) : Family → Type 0 where
  of_image : (cut : ℕ) → 1 ≤ cut → cut ≤ length (standing s).cuts → before ≡ map (without (line_marks s)) (rows_in_use s.file.objs (standing s)) →
      last ≡ without (line_marks s) (cut_row (standing s) cut) → list ≡ list_without (line_marks s) (standing s).list → IsAddition s before last list Image
  of_base : (c : List ℚ) → Knows s c → All (IsBaseRow s.file c) before → IsBaseRow s.file c last → IsMadeOver (suc s.file.objs) before list →
      IsAddition s before last list Exchanged
  of_cone : All (Contains (nonzero_vectors s.file.cone)) before → Contains (nonzero_vectors s.file.cone) last → IsMadeOver s.file.objs before list →
      IsAddition s before last list ConeRows

-- a step of the value of the live generator `first`, where `second` is 0; or of the meeting point
-- of the live generators of these numbers, at which the row is positive and negative, and which no
-- third one covers
pub data IsPairStep (before : List (List ℚ)) (last : List ℚ) (list : LiveList) (first second number : ℕ) (left : Left ℚ) : Type 0 where
  value : (g : Numbered) → Contains list.live g → first ≡ g.number → second ≡ 0 → IsNumbered (value_steps last g.vector) number left →
      IsPairStep before last list first second number left
  pair : (pair : LivePair) → Contains (live_pairs before list.live last) pair → first ≡ pair.plus_side.number → second ≡ pair.minus_side.number →
      IsNumbered (pair_steps last pair.plus_side.vector pair.minus_side.vector) number left → IsPairStep before last list first second number left

-- a step of the addition of the last of these rows
pub record IsAdditionStep (s : Setting) (family : Family) (rows : List (List ℚ)) (first second number : ℕ) (left : Left ℚ) : Type 0 where
  pub before : List (List ℚ)
  pub last : List ℚ
  pub parted : rows ≡ before ++ last ∷ []
  pub list : LiveList
  pub allowed : IsAddition s before last list family
  pub operands : IsPairStep before last list first second number left

-- ---- generators
-- a generator over the rows of a family, with all its entries: one of the image has zeros again at
-- the places of the trail's lines
abbrev pub filled : Setting → Family → List ℚ → List ℚ
filled s Image v = with_zeros (line_marks s) v
filled s Exchanged v = v
filled s ConeRows v = v
filled s Rep v = v

-- a generator: live after the trail, or live over rows that an addition has, without the last or
-- with it
abbrev pub IsGenerator : Setting → List ℚ → Type 0
IsGenerator s v =
    ((g : Numbered) × IsLiveAfter s.file.objs s.trail g × (v ≡ g.vector))
    ⊎ ((before : List (List ℚ)) × (last : List ℚ) × (family : Family) × (list : LiveList) × (g : Numbered) × IsAddition s before last list family
    × (Contains list.live g ⊎ Contains (step before list last).live g) × (v ≡ filled s family g.vector))

-- ---- the row of a point or of a direction
-- a step of a row that is a base row
pub record IsExchangeStep (s : Setting) (y : List ℚ) (t : Bool) (number : ℕ) (left : Left ℚ) : Type 0 where
  pub c : List ℚ
  pub known : Knows s c
  pub base : IsBaseRow s.file c (exchange_row c y t)
  pub operands : IsNumbered (exchange_steps c y) number left
