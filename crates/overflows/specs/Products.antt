-- Operands of sums of products: the lists that may be multiplied, and the share of a generator.
use Rattle.std.specs.Prelude.{ℕ, suc, ◌-◌, ◌≤◌, Bool, List, [], ◌∷◌, ◌++◌, ◌≡◌, ◌⊎◌, length, take, All, Contains, Some}
use Rattle.exact_field.specs.Rational.{ℚ, zero_ℚ, one_ℚ, ◌*ℚ◌, ◌<ℚ◌}
use Rattle.exact_field.specs.Vector.{entry, dot, front}
use Rattle.exact_field.specs.declared.op.Op.TheVariants.{Add, Mul}
use Rattle.exact_field.specs.declared.op.Left.{Left}
use Rattle.frac128.specs.declared.vectors.Spot.{Spot}
use Rattle.polyhedra.specs.DoubleDescription.{magnitude}
use Rattle.polyhedra.specs.LiveList.{Numbered, LiveList, step as next_step}
use Rattle.polyhedra.specs.Negatives.{negated}
use Rattle.polyhedra.specs.Vectors.{AtLeastZero}
use Rattle.vlp_problem.specs.Sides.{side_bounds}
use Rattle.vlp_problem.specs.declared.problem.Problem.{Problem}
use Rattle.vlp_problem.specs.Values.{cone_vectors}
use Rattle.upper_image.specs.Spots.{dense, column}
use Rattle.upper_image.specs.OrderingCone.{dual_of}
use Rattle.upper_image.specs.UpperImage.{normals, objectives}
use Rattle.deriv_log.specs.declared.entry.Entry.{Entry}
use Rattle.deriv_log.specs.declared.entry.Entry.TheVariants.{Point, Ray, Whole, Line}
use Rattle.deriv_log.specs.declared.licence.Family.TheVariants.{ConeRows}
use Rattle.log_rules.specs.Live.{rows_in_use}
use Rattle.lp_form.specs.Programs.{side_total, generators, feasible_system, benson_system, value_of, share_of}
use Rattle.overflows.specs.Steps.{operation, IsProductStep}
use Rattle.overflows.specs.Base.{AreMultipliersOff, IsRayOff, IsBaseChoice, IsBaseRay, IsBaseRow, IsBaseWeight, IsBaseCut, IsBaseNormal, IsBaseStart, IsGeneratorOf, IsLiveAfter}
use Rattle.overflows.specs.Trails.{IsMuOff, IsBaseTrail}
use Rattle.overflows.specs.Settings.{Setting, standing, Knows, IsTrailNormal}
use Rattle.overflows.specs.Generators.{IsAddition, IsGenerator}
use Rattle.overflows.specs.Quotients.{IsNormingStep}

-- ---- lists that may be multiplied
-- the u of a base cut, or one that is read off as a ray and shows that the sides contradict each
-- other
abbrev pub IsBaseU : Setting → List ℚ → Type 0
IsBaseU s u =
    ((c w : List ℚ) × (u' v : List Spot) × Knows s c × IsBaseCut s.file c w u' v × (u ≡ dense (side_total s.file) u'))
    ⊎ (IsRayOff (feasible_system s.file) u × AtLeastZero u × (zero_ℚ <ℚ dot (side_bounds s.file) u))

-- the w of a base cut, or a base weight
abbrev pub IsBaseW : Setting → List ℚ → Type 0
IsBaseW s w = (c : List ℚ) × Knows s c × (IsBaseNormal s.file c w ⊎ IsBaseWeight s.file c w)

-- multipliers of Benson's program at a base start vector
pub record AreBensonMultipliers (s : Setting) (y : List ℚ) : Type 0 where
  pub c : List ℚ
  pub known : Knows s c
  pub v : List ℚ
  pub t : Bool
  pub base : IsBaseStart s.file.objs s.trail v t
  pub read : AreMultipliersOff (benson_system s.file c v t) y

-- an entry that stands in the trail, or that the trail may take next
pub data IsTrailEntry (s : Setting) (e : Entry) : Type 0 where
  there : Contains s.trail e → IsTrailEntry s e
  next : (c : List ℚ) → Knows s c → IsBaseTrail s.file c s.weights (s.trail ++ e ∷ []) → IsTrailEntry s e

-- x is the choice of an entry, or one of its rays
abbrev pub IsChoiceOf : Problem → Entry → List ℚ → Type 0
IsChoiceOf file (Point k x m) y = y ≡ dense file.cols x
IsChoiceOf file (Ray k x m) y = y ≡ dense file.cols x
IsChoiceOf file (Whole x ray m) y = (y ≡ dense file.cols x) ⊎ (y ≡ dense file.cols ray)
IsChoiceOf file (Line d x ray m back n) y = (y ≡ dense file.cols x) ⊎ ((y ≡ dense file.cols ray) ⊎ (y ≡ dense file.cols back))
IsChoiceOf file _ y = ⊥

-- m are multipliers of the generators that an entry has beside its choice, or beside one of its
-- rays
abbrev pub AreSharesOf : Problem → Entry → List ℚ → Type 0
AreSharesOf file (Point k x m) y = y ≡ dense (length (generators file.cone)) m
AreSharesOf file (Ray k x m) y = y ≡ dense (length (generators file.cone)) m
AreSharesOf file (Whole x ray m) y = y ≡ dense (length (generators file.cone)) m
AreSharesOf file (Line d x ray m back n) y = (y ≡ dense (length (generators file.cone)) m) ⊎ (y ≡ dense (length (generators file.cone)) n)
AreSharesOf file _ y = ⊥

-- a choice or a ray: a base one, or that of an entry that the trail has or may take next
pub data IsBaseX (s : Setting) (x : List ℚ) : Type 0 where
  choice : IsBaseChoice s.file x → IsBaseX s x
  ray : IsBaseRay s.file x → IsBaseX s x
  of_entry : (e : Entry) → IsTrailEntry s e → IsChoiceOf s.file e x → IsBaseX s x

-- multipliers of the vectors of the ordering cone: the m of an entry that the trail has or may take
-- next, the v of a base cut, which is one of the dual form's vectors alone, or the mu of an
-- interior vector, which are at least 0
pub data AreBaseShares (s : Setting) (m : List ℚ) : Type 0 where
  of_entry : (e : Entry) → IsTrailEntry s e → AreSharesOf s.file e m → AreBaseShares s m
  of_cut : (c w : List ℚ) (u v : List Spot) → Knows s c → IsBaseCut s.file c w u v → m ≡ dense (length (generators (dual_of s.file.cone))) v →
      AreBaseShares s m
  mu : IsMuOff s.file (length (generators s.file.cone)) m → AtLeastZero m → AreBaseShares s m

-- the y of a generator that is live after the trail, or a generator over vectors of the ordering
-- cone, without the last or with it; those over base rows have no y
pub data IsGeneratorY (s : Setting) (y : List ℚ) : Type 0 where
  live : (g : Numbered) → IsLiveAfter s.file.objs s.trail g → y ≡ take s.file.objs g.vector → IsGeneratorY s y
  of_cone : (before : List (List ℚ)) (last : List ℚ) (list : LiveList) (g : Numbered) → IsAddition s before last list ConeRows →
      Contains list.live g ⊎ Contains (next_step before list last).live g → y ≡ g.vector → IsGeneratorY s y

-- what a vector of the ordering cone is multiplied by: f, c, a w, or such a y
pub data IsBesideCone (s : Setting) (y : List ℚ) : Type 0 where
  given : s.file.duality ≡ Some y → IsBesideCone s y
  duality : Knows s y → IsBesideCone s y
  weight : IsBaseW s y → IsBesideCone s y
  generator : IsGeneratorY s y → IsBesideCone s y

-- a w, the normal of a trail's cut, or a row in use
pub data IsRowOrWeight (s : Setting) (row : List ℚ) : Type 0 where
  weight : IsBaseW s row → IsRowOrWeight s row
  of_trail : IsTrailNormal s row → IsRowOrWeight s row
  in_use : Contains (rows_in_use s.file.objs (standing s)) row → IsRowOrWeight s row

-- a base start vector, or a generator
pub data IsStartOrGenerator (s : Setting) (v : List ℚ) : Type 0 where
  start : (t : Bool) → IsBaseStart s.file.objs s.trail v t → IsStartOrGenerator s v
  generator : IsGenerator s v → IsStartOrGenerator s v

-- two lists whose products may be summed
pub data AreMultiplied (s : Setting) (xs ys : List ℚ) : Type 0 where
  bounds : xs ≡ side_bounds s.file → IsBaseU s ys → AreMultiplied s xs ys
  duality : Knows s xs → IsBaseW s ys → AreMultiplied s xs ys
  last_weight : (c g : List ℚ) (rows : List (List ℚ)) → Knows s c → All (IsBaseRow s.file c) rows → IsGeneratorOf (suc s.file.objs) rows g →
      xs ≡ one_ℚ ∷ negated (front c) → ys ≡ entry g (suc s.file.objs) ∷ take (length c - 1) g → AreMultiplied s xs ys
  side : Contains (normals s.file) xs → IsBaseX s ys → AreMultiplied s xs ys
  of_objective : Contains (objectives s.file) xs → IsBaseX s ys → AreMultiplied s xs ys
  cone : Contains (cone_vectors s.file.cone) xs → IsBesideCone s ys → AreMultiplied s xs ys
  shares : (i : ℕ) → 1 ≤ i → i ≤ s.file.objs → xs ≡ column (cone_vectors s.file.cone) i → AreBaseShares s ys → AreMultiplied s xs ys
  across : IsRowOrWeight s xs → IsStartOrGenerator s ys → AreMultiplied s xs ys

-- ---- operations outside an elimination
-- the share of a generator in the m of a pre-image where the multiplier of Benson's last equation
-- is negative: the product of its magnitude and a weight of c is step 2, and the sum of what is
-- read off with this product is step 3
pub record IsShareStep (s : Setting) (col number : ℕ) (left : Left ℚ) : Type 0 where
  pub multipliers : List ℚ
  pub read : AreBensonMultipliers s multipliers
  pub negative : value_of multipliers <ℚ zero_ℚ
  pub from_one : 1 ≤ col
  pub to_end : col ≤ length s.weights
  pub operands :
      let factor = magnitude (value_of multipliers) in
      ((number ≡ 2) × (left ≡ operation Mul factor (entry s.weights col)))
      ⊎ ((number ≡ 3) × (left ≡ operation Add (entry (share_of s.file s.file.cone multipliers) col) (factor *ℚ entry s.weights col)))

-- an operation outside an elimination: of the norming of a first generator over these rows; or,
-- without rows, of a sum of products, with either list first, or of a share
pub data IsListStep (s : Setting) (rows : List (List ℚ)) (col number : ℕ) (left : Left ℚ) : Type 0 where
  normed : IsNormingStep s rows col number left → IsListStep s rows col number left
  forward : (xs ys : List ℚ) → rows ≡ [] → AreMultiplied s xs ys → IsProductStep col number xs ys left → IsListStep s rows col number left
  backward : (xs ys : List ℚ) → rows ≡ [] → AreMultiplied s ys xs → IsProductStep col number xs ys left → IsListStep s rows col number left
  share : rows ≡ [] → IsShareStep s col number left → IsListStep s rows col number left
