-- Choices, rays, rows, weights, cuts and start vectors that a file and its duality vector c alone
-- fix, since each is read off a dictionary at a full basis of a named program, or is a generator of
-- a cone that such things fix.
use Rattle.std.specs.Prelude.{ℕ, suc, ◌≤◌, ◌-◌, Bool, true, false, List, ◌≡◌, ◌⊎◌, map, length, take, All, Contains, if◌then◌else◌}
use Rattle.exact_field.specs.Rational.{ℚ, zero_ℚ, one_ℚ}
use Rattle.exact_field.specs.Vector.{entry, dot, front}
use Rattle.frac128.specs.declared.vectors.Spot.{Spot}
use Rattle.polyhedra.specs.Cone.{IsInCone, HasFullRank}
use Rattle.polyhedra.specs.DoubleDescription.{IsNormed, leading}
use Rattle.polyhedra.specs.Exactness.{homogenised}
use Rattle.polyhedra.specs.Hull.{IsExtremeDirection, IsMultiple}
use Rattle.polyhedra.specs.LiveList.{Numbered}
use Rattle.polyhedra.specs.LowerImage.{completed}
use Rattle.polyhedra.specs.Negatives.{negated}
use Rattle.polyhedra.specs.Vectors.{zeros, values}
use Rattle.tableaux.specs.Table.{Table, System, unit, unknown_count}
use Rattle.tableaux.specs.Simplex.{IsSolution}
use Rattle.tableaux.specs.Dictionary.{IsFullDictionaryOf, solution, ray, multipliers, first_multipliers}
use Rattle.vlp_problem.specs.Sides.{IsFeasible, IsRecession}
use Rattle.vlp_problem.specs.declared.problem.Problem.{Problem}
use Rattle.vlp_problem.specs.declared.problem.Cone.{Cone}
use Rattle.vlp_problem.specs.declared.problem.Cone.TheVariants.{Orthant, Gens, Dual}
use Rattle.upper_image.specs.Spots.{dense}
use Rattle.upper_image.specs.UpperImage.{objectives}
use Rattle.deriv_log.specs.declared.entry.Entry.{Entry}
use Rattle.log_rules.specs.Live.{state}
use Rattle.lp_form.specs.Programs.{side_total, feasible_system, benson_system, weight_system, u_of, w_of, v_of, choice_of}
use Rattle.geo_duality.specs.Rows.{exchange_row}

-- ---- what is read off
-- something is read off the dictionary of a system at a full basis
pub record ReadOff (s : System) (Reads : List ℕ → Table → Type 0) : Type 0 where
  pub basis : List ℕ
  pub dictionary : Table
  pub full : IsFullDictionaryOf s basis dictionary
  pub reads : Reads basis dictionary

-- z is its solution, y are its multipliers of the second cost row or of the first, r is the ray of
-- one of its columns
abbrev pub IsSolutionOff : System → List ℚ → Type 0
IsSolutionOff s z = ReadOff s (λ basis d. z ≡ solution s basis d)

abbrev pub AreMultipliersOff : System → List ℚ → Type 0
AreMultipliersOff s y = ReadOff s (λ basis d. y ≡ multipliers s d)

abbrev pub AreFirstMultipliersOff : System → List ℚ → Type 0
AreFirstMultipliersOff s y = ReadOff s (λ basis d. y ≡ first_multipliers s d)

abbrev pub IsRayOff : System → List ℚ → Type 0
IsRayOff s r = ReadOff s (λ basis d. (col : ℕ) × (1 ≤ col) × (col ≤ unknown_count s) × (r ≡ ray s basis d col))

-- ---- choices and rays
-- a feasible point among the multipliers of the program that asks for one, or of the program of a
-- weight
pub record IsBaseChoice (file : Problem) (x : List ℚ) : Type 0 where
  pub feasible : IsFeasible file x
  pub read :
      ((y : List ℚ) × AreMultipliersOff (feasible_system file) y × (x ≡ choice_of file y))
      ⊎ ((w y : List ℚ) × (length w ≡ file.objs) × AreMultipliersOff (weight_system file w) y × (x ≡ choice_of file y))

-- a direction of the feasible set among the first multipliers of the program of a weight
pub record IsBaseRay (file : Problem) (r : List ℚ) : Type 0 where
  pub recedes : IsRecession file r
  pub weight : List ℚ
  pub wide : length weight ≡ file.objs
  pub multipliers : List ℚ
  pub read : AreFirstMultipliersOff (weight_system file weight) multipliers
  pub same : r ≡ choice_of file multipliers

-- the objectives' value at x, in working coordinates
abbrev pub image_of : Problem → List ℚ → List ℚ
image_of file x = values (objectives file) x

-- ---- generators of cones
-- a generator of the cone where all rows are at least 0: a normed extreme direction of this cone,
-- which is pointed
pub record IsGeneratorOf (n : ℕ) (rows : List (List ℚ)) (g : List ℚ) : Type 0 where
  pub pointed : HasFullRank n rows
  pub extreme : IsExtremeDirection n (IsInCone n rows) g
  pub normed : IsNormed g

-- a direction of the ordering cone: a unit vector, a given generator, or a generator of the cone of
-- the dual form's vectors
abbrev pub IsDirectionOf : ℕ → Cone → List ℚ → Type 0
IsDirectionOf q Orthant e = (i : ℕ) × (1 ≤ i) × (i ≤ q) × (e ≡ unit q i)
IsDirectionOf q (Gens vectors) e = Contains vectors e
IsDirectionOf q (Dual vectors) e = IsGeneratorOf q vectors e

-- a direction of the file's ordering cone
abbrev pub IsConeDirection : Problem → List ℚ → Type 0
IsConeDirection file e = IsDirectionOf file.objs file.cone e

-- ---- rows and weights
-- the row of the value at a base choice, of the value at a base ray, or of a direction of the
-- ordering cone
pub data IsBaseRow (file : Problem) (c row : List ℚ) : Type 0 where
  of_choice : (x : List ℚ) → IsBaseChoice file x → row ≡ exchange_row c (image_of file x) true → IsBaseRow file c row
  of_ray : (r : List ℚ) → IsBaseRay file r → row ≡ exchange_row c (image_of file r) false → IsBaseRow file c row
  of_cone : (e : List ℚ) → IsConeDirection file e → row ≡ exchange_row c e false → IsBaseRow file c row

-- the w of a dual vector whose last entry is 1: its own entries before the bound, and the one with
-- which w . c = 1
abbrev pub weight_of : List ℚ → List ℚ → List ℚ
weight_of c g = (completed (front c) (take (length c - 1) g) (entry g (length c))).normal

-- the w of a generator, with last entry 1, of the cone of some base rows
pub record IsBaseWeight (file : Problem) (c w : List ℚ) : Type 0 where
  pub rows : List (List ℚ)
  pub base : All (IsBaseRow file c) rows
  pub generator : List ℚ
  pub is : IsGeneratorOf (suc file.objs) rows generator
  pub last : entry generator (suc file.objs) ≡ one_ℚ
  pub same : w ≡ weight_of c generator

-- ---- cuts
-- z is read off as a solution, and has no negative entry
abbrev pub IsGoodSolutionOff : System → List ℚ → Type 0
IsGoodSolutionOff s z = IsSolutionOff s z × IsSolution s.equations s.right z

-- the multipliers of a cut are these parts of z
pub record AreCutParts (file : Problem) (z : List ℚ) (u v : List Spot) : Type 0 where
  pub dual : dense (side_total file) u ≡ u_of file z
  pub cone : dense (length (v_of file file.cone z)) v ≡ v_of file file.cone z

-- the w, u and v of a cut are a solution of Benson's program; or w is a base weight, and u and v
-- are a solution of its program
pub data IsBaseCut (file : Problem) (c w : List ℚ) (u v : List Spot) : Type 0 where
  of_benson : (z : List ℚ) → IsGoodSolutionOff (benson_system file c (zeros file.objs) true) z → w ≡ w_of file z → AreCutParts file z u v →
      IsBaseCut file c w u v
  of_weight : (z : List ℚ) → IsBaseWeight file c w → IsGoodSolutionOff (weight_system file w) z → AreCutParts file z u v → IsBaseCut file c w u v

-- the normal of some base cut
abbrev pub IsBaseNormal : Problem → List ℚ → List ℚ → Type 0
IsBaseNormal file c w = (u v : List Spot) × IsBaseCut file c w u v

-- ---- start vectors
-- z is 0 at these places, and has the product 0 with each of these normals
pub record IsFlat (q : ℕ) (normals : List (List ℚ)) (places : List ℕ) (z : List ℚ) : Type 0 where
  pub wide : length z ≡ q
  pub at_places : All (λ k. entry z k ≡ zero_ℚ) places
  pub across : All (λ w. dot w z ≡ zero_ℚ) normals

-- d starts with 1 at its first entry that is not 0, and spans the vectors that are 0 at some places
-- and have the product 0 with each normal
pub record IsSide (q : ℕ) (normals : List (List ℚ)) (d : List ℚ) : Type 0 where
  pub starts : leading d ≡ one_ℚ
  pub places : List ℕ
  pub flat : IsFlat q normals places d
  pub spans : (z : List ℚ) → IsFlat q normals places z → IsMultiple d z

-- a generator is live after these entries
abbrev pub IsLiveAfter : ℕ → List Entry → Numbered → Type 0
IsLiveAfter q trail g = Contains (state q trail).list.live g

-- the normals of the cuts of a trail, in their order
abbrev pub trail_normals : ℕ → List Entry → List (List ℚ)
trail_normals q trail = map (λ cut. cut.w) (state q trail).cuts

-- the last entry of a homogenised point or direction
abbrev pub last_of : Bool → ℚ
last_of t = if t then one_ℚ else zero_ℚ

-- v is a start vector of Benson's program, as a point where t: the origin as a point, a live
-- generator, or, as a direction, a side of the cuts or its negative
pub data IsBaseStart (q : ℕ) (trail : List Entry) (v : List ℚ) (t : Bool) : Type 0 where
  origin : v ≡ zeros q → t ≡ true → IsBaseStart q trail v t
  live : (g : Numbered) → IsLiveAfter q trail g → g.vector ≡ homogenised v (last_of t) → IsBaseStart q trail v t
  side : IsSide q (trail_normals q trail) v → t ≡ false → IsBaseStart q trail v t
  other_side : (d : List ℚ) → IsSide q (trail_normals q trail) d → v ≡ negated d → t ≡ false → IsBaseStart q trail v t
