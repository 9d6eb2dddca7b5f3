-- Base trails: entries of a log that meet their rules as far as they go, and whose numbers are read
-- off dictionaries that the file and the duality vector fix.
use Rattle.std.specs.Prelude.{ℕ, ◌≤◌, true, false, Bool, ⊤, List, [], ◌∷◌, ◌++◌, ◌≡◌, length, replicate, take, drop, Option, None, Some}
use Rattle.exact_field.specs.Rational.{ℚ, one_ℚ, inverse_ℚ}
use Rattle.exact_field.specs.Vector.{entry}
use Rattle.frac128.specs.declared.vectors.Spot.{Spot}
use Rattle.polyhedra.specs.DoubleDescription.{leading, magnitude}
use Rattle.polyhedra.specs.LiveList.{Numbered}
use Rattle.polyhedra.specs.Negatives.{negated}
use Rattle.polyhedra.specs.Vectors.{zeros, scaled}
use Rattle.tableaux.specs.Table.{minus}
use Rattle.vlp_problem.specs.declared.problem.Problem.{Problem}
use Rattle.vlp_problem.specs.declared.problem.Cone.{Cone}
use Rattle.vlp_problem.specs.declared.problem.Cone.TheVariants.{Orthant, Gens, Dual}
use Rattle.upper_image.specs.Spots.{dense}
use Rattle.deriv_log.specs.declared.entry.Entry.{Entry}
use Rattle.deriv_log.specs.declared.entry.Entry.TheVariants.{Version, Duality, Cut, Start, Add, Point, Ray, Farkas, Whole, Line, Facet, End, Share, CutOf, PointOf, RayOf, AddHints}
use Rattle.log_rules.specs.Live.{y_of}
use Rattle.log_rules.specs.Proves.{AllMeet}
use Rattle.lp_form.specs.Programs.{side_total, generators, feasible_system, benson_system, interior_system, choice_of, value_of, share_of, full_share_of}
use Rattle.overflows.specs.Base.{IsSolutionOff, AreMultipliersOff, AreFirstMultipliersOff, IsRayOff, IsBaseChoice, IsBaseRay, IsBaseCut, IsConeDirection, IsSide, IsLiveAfter, trail_normals, image_of}

-- ---- the duality entry
-- f divided by its last entry
abbrev pub at_last_one : List ℚ → List ℚ
at_last_one f = scaled (inverse_ℚ (entry f (length f))) f

-- for n generators, mu as it is read off the program of an interior vector
abbrev pub IsMuOff : Problem → ℕ → List ℚ → Type 0
IsMuOff file n mu = (z : List ℚ) × IsSolutionOff (interior_system file.objs file.cone file.duality) z × (mu ≡ take n z)

-- in the dual form, the interior vector as it is read off: the difference of its two lists of
-- unknowns
abbrev pub IsInteriorOff : Problem → List ℚ → Type 0
IsInteriorOff file c =
    (z : List ℚ) × IsSolutionOff (interior_system file.objs file.cone file.duality) z
    × (c ≡ minus (take file.objs z) (take file.objs (drop file.objs z)))

-- c and the weights that combine the generators to it, by the cone and the vector f that the file
-- gives, if it gives one: c is f divided by its last entry, all ones for the orthant, or read off;
-- weights are a mu, divided by the last entry of f too
abbrev pub IsBaseDuality : Problem → Cone → Option (List ℚ) → List ℚ → List ℚ → Type 0
IsBaseDuality file Orthant None c weights = (c ≡ replicate file.objs one_ℚ) × (weights ≡ [])
IsBaseDuality file Orthant (Some f) c weights = (c ≡ at_last_one f) × (weights ≡ [])
IsBaseDuality file (Gens vectors) None c weights = IsMuOff file (length vectors) weights
IsBaseDuality file (Gens vectors) (Some f) c weights =
    (c ≡ at_last_one f)
    × ((mu : List ℚ) × IsMuOff file (length vectors) mu × (weights ≡ scaled (inverse_ℚ (entry f (length f))) mu))
IsBaseDuality file (Dual vectors) None c weights = IsInteriorOff file c × (weights ≡ [])
IsBaseDuality file (Dual vectors) (Some f) c weights = (c ≡ at_last_one f) × (weights ≡ [])

-- ---- pre-images
-- x and m are read off Benson's program at v
pub record AreReadAt (file : Problem) (c weights v : List ℚ) (t : Bool) (x m : List Spot) : Type 0 where
  pub multipliers : List ℚ
  pub read : AreMultipliersOff (benson_system file c v t) multipliers
  pub choice : dense file.cols x ≡ choice_of file multipliers
  pub share : dense (length (generators file.cone)) m ≡ full_share_of file file.cone weights multipliers

-- a vector divided by the magnitude of one of its entries, or of those of another vector
abbrev pub divided_by : ℚ → List ℚ → List ℚ
divided_by x v = scaled (inverse_ℚ (magnitude x)) v

-- a pre-image of a point y: read off, or a base choice
pub data IsBasePoint (file : Problem) (c weights y : List ℚ) (x m : List Spot) : Type 0 where
  read : AreReadAt file c weights y true x m → IsBasePoint file c weights y x m
  chosen : IsBaseChoice file (dense file.cols x) → m ≡ [] → IsBasePoint file c weights y x m

-- a pre-image of a direction d: read off, a base ray that is normed by the first entry of its image
-- that is not 0, or, where d is a normed direction of the ordering cone, none and at most one
-- generator
pub data IsBaseDirection (file : Problem) (c weights d : List ℚ) (x m : List Spot) : Type 0 where
  read : AreReadAt file c weights d false x m → IsBaseDirection file c weights d x m
  chosen : (r : List ℚ) → IsBaseRay file r → dense file.cols x ≡ divided_by (leading (image_of file r)) r → m ≡ [] →
      IsBaseDirection file c weights d x m
  of_cone : (e : List ℚ) → IsConeDirection file e → d ≡ divided_by (leading e) e → x ≡ [] → length m ≤ 1 → IsBaseDirection file c weights d x m

-- the ray and m of `whole`: those of first multipliers of Benson's program at the origin, divided
-- by the magnitude of the last
pub record IsBaseWhole (file : Problem) (c : List ℚ) (ray m : List Spot) : Type 0 where
  pub multipliers : List ℚ
  pub read : AreFirstMultipliersOff (benson_system file c (zeros file.objs) true) multipliers
  pub choice : dense file.cols ray ≡ divided_by (value_of multipliers) (choice_of file multipliers)
  pub share : dense (length (generators file.cone)) m ≡ divided_by (value_of multipliers) (share_of file file.cone multipliers)

-- the parts of `line`: d is a side of the cuts before it, x is a base choice, and the others are
-- pre-images of d and of its negative
pub record IsBaseLine (file : Problem) (c weights : List ℚ) (before : List Entry) (d : List ℚ) (x ray m back n : List Spot) : Type 0 where
  pub side : IsSide file.objs (trail_normals file.objs before) d
  pub chosen : IsBaseChoice file (dense file.cols x)
  pub read_forth : IsBaseDirection file c weights d ray m
  pub read_back : IsBaseDirection file c weights (negated d) back n

-- the y of the live generator number k
abbrev pub IsLiveAt : ℕ → List Entry → ℕ → List ℚ → Type 0
IsLiveAt q before k y = (g : Numbered) × IsLiveAfter q before g × (g.number ≡ k) × (y ≡ y_of q g)

-- ---- trails
-- an entry after others is a base trail's, where c and the weights are those of the duality entry.
-- What is not said here the rules of the log fix
abbrev pub IsBaseEntry : Problem → (c weights : List ℚ) → List Entry → Entry → Type 0
IsBaseEntry file c weights before (Duality c' weights' picks inverse) =
    (c' ≡ c) × (weights' ≡ weights) × IsBaseDuality file file.cone file.duality c weights
IsBaseEntry file c weights before (Cut w gamma u v) = IsBaseCut file c w u v
IsBaseEntry file c weights before (Point k x m) = (y : List ℚ) × IsLiveAt file.objs before k y × IsBasePoint file c weights y x m
IsBaseEntry file c weights before (Ray k x m) = (d : List ℚ) × IsLiveAt file.objs before k d × IsBaseDirection file c weights d x m
IsBaseEntry file c weights before (Farkas u) = IsRayOff (feasible_system file) (dense (side_total file) u)
IsBaseEntry file c weights before (Whole x ray m) = IsBaseChoice file (dense file.cols x) × IsBaseWhole file c ray m
IsBaseEntry file c weights before (Line d x ray m back n) = IsBaseLine file c weights before d x ray m back n
IsBaseEntry file c weights before (Version n) = ⊤
IsBaseEntry file c weights before (Start cuts point directions) = ⊤
IsBaseEntry file c weights before (Add cut pairs) = ⊤
IsBaseEntry file c weights before (Facet cut) = ⊤
IsBaseEntry file c weights before (End kind) = ⊤
IsBaseEntry file c weights before (Share v) = ⊤
IsBaseEntry file c weights before (CutOf w gamma share v) = ⊤
IsBaseEntry file c weights before (PointOf k share m) = ⊤
IsBaseEntry file c weights before (RayOf k share m) = ⊤
IsBaseEntry file c weights before (AddHints cut pairs hints) = ⊤

-- each entry of a trail is one after those before it
abbrev pub AllBase : Problem → (c weights : List ℚ) → List Entry → Type 0
AllBase file c weights trail = (before : List Entry) (e : Entry) (after : List Entry) → trail ≡ before ++ e ∷ after → IsBaseEntry file c weights before e

-- the entries meet the rules of the log as far as they go, and are those of a base trail with this
-- duality vector
pub record IsBaseTrail (file : Problem) (c weights : List ℚ) (trail : List Entry) : Type 0 where
  pub meet : AllMeet file trail
  pub base : AllBase file c weights trail
