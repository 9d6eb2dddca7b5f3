-- What is proved of the cone of dual vectors: what its generators say, that a generator which stands for no valid inequality gives a new
-- row, and what stands once all are certified.
use Rattle.std.specs.Prelude.{Bool, ℕ, suc, ◌-◌, ◌≤◌, List, [], ◌∷◌, ◌++◌, ◌≡◌, ◌≢◌, map, length, All, Contains, true, false}
use Rattle.exact_field.specs.Rational.{ℚ, zero_ℚ, one_ℚ, neg_ℚ, ◌≤ℚ◌}
use Rattle.exact_field.specs.Vector.{dot, entry}
use Rattle.polyhedra.specs.Cone.{HasFullRank}
use Rattle.polyhedra.specs.Exactness.{homogenised, rows_of}
use Rattle.polyhedra.specs.Hull.{IsValidAt}
use Rattle.polyhedra.specs.Inequality.{Inequality}
use Rattle.polyhedra.specs.LiveList.{Numbered, LiveList, vectors, step}
use Rattle.polyhedra.specs.LiveSteps.{IsLive}
use Rattle.polyhedra.specs.Vectors.{zeros}
use Rattle.lineality.specs.Without.{open_count, without}
use Rattle.tableaux.specs.Simplex.{IsOptimal, IsInfeasible}
use Rattle.tableaux.specs.Table.{listed, unit}
use Rattle.vlp_problem.specs.Sides.{side_bounds}
use Rattle.vlp_problem.specs.declared.problem.Problem.{Problem}
use Rattle.vlp_problem.specs.declared.problem.Cone.TheVariants.{Orthant, Gens, Dual}
use Rattle.upper_image.specs.OrderingCone.{Fits, IsInDualCone}
use Rattle.upper_image.specs.UpperImage.{IsInWorkingImage}
use Rattle.deriv_log.specs.declared.entry.Entry.{Entry}
use Rattle.deriv_log.specs.declared.entry.Entry.TheVariants.{End}
use Rattle.word_lines.specs.declared.part.EndKind.TheVariants as kind
use Rattle.log_rules.specs.Live.{duality_vector, state, inequality, named}
use Rattle.log_rules.specs.Proves.{AllMeet}
use Rattle.deriv_log.specs.Formed.{IsLog}
use Rattle.lp_form.specs.Programs.{benson_system, weight_system, u_of, value_of}
use Rattle.overflows.specs.Base.{AreMultipliersOff, AreFirstMultipliersOff, IsBaseChoice, IsBaseRow, IsBaseWeight, IsConeDirection, image_of, last_of, weight_of}
use Rattle.geo_duality.specs.Rows.{exchange_row}
use Rattle.overflows.specs.Turns.{IsRowTurn, said_exchange}
use Rattle.lower_image.specs.Lower.{AreLowerRows, AreSpanning, AreAllFacets, IsLower, IsCertified, dual_at, dual_vector, inequality_of, weighted}

-- ---- rows
-- what holds of the rows, and of one row more
pub record LowerRowLaws : Type 0 where
  -- base rows may be added
  pub grows : (file : Problem) (c : List ℚ) (rows : List (List ℚ)) (row : List ℚ) → AreLowerRows file c rows → IsBaseRow file c row →
      AreLowerRows file c (rows ++ row ∷ [])
  pub step : (file : Problem) (c : List ℚ) (rows : List (List ℚ)) (list : LiveList) (row : List ℚ) → length c ≡ file.objs → IsLower file c rows list →
      IsBaseRow file c row → IsLower file c (rows ++ row ∷ []) (step rows list row)
  -- they have full rank, so that as many as they are wide are independent
  pub rank : (file : Problem) (c : List ℚ) (rows : List (List ℚ)) → Fits file c → AreLowerRows file c rows → HasFullRank (suc file.objs) rows
  -- no row is negative at the dual vector of a valid inequality
  pub holds : (file : Problem) (c : List ℚ) (rows : List (List ℚ)) (e : Inequality) → Fits file c → AreLowerRows file c rows →
      IsValidAt file.objs (IsInWorkingImage file) c e → All (λ r. zero_ℚ ≤ℚ dot r (dual_vector c e)) rows

-- ---- the start
-- how rows begin, and which generators stay
pub record LowerStartLaws : Type 0 where
  -- rows begin with those of a feasible point and of directions that span the ordering cone, in whatever order
  pub begins : (file : Problem) (c x : List ℚ) (es : List (List ℚ)) → Fits file c → IsBaseChoice file x → AreSpanning file es →
      AreLowerRows file c (exchange_row c (image_of file x) true ∷ map (λ e. exchange_row c e false) es)
  pub again : (file : Problem) (c : List ℚ) (rows other : List (List ℚ)) → AreLowerRows file c rows → ((r : List ℚ) → Contains rows r → Contains other r) →
      ((r : List ℚ) → Contains other r → Contains rows r) → AreLowerRows file c other
  -- the unit vectors span the orthant
  pub units : (file : Problem) → file.cone ≡ Orthant → AreSpanning file (listed file.objs (unit file.objs))
  -- given generators span it, with or without those that are 0; of a dual form the generators of the cone of its vectors do
  pub generators : (file : Problem) (vs es : List (List ℚ)) → file.cone ≡ Gens vs → ((e : List ℚ) → Contains es e → Contains vs e) →
      ((v : List ℚ) → Contains vs v → (v ≡ zeros file.objs → ⊥) → Contains es v) → AreSpanning file es
  pub dual_form : (file : Problem) (vs rows : List (List ℚ)) (list : LiveList) → file.cone ≡ Dual vs → IsLive file.objs rows list →
      ((r : List ℚ) → Contains rows r → Contains vs r) → ((v : List ℚ) → Contains vs v → (v ≡ zeros file.objs → ⊥) → Contains rows v) →
      All (IsConeDirection file) (vectors list.live) → AreSpanning file (vectors list.live)
  -- a generator that stands for a valid inequality stays live
  pub stays : (file : Problem) (c : List ℚ) (rows : List (List ℚ)) (list : LiveList) (row : List ℚ) (g : Numbered) → Fits file c →
      IsLower file c rows list → IsBaseRow file c row → Contains list.live g → entry g.vector (suc file.objs) ≢ zero_ℚ →
      IsCertified file c g.vector → Contains (step rows list row).live g

-- ---- generators
-- a generator is that in which the bound says less, or has the last entry 1; then its weight is in the dual cone with the product 1 with
-- c, is a base weight, and the generator is the dual vector of its inequality
pub record IsWeighted (file : Problem) (c g : List ℚ) : Type 0 where
  pub last : entry g (suc file.objs) ≡ one_ℚ
  pub wide : length (weight_of c g) ≡ file.objs
  pub in_dual : IsInDualCone file (weight_of c g)
  pub normed : dot (weight_of c g) c ≡ one_ℚ
  pub base : IsBaseWeight file c (weight_of c g)
  pub same : g ≡ dual_vector c (inequality_of file.objs c g)

-- a generator is such a one, or that in which the bound says less
pub record LowerGeneratorLaws : Type 0 where
  pub weighted : (file : Problem) (c : List ℚ) (rows : List (List ℚ)) (list : LiveList) (g : List ℚ) → Fits file c → IsLower file c rows list →
      Contains (vectors list.live) g → entry g (suc file.objs) ≢ zero_ℚ → IsWeighted file c g
  pub other : (file : Problem) (c : List ℚ) (rows : List (List ℚ)) (list : LiveList) (g : List ℚ) → Fits file c → IsLower file c rows list →
      Contains (vectors list.live) g → entry g (suc file.objs) ≡ zero_ℚ → g ≡ dual_at (zeros (file.objs - 1)) (neg_ℚ one_ℚ) zero_ℚ

-- ---- turns
-- a program whose end does not certify a generator gives a row that turns
pub record LowerTurnLaws : Type 0 where
  -- where the best bound of the weight is not that of the generator, it is below, and the row of the choice turns
  pub choice : (file : Problem) (c : List ℚ) (rows : List (List ℚ)) (list : LiveList) (g z y : List ℚ) → Fits file c → IsLower file c rows list →
      Contains (vectors list.live) g → entry g (suc file.objs) ≢ zero_ℚ → IsOptimal (weight_system file (weight_of c g)) z y →
      AreMultipliersOff (weight_system file (weight_of c g)) y → dot (side_bounds file) (u_of file z) ≢ entry g file.objs →
      IsRowTurn file c rows (said_exchange file c y true) × IsBaseRow file c (said_exchange file c y true)
  -- where the weight has no bound, the row of the ray does
  pub ray : (file : Problem) (c : List ℚ) (rows : List (List ℚ)) (list : LiveList) (g y : List ℚ) → Fits file c → IsLower file c rows list →
      Contains (vectors list.live) g → entry g (suc file.objs) ≢ zero_ℚ → IsInfeasible (weight_system file (weight_of c g)) y →
      AreFirstMultipliersOff (weight_system file (weight_of c g)) y →
      IsRowTurn file c rows (said_exchange file c y false) × IsBaseRow file c (said_exchange file c y false)

-- ---- the end
-- once each generator that stands for an inequality is certified, these inequalities are all facets
abbrev pub CertifiedAreFacets : Type 0
CertifiedAreFacets = (file : Problem) (c : List ℚ) (rows : List (List ℚ)) (list : LiveList) → Fits file c → IsLower file c rows list →
    All (IsCertified file c) (weighted (vectors list.live)) →
    AreAllFacets file c (map (inequality_of file.objs c) (weighted (vectors list.live)))

-- what all facets of an image show
pub record AllFacetsLaws : Type 0 where
  -- a vector that has the product 0 with the normal of each facet has it with that of each valid
  -- inequality. So where the normals of some valid inequalities have full rank without the entries
  -- at some places, as those of the image's lines, so have those of all facets
  pub across : (file : Problem) (c : List ℚ) (facets cuts : List Inequality) → AreAllFacets file c facets →
      All (IsValidAt file.objs (IsInWorkingImage file) c) cuts → (d : List ℚ) → length d ≡ file.objs →
      All (λ v. dot v d ≡ zero_ℚ) (map (λ e. e.normal) facets) → All (λ v. dot v d ≡ zero_ℚ) (map (λ e. e.normal) cuts)
  pub rank : (file : Problem) (c : List ℚ) (bs : List Bool) (facets cuts : List Inequality) → AreAllFacets file c facets → length bs ≡ file.objs →
      All (IsValidAt file.objs (IsInWorkingImage file) c) cuts → HasFullRank (open_count bs) (map (without bs) (map (λ e. e.normal) cuts)) →
      HasFullRank (open_count bs) (map (without bs) (map (λ e. e.normal) facets))
  -- where all facets hold, Benson's program finds no cut: so each live generator has a pre-image
  pub reached : (file : Problem) (c v : List ℚ) (t : Bool) (facets : List Inequality) (z y : List ℚ) → Fits file c → AreAllFacets file c facets →
      length v ≡ file.objs → IsOptimal (benson_system file c v t) z y →
      All (λ r. zero_ℚ ≤ℚ dot r (homogenised v (last_of t))) (rows_of file.objs facets) → value_of y ≤ℚ zero_ℚ
  -- the cuts of a solved log that are all facets are all named
  pub named : (file : Problem) (c : List ℚ) (facets : List Inequality) (entries : List Entry) → AreAllFacets file c facets → IsLog entries →
      AllMeet file entries → Contains entries (End kind.Solved) → map inequality (state file.objs entries).cuts ≡ facets →
      duality_vector entries ≡ c →
      (k : ℕ) → 1 ≤ k → k ≤ length facets → Contains (named entries) k
