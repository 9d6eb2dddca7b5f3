-- Why the turns of outer approximation end: each adds the row of a cut, of a choice or of a ray
-- that is read off at one of finitely many bases, and that no row in use is.
use Rattle.std.specs.Prelude.{ℕ, ◌-◌, ◌<◌, ◌⊎◌, Bool, true, false, List, [], ◌∷◌, ◌++◌, ◌≡◌, length, All}
use Rattle.exact_field.specs.Rational.{ℚ, zero_ℚ, one_ℚ, ◌≤ℚ◌, ◌<ℚ◌}
use Rattle.exact_field.specs.Vector.{dot}
use Rattle.frac128.specs.declared.vectors.Spot.{Spot}
use Rattle.polyhedra.specs.Exactness.{row_of}
use Rattle.polyhedra.specs.Vectors.{zeros}
use Rattle.tableaux.specs.Table.{Table}
use Rattle.tableaux.specs.Simplex.{IsOptimal, OptimalAt}
use Rattle.vlp_problem.specs.Sides.{side_bounds}
use Rattle.vlp_problem.specs.declared.problem.Problem.{Problem}
use Rattle.lp_form.specs.Programs.{benson_system, weight_system, choice_of, u_of, w_of}
use Rattle.overflows.specs.Base.{IsSolutionOff, AreMultipliersOff, AreFirstMultipliersOff, AreCutParts, IsBaseCut, image_of, weight_of}
use Rattle.geo_duality.specs.Rows.{exchange_row}

-- the row of the cut that a solution of Benson's program says: its w, and the bound that its u
-- proves
abbrev pub said_row : Problem → List ℚ → List ℚ
said_row file z = row_of (record { normal = w_of file z; bound = dot (side_bounds file) (u_of file z) })

-- z is a solution of Benson's program that is read off, at whatever start vector, and the row of
-- its cut is negative at a point at which each row is at least 0
pub record IsCutTurn (file : Problem) (c : List ℚ) (rows : List (List ℚ)) (z : List ℚ) : Type 0 where
  pub c_wide : length c ≡ file.objs
  pub solution : IsSolutionOff (benson_system file c (zeros file.objs) true) z
  pub point : List ℚ
  pub holds : All (λ row. zero_ℚ ≤ℚ dot row point) rows
  pub violated : dot (said_row file z) point <ℚ zero_ℚ

-- some number falls with each such turn
abbrev pub CutTurnsEnd : Type 0
CutTurnsEnd = (file : Problem) (c : List ℚ) →
    (measure : List (List ℚ) → ℕ)
    × ((rows : List (List ℚ)) (z : List ℚ) → IsCutTurn file c rows z → measure (rows ++ said_row file z ∷ []) < measure rows)

-- a cut that is read off the optimal end of Benson's program, at whatever start vector, is a base
-- cut
abbrev pub CutsAreBase : Type 0
CutsAreBase = (file : Problem) (c v : List ℚ) (t : Bool) (z y : List ℚ) (basis : List ℕ) (d : Table) (u m : List Spot) → length c ≡ file.objs →
    length v ≡ file.objs → IsOptimal (benson_system file c v t) z y → OptimalAt (benson_system file c v t) basis d z y → AreCutParts file z u m →
    IsBaseCut file c (w_of file z) u m

-- ---- choices and rays
-- the row of the choice, or of the ray, that multipliers of the program of a weight say
abbrev pub said_exchange : Problem → List ℚ → List ℚ → Bool → List ℚ
said_exchange file c y t = exchange_row c (image_of file (choice_of file y)) t

-- the row of a choice or of a ray that is read off at the weight of a dual vector (front, gamma,
-- 1), where each row is at least 0: its product with the weight is below the bound, which is 0 for
-- a ray
pub record IsRowTurn (file : Problem) (c : List ℚ) (rows : List (List ℚ)) (row : List ℚ) : Type 0 where
  pub c_wide : length c ≡ file.objs
  pub front : List ℚ
  pub gamma : ℚ
  pub front_wide : length front ≡ file.objs - 1
  pub holds : All (λ r. zero_ℚ ≤ℚ dot r (front ++ gamma ∷ one_ℚ ∷ [])) rows
  pub y : List ℚ
  pub read :
      let w = weight_of c (front ++ gamma ∷ one_ℚ ∷ []) in
      let image = image_of file (choice_of file y) in
      (AreMultipliersOff (weight_system file w) y × (dot w image <ℚ gamma) × (row ≡ said_exchange file c y true))
      ⊎ (AreFirstMultipliersOff (weight_system file w) y × (dot w image <ℚ zero_ℚ) × (row ≡ said_exchange file c y false))

-- some number falls with each such turn
abbrev pub RowTurnsEnd : Type 0
RowTurnsEnd = (file : Problem) (c : List ℚ) →
    (measure : List (List ℚ) → ℕ)
    × ((rows : List (List ℚ)) (row : List ℚ) → IsRowTurn file c rows row → measure (rows ++ row ∷ []) < measure rows)
