-- The lengths of solutions and multipliers of named programs in a field, and what is read off them.
use Rattle.std.specs.Prelude.{◌≡◌, ℕ, suc, ◌+◌, ◌<◌, ◌⊎◌, ⊤, List, [], map, length, slice_index_or}
use Rattle.exact_field.specs.Rational.{ℚ, zero_ℚ}
use Rattle.vlp_problem.specs.declared.problem.Problem.{Problem}
use Rattle.vlp_problem.specs.declared.problem.Cone.{Cone}
use Rattle.vlp_problem.specs.declared.problem.Cone.TheVariants.{Orthant, Gens, Dual}
use Rattle.lp_form.specs.declared.data.Data.{Data}
use Rattle.lp_form.specs.declared.name.LpName.{LpName}
use Rattle.lp_form.specs.declared.name.LpName.TheVariants.{Feasible, Benson, Weight, Interior, Pointed}
use Rattle.lp_form.specs.declared.name.Parts.{Parts}
use Rattle.lp_form.specs.Data.{cone_of}
use Rattle.lp_form.specs.Programs.{dual_unknowns, dual_equations, weight_unknowns, weight_equations, u_of, w_of, v_of}

-- at each place at most one of two lists is not 0
abbrev pub AreDisjoint : {F : Type 0} → (F → ℚ) → List F → List F → Type 0
AreDisjoint value xs ys = (i : ℕ) (x y : _) → i < length xs → (value (slice_index_or xs i x) ≡ zero_ℚ) ⊎ (value (slice_index_or ys i y) ≡ zero_ℚ)

-- of the two columns of each entry of w at most one is not 0, with m sides and q objectives
abbrev pub IsSplit : {F : Type 0} → (F → ℚ) → (m q : ℕ) → List F → Type 0
IsSplit value m q z =
    (i : ℕ) (x y : _) → i < q → (value (slice_index_or z (m + i) x) ≡ zero_ℚ) ⊎ (value (slice_index_or z (m + q + i) y) ≡ zero_ℚ)

-- a solution of the program has one entry for each column; it is split where the program has w
abbrev pub HasColumns : {F : Type 0} → (F → ℚ) → Data F → LpName F → List F → Type 0
HasColumns value form Feasible z = length z ≡ length form.sides
HasColumns value form (Benson v t) z =
    (length z ≡ length form.sides + length form.p + length form.p + dual_unknowns (length form.p) (cone_of value form.cone))
    × IsSplit value (length form.sides) (length form.p) z
HasColumns value form (Weight w) z =
    (length z ≡ length form.sides + length form.p + length form.p + weight_unknowns (cone_of value form.cone))
    × IsSplit value (length form.sides) (length form.p) z
HasColumns value form Interior z = ⊤
HasColumns value form Pointed z = ⊤

-- multipliers of a program of the sides have one entry for each equation
abbrev pub HasEquations : {F : Type 0} → (F → ℚ) → Data F → LpName F → List F → Type 0
HasEquations value form Feasible y = length y ≡ form.cols
HasEquations value form (Benson v t) y = length y ≡ suc (form.cols + dual_equations (length form.p) (cone_of value form.cone))
HasEquations value form (Weight w) y = length y ≡ form.cols + length form.p + weight_equations (length form.p) (cone_of value form.cone)
HasEquations value form Interior y = ⊥
HasEquations value form Pointed y = ⊥

-- the unknowns after w, where the cone is in dual form
abbrev pub kept_after : Cone → List ℚ → List ℚ
kept_after Orthant after = []
kept_after (Gens vectors) after = []
kept_after (Dual vectors) after = after

-- the parts are read off z
pub record AreRead {F : Type 0} (value : F → ℚ) (file : Problem) (z : List ℚ) (parts : Parts F) : Type 0 where
  pub u : map value parts.u ≡ u_of file z
  pub w : map value parts.w ≡ w_of file z
  pub v : map value parts.v ≡ v_of file file.cone z

-- .. as far as the program has them
abbrev pub AreParts : {F : Type 0} → (F → ℚ) → Problem → LpName F → List ℚ → Parts F → Type 0
AreParts value file Feasible z parts = (map value parts.u ≡ u_of file z) × (parts.w ≡ []) × (parts.v ≡ [])
AreParts value file (Benson v t) z parts = AreRead value file z parts
AreParts value file (Weight w) z parts = AreRead value file z parts
AreParts value file Interior z parts = (parts.u ≡ []) × (parts.w ≡ []) × (parts.v ≡ [])
AreParts value file Pointed z parts = (parts.u ≡ []) × (parts.w ≡ []) × (parts.v ≡ [])
