-- What data in a field stand for, and why a problem has none.
use Rattle.std.specs.Prelude.{◌≡◌, ℕ, ◌++◌, ◌∷◌, List, map, not, All, IsTrue, IsFalse, Bool, Option, None, Some}
use Rattle.exact_field.specs.Rational.{ℚ}
use Rattle.frac128.specs.Sparse.{is_zero}
use Rattle.polyhedra.specs.Sparse.{dense}
use Rattle.lin_rows.specs.Lines.{entries}
use Rattle.lin_rows.specs.Read.{numbers}
use Rattle.lin_rows.specs.declared.spots.Spot.{Spot}
use Rattle.upper_image.specs.UpperImage.{normals, objectives}
use Rattle.vlp_problem.specs.Sides.{side_bounds}
use Rattle.vlp_problem.specs.declared.problem.Problem.{Problem}
use Rattle.vlp_problem.specs.declared.problem.Cone.{Cone}
use Rattle.vlp_problem.specs.declared.problem.Cone.TheVariants as cone
use Rattle.vlp_problem.specs.Values.{printed_numbers}
use Rattle.lp_form.specs.declared.data.ConeOf.{ConeOf}
use Rattle.lp_form.specs.declared.data.ConeOf.TheVariants.{Orthant, Gens, Dual}
use Rattle.lp_form.specs.declared.data.Data.{Data}
use Rattle.lp_form.specs.declared.data.DataFault.{DataFault}
use Rattle.lp_form.specs.declared.data.DataFault.TheVariants.{NotHeld, NoMemory}

-- the vector of n entries that spots stand for
abbrev pub vector_of : {F : Type 0} → (F → ℚ) → ℕ → List (Spot F) → List ℚ
vector_of value n spots = dense n (entries value spots)

-- a cone, and a duality vector, in numbers
abbrev pub cone_of : {F : Type 0} → (F → ℚ) → ConeOf F → Cone
cone_of value Orthant = cone.Orthant
cone_of value (Gens vectors) = cone.Gens (numbers value vectors)
cone_of value (Dual vectors) = cone.Dual (numbers value vectors)

abbrev pub duality_of : {F : Type 0} → (F → ℚ) → Option (List F) → Option (List ℚ)
duality_of value None = None
duality_of value (Some f) = Some (map value f)

-- the data stand for the file: for its sides and, in working coordinates, its objectives, its cone and its duality vector
pub record IsDataOf {F : Type 0} (value : F → ℚ) (file : Problem) (form : Data F) : Type 0 where
  pub cols : form.cols ≡ file.cols
  pub normals : map (λ s. vector_of value file.cols s.g) form.sides ≡ normals file
  pub bounds : map (λ s. value s.beta) form.sides ≡ side_bounds file
  pub objectives : map (vector_of value file.cols) form.p ≡ objectives file
  pub cone : cone_of value form.cone ≡ file.cone
  pub duality : duality_of value form.duality ≡ file.duality
  pub sides_kept : All (λ s. All (λ c. IsTrue (not (is_zero (value c.value)))) s.g) form.sides
  pub objectives_kept : All (λ r. All (λ c. IsTrue (not (is_zero (value c.value)))) r) form.p

-- a number is the first of these that is not held
pub record IsFirstUnheld (holds : ℚ → Bool) (numbers : List ℚ) (q : ℚ) : Type 0 where
  pub before : List ℚ
  pub after : List ℚ
  pub place : numbers ≡ before ++ q ∷ after
  pub held : All (λ p. IsTrue (holds p)) before
  pub unheld : IsFalse (holds q)

-- why a problem has no data: its first number, in the order of printing, that is not held; or want of memory
abbrev pub RefusesNumber : (ℚ → Bool) → Problem → DataFault → Type 0
RefusesNumber holds file (NotHeld q) = IsFirstUnheld holds (printed_numbers file) q
RefusesNumber holds file NoMemory = Unit {0}
