-- The coupling of a vector with a point of the lower image: the slack of the inequality for which that point stands.
use Rattle.std.specs.Prelude.{ℕ, ◌-◌, List, [], ◌∷◌, length, Bool, All, ◌⊎◌}
use Rattle.exact_field.specs.Rational.{ℚ, one_ℚ, ◌+ℚ◌, ◌-ℚ◌, ◌*ℚ◌}
use Rattle.exact_field.specs.Vector.{dot, front, last}
use Rattle.exact_field.specs.declared.op.Op.TheVariants.{Add, Sub, Mul}
use Rattle.exact_field.specs.declared.op.Left.{Left}
use Rattle.polyhedra.specs.Inequality.{Inequality}
use Rattle.polyhedra.specs.LowerImage.{completed}
use Rattle.lin_rows.specs.Sums.{AreHeld, IsDotLeft}
use Rattle.double_descr.specs.Steps.{Step, IsHeld, IsFirst}

-- the inequality for which a point of the lower image stands: all its entries but the last, completed to a normal that has the
-- product 1 with c, and the last as bound
abbrev pub inequality_of : List ℚ → List ℚ → Inequality
inequality_of star c = completed (front c) (front star) (last star)

-- by how much y meets an inequality
abbrev pub slack : Inequality → List ℚ → ℚ
slack e y = dot e.normal y -ℚ e.bound

-- what is made of both products: what the second leaves of 1, that times the last entry of y, the sum with the first, less the bound
abbrev pub joined : ℚ → ℚ → ℚ → ℚ → ℚ
joined direct weight height bound = direct +ℚ height *ℚ (one_ℚ -ℚ weight) -ℚ bound

-- the four steps of this, in their order
abbrev pub joining_steps : ℚ → ℚ → ℚ → ℚ → List Step
joining_steps direct weight height bound =
    record { op = Sub; a = one_ℚ; b = weight }
    ∷ record { op = Mul; a = height; b = one_ℚ -ℚ weight }
    ∷ record { op = Add; a = direct; b = height *ℚ (one_ℚ -ℚ weight) }
    ∷ record { op = Sub; a = direct +ℚ height *ℚ (one_ℚ -ℚ weight); b = bound } ∷ []

-- the steps after both products
abbrev pub last_steps : List ℚ → List ℚ → List ℚ → List Step
last_steps y star c = joining_steps (dot (front y) (front star)) (dot (front c) (front star)) (last y) (last star)

-- each step of a product of two vectors without their last entries is held
abbrev pub IsProductHeld : (ℚ → Bool) → List ℚ → List ℚ → Type 0
IsProductHeld holds a b = AreHeld holds (front a) (front b) (length a - 1)

-- each step is held
pub record IsCouplingHeld (holds : ℚ → Bool) (y star c : List ℚ) : Type 0 where
  pub direct : IsProductHeld holds y star
  pub weight : IsProductHeld holds c star
  pub rest : All (IsHeld holds) (last_steps y star c)

-- the first step that is not held is one of the first product, or, where all of that are held, of the second, or, where all of both
-- are held, one after them
abbrev pub IsCouplingLeft : {F : Type 0} → (F → ℚ) → (ℚ → Bool) → List ℚ → List ℚ → List ℚ → Left F → Type 0
IsCouplingLeft value holds y star c left =
    IsDotLeft value holds (front y) (front star) left
    ⊎ ((IsProductHeld holds y star × IsDotLeft value holds (front c) (front star) left)
    ⊎ (IsProductHeld holds y star × IsProductHeld holds c star × ((number : ℕ) × IsFirst value holds (last_steps y star c) number left)))
