-- Steps of a calculation in their order, and the first one whose result is not held.
use Rattle.std.specs.Prelude.{ℕ, ◌+◌, ◌≡◌, List, [], ◌∷◌, ◌++◌, map, length, All, Bool, IsTrue, ◌||◌, if◌then◌else◌, Result, MatchResult}
use Rattle.exact_field.specs.Field.{exact, IsLeftOf}
use Rattle.exact_field.specs.Rational.{ℚ, ◌+ℚ◌, ◌*ℚ◌, ◌/ℚ◌, neg_ℚ}
use Rattle.exact_field.specs.declared.op.Op.{Op}
use Rattle.exact_field.specs.declared.op.Op.TheVariants.{Add, Mul, Div}
use Rattle.exact_field.specs.declared.op.Left.{Left}
use Rattle.polyhedra.specs.DoubleDescription.{is_zero, magnitude, norming}
use Rattle.polyhedra.specs.Vectors.{plus, scaled}
use Rattle.double_descr.specs.declared.steps.Stop.{Stop}
use Rattle.double_descr.specs.declared.steps.Stop.TheVariants.{Step as Stuck, NoMemory}

-- an operation with its operands
pub record Step : Type 0 where
  pub op : Op
  pub a : ℚ
  pub b : ℚ

-- the steps of a total plus x y
abbrev pub multiple_steps : ℚ → ℚ → ℚ → List Step
multiple_steps total x y = record { op = Mul; a = x; b = y } ∷ record { op = Add; a = total; b = x *ℚ y } ∷ []

-- the steps of one term of a product: those of the total plus x y, and none where one of the two is 0
abbrev pub term_steps : ℚ → ℚ → ℚ → List Step
term_steps total x y = if is_zero x || is_zero y then [] else multiple_steps total x y

-- the steps of a product of two vectors, over the places in their order
abbrev pub product_steps : ℚ → List ℚ → List ℚ → List Step
product_steps total [] ys = []
product_steps total (x ∷ xs) [] = []
product_steps total (x ∷ xs) (y ∷ ys) = term_steps total x y ++ product_steps (total +ℚ x *ℚ y) xs ys

-- the steps of p + k m, over the places in their order
abbrev pub combination_steps : ℚ → List ℚ → List ℚ → List Step
combination_steps k [] ms = []
combination_steps k (p ∷ ps) [] = []
combination_steps k (p ∷ ps) (m ∷ ms) = multiple_steps p k m ++ combination_steps k ps ms

-- the steps that divide each entry of a vector
abbrev pub quotient_steps : ℚ → List ℚ → List Step
quotient_steps d zs = map (λ z. record { op = Div; a = z; b = d }) zs

-- the vector between p and m, up to a multiple, at which a row is 0 that has the values a and b at p and m
abbrev pub between : ℚ → ℚ → List ℚ → List ℚ → List ℚ
between a b p m = plus p (scaled (a /ℚ neg_ℚ b) m)

-- the steps of this vector, normed: the factor, the combination, the quotients by the entry that norms it
abbrev pub meeting_steps : ℚ → ℚ → List ℚ → List ℚ → List Step
meeting_steps a b p m = record { op = Div; a = a; b = neg_ℚ b } ∷ combination_steps (a /ℚ neg_ℚ b) p m
    ++ quotient_steps (magnitude (norming (between a b p m))) (between a b p m)

-- the exact value of the step is held
abbrev pub IsHeld : (ℚ → Bool) → Step → Type 0
IsHeld holds s = IsTrue (holds (exact s.op s.a s.b))

-- the steps before this one are held and this one is not; it has this number, counted from 1, and these operands
pub record IsFirst {F : Type 0} (value : F → ℚ) (holds : ℚ → Bool) (steps : List Step) (number : ℕ) (left : Left F) : Type 0 where
  pub before : List Step
  pub step : Step
  pub after : List Step
  pub split : steps ≡ before ++ step ∷ after
  pub held : All (IsHeld holds) before
  pub numbered : number ≡ length before + 1
  pub left_is : IsLeftOf value holds step.op step.a step.b left

-- a calculation stopped at the first of these steps that is not held, or for want of memory
abbrev pub StopsAt : {F : Type 0} → (F → ℚ) → (ℚ → Bool) → List Step → Stop F → Type 0
StopsAt value holds steps (Stuck number left) = IsFirst value holds steps number left
StopsAt value holds steps NoMemory = Unit {0}

-- all steps are held and the result is right, or it stopped at the first one that is not
abbrev pub Runs : {T F : Type 0} → (F → ℚ) → (ℚ → Bool) → List Step → Result T (Stop F) → (T → Type 0) → Type 0
Runs value holds steps result Right = MatchResult result (λ r. All (IsHeld holds) steps × Right r) (λ stop. StopsAt value holds steps stop)

-- the numbers of a vector
abbrev pub values : {F : Type 0} → (F → ℚ) → List F → List ℚ
values value v = map value v

-- of all steps these are left, and those before are held and as many as the number
pub record IsSoFar (holds : ℚ → Bool) (steps left : List Step) (number : ℕ) : Type 0 where
  pub before : List Step
  pub split : steps ≡ before ++ left
  pub held : All (IsHeld holds) before
  pub counted : length before ≡ number
