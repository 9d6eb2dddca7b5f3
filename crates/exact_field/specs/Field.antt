-- What a call of an exact field answers: the exact value where it is held, and what it was asked where it is not.
use Rattle.std.specs.Prelude.{ℤ, pos, ⊤, ◌≡◌, ◌<◌, ◌≤ℤ◌, ◌<ℤ◌, ◌^◌, ◌⊎◌, unsigned_abs, Bool, IsTrue, IsFalse, List, [], ◌∷◌, Option, Result, IfSome, MatchOption, MatchResult}
use Rattle.exact_field.specs.Rational.{ℚ, zero_ℚ, fraction, ◌+ℚ◌, ◌-ℚ◌, ◌*ℚ◌, ◌/ℚ◌}
use Rattle.exact_field.specs.Vector.{dot}
use Rattle.exact_field.specs.declared.op.Op.{Op}
use Rattle.exact_field.specs.declared.op.Op.TheVariants.{Add, Sub, Mul, Div}
use Rattle.exact_field.specs.declared.op.Left.{Left}

-- where the exact value is held, the answer has it; where not, the answer is the operation with both operands
abbrev pub Answers : {F : Type 0} → (F → ℚ) → (ℚ → Bool) → Op → F → F → ℚ → Result F (Left F) → Type 0
Answers value holds operation first second exact result =
    MatchResult result (λ r. (value r ≡ exact) × IsTrue (holds exact)) (λ left. (left ≡ record { op = operation; a = first; b = second }) × IsFalse (holds exact))

-- where the exact value is held, the answer has it; where not, there is none
abbrev pub AnswersHeld : {F : Type 0} → (F → ℚ) → (ℚ → Bool) → ℚ → Option F → Type 0
AnswersHeld value holds exact result = MatchOption result (IsFalse (holds exact)) (λ r. (value r ≡ exact) × IsTrue (holds exact))

-- where the denominator is positive and the number is held, the answer has it; where not, there is none
abbrev pub AnswersFraction : {F : Type 0} → (F → ℚ) → (ℚ → Bool) → ℤ → ℤ → Option F → Type 0
AnswersFraction value holds n d result =
    let exact = fraction n (unsigned_abs d) in
    MatchOption result ((d ≤ℤ pos 0) ⊎ IsFalse (holds exact)) (λ r. (pos 0 <ℤ d) × (value r ≡ exact) × IsTrue (holds exact))

-- from this total on, each product of two entries is held and each sum of those so far
abbrev pub AreSumsHeld : (ℚ → Bool) → ℚ → List ℚ → List ℚ → Type 0
AreSumsHeld holds total [] ys = ⊤
AreSumsHeld holds total (x ∷ xs) [] = ⊤
AreSumsHeld holds total (x ∷ xs) (y ∷ ys) =
    IsTrue (holds (x *ℚ y)) × IsTrue (holds (total +ℚ x *ℚ y)) × AreSumsHeld holds (total +ℚ x *ℚ y) xs ys

-- an answer is the product of the vectors, and entry by entry all that comes before it is held
abbrev pub IsShortDot : {F : Type 0} → (F → ℚ) → (ℚ → Bool) → List ℚ → List ℚ → Option F → Type 0
IsShortDot value holds xs ys result = IfSome result (λ r. (value r ≡ dot xs ys) × AreSumsHeld holds zero_ℚ xs ys)

-- the exact result of an operation
abbrev pub exact : Op → ℚ → ℚ → ℚ
exact Add a b = a +ℚ b
exact Sub a b = a -ℚ b
exact Mul a b = a *ℚ b
exact Div a b = a /ℚ b

-- what an operation leaves that has no held value, by the values of its operands
abbrev pub IsLeftOf : {F : Type 0} → (F → ℚ) → (ℚ → Bool) → Op → ℚ → ℚ → Left F → Type 0
IsLeftOf value holds operation a b left =
    (left.op ≡ operation) × (value left.a ≡ a) × (value left.b ≡ b) × IsFalse (holds (exact operation a b))

-- the magnitude of the numerator and the denominator are below 2^120
pub record IsSmall (q : ℚ) : Type 0 where
  pub num_small : unsigned_abs q.num < 2 ^ 120
  pub den_small : q.den < 2 ^ 120
