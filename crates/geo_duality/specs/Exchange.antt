-- Points and directions as rows over dual vectors.
use Rattle.std.specs.Prelude.{List, [], ◌∷◌, ◌++◌, Bool}
use Rattle.exact_field.specs.Rational.{ℚ, ◌*ℚ◌}
use Rattle.exact_field.specs.Vector.{dot, front, last}
use Rattle.exact_field.specs.declared.op.Op.TheVariants.{Sub, Mul}
use Rattle.double_descr.specs.Steps.{Step, IsFirst}
use Rattle.geo_duality.specs.declared.exchanged.ExchangeFault.{ExchangeFault}
use Rattle.geo_duality.specs.declared.exchanged.ExchangeFault.TheVariants.{Left as Stuck, NoMemory}

-- the dual vector of an inequality: all entries of the normal but the last, the bound, and the product of the normal with c
abbrev pub dual_vector : List ℚ → ℚ → List ℚ → List ℚ
dual_vector normal bound c = front normal ++ bound ∷ dot normal c ∷ []

-- the steps of an entry: the product, then the difference
abbrev pub entry_steps : ℚ → ℚ → ℚ → List Step
entry_steps k y c = record { op = Mul; a = k; b = c } ∷ record { op = Sub; a = y; b = k *ℚ c } ∷ []

-- the steps of y - k c, entry by entry
abbrev pub difference_steps : ℚ → List ℚ → List ℚ → List Step
difference_steps k [] cs = []
difference_steps k (y ∷ ys) [] = []
difference_steps k (y ∷ ys) (c ∷ cs) = entry_steps k y c ++ difference_steps k ys cs

-- the steps of an exchange
abbrev pub exchange_steps : List ℚ → List ℚ → List Step
exchange_steps y c = difference_steps (last y) (front y) (front c)

-- an exchange was given up at its first step that is not held, or for want of memory
abbrev pub IsExchangeFault : {F : Type 0} → (F → ℚ) → (ℚ → Bool) → List Step → ExchangeFault F → Type 0
IsExchangeFault value holds steps (Stuck step left) = IsFirst value holds steps step left
IsExchangeFault value holds steps NoMemory = Unit {0}
