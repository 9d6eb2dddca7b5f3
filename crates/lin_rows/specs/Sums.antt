-- Products and sums of lists, in order, and where they are given up.
use Rattle.std.specs.Prelude.{ℕ, ◌<◌, ◌≤◌, ◌≡◌, ◌≢◌, ◌+◌, ◌⊎◌, Bool, IsTrue, List, [], take, length}
use Rattle.exact_field.specs.Field.{IsLeftOf}
use Rattle.exact_field.specs.Rational.{ℚ, zero_ℚ, ◌+ℚ◌, ◌*ℚ◌}
use Rattle.exact_field.specs.Vector.{entry, dot}
use Rattle.exact_field.specs.declared.op.Op.TheVariants.{Add, Mul}
use Rattle.exact_field.specs.declared.op.Left.{Left}
use Rattle.lin_rows.specs.Clear.{IfStep}
use Rattle.lin_rows.specs.declared.spots.Stop.{Stop}
use Rattle.lin_rows.specs.declared.spots.Stop.TheVariants.{Step, NoMemory as Want}
use Rattle.lin_rows.specs.declared.fault.RowFault.{RowFault}
use Rattle.lin_rows.specs.declared.fault.RowFault.TheVariants.{Left as Stuck, NoMemory}

-- the sum of the first k products
abbrev pub partial : List ℚ → List ℚ → ℕ → ℚ
partial a b k = dot (take k a) (take k b)

-- at each of the first n places at which neither entry is 0, the product and the sum so far are held
abbrev pub AreHeld : (ℚ → Bool) → List ℚ → List ℚ → ℕ → Type 0
AreHeld holds a b n = (k : ℕ) → 1 ≤ k → k ≤ n → entry a k ≢ zero_ℚ → entry b k ≢ zero_ℚ →
    IsTrue (holds (entry a k *ℚ entry b k)) × IsTrue (holds (partial a b k))

-- the product of x and y is not held, or it is, and its sum with the total is not
abbrev pub IsTermLeft : {F : Type 0} → (F → ℚ) → (ℚ → Bool) → ℚ → ℚ → ℚ → Left F → Type 0
IsTermLeft value holds total x y left =
    IsLeftOf value holds Mul x y left ⊎ (IsTrue (holds (x *ℚ y)) × IsLeftOf value holds Add total (x *ℚ y) left)

-- a step at some place is the first that is not held
pub record IsDotLeft {F : Type 0} (value : F → ℚ) (holds : ℚ → Bool) (a b : List ℚ) (left : Left F) : Type 0 where
  pub earlier : ℕ
  pub within : earlier < length a
  pub held : AreHeld holds a b earlier
  pub first : entry a (earlier + 1) ≢ zero_ℚ
  pub second : entry b (earlier + 1) ≢ zero_ℚ
  pub step : IsTermLeft value holds (partial a b earlier) (entry a (earlier + 1)) (entry b (earlier + 1)) left

-- the product of k and y is not held (step 2), or its sum with x is not (step 3)
abbrev pub IsPlusLeft : {F : Type 0} → (F → ℚ) → (ℚ → Bool) → ℚ → ℚ → ℚ → ℕ → Left F → Type 0
IsPlusLeft value holds x k y step left =
    ((step ≡ 2) × IsLeftOf value holds Mul k y left) ⊎ ((step ≡ 3) × IsLeftOf value holds Add x (k *ℚ y) left)

-- the same of what was given up
abbrev pub PlusStops : {F : Type 0} → (F → ℚ) → (ℚ → Bool) → ℚ → ℚ → ℚ → Stop F → Type 0
PlusStops value holds x k y stop = IfStep (IsPlusLeft value holds x k y) stop

-- the product of k and y is not held
abbrev pub ProductStops : {F : Type 0} → (F → ℚ) → (ℚ → Bool) → ℚ → ℚ → Stop F → Type 0
ProductStops value holds k y stop = IfStep (λ step left. (step ≡ 2) × IsLeftOf value holds Mul k y left) stop

-- what was given up at an index, as a fault
abbrev pub IsFaultAt : {F : Type 0} → ℕ → Stop F → RowFault F → Type 0
IsFaultAt index (Step step left) fault = fault ≡ Stuck [] 0 (index + 1) step left
IsFaultAt index Want fault = fault ≡ NoMemory

-- at each place the product with k, and its sum, are held
abbrev pub IsCombinationHeld : (ℚ → Bool) → List ℚ → ℚ → List ℚ → ℕ → Type 0
IsCombinationHeld holds a k b n = (j : ℕ) → 1 ≤ j → j ≤ n → IsTrue (holds (k *ℚ entry b j)) × IsTrue (holds (entry a j +ℚ k *ℚ entry b j))

-- the products of k with the first n entries are held
abbrev pub AreProductsHeld : (ℚ → Bool) → ℚ → List ℚ → ℕ → Type 0
AreProductsHeld holds k a n = (j : ℕ) → 1 ≤ j → j ≤ n → IsTrue (holds (k *ℚ entry a j))

-- nothing is eliminated, and a product or a sum at this place is not held
abbrev pub IsCombineFault : {F : Type 0} → (F → ℚ) → (ℚ → Bool) → List ℚ → ℚ → List ℚ → RowFault F → Type 0
IsCombineFault value holds a k b (Stuck basis row col step left) =
    (basis ≡ []) × (row ≡ 0) × (1 ≤ col) × (col ≤ length a) × IsPlusLeft value holds (entry a col) k (entry b col) step left
IsCombineFault value holds a k b NoMemory = Unit {0}

-- nothing is eliminated, and the product of k with an entry is not held
abbrev pub IsScaleFault : {F : Type 0} → (F → ℚ) → (ℚ → Bool) → ℚ → List ℚ → RowFault F → Type 0
IsScaleFault value holds k a (Stuck basis row col step left) =
    (basis ≡ []) × (row ≡ 0) × (1 ≤ col) × (col ≤ length a) × (step ≡ 2) × IsLeftOf value holds Mul k (entry a col) left
IsScaleFault value holds k a NoMemory = Unit {0}
