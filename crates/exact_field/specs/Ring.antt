-- Commutative rings, polynomials over them, their value, and their normal form: a sorted list of monomials.
use Rattle.std.specs.Prelude.{◌≡◌, ℕ, zero, suc, ℤ, pos, negsuc, ◌+ℤ◌, ◌*ℤ◌, neg_ℤ, List, [], ◌∷◌, length, nat_le, true, false}
use Rattle.std.specs.Ordering.{nat_cmp, ordering_then}
use Rattle.std.specs.declared.cmp.Ordering.{Ordering}
use Rattle.std.specs.declared.cmp.Ordering.TheVariants.{Less, Equal, Greater}

-- a commutative ring; `from` gives the number of the ring for a whole number, so 0 is `from (pos 0)`
pub record Ring (A : Type 0) : Type 0 where
  pub from : ℤ → A
  pub add : A → A → A
  pub mul : A → A → A
  pub neg : A → A
  pub from-add : (m n : ℤ) → from (m +ℤ n) ≡ add (from m) (from n)
  pub from-mul : (m n : ℤ) → from (m *ℤ n) ≡ mul (from m) (from n)
  pub add_comm : (a b : A) → add a b ≡ add b a
  pub add_assoc : (a b c : A) → add (add a b) c ≡ add a (add b c)
  pub add_zero : (a : A) → add a (from (pos 0)) ≡ a
  pub add_neg : (a : A) → add a (neg a) ≡ from (pos 0)
  pub mul_comm : (a b : A) → mul a b ≡ mul b a
  pub mul_assoc : (a b c : A) → mul (mul a b) c ≡ mul a (mul b c)
  pub mul_one : (a : A) → mul a (from (pos 1)) ≡ a
  pub mul_add : (a b c : A) → mul a (add b c) ≡ add (mul a b) (mul a c)

infixl 6 ◌⊕◌
infixl 7 ◌⊗◌
-- a polynomial: a variable by its number from 0, a whole number, a sum, a product, a negation
pub data Poly : Type 0 where
  var : ℕ → Poly
  num : ℤ → Poly
  ◌⊕◌ : Poly → Poly → Poly
  ◌⊗◌ : Poly → Poly → Poly
  ⊖ : Poly → Poly

infixl 6 ◌⊝◌
-- a difference
abbrev pub ◌⊝◌ : Poly → Poly → Poly
p ⊝ q = p ⊕ ⊖ q

-- the first six variables
abbrev pub v0 : Poly
v0 = var 0

abbrev pub v1 : Poly
v1 = var 1

abbrev pub v2 : Poly
v2 = var 2

abbrev pub v3 : Poly
v3 = var 3

abbrev pub v4 : Poly
v4 = var 4

abbrev pub v5 : Poly
v5 = var 5

-- entry n of a list, counted from 0, or d past its end
abbrev pub at : {A : Type 0} → A → List A → ℕ → A
at d [] n = d
at d (x ∷ xs) zero = x
at d (x ∷ xs) (suc n) = at d xs n

-- the value of a polynomial, where variable n stands for entry n of the list
abbrev pub value : {A : Type 0} → Ring A → List A → Poly → A
value R xs (var n) = at (R.from (pos 0)) xs n
value R xs (num k) = R.from k
value R xs (p ⊕ q) = R.add (value R xs p) (value R xs q)
value R xs (p ⊗ q) = R.mul (value R xs p) (value R xs q)
value R xs (⊖ p) = R.neg (value R xs p)

-- a coefficient, and the numbers of its variables in rising order
pub record Mono : Type 0 where
  pub coef : ℤ
  pub vars : List ℕ

-- the order of two products of variables, which stays when both are multiplied by a third: the first variables that
-- differ decide, and a product comes before its front
abbrev pub vars_cmp : List ℕ → List ℕ → Ordering
vars_cmp [] [] = Equal
vars_cmp [] (y ∷ ys) = Greater
vars_cmp (x ∷ xs) [] = Less
vars_cmp (x ∷ xs) (y ∷ ys) = ordering_then (nat_cmp x y) (vars_cmp xs ys)

-- a monomial in front, unless its coefficient is 0
abbrev pub cons_mono : ℤ → List ℕ → List Mono → List Mono
cons_mono (pos zero) vs ms = ms
cons_mono (pos (suc n)) vs ms = record { coef = pos (suc n); vars = vs } ∷ ms
cons_mono (negsuc n) vs ms = record { coef = negsuc n; vars = vs } ∷ ms

-- the monomial m and then the sum with what follows it, put into a sorted list
abbrev pub merge_mono : Mono → (List Mono → List Mono) → List Mono → List Mono
merge_mono m rest [] = m ∷ rest []
merge_mono m rest (n ∷ ns) =
    elim (vars_cmp m.vars n.vars) [ Less ↦ m ∷ rest (n ∷ ns) | Equal ↦ cons_mono (m.coef +ℤ n.coef) m.vars (rest ns) | Greater ↦ n ∷ merge_mono m rest ns ]

-- the sum of two sorted lists
abbrev pub sum_monos : List Mono → List Mono → List Mono
sum_monos [] ns = ns
sum_monos (m ∷ ms) ns = merge_mono m (sum_monos ms) ns

-- v before w, or w before the rest
abbrev pub insert_var_by : Ordering → ℕ → ℕ → List ℕ → List ℕ → List ℕ
insert_var_by Less v w vs more = v ∷ (w ∷ vs)
insert_var_by Equal v w vs more = v ∷ (w ∷ vs)
insert_var_by Greater v w vs more = w ∷ more

-- a sorted list of variables with one more
abbrev pub insert_var : ℕ → List ℕ → List ℕ
insert_var v [] = v ∷ []
insert_var v (w ∷ vs) = let more = insert_var v vs in insert_var_by (nat_cmp v w) v w vs more

-- the variables of a product
abbrev pub merge_vars : List ℕ → List ℕ → List ℕ
merge_vars [] ws = ws
merge_vars (v ∷ vs) ws = insert_var v (merge_vars vs ws)

-- the product of two monomials
abbrev pub mono_mul : Mono → Mono → Mono
mono_mul m n = record { coef = m.coef *ℤ n.coef; vars = merge_vars m.vars n.vars }

-- each monomial of a list times one
abbrev pub scale_monos : Mono → List Mono → List Mono
scale_monos m [] = []
scale_monos m (n ∷ ns) = mono_mul m n ∷ scale_monos m ns

-- the product of two sorted lists
abbrev pub mul_monos : List Mono → List Mono → List Mono
mul_monos [] ns = []
mul_monos (m ∷ ms) ns = sum_monos (scale_monos m ns) (mul_monos ms ns)

-- the product, along the shorter list
abbrev pub mul_shorter : List Mono → List Mono → List Mono
mul_shorter ms ns = elim (nat_le (length ms) (length ns)) [ true ↦ mul_monos ms ns | false ↦ mul_monos ns ms ]

-- each coefficient with the other sign
abbrev pub neg_monos : List Mono → List Mono
neg_monos [] = []
neg_monos (m ∷ ms) = record { coef = neg_ℤ m.coef; vars = m.vars } ∷ neg_monos ms

-- the normal form: polynomials with one normal form have one value
abbrev pub normal : Poly → List Mono
normal (var n) = record { coef = pos 1; vars = n ∷ [] } ∷ []
normal (num k) = cons_mono k [] []
normal (p ⊕ q) = sum_monos (normal p) (normal q)
normal (p ⊗ q) = mul_shorter (normal p) (normal q)
normal (⊖ p) = neg_monos (normal p)
