-- The ring tool: polynomials with one normal form have one value, in each commutative ring.
use Rattle.std.specs.Prelude.{◌≡◌, ℕ, zero, suc, ℤ, pos, negsuc, ◌+ℤ◌, ◌*ℤ◌, neg_ℤ, refl, List, [], ◌∷◌, length, nat_le, Bool, true, false}
use Rattle.std.specs.Ordering.{nat_cmp, ordering_then}
use Rattle.std.specs.declared.cmp.Ordering.{Ordering}
use Rattle.std.specs.declared.cmp.Ordering.TheVariants.{Less, Equal, Greater}
use Rattle.std.proofs.Common.{arith, sym, ap, ◌∙◌}
use Rattle.exact_field.specs.Ring.{◌⊝◌, Ring, Poly, var, num, ◌⊕◌, ◌⊗◌, ⊖, at, value, Mono, vars_cmp, cons_mono, merge_mono, sum_monos, insert_var_by, insert_var, merge_vars, mono_mul, scale_monos, mul_monos, mul_shorter, neg_monos, normal}
use Rattle.exact_field.proofs.Integers.{add_comm_ℤ, add_assoc_ℤ, add-zero_ℤ, add-neg_ℤ, mul_comm_ℤ, mul_assoc_ℤ, mul-one_ℤ, mul-add_ℤ}

-- ---- laws of each commutative ring

pub zero_add : {A : Type 0} (R : Ring A) (a : A) → R.add (R.from (pos 0)) a ≡ a
zero_add R a = R.add_comm (R.from (pos 0)) a ∙ R.add_zero a

pub one_mul : {A : Type 0} (R : Ring A) (a : A) → R.mul (R.from (pos 1)) a ≡ a
one_mul R a = R.mul_comm (R.from (pos 1)) a ∙ R.mul_one a

-- a swap inside a sum of four
pub add_swap : {A : Type 0} (R : Ring A) (a b c d : A) → R.add (R.add a b) (R.add c d) ≡ R.add (R.add a c) (R.add b d)
add_swap R a b c d = rw (R.add_assoc a b, ← (R.add_assoc b c d), R.add_comm b c, R.add_assoc c b d, ← (R.add_assoc a c)) refl

pub mul_swap : {A : Type 0} (R : Ring A) (a b c d : A) → R.mul (R.mul a b) (R.mul c d) ≡ R.mul (R.mul a c) (R.mul b d)
mul_swap R a b c d = rw (R.mul_assoc a b, ← (R.mul_assoc b c d), R.mul_comm b c, R.mul_assoc c b d, ← (R.mul_assoc a c)) refl

-- a swap of the first two of three
pub add_left_swap : {A : Type 0} (R : Ring A) (a b c : A) → R.add a (R.add b c) ≡ R.add b (R.add a c)
add_left_swap R a b c = sym (R.add_assoc a b c) ∙ ap (λ x. R.add x c) (R.add_comm a b) ∙ R.add_assoc b a c

pub mul_left_swap : {A : Type 0} (R : Ring A) (a b c : A) → R.mul a (R.mul b c) ≡ R.mul b (R.mul a c)
mul_left_swap R a b c = sym (R.mul_assoc a b c) ∙ ap (λ x. R.mul x c) (R.mul_comm a b) ∙ R.mul_assoc b a c

-- what is added can be taken off again
pub add_cancel : {A : Type 0} (R : Ring A) (a b : A) → R.add (R.add a b) (R.neg b) ≡ a
add_cancel R a b = R.add_assoc a b (R.neg b) ∙ ap (R.add a) (R.add_neg b) ∙ R.add_zero a

-- the one number that gives zero beside a
pub neg_unique : {A : Type 0} (R : Ring A) (a b : A) → R.add a b ≡ R.from (pos 0) → b ≡ R.neg a
neg_unique R a b h = sym (add_cancel R b a) ∙ ap (λ x. R.add x (R.neg a)) (R.add_comm b a ∙ h) ∙ zero_add R (R.neg a)

pub mul_zero : {A : Type 0} (R : Ring A) (a : A) → R.mul a (R.from (pos 0)) ≡ R.from (pos 0)
mul_zero R a =
    let o = R.from (pos 0) in
    let twice : R.add (R.mul a o) (R.mul a o) ≡ R.mul a o = sym (R.mul_add a o o) ∙ ap (R.mul a) (R.add_zero o) in
    sym (add_cancel R (R.mul a o) (R.mul a o)) ∙ ap (λ x. R.add x (R.neg (R.mul a o))) twice ∙ R.add_neg (R.mul a o)

pub zero_mul : {A : Type 0} (R : Ring A) (a : A) → R.mul (R.from (pos 0)) a ≡ R.from (pos 0)
zero_mul R a = R.mul_comm (R.from (pos 0)) a ∙ mul_zero R a

pub neg_zero : {A : Type 0} (R : Ring A) → R.neg (R.from (pos 0)) ≡ R.from (pos 0)
neg_zero R = sym (neg_unique R (R.from (pos 0)) (R.from (pos 0)) (R.add_zero (R.from (pos 0))))

pub neg_add : {A : Type 0} (R : Ring A) (a b : A) → R.neg (R.add a b) ≡ R.add (R.neg a) (R.neg b)
neg_add R a b =
    sym
    (neg_unique R (R.add a b) (R.add (R.neg a) (R.neg b))
    (add_swap R a b (R.neg a) (R.neg b) ∙ ap (λ x. R.add x (R.add b (R.neg b))) (R.add_neg a) ∙ zero_add R (R.add b (R.neg b)) ∙ R.add_neg b))

pub mul_neg : {A : Type 0} (R : Ring A) (a b : A) → R.mul a (R.neg b) ≡ R.neg (R.mul a b)
mul_neg R a b = neg_unique R (R.mul a b) (R.mul a (R.neg b)) (sym (R.mul_add a b (R.neg b)) ∙ ap (R.mul a) (R.add_neg b) ∙ mul_zero R a)

pub neg_mul : {A : Type 0} (R : Ring A) (a b : A) → R.mul (R.neg a) b ≡ R.neg (R.mul a b)
neg_mul R a b = R.mul_comm (R.neg a) b ∙ mul_neg R b a ∙ ap R.neg (R.mul_comm b a)

pub add_mul : {A : Type 0} (R : Ring A) (a b c : A) → R.mul (R.add a b) c ≡ R.add (R.mul a c) (R.mul b c)
add_mul R a b c = R.mul_comm (R.add a b) c ∙ R.mul_add c a b ∙ (ap (λ x. R.add x (R.mul c b)) (R.mul_comm c a) ∙ ap (R.add (R.mul a c)) (R.mul_comm c b))

pub from-neg : {A : Type 0} (R : Ring A) (n : ℤ) → R.from (neg_ℤ n) ≡ R.neg (R.from n)
from-neg R n = neg_unique R (R.from n) (R.from (neg_ℤ n)) (sym (R.from-add n (neg_ℤ n)) ∙ ap R.from (add-neg_ℤ n))

-- ---- the value of a normal form

-- the product of the variables
abbrev vars_value : {A : Type 0} → Ring A → List A → List ℕ → A
vars_value R xs [] = R.from (pos 1)
vars_value R xs (v ∷ vs) = R.mul (at (R.from (pos 0)) xs v) (vars_value R xs vs)

abbrev mono_value : {A : Type 0} → Ring A → List A → Mono → A
mono_value R xs m = R.mul (R.from m.coef) (vars_value R xs m.vars)

-- the sum of the monomials
abbrev monos_value : {A : Type 0} → Ring A → List A → List Mono → A
monos_value R xs [] = R.from (pos 0)
monos_value R xs (m ∷ ms) = R.add (mono_value R xs m) (monos_value R xs ms)

then_equal : (o p : Ordering) → ordering_then o p ≡ Equal → (o ≡ Equal) × (p ≡ Equal)
then_equal Equal p h = (refl, h)
then_equal Less p h = cc
then_equal Greater p h = cc

nat_cmp-equal : (m n : ℕ) → nat_cmp m n ≡ Equal → m ≡ n
nat_cmp-equal m n h = grind arith

vars_cmp-equal : (vs ws : List ℕ) → vars_cmp vs ws ≡ Equal → vs ≡ ws
vars_cmp-equal [] [] h = refl
vars_cmp-equal [] (w ∷ ws) h = cc
vars_cmp-equal (v ∷ vs) [] h = cc
vars_cmp-equal (v ∷ vs) (w ∷ ws) h =
    let both = then_equal (nat_cmp v w) (vars_cmp vs ws) h in
    let heads : v ≡ w = nat_cmp-equal v w both.0 in
    let tails : vs ≡ ws = vars_cmp-equal vs ws both.1 in
    cc

cons_mono-value : {A : Type 0} (R : Ring A) (xs : List A) (k : ℤ) (vs : List ℕ) (ms : List Mono) → monos_value R xs (cons_mono k vs ms) ≡ R.add (R.mul (R.from k) (vars_value R xs vs)) (monos_value R xs ms)
cons_mono-value R xs (pos zero) vs ms = sym (ap (λ x. R.add x (monos_value R xs ms)) (zero_mul R (vars_value R xs vs)) ∙ zero_add R (monos_value R xs ms))
cons_mono-value R xs (pos (suc n)) vs ms = refl
cons_mono-value R xs (negsuc n) vs ms = refl

joined-value : {A : Type 0} (R : Ring A) (xs : List A) (m n : Mono) (ms : List Mono) → m.vars ≡ n.vars → monos_value R xs (cons_mono (m.coef +ℤ n.coef) m.vars ms) ≡ R.add (mono_value R xs m) (R.add (mono_value R xs n) (monos_value R xs ms))
joined-value R xs m n ms e =
    cons_mono-value R xs (m.coef +ℤ n.coef) m.vars ms
    ∙ ap (λ x. R.add (R.mul x (vars_value R xs m.vars)) (monos_value R xs ms)) (R.from-add m.coef n.coef)
    ∙ ap (λ x. R.add x (monos_value R xs ms)) (add_mul R (R.from m.coef) (R.from n.coef) (vars_value R xs m.vars))
    ∙ R.add_assoc (R.mul (R.from m.coef) (vars_value R xs m.vars)) (R.mul (R.from n.coef) (vars_value R xs m.vars)) (monos_value R xs ms)
    ∙ ap (λ vs. R.add (mono_value R xs m) (R.add (R.mul (R.from n.coef) (vars_value R xs vs)) (monos_value R xs ms))) e

merge_mono-value_by : {A : Type 0} (R : Ring A) (xs : List A) (o : Ordering) (m n : Mono) (rest : List Mono → List Mono) (ns more : List Mono) (s : A) → (o ≡ Equal → m.vars ≡ n.vars) → ((l : List Mono) → monos_value R xs (rest l) ≡ R.add s (monos_value R xs l)) → monos_value R xs more ≡ R.add (R.add (mono_value R xs m) s) (monos_value R xs ns) → monos_value R xs (elim o [ Less ↦ m ∷ rest (n ∷ ns) | Equal ↦ cons_mono (m.coef +ℤ n.coef) m.vars (rest ns) | Greater ↦ n ∷ more ]) ≡ R.add (R.add (mono_value R xs m) s) (R.add (mono_value R xs n) (monos_value R xs ns))
merge_mono-value_by R xs Less m n rest ns more s same h k =
    ap (R.add (mono_value R xs m)) (h (n ∷ ns)) ∙ sym (R.add_assoc (mono_value R xs m) s (R.add (mono_value R xs n) (monos_value R xs ns)))
merge_mono-value_by R xs Equal m n rest ns more s same h k =
    joined-value R xs m n (rest ns) (same refl)
    ∙ ap (λ x. R.add (mono_value R xs m) (R.add (mono_value R xs n) x)) (h ns)
    ∙ ap (R.add (mono_value R xs m)) (add_left_swap R (mono_value R xs n) s (monos_value R xs ns))
    ∙ sym (R.add_assoc (mono_value R xs m) s (R.add (mono_value R xs n) (monos_value R xs ns)))
merge_mono-value_by R xs Greater m n rest ns more s same h k =
    ap (R.add (mono_value R xs n)) k ∙ add_left_swap R (mono_value R xs n) (R.add (mono_value R xs m) s) (monos_value R xs ns)

merge_mono-value : {A : Type 0} (R : Ring A) (xs : List A) (m : Mono) (rest : List Mono → List Mono) (s : A) → ((l : List Mono) → monos_value R xs (rest l) ≡ R.add s (monos_value R xs l)) → (ns : List Mono) → monos_value R xs (merge_mono m rest ns) ≡ R.add (R.add (mono_value R xs m) s) (monos_value R xs ns)
merge_mono-value R xs m rest s h [] = ap (R.add (mono_value R xs m)) (h []) ∙ sym (R.add_assoc (mono_value R xs m) s (R.from (pos 0)))
merge_mono-value R xs m rest s h (n ∷ ns) =
    merge_mono-value_by R xs (vars_cmp m.vars n.vars) m n rest ns (merge_mono m rest ns) s (vars_cmp-equal m.vars n.vars) h (merge_mono-value R xs m rest s h ns)

sum_monos-value : {A : Type 0} (R : Ring A) (xs : List A) (ms ns : List Mono) → monos_value R xs (sum_monos ms ns) ≡ R.add (monos_value R xs ms) (monos_value R xs ns)
sum_monos-value R xs [] ns = sym (zero_add R (monos_value R xs ns))
sum_monos-value R xs (m ∷ ms) ns = merge_mono-value R xs m (sum_monos ms) (monos_value R xs ms) (sum_monos-value R xs ms) ns

insert_var_by-value : {A : Type 0} (R : Ring A) (xs : List A) (o : Ordering) (v w : ℕ) (vs more : List ℕ) → vars_value R xs more ≡ R.mul (at (R.from (pos 0)) xs v) (vars_value R xs vs) → vars_value R xs (insert_var_by o v w vs more) ≡ R.mul (at (R.from (pos 0)) xs v) (R.mul (at (R.from (pos 0)) xs w) (vars_value R xs vs))
insert_var_by-value R xs Less v w vs more h = refl
insert_var_by-value R xs Equal v w vs more h = refl
insert_var_by-value R xs Greater v w vs more h =
    ap (R.mul (at (R.from (pos 0)) xs w)) h ∙ mul_left_swap R (at (R.from (pos 0)) xs w) (at (R.from (pos 0)) xs v) (vars_value R xs vs)

insert_var-value : {A : Type 0} (R : Ring A) (xs : List A) (v : ℕ) (vs : List ℕ) → vars_value R xs (insert_var v vs) ≡ R.mul (at (R.from (pos 0)) xs v) (vars_value R xs vs)
insert_var-value R xs v [] = refl
insert_var-value R xs v (w ∷ vs) = insert_var_by-value R xs (nat_cmp v w) v w vs (insert_var v vs) (insert_var-value R xs v vs)

merge_vars-value : {A : Type 0} (R : Ring A) (xs : List A) (vs ws : List ℕ) → vars_value R xs (merge_vars vs ws) ≡ R.mul (vars_value R xs vs) (vars_value R xs ws)
merge_vars-value R xs [] ws = sym (one_mul R (vars_value R xs ws))
merge_vars-value R xs (v ∷ vs) ws =
    insert_var-value R xs v (merge_vars vs ws)
    ∙ ap (R.mul (at (R.from (pos 0)) xs v)) (merge_vars-value R xs vs ws)
    ∙ sym (R.mul_assoc (at (R.from (pos 0)) xs v) (vars_value R xs vs) (vars_value R xs ws))

mono_mul-value : {A : Type 0} (R : Ring A) (xs : List A) (m n : Mono) → mono_value R xs (mono_mul m n) ≡ R.mul (mono_value R xs m) (mono_value R xs n)
mono_mul-value R xs m n =
    ap (λ x. R.mul x (vars_value R xs (merge_vars m.vars n.vars))) (R.from-mul m.coef n.coef)
    ∙ ap (R.mul (R.mul (R.from m.coef) (R.from n.coef))) (merge_vars-value R xs m.vars n.vars)
    ∙ mul_swap R (R.from m.coef) (R.from n.coef) (vars_value R xs m.vars) (vars_value R xs n.vars)

scale_monos-value : {A : Type 0} (R : Ring A) (xs : List A) (m : Mono) (ns : List Mono) → monos_value R xs (scale_monos m ns) ≡ R.mul (mono_value R xs m) (monos_value R xs ns)
scale_monos-value R xs m [] = sym (mul_zero R (mono_value R xs m))
scale_monos-value R xs m (n ∷ ns) =
    ap (λ x. R.add x (monos_value R xs (scale_monos m ns))) (mono_mul-value R xs m n)
    ∙ ap (R.add (R.mul (mono_value R xs m) (mono_value R xs n))) (scale_monos-value R xs m ns)
    ∙ sym (R.mul_add (mono_value R xs m) (mono_value R xs n) (monos_value R xs ns))

mul_monos-value : {A : Type 0} (R : Ring A) (xs : List A) (ms ns : List Mono) → monos_value R xs (mul_monos ms ns) ≡ R.mul (monos_value R xs ms) (monos_value R xs ns)
mul_monos-value R xs [] ns = sym (zero_mul R (monos_value R xs ns))
mul_monos-value R xs (m ∷ ms) ns =
    sum_monos-value R xs (scale_monos m ns) (mul_monos ms ns)
    ∙ ap (λ x. R.add x (monos_value R xs (mul_monos ms ns))) (scale_monos-value R xs m ns)
    ∙ ap (R.add (R.mul (mono_value R xs m) (monos_value R xs ns))) (mul_monos-value R xs ms ns)
    ∙ sym (add_mul R (mono_value R xs m) (monos_value R xs ms) (monos_value R xs ns))

mul_shorter-value_by : {A : Type 0} (R : Ring A) (xs : List A) (b : Bool) (ms ns : List Mono) → monos_value R xs (elim b [ true ↦ mul_monos ms ns | false ↦ mul_monos ns ms ]) ≡ R.mul (monos_value R xs ms) (monos_value R xs ns)
mul_shorter-value_by R xs true ms ns = mul_monos-value R xs ms ns
mul_shorter-value_by R xs false ms ns = mul_monos-value R xs ns ms ∙ R.mul_comm (monos_value R xs ns) (monos_value R xs ms)

mul_shorter-value : {A : Type 0} (R : Ring A) (xs : List A) (ms ns : List Mono) → monos_value R xs (mul_shorter ms ns) ≡ R.mul (monos_value R xs ms) (monos_value R xs ns)
mul_shorter-value R xs ms ns = mul_shorter-value_by R xs (nat_le (length ms) (length ns)) ms ns

neg_monos-value : {A : Type 0} (R : Ring A) (xs : List A) (ms : List Mono) → monos_value R xs (neg_monos ms) ≡ R.neg (monos_value R xs ms)
neg_monos-value R xs [] = sym (neg_zero R)
neg_monos-value R xs (m ∷ ms) =
    ap (λ x. R.add (R.mul x (vars_value R xs m.vars)) (monos_value R xs (neg_monos ms))) (from-neg R m.coef)
    ∙ ap (λ x. R.add x (monos_value R xs (neg_monos ms))) (neg_mul R (R.from m.coef) (vars_value R xs m.vars))
    ∙ ap (R.add (R.neg (mono_value R xs m))) (neg_monos-value R xs ms)
    ∙ sym (neg_add R (mono_value R xs m) (monos_value R xs ms))

normal-value : {A : Type 0} (R : Ring A) (xs : List A) (p : Poly) → monos_value R xs (normal p) ≡ value R xs p
normal-value R xs (var n) =
    R.add_zero (R.mul (R.from (pos 1)) (R.mul (at (R.from (pos 0)) xs n) (R.from (pos 1))))
    ∙ one_mul R (R.mul (at (R.from (pos 0)) xs n) (R.from (pos 1)))
    ∙ R.mul_one (at (R.from (pos 0)) xs n)
normal-value R xs (num k) = cons_mono-value R xs k [] [] ∙ R.add_zero (R.mul (R.from k) (R.from (pos 1))) ∙ R.mul_one (R.from k)
normal-value R xs (p ⊕ q) = sum_monos-value R xs (normal p) (normal q) ∙ ap (λ x. R.add x (monos_value R xs (normal q))) (normal-value R xs p) ∙ ap (R.add (value R xs p)) (normal-value R xs q)
normal-value R xs (p ⊗ q) = mul_shorter-value R xs (normal p) (normal q) ∙ ap (λ x. R.mul x (monos_value R xs (normal q))) (normal-value R xs p) ∙ ap (R.mul (value R xs p)) (normal-value R xs q)
normal-value R xs (⊖ p) = neg_monos-value R xs (normal p) ∙ ap R.neg (normal-value R xs p)

-- ---- the tool

-- polynomials with one normal form have one value
pub ring : {A : Type 0} (R : Ring A) (xs : List A) (p q : Poly) → normal p ≡ normal q → value R xs p ≡ value R xs q
ring R xs p q e = sym (normal-value R xs p) ∙ ap (monos_value R xs) e ∙ normal-value R xs q

-- the ring of the whole numbers
abbrev pub integers : Ring ℤ
integers =
    record {
      from = λ n. n;
      add = ◌+ℤ◌;
      mul = ◌*ℤ◌;
      neg = neg_ℤ;
      from-add = λ m n. refl;
      from-mul = λ m n. refl;
      add_comm = add_comm_ℤ;
      add_assoc = add_assoc_ℤ;
      add_zero = add-zero_ℤ;
      add_neg = add-neg_ℤ;
      mul_comm = mul_comm_ℤ;
      mul_assoc = mul_assoc_ℤ;
      mul_one = mul-one_ℤ;
      mul_add = mul-add_ℤ;
    }

-- ---- the tool with equations

-- numbers whose difference is 0 are one
pub same_from_zero : {A : Type 0} (R : Ring A) (a b : A) → R.add a (R.neg b) ≡ R.from (pos 0) → a ≡ b
same_from_zero R a b h =
    sym (R.add_zero a)
    ∙ ap (R.add a) (sym (R.add_comm (R.neg b) b ∙ R.add_neg b))
    ∙ sym (R.add_assoc a (R.neg b) b)
    ∙ ap (λ x. R.add x b) h
    ∙ zero_add R b

-- the multiple of an equation: k times (l - r), which is 0
multiple_zero : {A : Type 0} (R : Ring A) (k l r : A) → l ≡ r → R.mul k (R.add l (R.neg r)) ≡ R.from (pos 0)
multiple_zero R k l r h = ap (λ x. R.mul k (R.add x (R.neg r))) h ∙ ap (R.mul k) (R.add_neg r) ∙ mul_zero R k

-- p and q have one value where p - q is a multiple of l - r, and l and r have one value
pub ring_by : {A : Type 0} (R : Ring A) (xs : List A) (p q k l r : Poly) → value R xs l ≡ value R xs r → normal (p ⊝ q) ≡ normal (k ⊗ (l ⊝ r)) → value R xs p ≡ value R xs q
ring_by R xs p q k l r h e =
    same_from_zero R (value R xs p) (value R xs q) (ring R xs (p ⊝ q) (k ⊗ (l ⊝ r)) e ∙ multiple_zero R (value R xs k) (value R xs l) (value R xs r) h)

-- the same from two equations
pub ring_by_two : {A : Type 0} (R : Ring A) (xs : List A) (p q k l r k' l' r' : Poly) → value R xs l ≡ value R xs r → value R xs l' ≡ value R xs r' → normal (p ⊝ q) ≡ normal (k ⊗ (l ⊝ r) ⊕ k' ⊗ (l' ⊝ r')) → value R xs p ≡ value R xs q
ring_by_two R xs p q k l r k' l' r' h h' e =
    same_from_zero R (value R xs p) (value R xs q)
    (ring R xs (p ⊝ q) (k ⊗ (l ⊝ r) ⊕ k' ⊗ (l' ⊝ r')) e
    ∙ ap (λ x. R.add x (R.mul (value R xs k') (R.add (value R xs l') (R.neg (value R xs r'))))) (multiple_zero R (value R xs k) (value R xs l) (value R xs r) h)
    ∙ ap (R.add (R.from (pos 0))) (multiple_zero R (value R xs k') (value R xs l') (value R xs r') h')
    ∙ R.add_zero (R.from (pos 0)))
