-- Sums over lists and products of vectors: appended, scaled, swapped, and sums of nonnegative numbers.
use Rattle.std.specs.Prelude.{◌≡◌, ℕ, zero, suc, refl, List, [], ◌∷◌, ◌++◌, map, replicate, length, All}
use Rattle.std.proofs.Common.{arith, sym, ap, ◌∙◌}
use Rattle.std.proofs.lemmas.List.Elements.{All-nil, All-cons, All-head, All-tail}
use Rattle.exact_field.specs.Rational.{ℚ, zero_ℚ, ◌+ℚ◌, ◌*ℚ◌, neg_ℚ, ◌≤ℚ◌}
use Rattle.exact_field.specs.Vector.{sum_ℚ, dot}
use Rattle.exact_field.specs.Ring.{◌⊕◌, ◌⊗◌, v0, v1, v2, v3}
use Rattle.exact_field.proofs.Rationals.{rationals, add_assoc_ℚ, add-zero_ℚ, zero-add_ℚ, mul_comm_ℚ, mul-zero_ℚ, zero-mul_ℚ, mul-add_ℚ, neg-zero_ℚ, neg-add_ℚ}
use Rattle.exact_field.proofs.Inequalities.{le_refl_ℚ, add-nonnegative, mul-nonnegative, left_zero_from_sum, right_zero_from_sum, add-le-add_ℚ}
use Rattle.exact_field.proofs.RingTool.{ring, add_swap}

-- ---- sums

pub sum-append : (ps qs : List ℚ) → sum_ℚ (ps ++ qs) ≡ sum_ℚ ps +ℚ sum_ℚ qs
sum-append [] qs = sym (zero-add_ℚ (sum_ℚ qs))
sum-append (p ∷ ps) qs = ap (λ (x : ℚ). p +ℚ x) (sum-append ps qs) ∙ sym (add_assoc_ℚ p (sum_ℚ ps) (sum_ℚ qs))

-- the sum of a function over a list, times a number
pub sum-map_scaled : {A : Type 0} (k : ℚ) (f : A → ℚ) (xs : List A) → sum_ℚ (map (λ x. k *ℚ f x) xs) ≡ k *ℚ sum_ℚ (map f xs)
sum-map_scaled k f [] = sym (mul-zero_ℚ k)
sum-map_scaled k f (x ∷ xs) = ap (λ (y : ℚ). k *ℚ f x +ℚ y) (sum-map_scaled k f xs) ∙ sym (mul-add_ℚ k (f x) (sum_ℚ (map f xs)))

pub sum-map_scaled_right : {A : Type 0} (k : ℚ) (f : A → ℚ) (xs : List A) → sum_ℚ (map (λ x. f x *ℚ k) xs) ≡ sum_ℚ (map f xs) *ℚ k
sum-map_scaled_right k f [] = sym (zero-mul_ℚ k)
sum-map_scaled_right k f (x ∷ xs) =
    ap (λ (y : ℚ). f x *ℚ k +ℚ y) (sum-map_scaled_right k f xs) ∙ ring rationals (f x ∷ sum_ℚ (map f xs) ∷ k ∷ []) (v0 ⊗ v2 ⊕ v1 ⊗ v2) ((v0 ⊕ v1) ⊗ v2) refl

-- each entry times a number
pub sum-scaled : (k : ℚ) (ps : List ℚ) → sum_ℚ (map (λ p. k *ℚ p) ps) ≡ k *ℚ sum_ℚ ps
sum-scaled k [] = sym (mul-zero_ℚ k)
sum-scaled k (p ∷ ps) = ap (λ (y : ℚ). k *ℚ p +ℚ y) (sum-scaled k ps) ∙ sym (mul-add_ℚ k p (sum_ℚ ps))

-- the sum of sums
pub sum-map_add : {A : Type 0} (f g : A → ℚ) (xs : List A) → sum_ℚ (map (λ x. f x +ℚ g x) xs) ≡ sum_ℚ (map f xs) +ℚ sum_ℚ (map g xs)
sum-map_add f g [] = sym (add-zero_ℚ zero_ℚ)
sum-map_add f g (x ∷ xs) =
    ap (λ (y : ℚ). f x +ℚ g x +ℚ y) (sum-map_add f g xs) ∙ add_swap rationals (f x) (g x) (sum_ℚ (map f xs)) (sum_ℚ (map g xs))

pub sum-map_neg : {A : Type 0} (f : A → ℚ) (xs : List A) → sum_ℚ (map (λ x. neg_ℚ (f x)) xs) ≡ neg_ℚ (sum_ℚ (map f xs))
sum-map_neg f [] = sym neg-zero_ℚ
sum-map_neg f (x ∷ xs) = ap (λ (y : ℚ). neg_ℚ (f x) +ℚ y) (sum-map_neg f xs) ∙ sym (neg-add_ℚ (f x) (sum_ℚ (map f xs)))

-- the sum of zeros
pub sum-map_zero : {A : Type 0} (xs : List A) → sum_ℚ (map (λ x. zero_ℚ) xs) ≡ zero_ℚ
sum-map_zero [] = refl
sum-map_zero (x ∷ xs) = ap (λ (y : ℚ). zero_ℚ +ℚ y) (sum-map_zero xs) ∙ add-zero_ℚ zero_ℚ

pub sum-replicate_zero : (n : ℕ) → sum_ℚ (replicate n zero_ℚ) ≡ zero_ℚ
sum-replicate_zero zero = refl
sum-replicate_zero (suc n) = ap (λ (y : ℚ). zero_ℚ +ℚ y) (sum-replicate_zero n) ∙ add-zero_ℚ zero_ℚ

-- functions that agree have one sum
pub sum-map_same : {A : Type 0} (f g : A → ℚ) → ((x : A) → f x ≡ g x) → (xs : List A) → sum_ℚ (map f xs) ≡ sum_ℚ (map g xs)
sum-map_same f g same [] = refl
sum-map_same f g same (x ∷ xs) = ap (λ (y : ℚ). y +ℚ sum_ℚ (map f xs)) (same x) ∙ ap (λ (y : ℚ). g x +ℚ y) (sum-map_same f g same xs)

-- a sum of sums in the other order
pub sum_swapped : {A B : Type 0} (f : A → B → ℚ) (xs : List A) (ys : List B) → sum_ℚ (map (λ x. sum_ℚ (map (λ y. f x y) ys)) xs) ≡ sum_ℚ (map (λ y. sum_ℚ (map (λ x. f x y) xs)) ys)
sum_swapped f [] ys = sym (sum-map_zero ys)
sum_swapped f (x ∷ xs) ys =
    ap (λ (z : ℚ). sum_ℚ (map (λ y. f x y) ys) +ℚ z) (sum_swapped f xs ys)
    ∙ sym (sum-map_add (λ y. f x y) (λ y. sum_ℚ (map (λ z. f z y) xs)) ys)

-- ---- sums and order

pub sum-nonnegative : (ps : List ℚ) → All (λ p. zero_ℚ ≤ℚ p) ps → zero_ℚ ≤ℚ sum_ℚ ps
sum-nonnegative [] h = le_refl_ℚ zero_ℚ
sum-nonnegative (p ∷ ps) h =
    add-nonnegative p (sum_ℚ ps) (All-head (λ (x : ℚ). zero_ℚ ≤ℚ x) p ps h) (sum-nonnegative ps (All-tail (λ (x : ℚ). zero_ℚ ≤ℚ x) p ps h))

-- a sum of nonnegative numbers is 0 only where each is
pub each_zero_from_sum : (ps : List ℚ) → All (λ p. zero_ℚ ≤ℚ p) ps → sum_ℚ ps ≡ zero_ℚ → All (λ p. p ≡ zero_ℚ) ps
each_zero_from_sum [] h e = All-nil (λ p. p ≡ zero_ℚ)
each_zero_from_sum (p ∷ ps) h e =
    let first : zero_ℚ ≤ℚ p = All-head (λ (x : ℚ). zero_ℚ ≤ℚ x) p ps h in
    let later : All (λ x. zero_ℚ ≤ℚ x) ps = All-tail (λ (x : ℚ). zero_ℚ ≤ℚ x) p ps h in
    All-cons (λ x. x ≡ zero_ℚ) p ps (left_zero_from_sum p (sum_ℚ ps) first (sum-nonnegative ps later) e)
    (each_zero_from_sum ps later (right_zero_from_sum p (sum_ℚ ps) first (sum-nonnegative ps later) e))

pub zero_from_zeros : (ps : List ℚ) → All (λ p. p ≡ zero_ℚ) ps → sum_ℚ ps ≡ zero_ℚ
zero_from_zeros [] h = refl
zero_from_zeros (p ∷ ps) h =
    ap (λ (x : ℚ). x +ℚ sum_ℚ ps) (All-head (λ (x : ℚ). x ≡ zero_ℚ) p ps h)
    ∙ ap (λ (x : ℚ). zero_ℚ +ℚ x) (zero_from_zeros ps (All-tail (λ (x : ℚ). x ≡ zero_ℚ) p ps h))
    ∙ add-zero_ℚ zero_ℚ

-- sums of two functions, one nowhere above the other
pub sum-map_le : {A : Type 0} (f g : A → ℚ) (xs : List A) → All (λ x. f x ≤ℚ g x) xs → sum_ℚ (map f xs) ≤ℚ sum_ℚ (map g xs)
sum-map_le f g [] h = le_refl_ℚ zero_ℚ
sum-map_le f g (x ∷ xs) h =
    add-le-add_ℚ (f x) (g x) (sum_ℚ (map f xs)) (sum_ℚ (map g xs)) (All-head (λ y. f y ≤ℚ g y) x xs h)
    (sum-map_le f g xs (All-tail (λ y. f y ≤ℚ g y) x xs h))

-- ---- products of vectors

pub dot_comm : (xs ys : List ℚ) → dot xs ys ≡ dot ys xs
dot_comm [] [] = refl
dot_comm [] (y ∷ ys) = refl
dot_comm (x ∷ xs) [] = refl
dot_comm (x ∷ xs) (y ∷ ys) = ap (λ (z : ℚ). z +ℚ dot xs ys) (mul_comm_ℚ x y) ∙ ap (λ (z : ℚ). y *ℚ x +ℚ z) (dot_comm xs ys)

pub dot_nil : (xs : List ℚ) → dot xs [] ≡ zero_ℚ
dot_nil [] = refl
dot_nil (x ∷ xs) = refl

-- a vector of zeros
pub dot-zeros_left : (n : ℕ) (ys : List ℚ) → dot (replicate n zero_ℚ) ys ≡ zero_ℚ
dot-zeros_left zero ys = refl
dot-zeros_left (suc n) [] = refl
dot-zeros_left (suc n) (y ∷ ys) = ap (λ (z : ℚ). z +ℚ dot (replicate n zero_ℚ) ys) (zero-mul_ℚ y) ∙ ap (λ (z : ℚ). zero_ℚ +ℚ z) (dot-zeros_left n ys) ∙ add-zero_ℚ zero_ℚ

pub dot-zeros_right : (n : ℕ) (xs : List ℚ) → dot xs (replicate n zero_ℚ) ≡ zero_ℚ
dot-zeros_right n xs = dot_comm xs (replicate n zero_ℚ) ∙ dot-zeros_left n xs

pub dot-scaled_left : (k : ℚ) (xs ys : List ℚ) → dot (map (λ x. k *ℚ x) xs) ys ≡ k *ℚ dot xs ys
dot-scaled_left k [] ys = sym (mul-zero_ℚ k)
dot-scaled_left k (x ∷ xs) [] = sym (mul-zero_ℚ k)
dot-scaled_left k (x ∷ xs) (y ∷ ys) =
    ap (λ (z : ℚ). k *ℚ x *ℚ y +ℚ z) (dot-scaled_left k xs ys) ∙ ring rationals (k ∷ x ∷ y ∷ dot xs ys ∷ []) (v0 ⊗ v1 ⊗ v2 ⊕ v0 ⊗ v3) (v0 ⊗ (v1 ⊗ v2 ⊕ v3)) refl

pub dot-scaled_right : (k : ℚ) (xs ys : List ℚ) → dot xs (map (λ y. k *ℚ y) ys) ≡ k *ℚ dot xs ys
dot-scaled_right k xs ys = dot_comm xs (map (λ y. k *ℚ y) ys) ∙ dot-scaled_left k ys xs ∙ ap (λ (z : ℚ). k *ℚ z) (dot_comm ys xs)

-- the product with a vector made by a function of each index is the sum of the products
pub dot-map : {A : Type 0} (f g : A → ℚ) (xs : List A) → dot (map f xs) (map g xs) ≡ sum_ℚ (map (λ x. f x *ℚ g x) xs)
dot-map f g [] = refl
dot-map f g (x ∷ xs) = ap (λ (z : ℚ). f x *ℚ g x +ℚ z) (dot-map f g xs)

pub dot-append : (xs ys us vs : List ℚ) → length xs ≡ length ys → dot (xs ++ us) (ys ++ vs) ≡ dot xs ys +ℚ dot us vs
dot-append [] [] us vs h = sym (zero-add_ℚ (dot us vs))
dot-append [] (y ∷ ys) us vs h = absurd (omega arith)
dot-append (x ∷ xs) [] us vs h = absurd (omega arith)
dot-append (x ∷ xs) (y ∷ ys) us vs h =
    ap (λ (z : ℚ). x *ℚ y +ℚ z) (dot-append xs ys us vs (omega arith)) ∙ sym (add_assoc_ℚ (x *ℚ y) (dot xs ys) (dot us vs))

-- a product of nonnegative vectors
pub dot-nonnegative : (xs ys : List ℚ) → All (λ x. zero_ℚ ≤ℚ x) xs → All (λ y. zero_ℚ ≤ℚ y) ys → zero_ℚ ≤ℚ dot xs ys
dot-nonnegative [] ys h k = le_refl_ℚ zero_ℚ
dot-nonnegative (x ∷ xs) [] h k = le_refl_ℚ zero_ℚ
dot-nonnegative (x ∷ xs) (y ∷ ys) h k =
    add-nonnegative (x *ℚ y) (dot xs ys)
    (mul-nonnegative x y (All-head (λ (z : ℚ). zero_ℚ ≤ℚ z) x xs h) (All-head (λ (z : ℚ). zero_ℚ ≤ℚ z) y ys k))
    (dot-nonnegative xs ys (All-tail (λ (z : ℚ). zero_ℚ ≤ℚ z) x xs h) (All-tail (λ (z : ℚ). zero_ℚ ≤ℚ z) y ys k))
