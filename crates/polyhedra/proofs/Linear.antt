-- The product of vectors is linear in each of them, and vectors with the same products are one.
use Rattle.std.proofs.Common.{◌≡◌, ℕ, zero, suc, List, [], ◌∷◌, map, length, refl, sym, ap, ap₂, ◌∙◌, arith}
use Rattle.std.proofs.lemmas.List.{length-replicate}
use Rattle.std.proofs.lemmas.List.Elements.{All-map}
use Rattle.exact_field.specs.Rational.{ℚ, zero_ℚ, one_ℚ, ◌+ℚ◌, ◌*ℚ◌}
use Rattle.exact_field.specs.Vector.{dot}
use Rattle.polyhedra.specs.Vectors.{AreWide, zeros, plus, scaled, values, combination}
use Rattle.polyhedra.proofs.Laws.{add_comm, add_zero, mul_comm}
use Rattle.polyhedra.proofs.Lists.{HasWidth, wide-head, wide-tail}
use Rattle.polyhedra.proofs.Algebra.{zero_add, mul_zero, zero_mul, one_mul, ring_rules}

pub dot-nil : (xs : List ℚ) → dot xs [] ≡ zero_ℚ
dot-nil [] = refl
dot-nil (x ∷ xs) = refl

pub dot_comm : (xs ys : List ℚ) → dot xs ys ≡ dot ys xs
dot_comm [] [] = refl
dot_comm [] (y ∷ ys) = refl
dot_comm (x ∷ xs) [] = refl
dot_comm (x ∷ xs) (y ∷ ys) = ap₂ (λ a b. a +ℚ b) (mul_comm x y) (dot_comm xs ys)

pub dot-plus : (r u v : List ℚ) → dot r (plus u v) ≡ dot r u +ℚ dot r v
dot-plus [] u v = sym (add_zero zero_ℚ)
dot-plus (r ∷ rs) [] v = sym (zero_add (dot (r ∷ rs) v))
dot-plus (r ∷ rs) (x ∷ xs) [] = sym (add_zero (r *ℚ x +ℚ dot rs xs))
dot-plus (r ∷ rs) (x ∷ xs) (y ∷ ys) = ap (λ a. r *ℚ (x +ℚ y) +ℚ a) (dot-plus rs xs ys) ∙ simp ring_rules

pub dot-scaled : (r : List ℚ) (c : ℚ) (v : List ℚ) → dot r (scaled c v) ≡ c *ℚ dot r v
dot-scaled [] c v = sym (mul_zero c)
dot-scaled (r ∷ rs) c [] = sym (mul_zero c)
dot-scaled (r ∷ rs) c (x ∷ xs) = ap (λ a. r *ℚ (c *ℚ x) +ℚ a) (dot-scaled rs c xs) ∙ simp ring_rules

-- the sum of vectors does not depend on their order
pub plus_comm : (u v : List ℚ) → plus u v ≡ plus v u
plus_comm [] [] = refl
plus_comm [] (x ∷ v) = refl
plus_comm (x ∷ u) [] = refl
plus_comm (x ∷ u) (y ∷ v) = ap₂ (λ p q. p ∷ q) (add_comm x y) (plus_comm u v)

-- one times a vector
pub scaled-one : (v : List ℚ) → scaled one_ℚ v ≡ v
scaled-one [] = refl
scaled-one (x ∷ v) = ap₂ (λ a b. a ∷ b) (one_mul x) (scaled-one v)

pub dot-zeros : (r : List ℚ) (n : ℕ) → dot r (zeros n) ≡ zero_ℚ
dot-zeros [] n = refl
dot-zeros (r ∷ rs) zero = refl
dot-zeros (r ∷ rs) (suc n) = ap₂ (λ a b. a +ℚ b) (mul_zero r) (dot-zeros rs n) ∙ add_zero zero_ℚ

pub dot-plus_left : (u v r : List ℚ) → dot (plus u v) r ≡ dot u r +ℚ dot v r
dot-plus_left u v r = dot_comm (plus u v) r ∙ dot-plus r u v ∙ ap₂ (λ a b. a +ℚ b) (dot_comm r u) (dot_comm r v)

pub dot-scaled_left : (c : ℚ) (v r : List ℚ) → dot (scaled c v) r ≡ c *ℚ dot v r
dot-scaled_left c v r = dot_comm (scaled c v) r ∙ dot-scaled r c v ∙ ap (λ a. c *ℚ a) (dot_comm r v)

-- the value of a combination is the combination of the values
pub dot-combination : (n : ℕ) (r ms : List ℚ) (vs : List (List ℚ)) → dot r (combination n ms vs) ≡ dot ms (values vs r)
dot-combination n r [] vs = dot-zeros r n
dot-combination n r (m ∷ ms) [] = dot-zeros r n
dot-combination n r (m ∷ ms) (v ∷ vs) = dot-plus r (scaled m v) (combination n ms vs)
    ∙ ap₂ (λ a b. a +ℚ b) (dot-scaled r m v ∙ ap (λ a. m *ℚ a) (dot_comm r v)) (dot-combination n r ms vs)

pub dot-combination_left : (n : ℕ) (ms : List ℚ) (vs : List (List ℚ)) (r : List ℚ) → dot (combination n ms vs) r ≡ dot ms (values vs r)
dot-combination_left n ms vs r = dot_comm (combination n ms vs) r ∙ dot-combination n r ms vs

-- ---- widths
pub length-scaled : (c : ℚ) (v : List ℚ) → length (scaled c v) ≡ length v
length-scaled c [] = refl
length-scaled c (x ∷ v) = ap suc (length-scaled c v)

pub length-plus : (n : ℕ) (u v : List ℚ) → length u ≡ n → length v ≡ n → length (plus u v) ≡ n
length-plus n [] v h k = k
length-plus n (x ∷ u) [] h k = h
length-plus zero (x ∷ u) (y ∷ v) h k = absurd (omega arith)
length-plus (suc n) (x ∷ u) (y ∷ v) h k =
    let a : length u ≡ n = omega arith in
    let b : length v ≡ n = omega arith in
    ap suc (length-plus n u v a b)

pub length-zeros : (n : ℕ) → length (zeros n) ≡ n
length-zeros n = length-replicate n zero_ℚ

pub length-combination : (n : ℕ) (ms : List ℚ) (vs : List (List ℚ)) → AreWide n vs → length (combination n ms vs) ≡ n
length-combination n [] vs w = length-zeros n
length-combination n (m ∷ ms) [] w = length-zeros n
length-combination n (m ∷ ms) (v ∷ vs) w =
    length-plus n (scaled m v) (combination n ms vs) (length-scaled m v ∙ wide-head n v vs w)
    (length-combination n ms vs (wide-tail n v vs w))

-- ---- vectors with the same products
unit_value : (x : ℚ) (xs : List ℚ) → dot (one_ℚ ∷ []) (x ∷ xs) ≡ x
unit_value x xs = add_zero (one_ℚ *ℚ x) ∙ one_mul x

rest_value : (x : ℚ) (r xs : List ℚ) → dot (zero_ℚ ∷ r) (x ∷ xs) ≡ dot r xs
rest_value x r xs = ap (λ a. a +ℚ dot r xs) (zero_mul x) ∙ zero_add (dot r xs)

pub same_vectors : (u v : List ℚ) → length u ≡ length v → ((r : List ℚ) → dot r u ≡ dot r v) → u ≡ v
same_vectors [] [] h e = refl
same_vectors [] (y ∷ v) h e = absurd (omega arith)
same_vectors (x ∷ u) [] h e = absurd (omega arith)
same_vectors (x ∷ u) (y ∷ v) h e =
    let lengths : length u ≡ length v = omega arith in
    let heads : x ≡ y = sym (unit_value x u) ∙ e (one_ℚ ∷ []) ∙ unit_value y v in
    let tails : u ≡ v = same_vectors u v lengths (λ r. sym (rest_value x r u) ∙ e (zero_ℚ ∷ r) ∙ rest_value y r v) in
    ap₂ (λ a b. a ∷ b) heads tails

-- what has the products of a vector of n entries, and n entries, is that vector
pub same_wide : (n : ℕ) (u v : List ℚ) → length u ≡ n → length v ≡ n → ((r : List ℚ) → dot r u ≡ dot r v) → u ≡ v
same_wide n u v h k e = same_vectors u v (h ∙ sym k) e

-- ---- combinations of combinations
values-map : (f : List ℚ → List ℚ) (mss : List (List ℚ)) (r s : List ℚ) → ((ms : List ℚ) → dot (f ms) r ≡ dot ms s) → values (map f mss) r ≡ values mss s
values-map f [] r s h = refl
values-map f (ms ∷ mss) r s h = ap₂ (λ a b. a ∷ b) (h ms) (values-map f mss r s h)

wide-combinations : (n : ℕ) (vs : List (List ℚ)) → AreWide n vs → (mss : List (List ℚ)) → AreWide n (map (λ ms. combination n ms vs) mss)
wide-combinations n vs w mss = record { wide = All-map (HasWidth n) (λ ms. combination n ms vs) mss (λ k d h. length-combination n _ vs w) }

pub combination_of_combinations : (n : ℕ) (ls : List ℚ) (mss vs : List (List ℚ)) → AreWide n vs →
    combination n ls (map (λ ms. combination n ms vs) mss) ≡ combination n (combination (length vs) ls mss) vs
combination_of_combinations n ls mss vs w =
    same_wide n _ _ (length-combination n ls _ (wide-combinations n vs w mss)) (length-combination n _ vs w)
    (λ r.
    dot-combination n r ls (map (λ ms. combination n ms vs) mss)
    ∙ ap (λ x. dot ls x) (values-map (λ ms. combination n ms vs) mss r (values vs r) (λ ms. dot-combination_left n ms vs r))
    ∙ sym (dot-combination_left (length vs) ls mss (values vs r))
    ∙ sym (dot-combination n r (combination (length vs) ls mss) vs))
