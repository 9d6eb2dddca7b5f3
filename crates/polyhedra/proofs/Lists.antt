-- Facts on each element of a list, at the words of this crate.
use Rattle.std.proofs.Common.{◌≡◌, ℕ, zero, suc, List, [], ◌∷◌, map, length, All, arith, ◌⊎◌, inl, inr, Contains, ◌++◌, ◌+◌, ◌-◌, ◌<◌, ◌≤◌, drop, refl, sym, ap, ◌∙◌, subst, slice_index_or}
use Rattle.std.proofs.lemmas.List.Elements.{All-nil, All-cons, All-head, All-tail, All-map, All-weaker}
use Rattle.std.proofs.lemmas.Bool.Decides.{eqb_tells}
use Rattle.exact_field.specs.Rational.{ℚ, zero_ℚ, ◌≤ℚ◌, ◌+ℚ◌, ◌*ℚ◌}
use Rattle.exact_field.specs.Vector.{dot}
use Rattle.polyhedra.specs.Vectors.{AreWide, values, AtLeastZero, zeros, plus, scaled}
use Rattle.polyhedra.proofs.Laws.{le_refl, mul_nonneg}
use Rattle.polyhedra.proofs.Order.{add_nonneg}

abbrev pub Nonneg : ℚ → Type 0
Nonneg m = zero_ℚ ≤ℚ m

pub nonneg-nil : AtLeastZero []
nonneg-nil = All-nil Nonneg

pub nonneg-cons : (m : ℚ) (ms : List ℚ) → zero_ℚ ≤ℚ m → AtLeastZero ms → AtLeastZero (m ∷ ms)
nonneg-cons m ms h k = All-cons Nonneg m ms h k

pub nonneg-head : (m : ℚ) (ms : List ℚ) → AtLeastZero (m ∷ ms) → zero_ℚ ≤ℚ m
nonneg-head m ms h = All-head Nonneg m ms h

pub nonneg-tail : (m : ℚ) (ms : List ℚ) → AtLeastZero (m ∷ ms) → AtLeastZero ms
nonneg-tail m ms h = All-tail Nonneg m ms h

abbrev pub HasWidth : ℕ → List ℚ → Type 0
HasWidth n v = length v ≡ n

pub wide-nil : (n : ℕ) → AreWide n []
wide-nil n = record { wide = All-nil (HasWidth n) }

pub wide-cons : (n : ℕ) (v : List ℚ) (vs : List (List ℚ)) → length v ≡ n → AreWide n vs → AreWide n (v ∷ vs)
wide-cons n v vs h k = record { wide = All-cons (HasWidth n) v vs h k.wide }

pub wide-head : (n : ℕ) (v : List ℚ) (vs : List (List ℚ)) → AreWide n (v ∷ vs) → length v ≡ n
wide-head n v vs h = All-head (HasWidth n) v vs h.wide

pub wide-tail : (n : ℕ) (v : List ℚ) (vs : List (List ℚ)) → AreWide n (v ∷ vs) → AreWide n vs
wide-tail n v vs h = record { wide = All-tail (HasWidth n) v vs h.wide }

pub wide-map : (n : ℕ) (f : List ℚ → List ℚ) (vs : List (List ℚ)) → ((v : List ℚ) → length v ≡ n → length (f v) ≡ n) → AreWide n vs → AreWide n (map f vs)
wide-map n f vs h k = record { wide = All-map (HasWidth n) f vs (All-weaker (HasWidth n) (λ v. HasWidth n (f v)) h vs k.wide) }

-- r is at least 0 at z
abbrev pub HoldsAt : List ℚ → List ℚ → Type 0
HoldsAt z r = zero_ℚ ≤ℚ dot r z

pub values_nonneg : (rows : List (List ℚ)) (z : List ℚ) → All (HoldsAt z) rows → AtLeastZero (values rows z)
values_nonneg rows z h = All-map Nonneg (λ r. dot r z) rows h

-- what holds of each image holds of each element, at its image
pub all_from_map : {X Y : Type 0} (P : Y → Type 0) (f : X → Y) (xs : List X) → All P (map f xs) → All (λ x. P (f x)) xs
all_from_map P f [] h = All-nil (λ x. P (f x))
all_from_map P f (x ∷ xs) h = All-cons (λ x. P (f x)) x xs (All-head P (f x) (map f xs) h) (all_from_map P f xs (All-tail P (f x) (map f xs) h))

-- ---- members
pub Contains-here : {X : Type 0} (x : X) (xs : List X) (y : X) → x ≡ y → Contains (x ∷ xs) y
Contains-here x xs y e = (0, (omega arith), e)

pub Contains-there : {X : Type 0} (x : X) (xs : List X) (y : X) → Contains xs y → Contains (x ∷ xs) y
Contains-there x xs y (k, h, e) = (suc k, (omega arith), e)

pub Contains-cases : {X : Type 0} (x : X) (xs : List X) (y : X) → Contains (x ∷ xs) y → (x ≡ y) ⊎ Contains xs y
Contains-cases x xs y (zero, h, e) = inl e
Contains-cases x xs y (suc k, h, e) = inr (k, (omega arith), e)

pub Contains-nil : {X : Type 0} (y : X) → Contains [] y → ⊥
Contains-nil y (k, h, e) = omega arith

pub nonneg-plus : (xs ys : List ℚ) → AtLeastZero xs → AtLeastZero ys → AtLeastZero (plus xs ys)
nonneg-plus [] ys h k = k
nonneg-plus (x ∷ xs) [] h k = h
nonneg-plus (x ∷ xs) (y ∷ ys) h k = nonneg-cons (x +ℚ y) (plus xs ys) (add_nonneg x y (nonneg-head x xs h) (nonneg-head y ys k))
    (nonneg-plus xs ys (nonneg-tail x xs h) (nonneg-tail y ys k))

pub nonneg-scaled : (c : ℚ) (xs : List ℚ) → zero_ℚ ≤ℚ c → AtLeastZero xs → AtLeastZero (scaled c xs)
nonneg-scaled c [] h k = nonneg-nil
nonneg-scaled c (x ∷ xs) h k = nonneg-cons (c *ℚ x) (scaled c xs) (mul_nonneg c x h (nonneg-head x xs k)) (nonneg-scaled c xs h (nonneg-tail x xs k))

pub nonneg-zeros : (n : ℕ) → AtLeastZero (zeros n)
nonneg-zeros zero = nonneg-nil
nonneg-zeros (suc n) = nonneg-cons zero_ℚ (zeros n) (le_refl zero_ℚ) (nonneg-zeros n)

pub slice-map : {X Y : Type 0} (f : X → Y) (xs : List X) (i : ℕ) (d : X) (e : Y) → f d ≡ e → slice_index_or (map f xs) i e ≡ f (slice_index_or xs i d)
slice-map f [] i d e h = sym h
slice-map f (x ∷ xs) zero d e h = refl
slice-map f (x ∷ xs) (suc i) d e h = slice-map f xs i d e h

pub all_front : {X : Type 0} (P : X → Type 0) (xs ys : List X) → All P (xs ++ ys) → All P xs
all_front P [] ys h = All-nil P
all_front P (x ∷ xs) ys h = All-cons P x xs (All-head P x (xs ++ ys) h) (all_front P xs ys (All-tail P x (xs ++ ys) h))

pub all_back : {X : Type 0} (P : X → Type 0) (xs ys : List X) → All P (xs ++ ys) → All P ys
all_back P [] ys h = h
all_back P (x ∷ xs) ys h = all_back P xs ys (All-tail P x (xs ++ ys) h)

-- a list from an index on, where it holds an element
pub drop_value : {A B : Type 0} (f : A → B) (xs : List A) (i : ℕ) (x : A) → i < length xs → x ≡ slice_index_or xs i x →
    drop i (map f xs) ≡ f x ∷ drop (i + 1) (map f xs)
drop_value f [] i x h e = absurd (omega arith)
drop_value f (y ∷ xs) zero x h e = ap (λ z. f z ∷ map f xs) (sym e)
drop_value f (y ∷ xs) (suc i) x h e = drop_value f xs i x (omega arith) e ∙ ap (λ k. f x ∷ drop k (map f xs)) (let k : i + 1 ≡ suc i = omega arith in k)
    ∙ ap (λ k. f x ∷ drop k (f y ∷ map f xs)) (let k : suc (suc i) ≡ suc i + 1 = omega arith in k)

-- what holds of the last i of n numbers, and of one more
pub seen_more : (live : List ℕ) (P Q : ℕ → Type 0) (n i : ℕ) → i < n → ((j : ℕ) → n - i ≤ j → j < n → P (slice_index_or live j 0)) →
    ((k : ℕ) → P k → Q k) → Q (slice_index_or live (n - 1 - i) 0) →
    (j : ℕ) → n - (i + 1) ≤ j → j < n → Q (slice_index_or live j 0)
seen_more live P Q n i inside seen stay here j low high = elim (eqb_tells j (n - 1 - i)) [
  | inl t ↦ subst (λ (k : ℕ). Q (slice_index_or live k 0)) (sym t.1) here
  | inr f ↦ stay (slice_index_or live j 0) (seen j (omega (arith, low, high, inside, f.1)) high)
]
