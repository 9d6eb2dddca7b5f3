-- Members of lists: of images, of what a filter keeps, and of pairs of elements; and tests of every element.
use Rattle.std.proofs.Common.{◌≡◌, zero, suc, List, [], ◌∷◌, ◌++◌, map, All, AllPairs, Contains, refl, sym, ap, ◌∙◌, subst, arith, ◌⊎◌, inl, inr, Bool, true, false, true≢false, filter, cond, ℕ, ◌<◌, length, slice_index_or}
use Rattle.std.proofs.lemmas.List.Elements.{All-nil, All-cons, All-head, All-tail, All-weaker, All-contains, All-contains_itself, Contains-append_cases, Contains-append_left, Contains-append_right}
use Rattle.polyhedra.proofs.Lists.{Contains-here, Contains-there, Contains-cases, Contains-nil}

-- a fact of each member, and of every element
pub all_of_members : {X : Type 0} (P : X → Type 0) (xs : List X) → ((x : X) → Contains xs x → P x) → All P xs
all_of_members P xs h = All-weaker (Contains xs) P h xs (All-contains_itself xs)

pub member_of : {X : Type 0} (P : X → Type 0) (xs : List X) (x : X) → All P xs → Contains xs x → P x
member_of P xs x h k = All-contains P xs x h k

pub all_or_not : {X : Type 0} (P : X → Type 0) → ((x : X) → P x ⊎ (P x → ⊥)) → (xs : List X) → All P xs ⊎ ((x : X) × Contains xs x × (P x → ⊥))
all_or_not P test [] = inl (All-nil P)
all_or_not {X} P test (x ∷ xs) = go (test x) (all_or_not P test xs)
  where
    go : P x ⊎ (P x → ⊥) → All P xs ⊎ ((y : X) × Contains xs y × (P y → ⊥)) → All P (x ∷ xs) ⊎ ((y : X) × Contains (x ∷ xs) y × (P y → ⊥))
    go (inr bad) more = inr (x, Contains-here x xs x refl, bad)
    go (inl good) (inl all) = inl (All-cons P x xs good all)
    go (inl good) (inr (y, c, bad)) = inr (y, Contains-there x xs y c, bad)

pub Contains-map : {X Y : Type 0} (f : X → Y) (xs : List X) (x : X) → Contains xs x → Contains (map f xs) (f x)
Contains-map f [] x h = absurd (Contains-nil x h)
Contains-map {X} {Y} f (y ∷ xs) x h = go (Contains-cases y xs x h) (Contains-map f xs x)
  where
    go : (y ≡ x) ⊎ Contains xs x → (Contains xs x → Contains (map f xs) (f x)) → Contains (map f (y ∷ xs)) (f x)
    go (inl e) again = Contains-here (f y) (map f xs) (f x) (ap f e)
    go (inr k) again = Contains-there (f y) (map f xs) (f x) (again k)

pub Contains-map_source : {X Y : Type 0} (f : X → Y) (xs : List X) (y : Y) → Contains (map f xs) y → (x : X) × Contains xs x × (f x ≡ y)
Contains-map_source f [] y h = absurd (Contains-nil y h)
Contains-map_source {X} f (x ∷ xs) y h = go (Contains-cases (f x) (map f xs) y h) (Contains-map_source f xs y)
  where
    go : (f x ≡ y) ⊎ Contains (map f xs) y → (Contains (map f xs) y → (z : X) × Contains xs z × (f z ≡ y)) → (z : X) × Contains (x ∷ xs) z × (f z ≡ y)
    go (inl e) again = (x, Contains-here x xs x refl, e)
    go (inr k) again =
        let r : (z : X) × Contains xs z × (f z ≡ y) = again k in
        (r.0, Contains-there x xs r.0 r.1, r.2)

module _ {X : Type 0} (test : X → Bool) where
  pub Contains-filter : (xs : List X) (x : X) → Contains xs x → test x ≡ true → Contains (filter test xs) x
  Contains-filter [] x h e = absurd (Contains-nil x h)
  Contains-filter (y ∷ xs) x h e = go (test y) refl (Contains-cases y xs x h) (λ k. Contains-filter xs x k e)
    where
      go : (b : Bool) → test y ≡ b → (y ≡ x) ⊎ Contains xs x → (Contains xs x → Contains (filter test xs) x) → Contains
          (cond b (y ∷ filter test xs) (filter test xs)) x
      go true t (inl k) again = Contains-here y (filter test xs) x k
      go true t (inr k) again = Contains-there y (filter test xs) x (again k)
      go false t (inl k) again = absurd (true≢false (sym e ∙ ap test (sym k) ∙ t))
      go false t (inr k) again = again k

  pub Contains-filter_source : (xs : List X) (x : X) → Contains (filter test xs) x → Contains xs x × (test x ≡ true)
  Contains-filter_source [] x h = absurd (Contains-nil x h)
  Contains-filter_source (y ∷ xs) x h = go (test y) refl h (Contains-filter_source xs x)
    where
      go : (b : Bool) → test y ≡ b → Contains (cond b (y ∷ filter test xs) (filter test xs)) x →
          (Contains (filter test xs) x → Contains xs x × (test x ≡ true)) → Contains (y ∷ xs) x × (test x ≡ true)
      go true t k again = elim (Contains-cases y (filter test xs) x k) [
        | inl e ↦ (Contains-here y xs x e, ap test (sym e) ∙ t)
        | inr m ↦
            (Contains-there y xs x (again m).0, (again m).1)
      ]
      go false t k again = (Contains-there y xs x (again k).0, (again k).1)

-- ---- each two elements
pub pairs-nil : {X : Type 0} (R : X → X → Type 0) → AllPairs R []
pairs-nil R i j d h k = absurd (omega arith)

pub pairs-cons : {X : Type 0} (R : X → X → Type 0) (x : X) (xs : List X) → All (R x) xs → AllPairs R xs → AllPairs R (x ∷ xs)
pairs-cons R x xs h k zero zero d a b = absurd (omega arith)
pairs-cons R x xs h k zero (suc j) d a b = h j d (omega arith)
pairs-cons R x xs h k (suc i) zero d a b = absurd (omega arith)
pairs-cons R x xs h k (suc i) (suc j) d a b = k i j d (omega arith) (omega arith)

pub pairs-head : {X : Type 0} (R : X → X → Type 0) (x : X) (xs : List X) → AllPairs R (x ∷ xs) → All (R x) xs
pairs-head R x xs h k d l = h 0 (suc k) d (omega arith) (omega arith)

pub pairs-tail : {X : Type 0} (R : X → X → Type 0) (x : X) (xs : List X) → AllPairs R (x ∷ xs) → AllPairs R xs
pairs-tail R x xs h i j d a b = h (suc i) (suc j) d (omega arith) (omega arith)

-- two members that are not equal, where the relation is symmetric
pub pairs_of_members : {X : Type 0} (R : X → X → Type 0) → ((x y : X) → R x y → R y x) → (xs : List X) (x y : X) → AllPairs R xs → Contains xs x →
    Contains xs y → (x ≡ y → ⊥) → R x y
pairs_of_members R flip [] x y h k l other = absurd (Contains-nil x k)
pairs_of_members R flip (z ∷ xs) x y h k l other = go (Contains-cases z xs x k) (Contains-cases z xs y l)
    (λ m n. pairs_of_members R flip xs x y (pairs-tail R z xs h) m n other)
  where
    go : (z ≡ x) ⊎ Contains xs x → (z ≡ y) ⊎ Contains xs y → (Contains xs x → Contains xs y → R x y) → R x y
    go (inl e) (inl f) again = absurd (other (sym e ∙ f))
    go (inl e) (inr n) again = subst (λ w. R w y) e (member_of (R z) xs y (pairs-head R z xs h) n)
    go (inr m) (inl f) again = flip y x (subst (λ w. R w x) f (member_of (R z) xs x (pairs-head R z xs h) m))
    go (inr m) (inr n) again = again m n

pub pairs-append : {X : Type 0} (R : X → X → Type 0) (xs ys : List X) → AllPairs R xs → AllPairs R ys →
    ((x y : X) → Contains xs x → Contains ys y → R x y) → AllPairs R (xs ++ ys)
pairs-append R [] ys h k l = k
pairs-append R (x ∷ xs) ys h k l =
    pairs-cons R x (xs ++ ys)
    (all_of_members (R x) (xs ++ ys) (λ y m. elim (Contains-append_cases xs ys y m) [
      | inl a ↦ member_of (R x) xs y
          (pairs-head R x xs h) a
      | inr b ↦ l x y (Contains-here x xs x refl) b
    ]))
    (pairs-append R xs ys (pairs-tail R x xs h) k (λ y z m n. l y z (Contains-there x xs y m) n))

pub pairs-weaker : {X : Type 0} (R S : X → X → Type 0) (xs : List X) → ((x y : X) → Contains xs x → Contains xs y → R x y → S x y) → AllPairs R xs →
    AllPairs S xs
pairs-weaker R S [] h k = pairs-nil S
pairs-weaker R S (x ∷ xs) h k =
    pairs-cons S x xs
    (all_of_members (S x) xs (λ y m. h x y (Contains-here x xs x refl) (Contains-there x xs y m) (member_of (R x) xs y (pairs-head R x xs k) m)))
    (pairs-weaker R S xs (λ y z m n. h y z (Contains-there x xs y m) (Contains-there x xs z n)) (pairs-tail R x xs k))

pub pairs-map : {X Y : Type 0} (R : Y → Y → Type 0) (f : X → Y) (xs : List X) → AllPairs (λ x y. R (f x) (f y)) xs → AllPairs R (map f xs)
pairs-map R f [] h = pairs-nil R
pairs-map R f (x ∷ xs) h =
    pairs-cons R (f x) (map f xs) (Rattle.std.proofs.lemmas.List.Elements.All-map (R (f x)) f xs (pairs-head (λ a b. R (f a) (f b)) x xs h))
    (pairs-map R f xs (pairs-tail (λ a b. R (f a) (f b)) x xs h))

pub pairs-filter : {X : Type 0} (R : X → X → Type 0) (test : X → Bool) (xs : List X) → AllPairs R xs → AllPairs R (filter test xs)
pairs-filter R test [] h = pairs-nil R
pairs-filter R test (x ∷ xs) h = go (test x) (pairs-filter R test xs (pairs-tail R x xs h))
  where
    go : (b : Bool) → AllPairs R (filter test xs) → AllPairs R (cond b (x ∷ filter test xs) (filter test xs))
    go true k = pairs-cons R x (filter test xs) (all_of_members (R x) (filter test xs)
        (λ y m. member_of (R x) xs y (pairs-head R x xs h) (Contains-filter_source test xs y m).0)) k
    go false k = k

-- an element that was read
pub listed : {A : Type 0} (P : A → Type 0) (xs : List A) (i : ℕ) (x : A) → All P xs → i < length xs → x ≡ slice_index_or xs i x → P x
listed P xs i x h l e = member_of P xs x h (i, l, sym e)
