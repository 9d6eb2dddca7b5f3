-- The elements of a list that are the same as no earlier one: of a list with one element more, and of images. General; belongs in
-- polyhedra, beside the definition.
use Rattle.std.proofs.Common.{◌≡◌, List, [], ◌∷◌, ◌++◌, map, filter, All, Bool, true, false, true≢false, cond, not, ◌||◌, refl, sym, ap, ap₂, ◌∙◌, ◌⊎◌, inl, inr}
use Rattle.std.specs.List.{list_any}
use Rattle.std.proofs.lemmas.List.{append-nil}
use Rattle.std.proofs.lemmas.List.Elements.{All-nil, All-cons, All-head, All-tail, All-filter, All-weaker, filter-append}
use Rattle.polyhedra.specs.FirstNamed.{firsts}
use Rattle.polyhedra.proofs.Tests.{or_left, or_right}

both_false : (a b : Bool) → (a || b) ≡ false → (a ≡ false) × (b ≡ false)
both_false true b h = absurd (true≢false h)
both_false false b h = (refl, h)

none_kept : {X : Type 0} (test p : X → Bool) (xs : List X) → list_any test xs ≡ false → list_any test (filter p xs) ≡ false
none_kept test p [] h = refl
none_kept test p (y ∷ ys) h = go (p y) (both_false (test y) (list_any test ys) h) (none_kept test p ys)
  where
    go : (b : Bool) → (test y ≡ false) × (list_any test ys ≡ false) → (list_any test ys ≡ false → list_any test (filter p ys) ≡ false) →
        list_any test (cond b (y ∷ filter p ys) (filter p ys)) ≡ false
    go true k again = ap (λ c. c || list_any test (filter p ys)) k.0 ∙ again k.1
    go false k again = again k.1

-- ---- one element more
module _ {X : Type 0} (same : X → X → Bool) (through : (x y z : X) → same x y ≡ true → same y z ≡ true → same x z ≡ true) where
  -- one that is the same as x is kept, or a is the same as x too
  kept_same : (a x : X) (xs : List X) → list_any (λ y. same y x) xs ≡ true →
      (same a x ≡ true) ⊎ (list_any (λ y. same y x) (filter (λ y. not (same a y)) xs) ≡ true)
  kept_same a x [] h = absurd (true≢false (sym h))
  kept_same a x (y ∷ ys) h = go (same y x) (same a y) refl refl h (kept_same a x ys)
    where
      more : (same a x ≡ true) ⊎ (list_any (λ w. same w x) (filter (λ w. not (same a w)) ys) ≡ true) →
          (same a x ≡ true) ⊎ (list_any (λ w. same w x) (y ∷ filter (λ w. not (same a w)) ys) ≡ true)
      more (inl s) = inl s
      more (inr r) = inr (or_right (same y x) (list_any (λ w. same w x) (filter (λ w. not (same a w)) ys)) r)

      go : (b c : Bool) → same y x ≡ b → same a y ≡ c → (b || list_any (λ w. same w x) ys) ≡ true →
          (list_any (λ w. same w x) ys ≡ true → (same a x ≡ true) ⊎ (list_any (λ w. same w x) (filter (λ w. not (same a w)) ys) ≡ true)) →
          (same a x ≡ true) ⊎ (list_any (λ w. same w x) (cond (not c) (y ∷ filter (λ w. not (same a w)) ys) (filter (λ w. not (same a w)) ys)) ≡ true)
      go true true e f k again = inl (through a y x f e)
      go true false e f k again = inr (or_left (same y x) (list_any (λ w. same w x) (filter (λ w. not (same a w)) ys)) e)
      go false true e f k again = again k
      go false false e f k again = more (again k)

  pub firsts-push : (xs : List X) (x : X) → firsts same (xs ++ x ∷ []) ≡ firsts same xs ++ cond (not (list_any (λ y. same y x) (firsts same xs))) (x ∷ []) []
  firsts-push [] x = refl
  firsts-push (a ∷ xs) x = ap (λ r. a ∷ filter (λ y. not (same a y)) r) (firsts-push xs x) ∙ go (list_any (λ y. same y x) (firsts same xs)) refl
    where
      found : (same a x ≡ true) ⊎ (list_any (λ y. same y x) (filter (λ y. not (same a y)) (firsts same xs)) ≡ true) →
          (same a x || list_any (λ y. same y x) (filter (λ y. not (same a y)) (firsts same xs))) ≡ true
      found (inl e) = or_left (same a x) (list_any (λ y. same y x) (filter (λ y. not (same a y)) (firsts same xs))) e
      found (inr e) = or_right (same a x) (list_any (λ y. same y x) (filter (λ y. not (same a y)) (firsts same xs))) e

      last_one : (c : Bool) → a ∷ (filter (λ y. not (same a y)) (firsts same xs) ++ cond (not c) (x ∷ []) [])
          ≡ (a ∷ filter (λ y. not (same a y)) (firsts same xs)) ++ cond (not (c || false)) (x ∷ []) []
      last_one true = refl
      last_one false = refl

      go : (b : Bool) → list_any (λ y. same y x) (firsts same xs) ≡ b →
          a ∷ filter (λ y. not (same a y)) (firsts same xs ++ cond (not b) (x ∷ []) [])
          ≡ (a ∷ filter (λ y. not (same a y)) (firsts same xs))
          ++ cond (not (same a x || list_any (λ y. same y x) (filter (λ y. not (same a y)) (firsts same xs)))) (x ∷ []) []
      go true e = ap (λ r. a ∷ filter (λ y. not (same a y)) r) (append-nil (firsts same xs))
          ∙ sym (append-nil (a ∷ filter (λ y. not (same a y)) (firsts same xs)))
          ∙ ap (λ c. (a ∷ filter (λ y. not (same a y)) (firsts same xs)) ++ cond (not c) (x ∷ []) []) (sym (found (kept_same a x (firsts same xs) e)))
      go false e = ap (λ r. a ∷ r) (filter-append (λ y. not (same a y)) (firsts same xs) (x ∷ []))
          ∙ last_one (same a x)
          ∙ ap (λ c. (a ∷ filter (λ y. not (same a y)) (firsts same xs)) ++ cond (not (same a x || c)) (x ∷ []) [])
          (sym (none_kept (λ y. same y x) (λ y. not (same a y)) (firsts same xs) e))

-- ---- images
pub filter-map : {X Y : Type 0} (f : X → Y) (p : Y → Bool) (q : X → Bool) (xs : List X) → All (λ x. p (f x) ≡ q x) xs →
    filter p (map f xs) ≡ map f (filter q xs)
filter-map f p q [] h = refl
filter-map f p q (x ∷ xs) h =
    ap₂ (λ c r. cond c (f x ∷ r) r) (All-head (λ y. p (f y) ≡ q y) x xs h) (filter-map f p q xs (All-tail (λ y. p (f y) ≡ q y) x xs h)) ∙ go (q x)
  where
    go : (b : Bool) → cond b (f x ∷ map f (filter q xs)) (map f (filter q xs)) ≡ map f (cond b (x ∷ filter q xs) (filter q xs))
    go true = refl
    go false = refl

pub firsts-All : {X : Type 0} (same : X → X → Bool) (P : X → Type 0) (xs : List X) → All P xs → All P (firsts same xs)
firsts-All same P [] h = All-nil P
firsts-All same P (x ∷ xs) h = All-cons P x (filter (λ y. not (same x y)) (firsts same xs)) (All-head P x xs h)
    (All-filter (λ y. not (same x y)) P (firsts same xs) (firsts-All same P xs (All-tail P x xs h)))

pub firsts-map : {X Y : Type 0} (f : X → Y) (P : X → Type 0) (same : X → X → Bool) (same' : Y → Y → Bool) →
    ((x y : X) → P x → P y → same' (f x) (f y) ≡ same x y) → (xs : List X) → All P xs → firsts same' (map f xs) ≡ map f (firsts same xs)
firsts-map f P same same' e [] h = refl
firsts-map f P same same' e (x ∷ xs) h = ap (λ r. f x ∷ r)
    (ap (filter (λ y. not (same' (f x) y))) (firsts-map f P same same' e xs (All-tail P x xs h))
    ∙ filter-map f (λ y. not (same' (f x) y)) (λ y. not (same x y)) (firsts same xs)
    (All-weaker P (λ y. not (same' (f x) (f y)) ≡ not (same x y)) (λ y k. ap not (e x y (All-head P x xs h) k)) (firsts same xs)
    (firsts-All same P xs (All-tail P x xs h))))
