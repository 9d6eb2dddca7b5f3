-- Lists in pieces.
use Rattle.std.proofs.Common.{◌≡◌, ℕ, suc, ◌+◌, ◌-◌, ◌<◌, ap, ◌∙◌, sym, Bool, true, false, List, [], ◌∷◌, ◌++◌, length, take, get_or, map, Option, None, Some}
use Rattle.std.specs.List.{flat_map, find}
use Rattle.std.specs.Option.{option_or}
use Rattle.std.proofs.lemmas.Bool.{cond-true, cond-false}
use Rattle.std.proofs.lemmas.Grind.{flat_map-append}
use Rattle.std.proofs.lemmas.List.{take_more, take-append-drop, append-nil, map-id}
use Rattle.std.proofs.lemmas.List.Concat.{flat_map-cons, flat_map_single}
use Rattle.std.proofs.lemmas.List.Folds.{find-append}
use Rattle.std.proofs.Math.Seq.{drop-cons}
use Rattle.std.proofs.Math.ListN.{drop}

pub flat_map-one : {X A : Type 0} (f : X → List A) (xs : List X) (x : X) → flat_map f (xs ++ x ∷ []) ≡ flat_map f xs ++ f x
flat_map-one {A = A} f xs x = flat_map-append f xs (x ∷ []) ∙ ap (λ (l : List A). flat_map f xs ++ l) (flat_map-cons f x [] ∙ append-nil (f x))

-- one element more
pub flat_map_take : {X A : Type 0} (f : X → List A) (xs : List X) (i : ℕ) (x : X) → i < length xs → x ≡ get_or xs i x → flat_map f (take (i + 1) xs) ≡ flat_map f (take i xs) ++ f x
flat_map_take {X = X} {A = A} f xs i x h e = ap (flat_map f) (take_more xs i x h) ∙ flat_map-one f (take i xs) (get_or xs i x) ∙ ap (λ (y : X). flat_map f (take i xs) ++ f y) (sym e)

-- the element at i, what is before it and what is after it
flat_map_at : {X A : Type 0} (f : X → List A) (xs : List X) (i : ℕ) (x : X) → i < length xs → x ≡ get_or xs i x → flat_map f xs ≡ flat_map f (take i xs) ++ (f x ++ flat_map f (drop (suc i) xs))
flat_map_at {X = X} {A = A} f xs i x h e =
    ap (flat_map f) (sym (take-append-drop i xs)) ∙ flat_map-append f (take i xs) (drop i xs)
    ∙ ap (λ (l : List X). flat_map f (take i xs) ++ flat_map f l) (drop-cons xs i x h)
    ∙ ap (λ (l : List A). flat_map f (take i xs) ++ l) (flat_map-cons f (get_or xs i x) (drop (suc i) xs))
    ∙ ap (λ (y : X). flat_map f (take i xs) ++ (f y ++ flat_map f (drop (suc i) xs))) (sym e)

-- none is found in the first part
pub after_none : {A : Type 0} (p : A → Bool) (xs ys : List A) → find p xs ≡ None → find p (xs ++ ys) ≡ find p ys
after_none {A = A} p xs ys none = find-append p xs ys ∙ ap (λ (o : Option A). option_or o (find p ys)) none

-- one is found in the first part
pub found_first : {A : Type 0} (p : A → Bool) (xs ys : List A) (x : A) → find p xs ≡ Some x → find p (xs ++ ys) ≡ Some x
found_first {A = A} p xs ys x some = find-append p xs ys ∙ ap (λ (o : Option A). option_or o (find p ys)) some

-- none is found in one piece more
pub not_yet : {X A : Type 0} (p : A → Bool) (f : X → List A) (xs : List X) (i : ℕ) (x : X) → i < length xs → x ≡ get_or xs i x → find p (flat_map f (take i xs)) ≡ None → find p (f x) ≡ None
    → find p (flat_map f (take (i + 1) xs)) ≡ None
not_yet p f xs i x h e none now = ap (find p) (flat_map_take f xs i x h e) ∙ after_none p (flat_map f (take i xs)) (f x) none ∙ now

-- the first piece in which one is found
pub found_at : {X A : Type 0} (p : A → Bool) (f : X → List A) (xs : List X) (i : ℕ) (x : X) (a : A) → i < length xs → x ≡ get_or xs i x → find p (flat_map f (take i xs)) ≡ None → find p (f x) ≡ Some a
    → find p (flat_map f xs) ≡ Some a
found_at p f xs i x a h e none now =
    ap (find p) (flat_map_at f xs i x h e) ∙ after_none p (flat_map f (take i xs)) (f x ++ flat_map f (drop (suc i) xs)) none
    ∙ found_first p (f x) (flat_map f (drop (suc i) xs)) a now

-- the same of the values of elements
pub not_yet_value : {X A : Type 0} (p : A → Bool) (v : X → A) (xs : List X) (i : ℕ) (x : X) → i < length xs → x ≡ get_or xs i x → find p (map v (take i xs)) ≡ None → p (v x) ≡ false
    → find p (map v (take (i + 1) xs)) ≡ None
not_yet_value p v xs i x h e none test =
    ap (find p) (sym (flat_map_single v (take (i + 1) xs)))
    ∙ not_yet p (λ y. v y ∷ []) xs i x h e (ap (find p) (flat_map_single v (take i xs)) ∙ none) (cond-false (p (v x)) _ _ test)

pub found_value : {X A : Type 0} (p : A → Bool) (v : X → A) (xs : List X) (i : ℕ) (x : X) → i < length xs → x ≡ get_or xs i x → find p (map v (take i xs)) ≡ None → p (v x) ≡ true
    → find p (map v xs) ≡ Some (v x)
found_value p v xs i x h e none test =
    ap (find p) (sym (flat_map_single v xs))
    ∙ found_at p (λ y. v y ∷ []) xs i x (v x) h e (ap (find p) (flat_map_single v (take i xs)) ∙ none) (cond-true (p (v x)) _ _ test)

-- and of the elements themselves
pub not_yet_element : {A : Type 0} (p : A → Bool) (xs : List A) (i : ℕ) (x : A) → i < length xs → x ≡ get_or xs i x → find p (take i xs) ≡ None → p x ≡ false → find p (take (i + 1) xs) ≡ None
not_yet_element p xs i x h e none test =
    ap (find p) (sym (map-id (take (i + 1) xs))) ∙ not_yet_value p (λ y. y) xs i x h e (ap (find p) (map-id (take i xs)) ∙ none) test

pub found_element : {A : Type 0} (p : A → Bool) (xs : List A) (i : ℕ) (x : A) → i < length xs → x ≡ get_or xs i x → find p (take i xs) ≡ None → p x ≡ true → find p xs ≡ Some x
found_element p xs i x h e none test =
    ap (find p) (sym (map-id xs)) ∙ found_value p (λ y. y) xs i x h e (ap (find p) (map-id (take i xs)) ∙ none) test
