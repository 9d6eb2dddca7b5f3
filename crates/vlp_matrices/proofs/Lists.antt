-- Items of lists by their places, as loops come to them.
use Rattle.std.proofs.Common.{◌≡◌, ℕ, zero, suc, ◌+◌, ◌<◌, List, [], ◌∷◌, ◌++◌, sym, ap, ap₂, ◌∙◌, subst, arith, length, drop, take, map, refl, slice_index_or}
use Rattle.std.specs.List.{zip}
use Rattle.std.proofs.lemmas.List.{drop_more, map_more, get_or-map}

-- an item under another name
pub item-as : {X : Type 0} (xs : List X) (i : ℕ) (x y : X) → y ≡ x → x ≡ slice_index_or xs i x → y ≡ slice_index_or xs i y
item-as {X} xs i x y e h = subst (λ (z : X). z ≡ slice_index_or xs i z) (sym e) h

-- an item of a list of images, and a pair of items
pub map-at : {X Y : Type 0} (f : X → Y) (xs : List X) (i : ℕ) (x : X) → i < length xs → x ≡ slice_index_or xs i x → f x ≡ slice_index_or (map f xs) i (f x)
map-at f xs i x h p = ap f p ∙ sym (get_or-map f xs i x (f x) h)

pub length-zip : {X Y : Type 0} (xs : List X) (ys : List Y) → length xs ≡ length ys → length (zip xs ys) ≡ length xs
length-zip [] ys h = refl
length-zip (x ∷ xs) [] h = absurd (omega (arith, h))
length-zip (x ∷ xs) (y ∷ ys) h = ap suc (length-zip xs ys (omega (arith, h)))

pub zip-at : {X Y : Type 0} (i : ℕ) (xs : List X) (ys : List Y) (a : X) (b : Y) → i < length xs → length xs ≡ length ys → a ≡ slice_index_or xs i a →
    b ≡ slice_index_or ys i b → (a, b) ≡ slice_index_or (zip xs ys) i (a, b)
zip-at i [] ys a b h l p q = absurd (omega (arith, h))
zip-at i (x ∷ xs) [] a b h l p q = absurd (omega (arith, l))
zip-at zero (x ∷ xs) (y ∷ ys) a b h l p q = ap₂ (λ c d. (c, d)) p q
zip-at (suc i) (x ∷ xs) (y ∷ ys) a b h l p q = zip-at i xs ys a b (omega (arith, h)) (omega (arith, l)) p q

-- the items from a place on
pub drop-next-of : {X : Type 0} (xs : List X) (i j : ℕ) (x : X) → i + 1 ≡ j → i < length xs → x ≡ slice_index_or xs i x → drop i xs ≡ x ∷ drop j xs
drop-next-of xs i j x e h p = drop_more xs i x h ∙ ap₂ (λ y k. y ∷ drop k xs) (sym p) e

pub drop-next : {X : Type 0} (i : ℕ) (xs : List X) (x : X) → i < length xs → x ≡ slice_index_or xs i x → drop i xs ≡ x ∷ drop (suc i) xs
drop-next i xs x h p = drop-next-of xs i (suc i) x (omega arith) h p

-- one more item of a list of images
pub map-take_more : {X Y : Type 0} (f : X → Y) (xs : List X) (i : ℕ) (x : X) → i < length xs → x ≡ slice_index_or xs i x →
    map f (take (i + 1) xs) ≡ map f (take i xs) ++ f x ∷ []
map-take_more f xs i x h p = map_more f xs i x h ∙ ap (λ z. map f (take i xs) ++ f z ∷ []) (sym p)
