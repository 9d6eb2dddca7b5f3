-- Lists that are changed in place, from the front.
use Rattle.std.proofs.Common.{◌≡◌, ℕ, ◌+◌, ◌<◌, ◌≤◌, List, [], ◌∷◌, ◌++◌, map, length, take, drop, set, get_or, refl, sym, ap, ap₂, ◌∙◌, arith, ◌⊎◌, inl, inr, append_assoc}
use Rattle.std.specs.List.{swap}
use Rattle.std.proofs.lemmas.Bool.{cases_lt}
use Rattle.std.proofs.lemmas.List.{drop_more, map-append, take-set, take-set-le, drop-set-lt, take_all, take_more, take_more_set, length-set}
use Rattle.std.proofs.lemmas.Grind.{drop_more_same}

-- two lists that begin with equal parts of one item
head_same : {A : Type 0} (x y : A) (xs ys : List A) → x ∷ xs ≡ y ∷ ys → x ≡ y
head_same x y xs ys e = cc

-- the same from a place on: the same there
pub here_same : {A : Type 0} (xs ys : List A) (i : ℕ) (d : A) → drop i ys ≡ drop i xs → i < length xs → i < length ys → get_or ys i d ≡ get_or xs i d
here_same xs ys i d e l m = head_same (get_or ys i d) (get_or xs i d) (drop (i + 1) ys) (drop (i + 1) xs) (sym (drop_more ys i d m) ∙ e ∙ drop_more xs i d l)

-- the items below a place are f of those at the start, and the others are as at the start
pub record IsMappedTo {A : Type 0} (f : A → A) (i : ℕ) (xs ys : List A) : Type 0 where
  pub done : take i ys ≡ map f (take i xs)
  pub rest : drop i ys ≡ drop i xs

pub none_mapped : {A : Type 0} (f : A → A) (xs : List A) → IsMappedTo f 0 xs xs
none_mapped f xs = record { done = refl; rest = refl }

pub one_more_mapped : {A : Type 0} (f : A → A) (i : ℕ) (xs ys : List A) (d x : A) → IsMappedTo f i xs ys → i < length xs → i < length ys →
    x ≡ f (get_or ys i d) → IsMappedTo f (i + 1) xs (set ys i x)
one_more_mapped f i xs ys d x h l m e = record {
  done = take_more_set ys i x m ∙ ap₂ (λ zs z. zs ++ z ∷ []) h.done (e ∙ ap f (here_same xs ys i d h.rest l m))
      ∙ sym (ap (map f) (take_more xs i d l) ∙ map-append f (take i xs) (get_or xs i d ∷ []));
  rest = drop-set-lt (i + 1) ys i x (omega arith) ∙ drop_more_same ys xs i h.rest;
}

pub all_mapped : {A : Type 0} (f : A → A) (i : ℕ) (xs ys : List A) → IsMappedTo f i xs ys → length xs ≤ i → length ys ≤ i → ys ≡ map f xs
all_mapped f i xs ys h l m = sym (take_all i ys m) ∙ h.done ∙ ap (map f) (take_all i xs l)

-- an item that changes places with one of the places before it
pub drop_swapped : {A : Type 0} (xs : List A) (k i : ℕ) → k ≤ i → drop (i + 1) (swap xs k i) ≡ drop (i + 1) xs
drop_swapped [] k i l = refl
drop_swapped (d ∷ ys) k i l =
    let xs = d ∷ ys in
    drop-set-lt (i + 1) (set xs k (get_or xs i d)) i (get_or xs k d) (omega arith) ∙ drop-set-lt (i + 1) xs k (get_or xs i d) (omega arith)

take_two : {A : Type 0} (xs : List A) (k i : ℕ) (a b : A) → k ≤ i → i < length xs → (k ≡ i → b ≡ a) → take (k + 1) (set (set xs k a) i b) ≡ take k xs ++ a ∷ []
take_two xs k i a b l m same = go (cases_lt k i)
  where
    go : (k < i) ⊎ (i ≤ k) → take (k + 1) (set (set xs k a) i b) ≡ take k xs ++ a ∷ []
    go (inl less) = take-set-le (k + 1) (set xs k a) i b (omega arith) ∙ take_more_set xs k a (omega arith)
    go (inr other) = let e : k ≡ i = omega arith in
        ap (λ n. take (k + 1) (set (set xs k a) n b)) (sym e) ∙ take_more_set (set xs k a) k b (omega (arith, length-set xs k a))
        ∙ ap₂ (λ zs z. zs ++ z ∷ []) (take-set xs k a) (same e)

pub swapped : {A : Type 0} (xs : List A) (k i : ℕ) → k ≤ i → i < length xs →
    (x : A) × (drop i xs ≡ x ∷ drop (i + 1) xs) × (take (k + 1) (swap xs k i) ≡ take k xs ++ x ∷ [])
swapped [] k i l m = absurd (omega arith)
swapped (d ∷ ys) k i l m = (
  get_or (d ∷ ys) i d,
  drop_more (d ∷ ys) i d m,
  take_two (d ∷ ys) k i (get_or (d ∷ ys) i d) (get_or (d ∷ ys) k d) l m (λ e. ap (λ n. get_or (d ∷ ys) n d) e),
)

pub item_here : {A : Type 0} (xs : List A) (i : ℕ) → i < length xs → (x : A) × (drop i xs ≡ x ∷ drop (i + 1) xs)
item_here [] i l = absurd (omega arith)
item_here (d ∷ ys) i l = (get_or (d ∷ ys) i d, drop_more (d ∷ ys) i d l)

pub here_is : {A : Type 0} (xs : List A) (i : ℕ) (x : A) → i < length xs → drop i xs ≡ x ∷ drop (i + 1) xs → x ≡ get_or xs i x
here_is xs i x l e = head_same x (get_or xs i x) (drop (i + 1) xs) (drop (i + 1) xs) (sym e ∙ drop_more xs i x l)

-- one more item at the end of a list that is written from the front
pub push_on : {A : Type 0} (out : List A) (r q : A) (rest whole new : List A) → new ≡ out ++ r ∷ [] → r ≡ q → out ++ q ∷ rest ≡ whole → new ++ rest ≡ whole
push_on out r q rest whole new n e h = ap (λ xs. xs ++ rest) n ∙ append_assoc out (r ∷ []) rest ∙ ap (λ y. out ++ y ∷ rest) e ∙ h
