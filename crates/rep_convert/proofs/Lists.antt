-- Lists that are gone through in their order.
use Rattle.std.proofs.Common.{◌≡◌, ℕ, ◌+◌, ◌<◌, ◌≤◌, Bool, List, [], ◌∷◌, ◌++◌, map, length, take, All, Contains, slice_index_or, sym, ap, ap₂, ◌∙◌, subst, arith}
use Rattle.std.proofs.lemmas.List.{get_or-map, length-map, map-append, map-id, take_all, take_more}
use Rattle.std.proofs.lemmas.List.Elements.{All-nil, All-cons, All-append, Contains-get_or}
use Rattle.exact_field.specs.Rational.{ℚ}
use Rattle.polyhedra.specs.LiveList.{Numbered, numbers, vectors}
use Rattle.lineality.specs.Without.{with_zeros}

-- what holds of the first i of a list, and of the next
module _ {X : Type 0} (P : X → Type 0) where
  pub all_more : (xs : List X) (i : ℕ) (x : X) → i < length xs → x ≡ slice_index_or xs i x → All P (take i xs) → P x → All P (take (i + 1) xs)
  all_more xs i x l is h k =
      subst (All P) (sym (take_more xs i x l ∙ ap (λ (y : X). take i xs ++ y ∷ []) (sym is)))
      (All-append P (take i xs) (x ∷ []) h (All-cons P x [] k (All-nil P)))

  pub all_done : (xs : List X) (i : ℕ) → length xs ≤ i → All P (take i xs) → All P xs
  all_done xs i l h = subst (All P) (take_all i xs l) h

-- ---- what is called in any field, where each number is its own value
pub own_values : (f : List ℚ → List ℚ) (xs out : List ℚ) → map (λ (q : ℚ). q) out ≡ f (map (λ (q : ℚ). q) xs) → out ≡ f xs
own_values f xs out h = sym (map-id out) ∙ h ∙ ap f (map-id xs)

-- ---- generators by their numbers
pub gens_more : (bs : List Bool) (live : List Numbered) (i n : ℕ) (old new : List (List ℚ)) (full short : List ℚ) → i < length (numbers live) →
    n ≡ slice_index_or (numbers live) i n → new ≡ old ++ full ∷ [] → full ≡ with_zeros bs short →
    ((v : List ℚ) → Contains live (record { number = n; vector = v }) → map (λ (q : ℚ). q) short ≡ v) →
    old ≡ map (with_zeros bs) (take i (vectors live)) → new ≡ map (with_zeros bs) (take (i + 1) (vectors live))
gens_more bs live i n old new full short l is pushed filled only so_far =
    let none : Numbered = record { number = n; vector = [] } in
    let inside : i < length live = let many = length-map live (λ (g : Numbered). g.number) in omega (arith, l, many) in
    let g : Numbered = slice_index_or live i none in
    let number : n ≡ g.number = is ∙ get_or-map (λ (h : Numbered). h.number) live i none n inside in
    let vector : slice_index_or (vectors live) i [] ≡ g.vector = get_or-map (λ (h : Numbered). h.vector) live i none [] inside in
    let listed : Contains live (record { number = n; vector = g.vector }) =
    subst (Contains live) (ap (λ (k : ℕ). record { number = k; vector = g.vector }) (sym number)) (Contains-get_or live i none inside) in
    let same : short ≡ slice_index_or (vectors live) i [] = sym (map-id short) ∙ only g.vector listed ∙ sym vector in
    let within : i < length (vectors live) = let many = length-map live (λ (h : Numbered). h.vector) in omega (arith, inside, many) in
    pushed ∙ ap₂ (λ (vs : List (List ℚ)) (v : List ℚ). vs ++ v ∷ []) so_far (filled ∙ ap (with_zeros bs) same)
    ∙ sym (map-append (with_zeros bs) (take i (vectors live)) (slice_index_or (vectors live) i [] ∷ []))
    ∙ ap (map (with_zeros bs)) (sym (take_more (vectors live) i [] within))
