-- Numbers that are spread over vectors, one vector after the other.
use Rattle.std.proofs.Common.{◌≡◌, ℕ, suc, List, [], ◌∷◌, ◌++◌, length, map, subst, arith, drop, slice_index_or, ◌<◌, ◌+◌, Bool, true, false, refl, sym, ap, ◌∙◌, ◌⊎◌, inl, inr, append_assoc}
use Rattle.std.specs.Prelude.{if◌then◌else◌}
use Rattle.std.specs.List.{list_all}
use Rattle.exact_field.specs.Rational.{ℚ, zero_ℚ}
use Rattle.frac128.specs.Sparse.{is_zero}
use Rattle.frac128.specs.declared.vectors.Spot.{Spot}
use Rattle.std.proofs.lemmas.List.{length-map, drop_more, get_or-map, map_push}
use Rattle.lin_rows.specs.Read.{numbers}
use Rattle.upper_image.specs.Spots.{dense, IsVector}
use Rattle.cone_rules.specs.Laws.{spread, IsSpread}

-- at a vector that is 0, or after the last number, the next is 0
pub spread-zero : (v : List ℚ) (vectors : List (List ℚ)) (xs : List ℚ) → (list_all is_zero v ≡ true) ⊎ (xs ≡ []) →
    spread (v ∷ vectors) xs ≡ zero_ℚ ∷ spread vectors xs
spread-zero v vectors [] h = refl
spread-zero v vectors (x ∷ xs) (inl e) = ap (λ (b : Bool). if b then zero_ℚ ∷ spread vectors (x ∷ xs) else x ∷ spread vectors xs) e
spread-zero v vectors (x ∷ xs) (inr e) = absurd (cc)

pub spread-kept : (v : List ℚ) (vectors : List (List ℚ)) (x : ℚ) (xs : List ℚ) → list_all is_zero v ≡ false →
    spread (v ∷ vectors) (x ∷ xs) ≡ x ∷ spread vectors xs
spread-kept v vectors x xs e = ap (λ (b : Bool). if b then zero_ℚ ∷ spread vectors (x ∷ xs) else x ∷ spread vectors xs) e

pub length-spread : (vectors : List (List ℚ)) (xs : List ℚ) → length (spread vectors xs) ≡ length vectors
length-spread [] xs = refl
length-spread (v ∷ vectors) [] = ap suc (length-spread vectors [])
length-spread (v ∷ vectors) (x ∷ xs) = by_test (list_all is_zero v) (length-spread vectors (x ∷ xs)) (length-spread vectors xs)
  where
    by_test : (b : Bool) → length (spread vectors (x ∷ xs)) ≡ length vectors → length (spread vectors xs) ≡ length vectors →
        length (if b then zero_ℚ ∷ spread vectors (x ∷ xs) else x ∷ spread vectors xs) ≡ suc (length vectors)
    by_test true h k = ap suc h
    by_test false h k = ap suc k

-- one number more is written
pub one_more : (done rest whole next : List ℚ) (x : ℚ) → rest ≡ x ∷ next → done ++ rest ≡ whole → (done ++ x ∷ []) ++ next ≡ whole
one_more done rest whole next x e h = append_assoc done (x ∷ []) next ∙ ap (λ (l : List ℚ). done ++ l) (sym e) ∙ h

-- the sparse vector of a list is that of the numbers that were spread
pub spread_of : {F : Type 0} (value : F → ℚ) (vectors : List (List ℚ)) (xs : List ℚ) (list : List F) (m : List Spot) → map value list ≡ spread vectors xs →
    IsVector (length list) m → dense (length list) m ≡ map value list → IsSpread vectors xs m
spread_of value vectors xs list m is vector numbers =
    let long : length list ≡ length vectors = sym (length-map list value) ∙ ap length is ∙ length-spread vectors xs in
    record {
      vector = subst (λ (n : ℕ). IsVector n m) long vector;
      numbers = ap (λ (n : ℕ). dense n m) (sym long) ∙ numbers ∙ is;
    }

-- the number of one vector more is written
pub spread_more : {F : Type 0} (value : F → ℚ) (vectors : List (List F)) (i : ℕ) (v slice : List F) (old new : List F) (z : F) (rest after whole : List ℚ) → i < length vectors →
    v ≡ slice_index_or vectors i v → slice ≡ v → new ≡ old ++ z ∷ [] →
    ((more : List (List ℚ)) → spread (map value slice ∷ more) rest ≡ value z ∷ spread more after) →
    map value old ++ spread (drop i (numbers value vectors)) rest ≡ whole → map value new ++ spread (drop (i + 1) (numbers value vectors)) after ≡ whole
spread_more value vectors i v slice old new z rest after whole inside is sliced pushed number before =
    let all : List (List ℚ) = numbers value vectors in
    let more : List (List ℚ) = drop (i + 1) all in
    let first : drop i all ≡ map value slice ∷ more =
    drop_more all i [] (omega (arith, inside, length-map vectors (map value)))
    ∙ ap (λ (x : List ℚ). x ∷ more) (get_or-map (map value) vectors i v [] inside ∙ ap (map value) (sym is) ∙ ap (map value) (sym sliced)) in
    ap (λ (l : List ℚ). l ++ spread more after) (ap (map value) pushed ∙ map_push value old z)
    ∙ one_more (map value old) (spread (drop i all) rest) whole (spread more after) (value z) (ap (λ (vs : List (List ℚ)). spread vs rest) first ∙ number more) before
