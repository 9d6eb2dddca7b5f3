-- The places of the numbers below 0 in a list, and what stands there.
use Rattle.std.proofs.Common.{◌≡◌, ℕ, zero, suc, ◌+◌, ◌<◌, List, [], ◌∷◌, ◌++◌, map, length, filter, drop, get_or, Bool, true, false, cond, refl, sym, ap, ◌∙◌, arith, append_assoc}
use Rattle.exact_field.specs.Rational.{ℚ, zero_ℚ, lt_ℚ, ◌<ℚ◌}
use Rattle.std.proofs.lemmas.List.{drop-map}
use Rattle.polyhedra.specs.LiveList.{Numbered, LivePair}
use Rattle.double_descr.specs.Making.{negative_places}

-- what entry k of the places says: it is the place of a number below 0, and there stands entry k of what is at such places
pub record IsPlaceOf {A : Type 0} (v : A → ℚ) (xs : List A) (first : ℕ) (d : A) (places : List ℕ) (negatives : List A) (k : ℕ) : Type 0 where
  pub place : ℕ
  pub is : get_or places k 0 ≡ first + place
  pub inside : place < length xs
  pub below : get_or (map v xs) place zero_ℚ <ℚ zero_ℚ
  pub here : drop k negatives ≡ get_or xs place d ∷ drop (k + 1) negatives

pub place_of : {A : Type 0} (v : A → ℚ) (xs : List A) (first k : ℕ) (d : A) → k < length (negative_places first (map v xs)) →
    IsPlaceOf v xs first d (negative_places first (map v xs)) (filter (λ x. lt_ℚ (v x) zero_ℚ) xs) k
place_of v [] first k d h = absurd (omega arith)
place_of v (x ∷ xs) first k d h = go (λ j l. place_of v xs (suc first) j d l) k (lt_ℚ (v x) zero_ℚ) refl h
  where
    later : (j : ℕ) → IsPlaceOf v xs (suc first) d (negative_places (suc first) (map v xs)) (filter (λ y. lt_ℚ (v y) zero_ℚ) xs) j →
        IsPlaceOf v (x ∷ xs) first d (negative_places (suc first) (map v xs)) (filter (λ y. lt_ℚ (v y) zero_ℚ) xs) j
    later j r = record {
      place = suc r.place;
      is = r.is ∙ (let e : suc first + r.place ≡ first + suc r.place = omega arith in e);
      inside = let h : r.place < length xs = r.inside in omega (arith, h);
      below = r.below;
      here = r.here;
    }

    go : ((j : ℕ) → j < length (negative_places (suc first) (map v xs)) → IsPlaceOf v xs (suc first) d (negative_places (suc first) (map v xs)) (filter (λ y. lt_ℚ (v y) zero_ℚ) xs) j) →
        (j : ℕ) (b : Bool) → lt_ℚ (v x) zero_ℚ ≡ b → j < length (cond b (first ∷ negative_places (suc first) (map v xs)) (negative_places (suc first) (map v xs))) →
        IsPlaceOf v (x ∷ xs) first d (cond b (first ∷ negative_places (suc first) (map v xs)) (negative_places (suc first) (map v xs)))
        (cond b (x ∷ filter (λ y. lt_ℚ (v y) zero_ℚ) xs) (filter (λ y. lt_ℚ (v y) zero_ℚ) xs)) j
    go rest j false e l = later j (rest j l)
    go rest zero true e l = record { place = 0; is = omega arith; inside = omega arith; below = e; here = refl }
    go rest (suc j) true e l = let r = later j (rest j (omega (arith, l))) in record {
      place = r.place;
      is = r.is;
      inside = r.inside;
      below = r.below;
      here = r.here ∙ ap (λ n. get_or (x ∷ xs) r.place d ∷ drop n (x ∷ filter (λ y. lt_ℚ (v y) zero_ℚ) xs)) (let e : suc (j + 1) ≡ suc j + 1 = omega arith in e);
    }

-- there are as many places as numbers below 0
pub places_count : {A : Type 0} (v : A → ℚ) (xs : List A) (first : ℕ) → length (negative_places first (map v xs)) ≡ length (filter (λ x. lt_ℚ (v x) zero_ℚ) xs)
places_count v [] first = refl
places_count v (x ∷ xs) first = go (places_count v xs (suc first)) (lt_ℚ (v x) zero_ℚ)
  where
    go : length (negative_places (suc first) (map v xs)) ≡ length (filter (λ y. lt_ℚ (v y) zero_ℚ) xs) → (b : Bool) →
        length (cond b (first ∷ negative_places (suc first) (map v xs)) (negative_places (suc first) (map v xs)))
        ≡ length (cond b (x ∷ filter (λ y. lt_ℚ (v y) zero_ℚ) xs) (filter (λ y. lt_ℚ (v y) zero_ℚ) xs))
    go rest true = ap suc rest
    go rest false = rest

-- the pair of one generator with another; the pairs with those of a list, from a place on
abbrev pub pair_with : Numbered → Numbered → LivePair
pair_with p m = record { plus_side = p; minus_side = m }

pub pair_of_place : (p : Numbered) (negatives : List Numbered) (k : ℕ) (m : Numbered) → drop k negatives ≡ m ∷ drop (k + 1) negatives →
    drop k (map (pair_with p) negatives) ≡ pair_with p m ∷ drop (k + 1) (map (pair_with p) negatives)
pair_of_place p negatives k m e = drop-map (pair_with p) k negatives ∙ ap (map (pair_with p)) e
    ∙ ap (λ l. pair_with p m ∷ l) (sym (drop-map (pair_with p) (k + 1) negatives))

-- one more number was tested: its place is listed, or it is passed over
places_at : (j : ℕ) (xs xs' : List ℚ) (x : ℚ) (b : Bool) → xs ≡ x ∷ xs' → lt_ℚ x zero_ℚ ≡ b →
    negative_places j xs ≡ cond b (j ∷ []) [] ++ negative_places (j + 1) xs'
places_at j xs xs' x b e f = ap (negative_places j) e ∙ ap (λ c. cond c (j ∷ negative_places (suc j) xs') (negative_places (suc j) xs')) f ∙ go b
    ∙ ap (λ n. cond b (j ∷ []) [] ++ negative_places n xs') (let e : suc j ≡ j + 1 = omega arith in e)
  where
    go : (c : Bool) → cond c (j ∷ negative_places (suc j) xs') (negative_places (suc j) xs') ≡ cond c (j ∷ []) [] ++ negative_places (suc j) xs'
    go true = refl
    go false = refl

pub places_on : (j : ℕ) (xs xs' : List ℚ) (x : ℚ) (b : Bool) (old new whole : List ℕ) → xs ≡ x ∷ xs' → lt_ℚ x zero_ℚ ≡ b → new ≡ old ++ cond b (j ∷ []) [] →
    old ++ negative_places j xs ≡ whole → new ++ negative_places (j + 1) xs' ≡ whole
places_on j xs xs' x b old new whole e f n h = ap (λ l. l ++ negative_places (j + 1) xs') n ∙ append_assoc old (cond b (j ∷ []) []) (negative_places (j + 1) xs')
    ∙ ap (λ l. old ++ l) (sym (places_at j xs xs' x b e f)) ∙ h
