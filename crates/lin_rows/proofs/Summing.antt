-- Sums of products, one place more.
use Rattle.std.proofs.Common.{◌≡◌, ◌≢◌, ℕ, zero, suc, List, [], ◌∷◌, ◌++◌, length, map, take, refl, sym, ap, ap₂, ◌∙◌, subst, arith, ◌<◌, ◌≤◌, ◌+◌, ◌-◌, inl, inr, IsTrue, Bool, slice_index_or}
use Rattle.std.proofs.lemmas.Bool.{cases_eq}
use Rattle.std.proofs.lemmas.List.{get_or-map, length-map, map_push, take_more, take_all}
use Rattle.exact_field.specs.Rational.{ℚ, zero_ℚ, ◌+ℚ◌, ◌*ℚ◌}
use Rattle.exact_field.specs.Vector.{entry, dot}
use Rattle.exact_field.proofs.Rationals.{add-zero_ℚ, zero-add_ℚ, add_assoc_ℚ}
use Rattle.polyhedra.specs.Vectors.{plus, scaled}
use Rattle.polyhedra.proofs.Linear.{length-plus, length-scaled}
use Rattle.tableaux.proofs.Places.{entry-plus, entry-scaled}
use Rattle.lin_rows.specs.Sums.{partial, AreHeld, IsCombinationHeld, AreProductsHeld}

pub partial-more : (a b : List ℚ) (i : ℕ) → i < length a → i < length b → partial a b (i + 1) ≡ partial a b i +ℚ slice_index_or a i zero_ℚ *ℚ slice_index_or b i zero_ℚ
partial-more [] b i l u = absurd (omega arith)
partial-more (x ∷ a) [] i l u = absurd (omega arith)
partial-more (x ∷ a) (y ∷ b) zero l u = add-zero_ℚ (x *ℚ y) ∙ sym (zero-add_ℚ (x *ℚ y))
partial-more (x ∷ a) (y ∷ b) (suc i) l u =
    let more : suc i + 1 ≡ suc (i + 1) = omega arith in
    ap (λ k. dot (take k (x ∷ a)) (take k (y ∷ b))) more
    ∙ ap (λ q. x *ℚ y +ℚ q) (partial-more a b i (omega arith) (omega arith))
    ∙ sym (add_assoc_ℚ (x *ℚ y) (partial a b i) (slice_index_or a i zero_ℚ *ℚ slice_index_or b i zero_ℚ))

back : (i : ℕ) → i ≡ i + 1 - 1
back i = omega arith

-- what holds at the first i places and at the next holds at the first i + 1
places_more : (P : ℕ → Type 0) (i : ℕ) → ((j : ℕ) → 1 ≤ j → j ≤ i → P j) → P (i + 1) → (j : ℕ) → 1 ≤ j → j ≤ i + 1 → P j
places_more P i before here j low high =
    elim (cases_eq j (i + 1)) [ inl e ↦ subst P (sym e) here | inr o ↦ before j low (omega (arith, high, o)) ]

module _ {F : Type 0} (value : F → ℚ) (holds : ℚ → Bool) where
  -- an element that was read
  pub entry_read : (xs : List F) (i : ℕ) (x : F) → i < length xs → x ≡ slice_index_or xs i x → entry (map value xs) (i + 1) ≡ value x
  entry_read xs i x l is = ap (λ k. slice_index_or (map value xs) k zero_ℚ) (sym (back i)) ∙ get_or-map value xs i x zero_ℚ l ∙ ap value (sym is)

  module _ (a b : List F) (i : ℕ) (x y : F) (l : i < length a) (same : length a ≡ length b) (x_is : x ≡ slice_index_or a i x) (y_is : y ≡ slice_index_or b i y) where
    abbrev xs : List ℚ
    xs = map value a

    abbrev ys : List ℚ
    ys = map value b

    pub sum_more : (total new : ℚ) → total ≡ partial xs ys i → new ≡ total +ℚ value x *ℚ value y → new ≡ partial xs ys (i + 1)
    sum_more total new is e =
        e ∙ ap (λ q. q +ℚ value x *ℚ value y) is
        ∙ ap₂ (λ p q. partial xs ys i +ℚ p *ℚ q)
        (sym (get_or-map value a i x zero_ℚ l ∙ ap value (sym x_is))) (sym (get_or-map value b i y zero_ℚ (omega arith) ∙ ap value (sym y_is)))
        ∙ sym (partial-more xs ys i (omega (arith, l, length-map a value)) (omega (arith, l, same, length-map b value)))

    pub held_more : (total : ℚ) → total ≡ partial xs ys i → AreHeld holds xs ys i →
        (value x ≢ zero_ℚ → value y ≢ zero_ℚ → IsTrue (holds (value x *ℚ value y)) × IsTrue (holds (total +ℚ value x *ℚ value y))) → AreHeld holds xs ys (i + 1)
    held_more total is before here =
        places_more (λ k. entry xs k ≢ zero_ℚ → entry ys k ≢ zero_ℚ → IsTrue (holds (entry xs k *ℚ entry ys k)) × IsTrue (holds (partial xs ys k))) i before
        (λ p q.
        let first = entry_read a i x l x_is in
        let second = entry_read b i y (omega arith) y_is in
        let both = here (λ e. p (first ∙ e)) (λ e. q (second ∙ e)) in (
          subst (λ (r : ℚ). IsTrue (holds r)) (sym (ap₂ (λ r s. r *ℚ s) first second)) both.0,
          subst (λ (r : ℚ). IsTrue (holds r)) (sum_more total (total +ℚ value x *ℚ value y) is refl) both.1,
        ))

    -- ---- a + k b
    plus_at : (k : ℚ) → slice_index_or (plus xs (scaled k ys)) i zero_ℚ ≡ value x +ℚ k *ℚ value y
    plus_at k =
        ap (λ m. slice_index_or (plus xs (scaled k ys)) m zero_ℚ) (back i) ∙ entry-plus xs (scaled k ys) (i + 1)
        ∙ ap₂ (λ p q. p +ℚ q) (entry_read a i x l x_is) (entry-scaled k ys (i + 1) ∙ ap (λ q. k *ℚ q) (entry_read b i y (omega arith) y_is))

    plus_long : (k : ℚ) → length (plus xs (scaled k ys)) ≡ length a
    plus_long k = length-plus (length a) xs (scaled k ys) (length-map a value) (length-scaled k ys ∙ length-map b value ∙ sym same)

    pub sums_more : (k : ℚ) (old new : List F) (z : F) → new ≡ old ++ z ∷ [] → map value old ≡ take i (plus xs (scaled k ys)) → value z ≡ value x +ℚ k *ℚ value y →
        map value new ≡ take (i + 1) (plus xs (scaled k ys))
    sums_more k old new z pushed is own =
        ap (map value) pushed ∙ map_push value old z ∙ ap₂ (λ p q. p ++ q ∷ []) is (own ∙ sym (plus_at k))
        ∙ sym (take_more (plus xs (scaled k ys)) i zero_ℚ (omega (arith, l, plus_long k)))

    pub sums_held_more : (k : ℚ) → IsCombinationHeld holds xs k ys i → IsTrue (holds (k *ℚ value y)) × IsTrue (holds (value x +ℚ k *ℚ value y)) → IsCombinationHeld holds xs k ys (i + 1)
    sums_held_more k before here =
        let first = entry_read a i x l x_is in
        let second = entry_read b i y (omega arith) y_is in
        places_more (λ j. IsTrue (holds (k *ℚ entry ys j)) × IsTrue (holds (entry xs j +ℚ k *ℚ entry ys j))) i before (
          subst (λ (r : ℚ). IsTrue (holds r)) (sym (ap (λ q. k *ℚ q) second)) here.0,
          subst (λ (r : ℚ). IsTrue (holds r)) (sym (ap₂ (λ p q. p +ℚ k *ℚ q) first second)) here.1,
        )

  module _ (a : List F) (i : ℕ) (x : F) (l : i < length a) (x_is : x ≡ slice_index_or a i x) where
    pub products_more : (k : ℚ) (old new : List F) (z : F) → new ≡ old ++ z ∷ [] → map value old ≡ take i (scaled k (map value a)) → value z ≡ k *ℚ value x →
        map value new ≡ take (i + 1) (scaled k (map value a))
    products_more k old new z pushed is own =
        let here : slice_index_or (scaled k (map value a)) i zero_ℚ ≡ k *ℚ value x =
        ap (λ m. slice_index_or (scaled k (map value a)) m zero_ℚ) (back i) ∙ entry-scaled k (map value a) (i + 1) ∙ ap (λ q. k *ℚ q) (entry_read a i x l x_is) in
        ap (map value) pushed ∙ map_push value old z ∙ ap₂ (λ p q. p ++ q ∷ []) is (own ∙ sym here)
        ∙ sym (take_more (scaled k (map value a)) i zero_ℚ (omega (arith, l, length-scaled k (map value a), length-map a value)))

    pub products_held_more : (k : ℚ) → AreProductsHeld holds k (map value a) i → IsTrue (holds (k *ℚ value x)) → AreProductsHeld holds k (map value a) (i + 1)
    products_held_more k before here =
        places_more (λ j. IsTrue (holds (k *ℚ entry (map value a) j))) i before
        (subst (λ (r : ℚ). IsTrue (holds r)) (sym (ap (λ q. k *ℚ q) (entry_read a i x l x_is))) here)

  pub plus_all : (a b : List F) (i : ℕ) (k : ℚ) (out : List F) → length a ≡ length b → length a ≤ i → map value out ≡ take i (plus (map value a) (scaled k (map value b))) →
      map value out ≡ plus (map value a) (scaled k (map value b))
  plus_all a b i k out same end is =
      let v : List ℚ = plus (map value a) (scaled k (map value b)) in
      let long : length v ≡ length a = length-plus (length a) (map value a) (scaled k (map value b)) (length-map a value) (length-scaled k (map value b) ∙ length-map b value ∙ sym same) in
      is ∙ take_all i v (omega (arith, end, long))
