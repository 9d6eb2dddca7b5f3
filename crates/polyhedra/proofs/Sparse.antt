-- The product of a sparse vector.
use Rattle.std.proofs.Common.{◌≡◌, ◌≢◌, ℕ, zero, suc, List, [], ◌∷◌, length, All, refl, sym, ap, ap₂, ◌∙◌, arith, Bool, true, false, cond, nat_eq, ◌<◌, ◌≤◌, ◌-◌, ◌+◌, ◌⊎◌, inl, inr, slice_index_or}
use Rattle.std.proofs.lemmas.Bool.Decides.{eqb_tells}
use Rattle.std.proofs.lemmas.Bool.{eqb-true}
use Rattle.std.proofs.lemmas.List.Elements.{All-head, All-tail}
use Rattle.exact_field.specs.Rational.{ℚ, zero_ℚ, ◌+ℚ◌, ◌*ℚ◌}
use Rattle.exact_field.specs.Vector.{dot}
use Rattle.polyhedra.specs.Sparse.{Entry, value_at, values_from, ProductOfSparse}
use Rattle.polyhedra.proofs.Laws.{add_zero}
use Rattle.polyhedra.proofs.Algebra.{zero_add, zero_mul, ring_rules}
use Rattle.polyhedra.proofs.Members.{pairs-head, pairs-tail}

same_values : (n k : ℕ) (f g : ℕ → ℚ) → ((j : ℕ) → f j ≡ g j) → values_from n k f ≡ values_from n k g
same_values zero k f g h = refl
same_values (suc n) k f g h = ap₂ (λ a b. a ∷ b) (h k) (same_values n (suc k) f g h)

sum_values : (n k : ℕ) (f g : ℕ → ℚ) (v : List ℚ) → dot (values_from n k (λ j. f j +ℚ g j)) v ≡ dot (values_from n k f) v +ℚ dot (values_from n k g) v
sum_values zero k f g v = sym (add_zero zero_ℚ)
sum_values (suc n) k f g [] = sym (add_zero zero_ℚ)
sum_values (suc n) k f g (x ∷ v) = ap (λ a. (f k +ℚ g k) *ℚ x +ℚ a) (sum_values n (suc k) f g v) ∙ collect (f k) (g k) x
    (dot (values_from n (suc k) f) v) (dot (values_from n (suc k) g) v)
  where
    collect : (a b y p q : ℚ) → (a +ℚ b) *ℚ y +ℚ (p +ℚ q) ≡ (a *ℚ y +ℚ p) +ℚ (b *ℚ y +ℚ q)
    collect a b y p q = simp ring_rules

zero_values : (n k : ℕ) (v : List ℚ) → dot (values_from n k (λ j. zero_ℚ)) v ≡ zero_ℚ
zero_values zero k v = refl
zero_values (suc n) k [] = refl
zero_values (suc n) k (x ∷ v) = ap₂ (λ a b. a +ℚ b) (zero_mul x) (zero_values n (suc k) v) ∙ add_zero zero_ℚ

-- one place alone
one_value : (x : ℚ) (p : ℕ) → ℕ → ℚ
one_value x p j = cond (nat_eq p j) x zero_ℚ

unfolded_other : (p j : ℕ) → p ≢ j → nat_eq p j ≡ false
unfolded_other p j h = go (eqb_tells p j)
  where
    go : ((nat_eq p j ≡ true) × (p ≡ j)) ⊎ ((nat_eq p j ≡ false) × (p ≢ j)) → nat_eq p j ≡ false
    go (inl t) = absurd (h t.1)
    go (inr t) = t.0

unfolded_same : (p j : ℕ) → p ≡ j → nat_eq p j ≡ true
unfolded_same p j h = go (eqb_tells p j)
  where
    go : ((nat_eq p j ≡ true) × (p ≡ j)) ⊎ ((nat_eq p j ≡ false) × (p ≢ j)) → nat_eq p j ≡ true
    go (inl t) = t.0
    go (inr t) = absurd (t.1 h)

not_yet : (n k p : ℕ) (x : ℚ) (v : List ℚ) → p < k → dot (values_from n k (one_value x p)) v ≡ zero_ℚ
unfolding one_value
not_yet zero k p x v h = refl
not_yet (suc n) k p x [] h = refl
not_yet (suc n) k p x (y ∷ v) h = ap₂ (λ a b. cond a x zero_ℚ *ℚ y +ℚ b) (unfolded_other p k (omega arith)) (not_yet n (suc k) p x v (omega arith))
    ∙ add_zero (zero_ℚ *ℚ y) ∙ zero_mul y

single_value : (n k p i : ℕ) (x : ℚ) (v : List ℚ) → k + i ≡ p → i < n → length v ≡ n → dot (values_from n k (one_value x p)) v ≡ x *ℚ slice_index_or v i zero_ℚ
unfolding one_value
single_value zero k p i x v h l e = absurd (omega arith)
single_value (suc n) k p i x [] h l e = absurd (omega arith)
single_value (suc n) k p zero x (y ∷ v) h l e = ap₂ (λ a b. cond a x zero_ℚ *ℚ y +ℚ b) (unfolded_same p k (omega arith))
    (not_yet n (suc k) p x v (omega arith)) ∙ add_zero (x *ℚ y)
single_value (suc n) k p (suc i) x (y ∷ v) h l e =
    ap₂ (λ a b. cond a x zero_ℚ *ℚ y +ℚ b) (unfolded_other p k (omega arith)) (single_value n (suc k) p i x v (omega arith) (omega arith) (omega arith))
    ∙ ap (λ a. a +ℚ x *ℚ slice_index_or v i zero_ℚ) (zero_mul y) ∙ zero_add (x *ℚ slice_index_or v i zero_ℚ)

-- a first entry is added to the others, since no other has its place
first_added : (e : Entry) (entries : List Entry) → All (λ f. e.place < f.place) entries → (j : ℕ) → value_at
    (e ∷ entries) j ≡ one_value e.value e.place j +ℚ value_at entries j
unfolding one_value
first_added e entries h j = go (nat_eq e.place j) refl
  where
    none_there : (es : List Entry) → All (λ f. e.place < f.place) es → (k : ℕ) → e.place ≡ k → value_at es k ≡ zero_ℚ
    none_there [] a k q = refl
    none_there (f ∷ es) a k q =
        let later : e.place < f.place = All-head (λ g. e.place < g.place) f es a in
        ap (λ b. cond b f.value (value_at es k)) (unfolded_other f.place k (omega arith)) ∙ none_there es (All-tail (λ g. e.place < g.place) f es a) k q

    go : (b : Bool) → nat_eq e.place j ≡ b → cond b e.value (value_at entries j) ≡ cond b e.value zero_ℚ +ℚ value_at entries j
    go true t = sym (ap (λ a. e.value +ℚ a) (none_there entries h j (eqb-true e.place j t)) ∙ add_zero e.value)
    go false t = sym (zero_add (value_at entries j))

pub product_of_sparse : ProductOfSparse
product_of_sparse n [] v h l = zero_values n 1 v
product_of_sparse n (e ∷ entries) v h l =
    let low : 1 ≤ e.place = All-head (λ f. 1 ≤ f.place) e entries h.from_one in
    let high : e.place ≤ n = All-head (λ f. f.place ≤ n) e entries h.to_end in
    ap (λ w. dot w v) (same_values n 1 (value_at (e ∷ entries)) (λ j. one_value e.value e.place j +ℚ value_at entries j)
    (first_added e entries (pairs-head (λ a b. a.place < b.place) e entries h.rising)))
    ∙ sum_values n 1 (one_value e.value e.place) (value_at entries) v
    ∙ ap₂ (λ a b. a +ℚ b)
    (single_value n 1 e.place (e.place - 1) e.value v (omega arith) (omega arith) l)
    (product_of_sparse n entries v (record {
      from_one = All-tail (λ f. 1 ≤ f.place) e entries h.from_one;
      to_end = All-tail
          (λ f. f.place ≤ n) e entries h.to_end;
      rising = pairs-tail (λ a b. a.place < b.place) e entries h.rising;
    }) l)
