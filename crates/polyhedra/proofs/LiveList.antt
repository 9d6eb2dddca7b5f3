-- A step on numbered generators is an addition, keeps the numbers, and tells generators apart by them.
use Rattle.std.proofs.Common.{◌≡◌, ℕ, suc, ◌+◌, ◌<◌, ◌≤◌, List, [], ◌∷◌, ◌++◌, map, length, All, AllPairs, Contains, refl, sym, ap, ap₂, ◌∙◌, subst, arith, ◌⊎◌, inl, inr, Bool, true, false, not, ◌||◌, filter, flat_map, cond, eq-eqb, eqb-true}
use Rattle.std.specs.Prelude.{nat_eq}
use Rattle.std.proofs.lemmas.List.{map-append}
use Rattle.std.proofs.lemmas.List.Elements.{All-nil, All-cons, All-head, All-tail, All-weaker, All-append, All-map, Contains-append_cases}
use Rattle.exact_field.specs.Rational.{ℚ, zero_ℚ, le_ℚ, lt_ℚ, ◌<ℚ◌}
use Rattle.exact_field.specs.Vector.{dot}
use Rattle.polyhedra.specs.TightSets.{IsDoubleDescriptionPair}
use Rattle.polyhedra.specs.DoubleDescription.{Pair, same_vector, covers, is_uncovered, new_pairs, kept, made}
use Rattle.polyhedra.proofs.Order.{not_lt_of_le}
use Rattle.polyhedra.proofs.Lists.{Contains-cases, Contains-nil, all_from_map}
use Rattle.polyhedra.proofs.Members.{all_of_members, member_of, Contains-map_source, Contains-filter_source, pairs-nil, pairs-cons, pairs-head, pairs-tail, pairs-append, pairs-weaker, pairs-map, pairs-filter}
use Rattle.polyhedra.proofs.Generators.{described_are_distinct}
use Rattle.polyhedra.specs.LiveList.{Numbered, LiveList, vectors, numbers, numbered, LivePair, without_numbers, products, is_uncovered_live, staying, dropped, live_pairs, new_vectors, step, IsRising, ComesBefore}
use Rattle.polyhedra.specs.LiveSteps.{NumbersStay, NumbersTellApart, StepIsAddition, ThirdByNumber}
use Rattle.polyhedra.proofs.Tests.{list_all_same, same_tests, same_vector-self, same_vector_is}

-- ---- lists
filter_same : {X : Type 0} (s t : X → Bool) (xs : List X) → All (λ x. s x ≡ t x) xs → filter s xs ≡ filter t xs
filter_same s t [] h = refl
filter_same {X} s t (x ∷ xs) h = ap₂ (λ (b : Bool) (r : List X). cond b (x ∷ r) r) (All-head (λ y. s y ≡ t y) x xs h)
    (filter_same s t xs (All-tail (λ y. s y ≡ t y) x xs h))

filter-map : {X Y : Type 0} (f : X → Y) (t : Y → Bool) (xs : List X) → filter t (map f xs) ≡ map f (filter (λ x. t (f x)) xs)
filter-map f t [] = refl
filter-map {X} {Y} f t (x ∷ xs) = ap (λ (r : List Y). cond (t (f x)) (f x ∷ r) r) (filter-map f t xs) ∙ go (t (f x))
  where
    go : (b : Bool) → cond b (f x ∷ map f (filter (λ y. t (f y)) xs)) (map f (filter (λ y. t (f y)) xs))
        ≡ map f (cond b (x ∷ filter (λ y. t (f y)) xs) (filter (λ y. t (f y)) xs))
    go true = refl
    go false = refl

pairs_from_map : {X Y : Type 0} (R : Y → Y → Type 0) (f : X → Y) (xs : List X) → AllPairs R (map f xs) → AllPairs (λ a b. R (f a) (f b)) xs
pairs_from_map R f [] h = pairs-nil (λ a b. R (f a) (f b))
pairs_from_map R f (x ∷ xs) h = pairs-cons (λ a b. R (f a) (f b)) x xs (all_from_map (R (f x)) f xs (pairs-head R (f x) (map f xs) h))
    (pairs_from_map R f xs (pairs-tail R (f x) (map f xs) h))

-- members of which no two have the same image are told apart by it
told_apart : {X Y : Type 0} (f : X → Y) (xs : List X) (a b : X) → AllPairs (λ x y. f x ≡ f y → ⊥) xs → Contains xs a → Contains xs b → f a ≡ f b → a ≡ b
told_apart f [] a b h c k e = absurd (Contains-nil a c)
told_apart f (x ∷ xs) a b h c k e = go (Contains-cases x xs a c) (Contains-cases x xs b k)
    (λ m n. told_apart f xs a b (pairs-tail (λ u v. f u ≡ f v → ⊥) x xs h) m n e)
  where
    go : (x ≡ a) ⊎ Contains xs a → (x ≡ b) ⊎ Contains xs b → (Contains xs a → Contains xs b → a ≡ b) → a ≡ b
    go (inl p) (inl q) again = sym p ∙ q
    go (inl p) (inr n) again = absurd (member_of (λ v. f x ≡ f v → ⊥) xs b (pairs-head (λ u v. f u ≡ f v → ⊥) x xs h) n (ap f p ∙ e))
    go (inr m) (inl q) again = absurd (member_of (λ v. f x ≡ f v → ⊥) xs a (pairs-head (λ u v. f u ≡ f v → ⊥) x xs h) m (ap f q ∙ sym e))
    go (inr m) (inr n) again = again m n

-- ---- pairs
pair_of : Numbered → Numbered → LivePair
pair_of p m = record { plus_side = p; minus_side = m }

vector_pair : List ℚ → List ℚ → Pair
vector_pair p m = record { plus_side = p; minus_side = m }

all_products : (P Q : Numbered → Type 0) (ps ms : List Numbered) → All P ps → All Q ms → All (λ pair. P pair.plus_side × Q pair.minus_side) (products ps ms)
unfolding pair_of
all_products P Q [] ms h k = All-nil (λ pair. P pair.plus_side × Q pair.minus_side)
all_products P Q (p ∷ ps) ms h k = All-append Both (map (pair_of p) ms) (products ps ms)
    (All-map Both (pair_of p) ms (All-weaker Q (λ m. P p × Q m) (λ m q. (All-head P p ps h, q)) ms k))
    (all_products P Q ps ms (All-tail P p ps h) k)
  where
    Both : LivePair → Type 0
    Both pair = P pair.plus_side × Q pair.minus_side

products_rise : (ps ms : List Numbered) → AllPairs (λ a b. a.number < b.number) ps → AllPairs (λ a b. a.number < b.number) ms →
    AllPairs ComesBefore (products ps ms)
unfolding pair_of
products_rise [] ms h k = pairs-nil ComesBefore
products_rise (p ∷ ps) ms h k = pairs-append ComesBefore (map (pair_of p) ms) (products ps ms)
    (pairs-map ComesBefore (pair_of p) ms (pairs-weaker (λ a b. a.number < b.number) (λ a b. ComesBefore (pair_of p a) (pair_of p b)) ms
    (λ a b c d l. inr (refl, l)) k))
    (products_rise ps ms (pairs-tail (λ a b. a.number < b.number) p ps h) k)
    (λ x y c d.
    let s : (m : Numbered) × Contains ms m × (pair_of p m ≡ x) = Contains-map_source (pair_of p) ms x c in
    subst (λ (z : LivePair). ComesBefore z y) s.2 (inl (member_of (λ z. (p.number < z.plus_side.number) × Unit {0}) (products ps ms) y
    (all_products (λ g. p.number < g.number) (λ g. Unit {0}) ps ms (pairs-head (λ a b. a.number < b.number) p ps h)
    (all_of_members (λ g. Unit {0}) ms (λ g e. tt))) d).0))

forget_products : (ps ms : List Numbered) → map without_numbers (products ps ms) ≡ flat_map (λ p. map (vector_pair p) (vectors ms)) (vectors ps)
unfolding pair_of vector_pair
forget_products [] ms = refl
forget_products (p ∷ ps) ms = map-append without_numbers (map (pair_of p) ms) (products ps ms) ∙ ap₂ (λ a b. a ++ b) (inner ms) (forget_products ps ms)
  where
    inner : (ms : List Numbered) → map without_numbers (map (pair_of p) ms) ≡ map (vector_pair p.vector) (vectors ms)
    inner [] = refl
    inner (m ∷ ms) = ap (λ r. vector_pair p.vector m.vector ∷ r) (inner ms)

-- ---- numbers
pub vectors-numbered : (k : ℕ) (vs : List (List ℚ)) → vectors (numbered k vs) ≡ vs
vectors-numbered k [] = refl
vectors-numbered k (v ∷ vs) = ap (λ r. v ∷ r) (vectors-numbered (suc k) vs)

pub numbered_within : (k : ℕ) (vs : List (List ℚ)) → All (λ g. (k ≤ g.number) × (g.number < k + length vs)) (numbered k vs)
numbered_within k [] = All-nil (λ g. (k ≤ g.number) × (g.number < k + 0))
numbered_within k (v ∷ vs) = All-cons (λ g. (k ≤ g.number) × (g.number < k + length (v ∷ vs))) (record { number = k; vector = v }) (numbered (suc k) vs)
    (omega arith, omega arith)
    (All-weaker (λ g. (suc k ≤ g.number) × (g.number < suc k + length vs)) (λ g. (k ≤ g.number) × (g.number < k + length (v ∷ vs)))
    (λ g h. within g h.0 h.1) (numbered (suc k) vs) (numbered_within (suc k) vs))
  where
    within : (g : Numbered) → suc k ≤ g.number → g.number < suc k + length vs → (k ≤ g.number) × (g.number < k + length (v ∷ vs))
    within g h l = (omega arith, omega arith)

pub numbered_rises : (k : ℕ) (vs : List (List ℚ)) → AllPairs (λ a b. a.number < b.number) (numbered k vs)
numbered_rises k [] = pairs-nil (λ a b. a.number < b.number)
numbered_rises k (v ∷ vs) = pairs-cons (λ a b. a.number < b.number) (record { number = k; vector = v }) (numbered (suc k) vs)
    (All-weaker (λ g. (suc k ≤ g.number) × (g.number < suc k + length vs)) (λ g. k < g.number) (λ g h. h.0) (numbered (suc k) vs)
    (numbered_within (suc k) vs))
    (numbered_rises (suc k) vs)

distinct_numbers : (list : LiveList) → IsRising list → AllPairs (λ a b. a.number ≡ b.number → ⊥) list.live
distinct_numbers list r = pairs-weaker (λ a b. a.number < b.number) (λ a b. a.number ≡ b.number → ⊥) list.live (λ a b c d l e. omega arith) r.rises

pub numbers_tell_apart : NumbersTellApart
numbers_tell_apart n rows list r d a b c k = (
  λ e. ap (λ g. g.vector) (told_apart (λ (g : Numbered). g.number) list.live a b (distinct_numbers list r) c k e),
  λ e. ap (λ g. g.number) (told_apart (λ (g : Numbered). g.vector) list.live a b
      (pairs_from_map (λ u v. u ≡ v → ⊥) (λ (g : Numbered). g.vector) list.live (described_are_distinct n rows (vectors list.live) d).once) c k e),
)

-- ---- a step
module _ (n : ℕ) (rows : List (List ℚ)) (list : LiveList) (row : List ℚ) (r : IsRising list) (d : IsDoubleDescriptionPair n rows (vectors list.live)) where
  same_test : (a b : Numbered) → Contains list.live a → Contains list.live b → nat_eq a.number b.number ≡ same_vector a.vector b.vector
  same_test a b c k = same_tests (nat_eq a.number b.number) (same_vector a.vector b.vector)
      (λ e. subst (λ (v : List ℚ). same_vector a.vector v ≡ true) ((numbers_tell_apart n rows list r d a b c k).0 (eqb-true a.number b.number e))
      (same_vector-self a.vector))
      (λ e. eq-eqb a.number b.number ((numbers_tell_apart n rows list r d a b c k).1 (same_vector_is a.vector b.vector e)))

  same_uncovered : (p m : Numbered) → Contains list.live p → Contains list.live m →
      is_uncovered_live rows list.live (pair_of p m) ≡ is_uncovered rows (vectors list.live) (vector_pair p.vector m.vector)
  unfolding pair_of vector_pair
  same_uncovered p m c k = list_all_same (λ (g : Numbered). g.vector)
      (λ g. nat_eq g.number p.number || nat_eq g.number m.number || not (covers rows p.vector m.vector g.vector))
      (λ v. same_vector v p.vector || same_vector v m.vector || not (covers rows p.vector m.vector v)) list.live
      (all_of_members (λ g. (nat_eq g.number p.number || nat_eq g.number m.number || not (covers rows p.vector m.vector g.vector))
      ≡ (same_vector g.vector p.vector || same_vector g.vector m.vector || not (covers rows p.vector m.vector g.vector))) list.live
      (λ g l. ap₂ (λ a b. a || b || not (covers rows p.vector m.vector g.vector)) (same_test g p l c) (same_test g m l k)))

  positives : List Numbered
  positives = filter (λ g. lt_ℚ zero_ℚ (dot row g.vector)) list.live

  negatives : List Numbered
  negatives = filter (λ g. lt_ℚ (dot row g.vector) zero_ℚ) list.live

  same_pairs : map without_numbers (live_pairs rows list.live row) ≡ new_pairs rows (vectors list.live) row
  unfolding positives negatives pair_of vector_pair
  same_pairs =
      ap (map without_numbers) (filter_same (is_uncovered_live rows list.live) (λ pair. is_uncovered rows (vectors list.live) (without_numbers pair))
      (products positives negatives)
      (All-weaker (λ pair. Contains list.live pair.plus_side × Contains list.live pair.minus_side)
      (λ pair. is_uncovered_live rows list.live pair ≡ is_uncovered rows (vectors list.live) (without_numbers pair))
      (λ pair h. same_uncovered pair.plus_side pair.minus_side h.0 h.1) (products positives negatives)
      (all_products (Contains list.live) (Contains list.live) positives negatives
      (all_of_members (Contains list.live) positives (λ g c. (Contains-filter_source (λ v. lt_ℚ zero_ℚ (dot row v.vector)) list.live g c).0))
      (all_of_members (Contains list.live) negatives (λ g c. (Contains-filter_source (λ v. lt_ℚ (dot row v.vector) zero_ℚ) list.live g c).0)))))
      ∙ sym (filter-map without_numbers (is_uncovered rows (vectors list.live)) (products positives negatives))
      ∙ ap (filter (is_uncovered rows (vectors list.live))) (forget_products positives negatives
      ∙ ap₂ (λ ps ms. flat_map (λ p. map (vector_pair p) ms) ps)
      (sym (filter-map (λ (g : Numbered). g.vector) (λ v. lt_ℚ zero_ℚ (dot row v)) list.live))
      (sym (filter-map (λ (g : Numbered). g.vector) (λ v. lt_ℚ (dot row v) zero_ℚ) list.live)))

  pub forget_step : vectors (step rows list row).live ≡ kept row (vectors list.live) ++ made row (new_pairs rows (vectors list.live) row)
  forget_step =
      map-append (λ (g : Numbered). g.vector) (staying row list.live) (numbered list.next (new_vectors rows list.live row))
      ∙ ap₂ (λ a b. a ++ b) (sym (filter-map (λ (g : Numbered). g.vector) (λ v. le_ℚ zero_ℚ (dot row v)) list.live))
      (vectors-numbered list.next (new_vectors rows list.live row) ∙ ap (made row) same_pairs)

pub third_by_number : ThirdByNumber
unfolding pair_of vector_pair
third_by_number n rows list r d pair c k = same_uncovered n rows list [] r d pair.plus_side pair.minus_side c k

pub step_is_addition : StepIsAddition
step_is_addition n rows list row r d = forget_step n rows list row r d

module _ (rows : List (List ℚ)) (list : LiveList) (row : List ℚ) (r : IsRising list) where
  fresh : List Numbered
  fresh = numbered list.next (new_vectors rows list.live row)

  many : length (new_vectors rows list.live row) ≡ length (live_pairs rows list.live row)
  many = length-two without_numbers _ (live_pairs rows list.live row)
    where
      length-two : {X Y Z : Type 0} (f : X → Y) (g : Y → Z) (xs : List X) → length (map g (map f xs)) ≡ length xs
      length-two f g [] = refl
      length-two f g (x ∷ xs) = ap suc (length-two f g xs)

  stays_below : (g : Numbered) → Contains (staying row list.live) g → Contains list.live g × (g.number < list.next)
  stays_below g c = let s : Contains list.live g × (le_ℚ zero_ℚ (dot row g.vector) ≡ true) =
      Contains-filter_source (λ v. le_ℚ zero_ℚ (dot row v.vector)) list.live g c in
      (s.0, member_of (λ v. v.number < list.next) list.live g r.below s.0)

  fresh_within : (g : Numbered) → Contains fresh g → (list.next ≤ g.number) × (g.number < list.next + length (live_pairs rows list.live row))
  unfolding fresh
  fresh_within g c = subst (λ (k : ℕ). (list.next ≤ g.number) × (g.number < list.next + k)) many
      (member_of (λ v. (list.next ≤ v.number) × (v.number < list.next + length (new_vectors rows list.live row))) fresh g
      (numbered_within list.next (new_vectors rows list.live row)) c)

  pub still_rising : IsRising (step rows list row)
  unfolding fresh
  still_rising = record {
    rises = pairs-append (λ a b. a.number < b.number) (staying row list.live) fresh
        (pairs-filter (λ a b. a.number < b.number) (λ g. le_ℚ zero_ℚ (dot row g.vector)) list.live r.rises)
        (numbered_rises list.next (new_vectors rows list.live row))
        (λ a b c k. order a b (stays_below a c).1 (fresh_within b k).0);
    below = all_of_members (λ g. g.number < list.next + length (live_pairs rows list.live row)) (staying row list.live ++ fresh)
        (λ g c. below g (Contains-append_cases (staying row list.live) fresh g c));
  }
    where
      order : (a b : Numbered) → a.number < list.next → list.next ≤ b.number → a.number < b.number
      order a b h k = omega arith

      below : (g : Numbered) → Contains (staying row list.live) g ⊎ Contains fresh g → g.number < list.next + length (live_pairs rows list.live row)
      below g (inl c) = let l : g.number < list.next = (stays_below g c).1 in omega arith
      below g (inr c) = (fresh_within g c).1

  old_or_new : (g : Numbered) → Contains (staying row list.live ++ fresh) g → Contains list.live g ⊎ (list.next ≤ g.number)
  old_or_new g c = elim (Contains-append_cases (staying row list.live) fresh g c) [
    | inl k ↦ inl (stays_below g k).0
    | inr k ↦ inr (fresh_within g k).0
  ]

  -- a number that is dropped and stays would be that of one generator
  gone : (k : ℕ) → Contains (dropped row list.live) k → Contains (numbers (staying row list.live ++ fresh)) k → ⊥
  gone k c l =
      let s : (g : Numbered) × Contains (filter (λ g. lt_ℚ (dot row g.vector) zero_ℚ) list.live) g × (g.number ≡ k) =
      Contains-map_source (λ (g : Numbered). g.number) (filter (λ g. lt_ℚ (dot row g.vector) zero_ℚ) list.live) k c in
      let t : (g : Numbered) × Contains (staying row list.live ++ fresh) g × (g.number ≡ k) =
      Contains-map_source (λ (g : Numbered). g.number) (staying row list.live ++ fresh) k l in
      let u : Contains list.live s.0 × (lt_ℚ (dot row s.0.vector) zero_ℚ ≡ true) =
      Contains-filter_source (λ v. lt_ℚ (dot row v.vector) zero_ℚ) list.live s.0 s.1 in
      by s.0 t.0 u.0 u.1 (s.2 ∙ sym t.2) (Contains-append_cases (staying row list.live) fresh t.0 t.1)
    where
      by : (a b : Numbered) → Contains list.live a → dot row a.vector <ℚ zero_ℚ → a.number ≡ b.number → Contains (staying row list.live) b ⊎ Contains fresh b → ⊥
      by a b m h e (inl q) =
          let v : Contains list.live b × (le_ℚ zero_ℚ (dot row b.vector) ≡ true) =
          Contains-filter_source (λ w. le_ℚ zero_ℚ (dot row w.vector)) list.live b q in
          not_lt_of_le zero_ℚ (dot row b.vector) v.1 (subst (λ (g : Numbered). dot row g.vector <ℚ zero_ℚ)
          (told_apart (λ (g : Numbered). g.number) list.live a b (distinct_numbers list r) m v.0 e) h)
      by a b m h e (inr q) =
          let x : a.number < list.next = member_of (λ v. v.number < list.next) list.live a r.below m in
          let y : list.next ≤ b.number = (fresh_within b q).0 in
          omega arith

pub numbers_stay : NumbersStay
unfolding fresh
numbers_stay rows list row r = record {
  rising = still_rising rows list row r;
  grows = omega arith;
  pairs_rise = pairs-filter ComesBefore (is_uncovered_live rows list.live) (products (filter (λ g. lt_ℚ zero_ℚ (dot row g.vector)) list.live)
      (filter (λ g. lt_ℚ (dot row g.vector) zero_ℚ) list.live))
      (products_rise (filter (λ g. lt_ℚ zero_ℚ (dot row g.vector)) list.live) (filter (λ g. lt_ℚ (dot row g.vector) zero_ℚ) list.live)
      (pairs-filter (λ a b. a.number < b.number) (λ g. lt_ℚ zero_ℚ (dot row g.vector)) list.live r.rises)
      (pairs-filter (λ a b. a.number < b.number) (λ g. lt_ℚ (dot row g.vector) zero_ℚ) list.live r.rises));
  old_or_new = all_of_members (λ g. Contains list.live g ⊎ (list.next ≤ g.number)) (step rows list row).live (old_or_new rows list row r);
  gone = all_of_members (λ k. Contains (numbers (step rows list row).live) k → ⊥) (dropped row list.live) (gone rows list row r);
}

pub length-numbered : (k : ℕ) (vs : List (List ℚ)) → length (numbered k vs) ≡ length vs
length-numbered k [] = refl
length-numbered k (v ∷ vs) = ap suc (length-numbered (suc k) vs)

pub numbered_push : (k : ℕ) (vs : List (List ℚ)) (v : List ℚ) → numbered k (vs ++ v ∷ []) ≡ numbered k vs ++ record { number = k + length vs; vector = v } ∷ []
numbered_push k [] v = ap (λ n. record { number = n; vector = v } ∷ []) (let e : k ≡ k + 0 = omega arith in e)
numbered_push k (w ∷ vs) v = ap (λ l. record { number = k; vector = w } ∷ l) (numbered_push (suc k) vs v
    ∙ ap (λ n. numbered (suc k) vs ++ record { number = n; vector = v } ∷ []) (let e : suc k + length vs ≡ k + suc (length vs) = omega arith in e))
