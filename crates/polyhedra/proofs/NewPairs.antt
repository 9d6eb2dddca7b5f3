-- The list of new pairs has each opposite pair that no third generator covers, and once.
use Rattle.std.proofs.Common.{◌≡◌, ℕ, List, [], ◌∷◌, ◌++◌, map, All, AllPairs, Contains, refl, sym, ap, ◌∙◌, subst, ◌⊎◌, inl, inr, Bool, true, not, ◌||◌, filter, flat_map}
use Rattle.std.proofs.lemmas.List.Elements.{All-head, All-tail, Contains-append_left, Contains-append_right, Contains-append_cases}
use Rattle.exact_field.specs.Rational.{ℚ, zero_ℚ, lt_ℚ, ◌<ℚ◌}
use Rattle.exact_field.specs.Vector.{dot}
use Rattle.polyhedra.specs.TightSets.{IsTight, Covers, AreApart, IsDoubleDescriptionPair}
use Rattle.polyhedra.specs.DoubleDescription.{is_zero, same_vector, covers, is_uncovered, opposite_pairs, new_pairs, Pair, IsNewPair, ArePairs, NewPairsAreExact, AdditionDescribes}
use Rattle.polyhedra.proofs.Lists.{Contains-here, Contains-there, Contains-cases, Contains-nil}
use Rattle.polyhedra.proofs.Members.{all_of_members, member_of, Contains-map, Contains-map_source, Contains-filter, Contains-filter_source, pairs-nil, pairs-head, pairs-tail, pairs-append, pairs-filter, pairs-map, pairs-weaker}
use Rattle.polyhedra.proofs.OneAddition.{one_addition}
use Rattle.polyhedra.proofs.Tests.{either_true, list_all-true, not_true, or_left, or_right, same_vector-self, same_vector_is, test_of_zero, true-list_all, true_or_not, zero_of_test}

-- ---- what the tests say
covers_is : (rows : List (List ℚ)) (a b g : List ℚ) → covers rows a b g ≡ true → Covers rows a b g
covers_is rows a b g h = all_of_members (λ r. IsTight r a → IsTight r b → IsTight r g) rows
    (λ r c e f. at_row r e f (member_of (λ w. (not (is_zero (dot w a)) || not (is_zero (dot w b)) || is_zero (dot w g)) ≡ true) rows r
    (list_all-true (λ w. not (is_zero (dot w a)) || not (is_zero (dot w b)) || is_zero (dot w g)) rows h) c))
  where
    more : (r : List ℚ) → IsTight r a → IsTight r b → ((not (is_zero (dot r a)) || not (is_zero (dot r b))) ≡ true) ⊎ (is_zero (dot r g) ≡ true) → IsTight r g
    more r e f (inr k) = zero_of_test (dot r g) k
    more r e f (inl k) = absurd (no_row (either_true (not (is_zero (dot r a))) (not (is_zero (dot r b))) k))
      where
        no_row : (not (is_zero (dot r a)) ≡ true) ⊎ (not (is_zero (dot r b)) ≡ true) → ⊥
        no_row (inl m) = not_true (is_zero (dot r a)) m (test_of_zero (dot r a) e)
        no_row (inr m) = not_true (is_zero (dot r b)) m (test_of_zero (dot r b) f)

    at_row : (r : List ℚ) → IsTight r a → IsTight r b → (not (is_zero (dot r a)) || not (is_zero (dot r b)) || is_zero (dot r g)) ≡ true → IsTight r g
    at_row r e f k = more r e f (either_true (not (is_zero (dot r a)) || not (is_zero (dot r b))) (is_zero (dot r g)) k)

covers_test : (rows : List (List ℚ)) (a b g : List ℚ) → Covers rows a b g → covers rows a b g ≡ true
covers_test rows a b g h = true-list_all (λ w. not (is_zero (dot w a)) || not (is_zero (dot w b)) || is_zero (dot w g)) rows
    (all_of_members (λ r. (not (is_zero (dot r a)) || not (is_zero (dot r b)) || is_zero (dot r g)) ≡ true) rows (λ r c.
    at_row r (member_of (λ w. IsTight w a → IsTight w b → IsTight w g) rows r h c) (true_or_not (is_zero (dot r a))) (true_or_not (is_zero (dot r b)))))
  where
    at_row : (r : List ℚ) → (IsTight r a → IsTight r b → IsTight r g) → (is_zero (dot r a) ≡ true) ⊎ (not (is_zero (dot r a)) ≡ true) →
        (is_zero (dot r b) ≡ true) ⊎ (not (is_zero (dot r b)) ≡ true) →
        (not (is_zero (dot r a)) || not (is_zero (dot r b)) || is_zero (dot r g)) ≡ true
    at_row r k (inr m) t = or_left (not (is_zero (dot r a)) || not (is_zero (dot r b))) (is_zero (dot r g))
        (or_left (not (is_zero (dot r a))) (not (is_zero (dot r b))) m)
    at_row r k (inl m) (inr t) = or_left (not (is_zero (dot r a)) || not (is_zero (dot r b))) (is_zero (dot r g))
        (or_right (not (is_zero (dot r a))) (not (is_zero (dot r b))) t)
    at_row r k (inl m) (inl t) = or_right (not (is_zero (dot r a)) || not (is_zero (dot r b))) (is_zero (dot r g))
        (test_of_zero (dot r g) (k (zero_of_test (dot r a) m) (zero_of_test (dot r b) t)))

abbrev pub Free : List (List ℚ) → Pair → List ℚ → Type 0
Free rows pair g = (g ≡ pair.plus_side → ⊥) → (g ≡ pair.minus_side → ⊥) → Covers rows pair.plus_side pair.minus_side g → ⊥

abbrev pub free_test : List (List ℚ) → Pair → List ℚ → Bool
free_test rows pair g = same_vector g pair.plus_side || same_vector g pair.minus_side || not (covers rows pair.plus_side pair.minus_side g)

pub free_is : (rows : List (List ℚ)) (pair : Pair) (g : List ℚ) → free_test rows pair g ≡ true → Free rows pair g
free_is rows pair g h x y z = go (either_true (same_vector g pair.plus_side || same_vector g pair.minus_side)
    (not (covers rows pair.plus_side pair.minus_side g)) h)
  where
    one_of : (same_vector g pair.plus_side ≡ true) ⊎ (same_vector g pair.minus_side ≡ true) → ⊥
    one_of (inl k) = x (same_vector_is g pair.plus_side k)
    one_of (inr k) = y (same_vector_is g pair.minus_side k)

    go : ((same_vector g pair.plus_side || same_vector g pair.minus_side) ≡ true) ⊎ (not (covers rows pair.plus_side pair.minus_side g) ≡ true) → ⊥
    go (inl k) = one_of (either_true (same_vector g pair.plus_side) (same_vector g pair.minus_side) k)
    go (inr k) = not_true (covers rows pair.plus_side pair.minus_side g) k (covers_test rows pair.plus_side pair.minus_side g z)

pub free_holds : (rows : List (List ℚ)) (pair : Pair) (g : List ℚ) → Free rows pair g → free_test rows pair g ≡ true
free_holds rows pair g h = go (true_or_not (same_vector g pair.plus_side)) (true_or_not (same_vector g pair.minus_side))
    (true_or_not (covers rows pair.plus_side pair.minus_side g))
  where
    left : Bool
    left = same_vector g pair.plus_side || same_vector g pair.minus_side

    differs : (v : List ℚ) → not (same_vector g v) ≡ true → g ≡ v → ⊥
    differs v k e = not_true (same_vector g v) k (subst (λ (w : List ℚ). same_vector g w ≡ true) e (same_vector-self g))

    go : (same_vector g pair.plus_side ≡ true) ⊎ (not (same_vector g pair.plus_side) ≡ true) → (same_vector g pair.minus_side ≡ true) ⊎
        (not (same_vector g pair.minus_side) ≡ true) →
        (covers rows pair.plus_side pair.minus_side g ≡ true) ⊎ (not (covers rows pair.plus_side pair.minus_side g) ≡ true) → free_test rows pair g ≡ true
    go (inl k) s t = or_left left (not (covers rows pair.plus_side pair.minus_side g))
        (or_left (same_vector g pair.plus_side) (same_vector g pair.minus_side) k)
    go (inr k) (inl s) t = or_left left (not (covers rows pair.plus_side pair.minus_side g))
        (or_right (same_vector g pair.plus_side) (same_vector g pair.minus_side) s)
    go (inr k) (inr s) (inr t) = or_right left (not (covers rows pair.plus_side pair.minus_side g)) t
    go (inr k) (inr s) (inl t) = absurd (h (differs pair.plus_side k) (differs pair.minus_side s) (covers_is rows pair.plus_side pair.minus_side g t))

-- ---- members of a list that is joined of lists
Contains-flat_map : {X Y : Type 0} (f : X → List Y) (xs : List X) (x : X) (y : Y) → Contains xs x → Contains (f x) y → Contains (flat_map f xs) y
Contains-flat_map f [] x y h k = absurd (Contains-nil x h)
Contains-flat_map f (z ∷ xs) x y h k = go (Contains-cases z xs x h) (λ m. Contains-flat_map f xs x y m k)
  where
    go : (z ≡ x) ⊎ Contains xs x → (Contains xs x → Contains (flat_map f xs) y) → Contains (f z ++ flat_map f xs) y
    go (inl e) again = Contains-append_left (f z) (flat_map f xs) y (subst (λ w. Contains (f w) y) (sym e) k)
    go (inr m) again = Contains-append_right (f z) (flat_map f xs) y (again m)

Contains-flat_map_source : {X Y : Type 0} (f : X → List Y) (xs : List X) (y : Y) → Contains (flat_map f xs) y → (x : X) × Contains xs x × Contains (f x) y
Contains-flat_map_source f [] y h = absurd (Contains-nil y h)
Contains-flat_map_source {X} f (z ∷ xs) y h = go (Contains-append_cases (f z) (flat_map f xs) y h) (Contains-flat_map_source f xs y)
  where
    go : Contains (f z) y ⊎ Contains (flat_map f xs) y → (Contains (flat_map f xs) y → (x : X) × Contains xs x × Contains (f x) y) →
        (x : X) × Contains (z ∷ xs) x × Contains (f x) y
    go (inl k) again = (z, Contains-here z xs z refl, k)
    go (inr k) again = let s : (x : X) × Contains xs x × Contains (f x) y = again k in (s.0, Contains-there z xs s.0 s.1, s.2)

pairs-flat_map : {X Y : Type 0} (R : Y → Y → Type 0) (f : X → List Y) (xs : List X) → All (λ x. AllPairs R (f x)) xs → AllPairs
    (λ x z. (a b : Y) → Contains (f x) a → Contains (f z) b → R a b) xs → AllPairs R (flat_map f xs)
pairs-flat_map R f [] h k = pairs-nil R
pairs-flat_map {X} {Y} R f (x ∷ xs) h k =
    pairs-append R (f x) (flat_map f xs) (All-head (λ w. AllPairs R (f w)) x xs h)
    (pairs-flat_map R f xs (All-tail (λ w. AllPairs R (f w)) x xs h) (pairs-tail Cross x xs k))
    (λ a b c d. let s : (z : X) × Contains xs z × Contains (f z) b = Contains-flat_map_source f xs b d in member_of (Cross x) xs s.0
    (pairs-head Cross x xs k) s.1 a b c s.2)
  where
    Cross : X → X → Type 0
    Cross w z = (a b : Y) → Contains (f w) a → Contains (f z) b → R a b

-- ---- the new pairs
module _ (n : ℕ) (rows gens : List (List ℚ)) (row : List ℚ) (d : IsDoubleDescriptionPair n rows gens) where
  -- generators whose tight sets lie in no other are distinct
  gens_distinct : AllPairs (λ a b. a ≡ b → ⊥) gens
  gens_distinct = pairs-weaker (AreApart rows) (λ a b. a ≡ b → ⊥) gens (λ a b h k m e.
      m.first (all_of_members (λ r. IsTight r a → IsTight r b) rows (λ r c t. ap (λ v. dot r v) (sym e) ∙ t))) d.apart

  with_minus : List ℚ → List ℚ → Pair
  with_minus p m = record { plus_side = p; minus_side = m }

  positives : List (List ℚ)
  positives = filter (λ g. lt_ℚ zero_ℚ (dot row g)) gens

  negatives : List (List ℚ)
  negatives = filter (λ g. lt_ℚ (dot row g) zero_ℚ) gens

  opposite_once : AllPairs (λ a b. a ≡ b → ⊥) (opposite_pairs row gens)
  unfolding positives negatives with_minus
  opposite_once = pairs-flat_map (λ a b. a ≡ b → ⊥) (λ p. map (with_minus p) negatives) positives
      (all_of_members (λ p. AllPairs (λ a b. a ≡ b → ⊥) (map (with_minus p) negatives)) positives (λ p c.
      pairs-map (λ a b. a ≡ b → ⊥) (with_minus p) negatives
      (pairs-weaker (λ a b. a ≡ b → ⊥) (λ a b. with_minus p a ≡ with_minus p b → ⊥) negatives (λ a b h k m e. m (λ i. (e i).minus_side))
      (pairs-filter (λ a b. a ≡ b → ⊥) (λ g. lt_ℚ (dot row g) zero_ℚ) gens gens_distinct))))
      (pairs-weaker (λ a b. a ≡ b → ⊥) (λ p q. (a b : Pair) → Contains (map (with_minus p) negatives) a → Contains (map (with_minus q) negatives) b →
      a ≡ b → ⊥) positives
      (λ p q h k m a b x y e.
      let s : (v : List ℚ) × Contains negatives v × (with_minus p v ≡ a) = Contains-map_source (with_minus p) negatives a x in
      let t : (v : List ℚ) × Contains negatives v × (with_minus q v ≡ b) = Contains-map_source (with_minus q) negatives b y in
      m (λ i. ((s.2 ∙ e ∙ sym t.2) i).plus_side))
      (pairs-filter (λ a b. a ≡ b → ⊥) (λ g. lt_ℚ zero_ℚ (dot row g)) gens gens_distinct))

  opposite_listed : (pair : Pair) → Contains gens pair.plus_side → Contains gens pair.minus_side → zero_ℚ <ℚ dot row pair.plus_side →
      dot row pair.minus_side <ℚ zero_ℚ → Contains (opposite_pairs row gens) pair
  unfolding positives negatives with_minus
  opposite_listed pair h k p q =
      Contains-flat_map (λ v. map (with_minus v) negatives) positives pair.plus_side pair
      (Contains-filter (λ g. lt_ℚ zero_ℚ (dot row g)) gens pair.plus_side h p)
      (Contains-map (with_minus pair.plus_side) negatives pair.minus_side (Contains-filter (λ g. lt_ℚ (dot row g) zero_ℚ) gens pair.minus_side k q))

  new_from_listed : (pair : Pair) → Contains (new_pairs rows gens row) pair → IsNewPair rows gens row pair
  unfolding positives negatives with_minus
  new_from_listed pair c =
      let s : Contains (opposite_pairs row gens) pair × (is_uncovered rows gens pair ≡ true) = Contains-filter_source (is_uncovered rows gens)
      (opposite_pairs row gens) pair c in
      let t : (p : List ℚ) × Contains positives p × Contains (map (with_minus p) negatives) pair = Contains-flat_map_source
      (λ v. map (with_minus v) negatives) positives pair s.0 in
      let u : (m : List ℚ) × Contains negatives m × (with_minus t.0 m ≡ pair) = Contains-map_source (with_minus t.0) negatives pair t.2 in
      let p : Contains gens t.0 × (lt_ℚ zero_ℚ (dot row t.0) ≡ true) = Contains-filter_source (λ g. lt_ℚ zero_ℚ (dot row g)) gens t.0 t.1 in
      let m : Contains gens u.0 × (lt_ℚ (dot row u.0) zero_ℚ ≡ true) = Contains-filter_source (λ g. lt_ℚ (dot row g) zero_ℚ) gens u.0 u.1 in
      record {
        plus_listed = subst (λ (q : Pair). Contains gens q.plus_side) u.2 p.0;
        minus_listed = subst (λ (q : Pair). Contains gens q.minus_side) u.2 m.0;
        positive = subst (λ (q : Pair). zero_ℚ <ℚ dot row q.plus_side) u.2 p.1;
        negative = subst (λ (q : Pair). dot row q.minus_side <ℚ zero_ℚ) u.2 m.1;
        uncovered = all_of_members (Free rows pair) gens (λ g k. free_is rows pair g
            (member_of (λ v. free_test rows pair v ≡ true) gens g (list_all-true (free_test rows pair) gens s.1) k));
      }

  pub exact_pairs : ArePairs rows gens row (new_pairs rows gens row)
  exact_pairs = record {
    each = all_of_members (IsNewPair rows gens row) (new_pairs rows gens row) new_from_listed;
    every = λ pair h. Contains-filter (is_uncovered rows gens) (opposite_pairs row gens) pair
        (opposite_listed pair h.plus_listed h.minus_listed h.positive h.negative)
        (true-list_all (free_test rows pair) gens (all_of_members (λ v. free_test rows pair v ≡ true) gens
        (λ g k. free_holds rows pair g (member_of (Free rows pair) gens g h.uncovered k))));
    once = pairs-filter (λ a b. a ≡ b → ⊥) (is_uncovered rows gens) (opposite_pairs row gens) opposite_once;
  }

pub new_pairs_are_exact : NewPairsAreExact
new_pairs_are_exact n rows gens row d = exact_pairs n rows gens row d

pub addition_describes : AdditionDescribes
addition_describes n rows gens row d h = one_addition n rows gens row (new_pairs rows gens row) d h (exact_pairs n rows gens row d)
