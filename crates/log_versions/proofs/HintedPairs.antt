-- Hints show that the pairs are those that are required, and each pair that is not required has one.
use Rattle.std.proofs.Common.{◌≡◌, ℕ, ◌<◌, ◌⊎◌, inl, inr, List, [], ◌∷◌, refl, sym, ap, ◌∙◌, subst, arith, Bool, true, false, true≢false, not, ◌&&◌, ◌||◌, ◌==◌, nat_eq, nat_lt, IsTrue, map, filter, All, AllPairs, Contains, Option, None, Some}
use Rattle.std.specs.List.{list_any}
use Rattle.std.proofs.lemmas.Bool.{eqb-true, eq-eqb, ltb-true, lt-ltb}
use Rattle.std.proofs.lemmas.List.Elements.{All-head, All-tail, Contains-append_cases}
use Rattle.exact_field.specs.Rational.{ℚ, zero_ℚ, lt_ℚ}
use Rattle.polyhedra.specs.DoubleDescription.{covers}
use Rattle.polyhedra.specs.LiveList.{Numbered, LiveList, LivePair, IsRising, ComesBefore, products, live_pairs, is_uncovered_live}
use Rattle.polyhedra.proofs.LiveList.{numbers_stay}
use Rattle.polyhedra.proofs.Lists.{Contains-here, Contains-there, Contains-cases, Contains-nil}
use Rattle.polyhedra.proofs.Members.{all_of_members, member_of, Contains-map, Contains-map_source, Contains-filter, Contains-filter_source, pairs-nil, pairs-head, pairs-tail, pairs-append, pairs-filter, pairs-map, pairs-weaker}
use Rattle.polyhedra.proofs.SolvedAreExact.{rising_lists_are_equal}
use Rattle.polyhedra.proofs.Tests.{both_true, both_hold, either_true, or_left, or_right, not_true, list_all-true, true_or_not}
use Rattle.word_lines.specs.declared.part.LogPair.{LogPair}
use Rattle.log_rules.specs.Live.{value, find, cut_row, rows_in_use, required_pairs, log_pair}
use Rattle.log_rules.proofs.Kept.{find_is}
use Rattle.log_rules.proofs.PassedTests.{passes_some}
use Rattle.log_versions.specs.Hints.{opposite_pairs, named_pair, same_pair, lists, unlisted, pair_before, is_hint, are_hints, first_cover, least_hints}
use Rattle.log_versions.specs.Laws.{HintsShowPairs, PairsHaveHints}

-- ---- the order of pairs
abbrev pub Before : LogPair → LogPair → Type 0
Before p r = IsTrue (pair_before p r)

-- what it says, and back
says : (p r : LogPair) → Before p r → (p.plus < r.plus) ⊎ ((p.plus ≡ r.plus) × (p.minus < r.minus))
says p r h = go (either_true (nat_lt p.plus r.plus) (p.plus == r.plus && nat_lt p.minus r.minus) h)
  where
    go : (nat_lt p.plus r.plus ≡ true) ⊎ ((p.plus == r.plus && nat_lt p.minus r.minus) ≡ true) → (p.plus < r.plus) ⊎ ((p.plus ≡ r.plus) × (p.minus < r.minus))
    go (inl k) = inl (ltb-true p.plus r.plus k)
    go (inr k) = let b = both_true (p.plus == r.plus) (nat_lt p.minus r.minus) k in inr (eqb-true p.plus r.plus b.0, ltb-true p.minus r.minus b.1)

means : (p r : LogPair) → (p.plus < r.plus) ⊎ ((p.plus ≡ r.plus) × (p.minus < r.minus)) → Before p r
means p r (inl h) = or_left (nat_lt p.plus r.plus) (p.plus == r.plus && nat_lt p.minus r.minus) (lt-ltb p.plus r.plus h)
means p r (inr h) = or_right (nat_lt p.plus r.plus) (p.plus == r.plus && nat_lt p.minus r.minus)
    (both_hold (p.plus == r.plus) (nat_lt p.minus r.minus) (eq-eqb p.plus r.plus h.0) (lt-ltb p.minus r.minus h.1))

pub never_before : (p : LogPair) → Before p p → ⊥
never_before p h = go (says p p h)
  where
    go : (p.plus < p.plus) ⊎ ((p.plus ≡ p.plus) × (p.minus < p.minus)) → ⊥
    go (inl k) = omega (arith, k)
    go (inr k) = let l = k.1 in omega (arith, l)

pub before_through : (p r s : LogPair) → Before p r → Before r s → Before p s
before_through p r s h k = means p s (go (says p r h) (says r s k))
  where
    go : (p.plus < r.plus) ⊎ ((p.plus ≡ r.plus) × (p.minus < r.minus)) → (r.plus < s.plus) ⊎ ((r.plus ≡ s.plus) × (r.minus < s.minus)) →
        (p.plus < s.plus) ⊎ ((p.plus ≡ s.plus) × (p.minus < s.minus))
    go (inl a) (inl b) = inl (omega (arith, a, b))
    go (inl a) (inr b) = inl (let c = b.0 in omega (arith, a, c))
    go (inr a) (inl b) = inl (let c = a.0 in omega (arith, b, c))
    go (inr a) (inr b) = inr (a.0 ∙ b.0, let c = a.1 in let d = b.1 in omega (arith, c, d))

-- ---- tests on lists
some_member : {X : Type 0} (test : X → Bool) (xs : List X) → list_any test xs ≡ true → (x : X) × Contains xs x × (test x ≡ true)
some_member test [] h = absurd (true≢false (sym h))
some_member {X} test (y ∷ xs) h = go (either_true (test y) (list_any test xs) h) (some_member test xs)
  where
    go : (test y ≡ true) ⊎ (list_any test xs ≡ true) → (list_any test xs ≡ true → (x : X) × Contains xs x × (test x ≡ true)) →
        (x : X) × Contains (y ∷ xs) x × (test x ≡ true)
    go (inl k) again = (y, Contains-here y xs y refl, k)
    go (inr k) again = let s : (x : X) × Contains xs x × (test x ≡ true) = again k in (s.0, Contains-there y xs s.0 s.1, s.2)

pub listed_is : (pairs : List LogPair) (pair : LogPair) → lists pairs pair ≡ true → Contains pairs pair
listed_is pairs pair h =
    let s : (r : LogPair) × Contains pairs r × (same_pair pair r ≡ true) = some_member (same_pair pair) pairs h in
    let b = both_true (pair.plus == s.0.plus) (pair.minus == s.0.minus) s.2 in
    subst (λ (r : LogPair). Contains pairs r)
    (λ i. record { plus = sym (eqb-true pair.plus s.0.plus b.0) i; minus = sym (eqb-true pair.minus s.0.minus b.1) i }) s.1

pub lists_passes : (pairs : List LogPair) (p : LogPair) → Contains pairs p → lists pairs p ≡ true
lists_passes pairs p c = passes_some (same_pair p) pairs p c (both_hold (p.plus == p.plus) (p.minus == p.minus) (eq-eqb p.plus p.plus refl) (eq-eqb p.minus p.minus refl))

-- ---- opposite pairs rise
products_rise : (ps ms : List Numbered) → AllPairs (λ a b. a.number < b.number) ps → AllPairs (λ a b. a.number < b.number) ms →
    AllPairs (λ a b. Before (named_pair a) (named_pair b)) (products ps ms)
products_rise [] ms h k = pairs-nil (λ a b. Before (named_pair a) (named_pair b))
products_rise (p ∷ ps) ms h k =
    pairs-append (λ a b. Before (named_pair a) (named_pair b)) (map with_minus ms) (products ps ms)
    (pairs-map (λ a b. Before (named_pair a) (named_pair b)) with_minus ms (pairs-weaker (λ a b. a.number < b.number)
    (λ a b. Before (named_pair (with_minus a)) (named_pair (with_minus b))) ms (λ a b _ _ l. means (named_pair (with_minus a)) (named_pair (with_minus b)) (inr (refl, l))) k))
    (products_rise ps ms (pairs-tail (λ a b. a.number < b.number) p ps h) k)
    (λ x y c d.
    let s : (m : Numbered) × Contains ms m × (with_minus m ≡ x) = Contains-map_source with_minus ms x c in
    let t : p.number < y.plus_side.number = plus_later ps ms y (pairs-head (λ a b. a.number < b.number) p ps h) d in
    subst (λ (z : LivePair). Before (named_pair z) (named_pair y)) s.2 (means (named_pair (with_minus s.0)) (named_pair y) (inl t)))
  where
    with_minus : Numbered → LivePair
    with_minus m = record { plus_side = p; minus_side = m }

    plus_later : (qs ns : List Numbered) (y : LivePair) → All (λ q. p.number < q.number) qs → Contains (products qs ns) y → p.number < y.plus_side.number
    plus_later [] ns y l c = absurd (Contains-nil y c)
    plus_later (q ∷ qs) ns y l c = go (Contains-append_cases (map (λ m. record { plus_side = q; minus_side = m }) ns) (products qs ns) y c)
        (plus_later qs ns y (All-tail (λ r. p.number < r.number) q qs l))
      where
        go : Contains (map (λ m. record { plus_side = q; minus_side = m }) ns) y ⊎ Contains (products qs ns) y → (Contains (products qs ns) y → p.number < y.plus_side.number) → p.number < y.plus_side.number
        go (inr d) again = again d
        go (inl d) again =
            let s : (m : Numbered) × Contains ns m × (record { plus_side = q; minus_side = m } ≡ y) = Contains-map_source (λ m. record { plus_side = q; minus_side = m }) ns y d in
            subst (λ (z : LivePair). p.number < z.plus_side.number) s.2 (All-head (λ r. p.number < r.number) q qs l)

pub opposite_rise : (list : LiveList) (row : List ℚ) → IsRising list → AllPairs (λ a b. Before (named_pair a) (named_pair b)) (opposite_pairs list.live row)
opposite_rise list row rising =
    products_rise (filter (λ g. lt_ℚ zero_ℚ (value row g)) list.live) (filter (λ g. lt_ℚ (value row g) zero_ℚ) list.live)
    (pairs-filter (λ a b. a.number < b.number) (λ g. lt_ℚ zero_ℚ (value row g)) list.live rising.rises)
    (pairs-filter (λ a b. a.number < b.number) (λ g. lt_ℚ (value row g) zero_ℚ) list.live rising.rises)

-- the required pairs are the names of the opposite pairs that no third one covers
pub required_names : (rows : List (List ℚ)) (list : LiveList) (row : List ℚ) (p : LogPair) → Contains (required_pairs rows list.live row) p →
    Contains (map named_pair (filter (is_uncovered_live rows list.live) (opposite_pairs list.live row))) p
required_names rows list row p c =
    let a : (k : ℕ × ℕ) × Contains _ k × (log_pair k ≡ p) = Contains-map_source log_pair _ p c in
    let b : (pair : LivePair) × Contains (live_pairs rows list.live row) pair × ((pair.plus_side.number, pair.minus_side.number) ≡ a.0) =
    Contains-map_source (λ (pair : LivePair). (pair.plus_side.number, pair.minus_side.number)) (live_pairs rows list.live row) a.0 a.1 in
    subst (λ (q : LogPair). Contains (map named_pair (live_pairs rows list.live row)) q) (ap log_pair b.2 ∙ a.2)
    (Contains-map named_pair (live_pairs rows list.live row) b.0 b.1)

pub names_required : (rows : List (List ℚ)) (list : LiveList) (row : List ℚ) (p : LogPair) →
    Contains (map named_pair (filter (is_uncovered_live rows list.live) (opposite_pairs list.live row))) p → Contains (required_pairs rows list.live row) p
names_required rows list row p c =
    let s : (pair : LivePair) × Contains (live_pairs rows list.live row) pair × (named_pair pair ≡ p) = Contains-map_source named_pair (live_pairs rows list.live row) p c in
    subst (λ (q : LogPair). Contains (required_pairs rows list.live row) q) s.2
    (Contains-map log_pair (map (λ (q : LivePair). (q.plus_side.number, q.minus_side.number)) (live_pairs rows list.live row)) (s.0.plus_side.number, s.0.minus_side.number)
    (Contains-map (λ (q : LivePair). (q.plus_side.number, q.minus_side.number)) (live_pairs rows list.live row) s.0 s.1))

-- ---- the pairs that are required
module _ (rows : List (List ℚ)) (list : LiveList) (row : List ℚ) (rising : IsRising list) where
  abbrev pub required : List LogPair
  required = required_pairs rows list.live row

  -- each is that of an opposite pair that no third one covers, and back
  pub required_source : (p : LogPair) → Contains required p → (pair : LivePair) × Contains (live_pairs rows list.live row) pair × (named_pair pair ≡ p)
  required_source p c =
      let a : (k : ℕ × ℕ) × Contains _ k × (log_pair k ≡ p) = Contains-map_source log_pair _ p c in
      let b : (pair : LivePair) × Contains (live_pairs rows list.live row) pair × ((pair.plus_side.number, pair.minus_side.number) ≡ a.0) =
      Contains-map_source (λ (pair : LivePair). (pair.plus_side.number, pair.minus_side.number)) (live_pairs rows list.live row) a.0 a.1 in
      (b.0, b.1, ap log_pair b.2 ∙ a.2)

  pub required_rise : AllPairs Before required
  required_rise =
      pairs-map Before log_pair (map (λ (pair : LivePair). (pair.plus_side.number, pair.minus_side.number)) (live_pairs rows list.live row))
      (pairs-map (λ a b. Before (log_pair a) (log_pair b)) (λ (pair : LivePair). (pair.plus_side.number, pair.minus_side.number)) (live_pairs rows list.live row)
      (pairs-weaker ComesBefore (λ a b. Before (named_pair a) (named_pair b)) (live_pairs rows list.live row) (λ a b _ _ h. means (named_pair a) (named_pair b) h)
      (numbers_stay rows list row rising).pairs_rise))

  -- ---- a hint covers its pair
  pub hint_covers : (pair : LivePair) (k : ℕ) → is_hint rows list.live pair k ≡ true → is_uncovered_live rows list.live pair ≡ true → ⊥
  hint_covers pair k h u = go (find list.live k) refl
    where
      third : Numbered → Bool
      third g = nat_eq g.number pair.plus_side.number || nat_eq g.number pair.minus_side.number
          || not (covers rows pair.plus_side.vector pair.minus_side.vector g.vector)

      found : (live : List Numbered) (g : Numbered) → find live k ≡ Some g → Contains live g
      found [] g e = cc
      found (f ∷ live) g e = by (f.number == k) e (found live g)
        where
          by : (b : Bool) → ◌≡◌ {A = Option Numbered} (elim b [ true ↦ Some f | false ↦ find live k ]) (Some g) → (find live k ≡ Some g → Contains live g) → Contains (f ∷ live) g
          by true i again = Contains-here f live g cc
          by false i again = Contains-there f live g (again i)

      apart : (x y z : Bool) → (not x && not y && z) ≡ true → (x || y || not z) ≡ true → ⊥
      apart true y z i j = true≢false (sym i)
      apart false true z i j = true≢false (sym i)
      apart false false true i j = true≢false (sym j)
      apart false false false i j = true≢false (sym i)

      go : (o : Option Numbered) → find list.live k ≡ o → ⊥
      go None e = absurd (true≢false (sym (sym (ap (λ (o : Option Numbered). elim o [
        | Some g ↦ not (nat_eq g.number pair.plus_side.number) && not (nat_eq g.number pair.minus_side.number)
            && covers rows pair.plus_side.vector pair.minus_side.vector g.vector
        | None ↦ false
      ]) e) ∙ h)))
      go (Some g) e = apart (nat_eq g.number pair.plus_side.number) (nat_eq g.number pair.minus_side.number)
          (covers rows pair.plus_side.vector pair.minus_side.vector g.vector)
          (sym (ap (λ (o : Option Numbered). elim o [
            | Some f ↦ not (nat_eq f.number pair.plus_side.number) && not (nat_eq f.number pair.minus_side.number)
                && covers rows pair.plus_side.vector pair.minus_side.vector f.vector
            | None ↦ false
          ]) e) ∙ h)
          (member_of (λ f. third f ≡ true) list.live g (list_all-true third list.live u) (found list.live g e))

  -- each of these pairs has one
  pub has_hint : (pairs : List LivePair) (hints : List ℕ) → are_hints rows list.live pairs hints ≡ true → (pair : LivePair) → Contains pairs pair →
      (k : ℕ) × (is_hint rows list.live pair k ≡ true)
  has_hint [] hints h pair c = absurd (Contains-nil pair c)
  has_hint (p ∷ pairs) [] h pair c = absurd (true≢false (sym h))
  has_hint (p ∷ pairs) (k ∷ hints) h pair c =
      let b = both_true (is_hint rows list.live p k) (are_hints rows list.live pairs hints) h in
      go (Contains-cases p pairs pair c) b.0 (has_hint pairs hints b.1 pair)
    where
      go : (p ≡ pair) ⊎ Contains pairs pair → is_hint rows list.live p k ≡ true →
          (Contains pairs pair → (j : ℕ) × (is_hint rows list.live pair j ≡ true)) → (j : ℕ) × (is_hint rows list.live pair j ≡ true)
      go (inl e) i again = (k, subst (λ (q : LivePair). is_hint rows list.live q k ≡ true) e i)
      go (inr m) i again = again m

  -- so a required pair is listed
  required_listed : (pairs : List LogPair) (hints : List ℕ) → are_hints rows list.live (unlisted list.live row pairs) hints ≡ true →
      (p : LogPair) → Contains required p → Contains pairs p
  required_listed pairs hints h p c =
      let s : (pair : LivePair) × Contains (live_pairs rows list.live row) pair × (named_pair pair ≡ p) = required_source p c in
      let f : Contains (opposite_pairs list.live row) s.0 × (is_uncovered_live rows list.live s.0 ≡ true) =
      Contains-filter_source (is_uncovered_live rows list.live) (opposite_pairs list.live row) s.0 s.1 in
      go s.0 s.2 f.0 f.1 (true_or_not (lists pairs (named_pair s.0)))
    where
      go : (pair : LivePair) → named_pair pair ≡ p → Contains (opposite_pairs list.live row) pair → is_uncovered_live rows list.live pair ≡ true →
          (lists pairs (named_pair pair) ≡ true) ⊎ (not (lists pairs (named_pair pair)) ≡ true) → Contains pairs p
      go pair e o u (inl k) = subst (λ (r : LogPair). Contains pairs r) e (listed_is pairs (named_pair pair) k)
      go pair e o u (inr k) =
          let t : (j : ℕ) × (is_hint rows list.live pair j ≡ true) = has_hint (unlisted list.live row pairs) hints h pair
          (Contains-filter (λ q. not (lists pairs (named_pair q))) (opposite_pairs list.live row) pair o k) in
          absurd (hint_covers pair t.0 t.1 u)

  pub exactly_required : (pairs : List LogPair) (hints : List ℕ) → AllPairs (λ p r. IsTrue (pair_before p r)) pairs →
      All (λ p. Contains (required_pairs rows list.live row) p) pairs → are_hints rows list.live (unlisted list.live row pairs) hints ≡ true →
      pairs ≡ required_pairs rows list.live row
  exactly_required pairs hints rise each h =
      rising_lists_are_equal LogPair pair_before pairs (required_pairs rows list.live row) never_before before_through rise required_rise
      (λ p. (λ c. member_of (λ q. Contains (required_pairs rows list.live row) q) pairs p each c, required_listed pairs hints h p))

  -- ---- a pair that is not required is covered, and the least generator that covers it is a hint
  covers_it : LivePair → Numbered → Bool
  covers_it pair g = not (nat_eq g.number pair.plus_side.number) && not (nat_eq g.number pair.minus_side.number)
      && covers rows pair.plus_side.vector pair.minus_side.vector g.vector

  cover_found : (pair : LivePair) (live : List Numbered) → is_uncovered_live rows live pair ≡ false →
      (g : Numbered) × Contains live g × (first_cover rows pair live ≡ g.number) × (covers_it pair g ≡ true)
  unfolding covers_it
  cover_found pair [] h = absurd (true≢false h)
  cover_found pair (g ∷ live) h =
      go (nat_eq g.number pair.plus_side.number) (nat_eq g.number pair.minus_side.number)
      (covers rows pair.plus_side.vector pair.minus_side.vector g.vector) refl refl refl h (cover_found pair live)
    where
      Found : List Numbered → ℕ → Type 0
      Found list' k = (f : Numbered) × Contains list' f × (k ≡ f.number) × (covers_it pair f ≡ true)

      later : Found live (first_cover rows pair live) → Found (g ∷ live) (first_cover rows pair live)
      later f = (f.0, Contains-there g live f.0 f.1, f.2, f.3)

      go : (x y z : Bool) → nat_eq g.number pair.plus_side.number ≡ x → nat_eq g.number pair.minus_side.number ≡ y →
          covers rows pair.plus_side.vector pair.minus_side.vector g.vector ≡ z → ((x || y || not z) && is_uncovered_live rows live pair) ≡ false →
          (is_uncovered_live rows live pair ≡ false → Found live (first_cover rows pair live)) →
          Found (g ∷ live) (elim (not x && not y && z) [ true ↦ g.number | false ↦ first_cover rows pair live ])
      go true y z a b c i again = later (again i)
      go false true z a b c i again = later (again i)
      go false false false a b c i again = later (again i)
      go false false true a b c i again = (g, Contains-here g live g refl, refl, (λ j. not (a j) && not (b j) && c j))

  least_is_hint : (pair : LivePair) → is_uncovered_live rows list.live pair ≡ false → is_hint rows list.live pair (first_cover rows pair list.live) ≡ true
  unfolding covers_it
  least_is_hint pair h =
      let f : (g : Numbered) × Contains list.live g × (first_cover rows pair list.live ≡ g.number) × (covers_it pair g ≡ true) = cover_found pair list.live h in
      ap (λ (o : Option Numbered). elim o [ Some g ↦ covers_it pair g | None ↦ false ]) (find_is list.live (first_cover rows pair list.live) f.0 rising.rises f.1 (sym f.2)) ∙ f.3

  all_hints : (pairs : List LivePair) → All (λ pair. is_hint rows list.live pair (first_cover rows pair list.live) ≡ true) pairs →
      are_hints rows list.live pairs (map (λ pair. first_cover rows pair list.live) pairs) ≡ true
  all_hints [] h = refl
  all_hints (p ∷ pairs) h =
      both_hold (is_hint rows list.live p (first_cover rows p list.live)) (are_hints rows list.live pairs (map (λ pair. first_cover rows pair list.live) pairs))
      (All-head (λ pair. is_hint rows list.live pair (first_cover rows pair list.live) ≡ true) p pairs h)
      (all_hints pairs (All-tail (λ pair. is_hint rows list.live pair (first_cover rows pair list.live) ≡ true) p pairs h))

  unlisted_covered : (pairs : List LogPair) → pairs ≡ required_pairs rows list.live row → (pair : LivePair) → Contains (unlisted list.live row pairs) pair →
      is_uncovered_live rows list.live pair ≡ false
  unlisted_covered pairs e pair c =
      let f : Contains (opposite_pairs list.live row) pair × (not (lists pairs (named_pair pair)) ≡ true) =
      Contains-filter_source (λ q. not (lists pairs (named_pair q))) (opposite_pairs list.live row) pair c in
      go (is_uncovered_live rows list.live pair) refl f.0 f.1
    where
      go : (b : Bool) → is_uncovered_live rows list.live pair ≡ b → Contains (opposite_pairs list.live row) pair → not (lists pairs (named_pair pair)) ≡ true →
          is_uncovered_live rows list.live pair ≡ false
      go false i o n = i
      go true i o n =
          let live_pair : Contains (live_pairs rows list.live row) pair = Contains-filter (is_uncovered_live rows list.live) (opposite_pairs list.live row) pair o i in
          let named : Contains (required_pairs rows list.live row) (named_pair pair) =
          Contains-map log_pair (map (λ (q : LivePair). (q.plus_side.number, q.minus_side.number)) (live_pairs rows list.live row))
          (pair.plus_side.number, pair.minus_side.number)
          (Contains-map (λ (q : LivePair). (q.plus_side.number, q.minus_side.number)) (live_pairs rows list.live row) pair live_pair) in
          absurd (not_true (lists pairs (named_pair pair)) n (lists_passes pairs (named_pair pair)
          (subst (λ (ps : List LogPair). Contains ps (named_pair pair)) (sym e) named)))

  pub hinted : (pairs : List LogPair) → pairs ≡ required_pairs rows list.live row →
      AllPairs (λ p r. IsTrue (pair_before p r)) pairs × All (λ p. Contains (required_pairs rows list.live row) p) pairs
      × (are_hints rows list.live (unlisted list.live row pairs) (least_hints rows list.live row pairs) ≡ true)
  hinted pairs e = (
    subst (λ (ps : List LogPair). AllPairs Before ps) (sym e) required_rise,
    all_of_members (λ p. Contains (required_pairs rows list.live row) p) pairs (λ p c. subst (λ (ps : List LogPair). Contains ps p) e c),
    all_hints (unlisted list.live row pairs) (all_of_members (λ pair. is_hint rows list.live pair (first_cover rows pair list.live) ≡ true)
        (unlisted list.live row pairs) (λ pair c. least_is_hint pair (unlisted_covered pairs e pair c))),
  )

pub hints_show_pairs : HintsShowPairs
hints_show_pairs file s cut pairs hints rising m = record {
  exists = m.exists;
  unused = m.unused;
  exactly = exactly_required (rows_in_use file.objs s) s.list (cut_row s cut) rising pairs hints m.rise m.required m.covered;
}

pub pairs_have_hints : PairsHaveHints
pairs_have_hints file s cut pairs rising m =
    let h = hinted (rows_in_use file.objs s) s.list (cut_row s cut) rising pairs m.exactly in
    record { exists = m.exists; unused = m.unused; rise = h.0; required = h.1; covered = h.2 }
