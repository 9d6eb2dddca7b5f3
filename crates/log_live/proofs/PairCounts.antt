-- Pairs that are decided by counts of tight rows.
use Rattle.std.proofs.Common.{◌≡◌, ℕ, zero, suc, ◌+◌, ◌-◌, ◌<◌, ◌≤◌, ◌⊎◌, inl, inr, min, List, [], ◌∷◌, length, map, refl, sym, ap, ap₂, ◌∙◌, subst, cond, count_by, arith, All, AllPairs, Bool, true, false, not, ◌&&◌, ◌||◌, Contains, Bor}
use Rattle.std.specs.Prelude.{nat_eq}
use Rattle.std.proofs.lemmas.List.{ext_get_or, length-map}
use Rattle.std.proofs.lemmas.List.Elements.{All-nil, All-cons, All-map, All-weaker}
use Rattle.std.proofs.lemmas.List.Sums.{sum_by-cons, length-filter}
use Rattle.exact_field.specs.Rational.{ℚ, zero_ℚ, lt_ℚ, ◌<ℚ◌}
use Rattle.exact_field.specs.Vector.{dot}
use Rattle.incid_sets.specs.Marks.{has, size, IsMeet}
use Rattle.polyhedra.specs.DoubleDescription.{covers, is_uncovered, is_zero}
use Rattle.polyhedra.specs.Generators.{common_rows, tight_rows}
use Rattle.polyhedra.specs.LiveList.{Numbered, LivePair, IsRising, vectors, tight_set, without_numbers, is_uncovered_live}
use Rattle.polyhedra.specs.TightSets.{IsDoubleDescriptionPair}
use Rattle.polyhedra.proofs.Lists.{HasWidth}
use Rattle.polyhedra.proofs.Members.{all_of_members, member_of, Contains-map, Contains-filter_source, pairs-map}
use Rattle.polyhedra.proofs.LiveList.{third_by_number}
use Rattle.polyhedra.proofs.Order.{lt_irrefl, lt_trans}
use Rattle.polyhedra.proofs.AllButOne.{all_but_one_are_uncovered}
use Rattle.polyhedra.proofs.CommonRows.{few_are_covered}
use Rattle.polyhedra.proofs.Covering.{length-tight_set}
use Rattle.polyhedra.proofs.Tests.{list_all_same}
use Rattle.lineality.specs.Without.{without, with_zeros}
use Rattle.lineality.specs.Steps.{IsClear, numbered_without}
use Rattle.lineality.proofs.StepsWithout.{IsGood, same_dot}
use Rattle.log_rules.specs.Live.{value}
use Rattle.log_live.specs.Adding.{AreAtPairs, AreAtRow, AreTwo, negatives_of, pair_of}
use Rattle.log_live.specs.Live.{HasTightSet, live_of, numbered_of}
use Rattle.log_live.specs.declared.generator.Generator.{Generator}

-- ---- numbers that rise
-- a number above all
above : (gens : List Generator) →
    (next : ℕ) × All (λ (g : Numbered). g.number < next) (live_of gens)
above [] = (0, All-nil (λ (g : Numbered). g.number < 0))
above (g ∷ gens) =
    let a : (next : ℕ) × All (λ (h : Numbered). h.number < next) (live_of gens) = above gens in
    let next : ℕ = suc (g.number + a.0) in (
      next,
      All-cons (λ (h : Numbered). h.number < next) (numbered_of g) (live_of gens) (omega arith)
          (All-weaker (λ (h : Numbered). h.number < a.0) (λ (h : Numbered). h.number < next)
          (λ h l. omega (arith, l)) (live_of gens) a.1),
    )

pub rising_of : (gens : List Generator) → AllPairs (λ (g h : Generator). g.number < h.number) gens →
    (next : ℕ) × IsRising (record { live = live_of gens; next = next })
rising_of gens rises =
    let a : (next : ℕ) × All (λ (h : Numbered). h.number < next) (live_of gens) = above gens in (
      a.0,
      record {
        rises = pairs-map (λ (g h : Numbered). g.number < h.number) numbered_of gens
            rises;
        below = a.1;
      },
    )

-- at a row
pub at_pairs : (q least : ℕ) (rows : List (List ℚ)) (row : List ℚ) (gens : List Generator)
    (values : List ℚ)
    (a : AreAtRow q rows row gens values) → least ≤ a.described.open_places - 2 →
    AreAtPairs q least rows gens
at_pairs q least rows row gens values a h =
    let r : (next : ℕ) ×
    IsRising (record { live = live_of gens; next = next }) = rising_of gens a.rises in
    record { next = r.0; rising = r.1; described = a.described; tight = a.tight; least_is = h }

-- ---- how many rows are tight
both_tight : List ℚ → List ℚ → List ℚ → Bool
both_tight a b r = is_zero (dot r a) && is_zero (dot r b)

has-both : (rows : List (List ℚ)) (a b : List ℚ) (k : ℕ) →
    (has (tight_set rows a) k && has (tight_set rows b) k) ≡ has (map (both_tight a b) rows) k
unfolding both_tight
has-both [] a b k = refl
has-both (r ∷ rows) a b zero = refl
has-both (r ∷ rows) a b (suc k) = has-both rows a b k

size-map : {X : Type 0} (p : X → Bool) (xs : List X) → size (map p xs) ≡ count_by p xs
size-map p [] = refl
size-map p (x ∷ xs) = sum_by-cons (λ (marked : Bool). cond {A = ℕ} marked 1 0) (p x) (map p xs)
    ∙ ap (λ n. cond {A = ℕ} (p x) 1 0 + n) (size-map p xs)
    ∙ sym (sum_by-cons (λ y. cond {A = ℕ} (p y) 1 0) x xs)

common_size : (rows : List (List ℚ)) (a b : List ℚ) (common : List Bool) →
    IsMeet common (tight_set rows a) (tight_set rows b) →
    size common ≡ length (common_rows rows a b)
unfolding both_tight
common_size rows a b common m =
    ap size (ext_get_or false common (map (both_tight a b) rows)
    (let e : length common ≡ min (length (tight_set rows a))
    (length (tight_set rows b)) = m.bound in
    let x : length (tight_set rows a) ≡ length rows = length-tight_set rows a in
    let y : length (tight_set rows b) ≡ length rows = length-tight_set rows b in
    let z : length (map (both_tight a b) rows) ≡ length rows = length-map rows
    (both_tight a b) in omega arith)
    (λ k _. m.common k ∙ has-both rows a b k))
    ∙ size-map (both_tight a b) rows ∙ sym (length-filter (both_tight a b) rows)

-- ---- the pair without the marked places
module _ (q least : ℕ) (rows : List (List ℚ)) (gens : List Generator) (p m : Generator)
    (common : List Bool) (d : AreAtPairs q least rows gens) (two : AreTwo gens p m)
    (meet : IsMeet common p.tight m.tight) where
  abbrev bs : List Bool
  bs = d.described.marks

  abbrev n : ℕ
  n = d.described.open_places

  abbrev W : List ℚ → List ℚ
  W = without bs

  abbrev less : Numbered → Numbered
  less = numbered_without bs

  abbrev short_rows : List (List ℚ)
  short_rows = map W rows

  abbrev short_live : List Numbered
  short_live = map less (live_of gens)

  abbrev short_pair : LivePair
  short_pair = record { plus_side = less (numbered_of p); minus_side = less (numbered_of m) }

  good : (v : List ℚ) → Contains (vectors (live_of gens)) v → IsGood bs v
  good v c = record {
    wide = member_of (HasWidth (suc (length bs))) (vectors (live_of gens)) v d.described.wide.wide
        c;
    clear = member_of (IsClear bs) (vectors (live_of gens)) v d.described.clear c;
  }

  listed : (g : Generator) → Contains gens g → Contains (live_of gens) (numbered_of g)
  listed g c = Contains-map numbered_of gens g c

  vector_listed : (g : Numbered) → Contains (live_of gens) g →
      Contains (vectors (live_of gens)) g.vector
  vector_listed g c = Contains-map (λ (h : Numbered). h.vector) (live_of gens) g c

  good_of : (g : Generator) → Contains gens g → IsGood bs g.vector
  good_of g c = good g.vector (vector_listed (numbered_of g) (listed g c))

  vectors_less : (gs : List Numbered) → vectors (map less gs) ≡ map W (vectors gs)
  vectors_less [] = refl
  vectors_less (g ∷ gs) = ap (λ vs. W g.vector ∷ vs) (vectors_less gs)

  described : IsDoubleDescriptionPair n short_rows (vectors short_live)
  described = subst (λ (vs : List (List ℚ)). IsDoubleDescriptionPair n short_rows vs)
      (sym (vectors_less (live_of gens))) d.described.described

  rising : IsRising (record { live = short_live; next = d.next })
  rising = record {
    rises = pairs-map (λ (a b : Numbered). a.number < b.number) less (live_of gens) d.rising.rises;
    below = All-map (λ (g : Numbered). g.number < d.next) less (live_of gens) d.rising.below;
  }

  short_listed : (g : Generator) → Contains gens g → Contains short_live (less (numbered_of g))
  short_listed g c = Contains-map less (live_of gens) (numbered_of g) (listed g c)

  short_vector : (g : Generator) → Contains gens g → Contains (vectors short_live) (W g.vector)
  short_vector g c = Contains-map (λ (h : Numbered). h.vector) short_live (less (numbered_of g))
      (short_listed g c)

  short_differ : W p.vector ≡ W m.vector → ⊥
  short_differ e = two.differ (sym (good_of p two.plus_listed).clear ∙ ap (with_zeros bs) e
      ∙ (good_of m two.minus_listed).clear)

  -- a third one covers them there as here
  covers_less : (g : List ℚ) → IsGood bs g → covers rows p.vector m.vector g ≡ covers short_rows
      (W p.vector) (W m.vector) (W g)
  covers_less g h =
      list_all_same W
      (λ r. not (is_zero (dot r p.vector)) || not (is_zero (dot r m.vector)) || is_zero (dot r g))
      (λ r. not (is_zero (dot r (W p.vector))) || not (is_zero (dot r (W m.vector))) || is_zero
      (dot r (W g))) rows
      (all_of_members
      (λ r. (not (is_zero (dot r p.vector)) || not (is_zero (dot r m.vector)) || is_zero (dot r g))
      ≡ (not (is_zero (dot (W r) (W p.vector))) || not (is_zero (dot (W r) (W m.vector))) || is_zero
      (dot (W r) (W g)))) rows
      (λ r _. three (sym (same_dot bs r p.vector (good_of p two.plus_listed)))
      (sym (same_dot bs r m.vector (good_of m two.minus_listed))) (sym (same_dot bs r g h))))
    where
      three : {x x' y y' z z' : ℚ} → x ≡ x' → y ≡ y' → z ≡ z' →
          (not (is_zero x) || not (is_zero y) || is_zero z) ≡ (not (is_zero x') || not
          (is_zero y') || is_zero z')
      three {x} {x'} {y} {y'} {z} {z'} e f g = ap
          (λ a. not (is_zero a) || not (is_zero y) || is_zero z) e
          ∙ ap (λ a. not (is_zero x') || not (is_zero a) || is_zero z) f
          ∙ ap (λ a. not (is_zero x') || not (is_zero y') || is_zero a) g

  uncovered_less : is_uncovered_live rows (live_of gens) (pair_of p m) ≡ is_uncovered_live
      short_rows short_live short_pair
  uncovered_less =
      list_all_same less
      (λ (g : Numbered). nat_eq g.number p.number || nat_eq g.number m.number || not
      (covers rows p.vector m.vector g.vector))
      (λ (g : Numbered). nat_eq g.number p.number || nat_eq g.number m.number || not
      (covers short_rows (W p.vector) (W m.vector) g.vector)) (live_of gens)
      (all_of_members
      (λ (g : Numbered).
      (nat_eq g.number p.number || nat_eq g.number m.number || not
      (covers rows p.vector m.vector g.vector))
      ≡ (nat_eq g.number p.number || nat_eq g.number m.number || not
      (covers short_rows (W p.vector) (W m.vector) (W g.vector)))) (live_of gens)
      (λ g c. ap (λ b. nat_eq g.number p.number || nat_eq g.number m.number || not b)
      (covers_less g.vector (good g.vector (vector_listed g c)))))

  by_vector : is_uncovered_live rows (live_of gens) (pair_of p m) ≡ is_uncovered short_rows
      (vectors short_live) (without_numbers short_pair)
  by_vector = uncovered_less
      ∙ third_by_number n short_rows (record { live = short_live; next = d.next }) rising described
      short_pair (short_listed p two.plus_listed)
      (short_listed m two.minus_listed)

  -- ---- counts
  tight_less : (rs : List (List ℚ)) (v : List ℚ) → IsGood bs v →
      tight_set (map W rs) (W v) ≡ tight_set rs v
  tight_less [] v h = refl
  tight_less (r ∷ rs) v h = ap₂ (λ (x : ℚ) (t : List Bool). is_zero x ∷ t) (same_dot bs r v h)
      (tight_less rs v h)

  tight_of : (g : Generator) → Contains gens g → g.tight ≡ tight_set short_rows (W g.vector)
  tight_of g c = member_of (HasTightSet rows) gens g d.tight c
      ∙ sym (tight_less rows g.vector (good_of g c))

  many : size common ≡ length (common_rows short_rows (W p.vector) (W m.vector))
  many = common_size short_rows (W p.vector) (W m.vector) common
      (subst (λ (s : List Bool × List Bool). IsMeet common s.0 s.1)
      (λ i. (tight_of p two.plus_listed i, tight_of m two.minus_listed i)) meet)

  alone : (g : Generator) → Contains gens g →
      size g.tight ≡ length (tight_rows short_rows (W g.vector))
  alone g c = ap size (tight_of g c) ∙ size-map (λ r. is_zero (dot r (W g.vector))) short_rows
      ∙ sym (length-filter (λ r. is_zero (dot r (W g.vector))) short_rows)

  -- fewer common rows than the least number: a third generator covers them
  pub few_are_no_pair : size common < least →
      is_uncovered_live rows (live_of gens) (pair_of p m) ≡ false
  few_are_no_pair few =
      by_vector ∙ few_are_covered n short_rows (vectors short_live)
      (without_numbers short_pair) described (short_vector p two.plus_listed)
      (short_vector m two.minus_listed) short_differ
      (let most : least ≤ n - 2 = d.least_is in omega (arith, most, many, few))

  -- one more row at most: none does
  pub one_more_is_a_pair : (size p.tight ≤ size common + 1) ⊎ (size m.tight ≤ size common + 1) →
      is_uncovered_live rows (live_of gens) (pair_of p m) ≡ true
  one_more_is_a_pair one =
      by_vector ∙ all_but_one_are_uncovered n short_rows (vectors short_live)
      (without_numbers short_pair) described (short_vector p two.plus_listed)
      (short_vector m two.minus_listed) (counted one)
    where
      counted : (size p.tight ≤ size common + 1) ⊎ (size m.tight ≤ size common + 1) →
          (length (tight_rows short_rows (W p.vector)) ≤ length
          (common_rows short_rows (W p.vector) (W m.vector)) + 1)
          ⊎ (length (tight_rows short_rows (W m.vector)) ≤ length
          (common_rows short_rows (W p.vector) (W m.vector)) + 1)
      counted (inl h) = inl
          (let e : size p.tight ≡ length (tight_rows short_rows (W p.vector)) = alone p
          two.plus_listed in omega (arith, h, e, many))
      counted (inr h) = inr
          (let e : size m.tight ≡ length (tight_rows short_rows (W m.vector)) = alone m
          two.minus_listed in omega (arith, h, e, many))

-- a generator at which a row is positive and each at which it is negative are two
pub two_each : (gens : List Generator) (plus : Generator) (row : List ℚ)
    (negatives : List (Bor Generator)) → Contains gens plus →
    zero_ℚ <ℚ value row (numbered_of plus) →
    All (λ (g : Bor Generator). Contains gens g.now) negatives →
    map (λ (g : Bor Generator). numbered_of g.now) negatives ≡ negatives_of row (live_of gens) →
    All (λ (g : Bor Generator). AreTwo gens plus g.now) negatives
two_each gens plus row negatives c p among e =
    all_of_members (λ (g : Bor Generator). AreTwo gens plus g.now) negatives (λ g m.
    let listed : Contains (negatives_of row (live_of gens)) (numbered_of g.now) =
    subst (λ (l : List Numbered). Contains l (numbered_of g.now)) e
    (Contains-map (λ (h : Bor Generator). numbered_of h.now) negatives g m) in
    let below : value row
    (numbered_of g.now) <ℚ zero_ℚ = (Contains-filter_source (λ h. lt_ℚ (value row h) zero_ℚ)
    (live_of gens) (numbered_of g.now) listed).1 in
    record {
      plus_listed = c;
      minus_listed = member_of (λ (h : Bor Generator). Contains gens h.now) negatives g among m;
      differ = λ same. lt_irrefl zero_ℚ (lt_trans zero_ℚ (value row (numbered_of plus)) zero_ℚ p
          (subst (λ (v : List ℚ). dot row v <ℚ zero_ℚ) (sym same) below));
    })
