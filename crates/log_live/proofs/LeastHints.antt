-- The hints told along the opposite pairs are the least ones, where the pairs are those that are
-- required.
use Rattle.std.proofs.Common.{◌≡◌, ℕ, List, [], ◌∷◌, ◌⊎◌, inl, inr, refl, sym, ap, ◌∙◌, subst, Bool, true, false, not, ◌||◌, ◌==◌, map, filter, drop, cond, AllPairs, Contains, if◌then◌else◌}
use Rattle.std.proofs.lemmas.Bool.{eqb-true, eq-eqb}
use Rattle.exact_field.specs.Rational.{ℚ}
use Rattle.polyhedra.specs.LiveList.{Numbered, LiveList, LivePair, IsRising, is_uncovered_live}
use Rattle.polyhedra.proofs.Lists.{Contains-here, Contains-there, Contains-cases, Contains-nil}
use Rattle.polyhedra.proofs.Members.{member_of, Contains-map_source, Contains-filter_source, pairs-head, pairs-tail}
use Rattle.polyhedra.proofs.Tests.{both_true, both_hold}
use Rattle.word_lines.specs.declared.part.LogPair.{LogPair}
use Rattle.log_rules.specs.Live.{required_pairs}
use Rattle.log_versions.specs.Hints.{first_cover, least_hints, lists, named_pair, opposite_pairs, same_pair}
use Rattle.log_versions.specs.Walk.{is_next}
use Rattle.log_versions.proofs.HintedPairs.{Before, never_before, opposite_rise, listed_is}
use Rattle.log_live.specs.Hinting.{hints_along}
use Rattle.log_live.proofs.LivePairs.{required_named}

same_self : (p : LogPair) → same_pair p p ≡ true
same_self p = both_hold (p.plus == p.plus) (p.minus == p.minus) (eq-eqb p.plus p.plus refl)
    (eq-eqb p.minus p.minus refl)

fails : (b : Bool) → (b ≡ true → ⊥) → b ≡ false
fails true h = absurd (h refl)
fails false h = refl

-- a pair that comes before another is another
same_is : (p r : LogPair) → same_pair p r ≡ true → p ≡ r
same_is p r h =
    let b = both_true (p.plus == r.plus) (p.minus == r.minus) h in
    λ i. record { plus = eqb-true p.plus r.plus b.0 i; minus = eqb-true p.minus r.minus b.1 i }

not_same : (p r : LogPair) → Before p r → same_pair r p ≡ false
not_same p r h = fails (same_pair r p)
    (λ e. never_before p (subst (λ (x : LogPair). Before p x) (same_is r p e) h))

module _ (u : LivePair → Bool) where
  -- the names of those that pass
  abbrev Free : List LivePair → List LogPair
  Free os = map named_pair (filter u os)

  abbrev Rising : List LivePair → Type 0
  Rising os = AllPairs (λ a b. Before (named_pair a) (named_pair b)) os

  rest : (o : LivePair) (os : List LivePair) → Rising (o ∷ os) → Rising os
  rest o os h = pairs-tail (λ a b. Before (named_pair a) (named_pair b)) o os h

  ahead : (o : LivePair) (os : List LivePair) → Rising (o ∷ os) →
      (x : LivePair) → Contains os x → Before (named_pair o) (named_pair x)
  ahead o os h x c = member_of (λ b. Before (named_pair o) (named_pair b)) os x
      (pairs-head (λ a b. Before (named_pair a) (named_pair b)) o os h) c

  -- a name of a later one stands after that of the first
  named_after : (o : LivePair) (os : List LivePair) → Rising (o ∷ os) →
      (p : LogPair) → Contains (Free os) p → Before (named_pair o) p
  named_after o os h p c =
      let s : (x : LivePair) × Contains (filter u os) x ×
      (named_pair x ≡ p) = Contains-map_source named_pair (filter u os) p c in
      subst (λ (q : LogPair). Before (named_pair o) q) s.2
      (ahead o os h s.0 (Contains-filter_source u os s.0 s.1).0)

  -- those that pass are the listed ones
  listed_free : (os : List LivePair) → Rising os →
      (o : LivePair) → Contains os o → lists (Free os) (named_pair o) ≡ u o
  listed_free [] h o c = absurd (Contains-nil o c)
  listed_free (y ∷ os) h o c = by (Contains-cases y os o c) (u y) refl
      (listed_free os (rest y os h) o)
    where
      by : (y ≡ o) ⊎ Contains os o → (t : Bool) → u y ≡ t →
          (Contains os o → lists (Free os) (named_pair o) ≡ u o) →
          lists (map named_pair (cond t (y ∷ filter u os) (filter u os))) (named_pair o) ≡ u o
      by (inl e) true i again =
          ap (λ (x : LivePair). lists (named_pair y ∷ Free os) (named_pair x)) (sym e)
          ∙ ap (λ (b : Bool). b || lists (Free os) (named_pair y)) (same_self (named_pair y))
          ∙ sym i ∙ ap u e
      by (inl e) false i again =
          ap (λ (x : LivePair). lists (Free os) (named_pair x)) (sym e)
          ∙ fails (lists (Free os) (named_pair y))
          (λ t. never_before (named_pair y)
          (named_after y os h (named_pair y) (listed_is (Free os) (named_pair y) t)))
          ∙ sym i ∙ ap u e
      by (inr m) true i again =
          ap (λ (b : Bool). b || lists (Free os) (named_pair o))
          (not_same (named_pair y) (named_pair o) (ahead y os h o m)) ∙ again m
      by (inr m) false i again = again m

  filter_as : (test : LivePair → Bool) (os : List LivePair) →
      ((o : LivePair) → Contains os o → test o ≡ u o) →
      filter (λ o. not (test o)) os ≡ filter (λ o. not (u o)) os
  filter_as test [] h = refl
  filter_as test (o ∷ os) h =
      ap (λ (b : Bool). cond (not b) (o ∷ filter (λ x. not (test x)) os)
      (filter (λ x. not (test x)) os)) (h o (Contains-here o os o refl))
      ∙ ap (λ (ys : List LivePair). cond (not (u o)) (o ∷ ys) ys)
      (filter_as test os (λ x c. h x (Contains-there o os x c)))

  module _ (rows : List (List ℚ)) (live : List Numbered) where
    abbrev Told : LivePair → List LivePair → List LogPair → List ℕ
    Told o os ps =
        if is_next ps (named_pair o) then hints_along rows live os (drop 1 ps) else first_cover rows
        o live ∷ hints_along rows live os ps

    -- along them a pair is the next listed one where it passes
    along : (os : List LivePair) → Rising os →
        hints_along rows live os (Free os) ≡ map (λ o. first_cover rows o live)
        (filter (λ o. not (u o)) os)
    along [] h = refl
    along (o ∷ os) h = go (u o) (along os (rest o os h))
      where
        none_next : (ps : List LogPair) →
            ((p : LogPair) → Contains ps p → Before (named_pair o) p) →
            is_next ps (named_pair o) ≡ false
        none_next [] b = refl
        none_next (p ∷ ps) b = not_same (named_pair o) p (b p (Contains-here p ps p refl))

        go : (t : Bool) → hints_along rows live os (Free os) ≡ map (λ x. first_cover rows x live)
            (filter (λ x. not (u x)) os) →
            Told o os (map named_pair (cond t (o ∷ filter u os) (filter u os)))
            ≡ map (λ x. first_cover rows x live)
            (cond (not t) (o ∷ filter (λ x. not (u x)) os) (filter (λ x. not (u x)) os))
        go true again =
            ap (λ (b : Bool). if b then hints_along rows live os (Free os) else first_cover rows o
            live ∷ hints_along rows live os (named_pair o ∷ Free os)) (same_self (named_pair o))
            ∙ again
        go false again =
            ap (λ (b : Bool). if b then hints_along rows live os (drop 1 (Free os)) else first_cover
            rows o live ∷ hints_along rows live os (Free os))
            (none_next (Free os) (named_after o os h))
            ∙ ap (λ (hs : List ℕ). first_cover rows o live ∷ hs) again

pub told_are_least : (rows : List (List ℚ)) (list : LiveList) (row : List ℚ)
    (pairs : List LogPair) → IsRising list → pairs ≡ required_pairs rows list.live row →
    hints_along rows list.live (opposite_pairs list.live row) pairs ≡ least_hints rows list.live row
    pairs
told_are_least rows list row pairs rising e =
    let u : LivePair → Bool = is_uncovered_live rows list.live in
    let os : List LivePair = opposite_pairs list.live row in
    let rise : AllPairs (λ a b. Before (named_pair a) (named_pair b)) os = opposite_rise list row
    rising in
    let free : pairs ≡ map named_pair (filter u os) = e ∙ required_named rows list.live row in
    ap (hints_along rows list.live os) free ∙ along u rows list.live os rise
    ∙ ap (map (λ o. first_cover rows o list.live))
    (sym (filter_as u (λ o. lists (map named_pair (filter u os)) (named_pair o)) os
    (listed_free u os rise)))
    ∙ ap (least_hints rows list.live row) (sym free)
