-- The start beside lines, and that pins make no difference to a step.
use Rattle.std.proofs.Common.{◌≡◌, ℕ, List, [], ◌∷◌, ◌++◌, map, length, All, AllPairs, Contains, filter, cond, Bool, true, false, not, ◌&&◌, ◌||◌, refl, sym, ap, ap₂, ◌∙◌, subst, arith, ◌⊎◌, inl, inr, ◌+◌}
use Rattle.std.specs.List.{list_all}
use Rattle.std.specs.Prelude.{nat_eq}
use Rattle.std.proofs.lemmas.List.Elements.{All-nil, All-cons, All-head, All-tail, Contains-append_left, Contains-append_right, Contains-append_cases}
use Rattle.exact_field.specs.Rational.{ℚ, zero_ℚ, ◌+ℚ◌, ◌*ℚ◌, neg_ℚ, ◌≤ℚ◌}
use Rattle.exact_field.specs.Vector.{dot}
use Rattle.exact_field.proofs.Inequalities.{zero_between, neg-nonpositive}
use Rattle.polyhedra.specs.Vectors.{AreWide, zeros, values}
use Rattle.polyhedra.specs.Cone.{IsGenerated, IsInCone}
use Rattle.polyhedra.specs.TightSets.{IsTight, LiesIn, AreApart, IsDoubleDescriptionPair}
use Rattle.polyhedra.specs.Dependence.{AreCorners}
use Rattle.polyhedra.specs.DoubleDescription.{is_zero, covers, made}
use Rattle.polyhedra.specs.Negatives.{negated}
use Rattle.polyhedra.specs.LiveList.{Numbered, vectors, live_pairs, is_uncovered_live, staying, numbered, without_numbers}
use Rattle.polyhedra.proofs.Laws.{add_zero}
use Rattle.polyhedra.proofs.Algebra.{zero_add, neg_zero, neg_neg, mul_zero}
use Rattle.polyhedra.proofs.Order.{le_of_eq}
use Rattle.polyhedra.proofs.Linear.{dot_comm, dot-plus, dot-scaled, dot-zeros, length-zeros, same_wide}
use Rattle.polyhedra.proofs.Lists.{HoldsAt, HasWidth}
use Rattle.polyhedra.proofs.Members.{all_of_members, member_of, Contains-map, Contains-map_source, pairs-nil, pairs-cons, pairs-head, pairs-tail, pairs-weaker}
use Rattle.polyhedra.proofs.Tests.{test_of_zero, or_right}
use Rattle.polyhedra.proofs.Corners.{Corners, corners, start}
use Rattle.polyhedra.proofs.Generated.{generated_value, generated_width}
use Rattle.polyhedra.proofs.Support.{InSupport, support_listed, support_zero}
use Rattle.polyhedra.proofs.Cones.{IsSumOf, generated_append, IsOnRay, one_ray}
use Rattle.polyhedra.proofs.Negatives.{dot-negated_left}
use Rattle.lineality.proofs.Lineality.{length-negated}
use Rattle.representations.specs.Lined.{pinned, AreTightAt, PinnedStart, PinnedStep}

-- ---- negatives
pub tight_negated : (r z : List ℚ) → IsTight r z → IsTight (negated r) z
tight_negated r z e = dot-negated_left r z ∙ ap neg_ℚ e ∙ neg_zero

-- a number that is at least 0 with its negative is 0
pub both_ways : (q : ℚ) → zero_ℚ ≤ℚ q → zero_ℚ ≤ℚ neg_ℚ q → q ≡ zero_ℚ
both_ways q h k = zero_between q h (subst (λ (x : ℚ). x ≤ℚ zero_ℚ) (neg_neg q) (neg-nonpositive (neg_ℚ q) k))

-- a sum of products that are 0
pub values_none : (ms : List ℚ) (vs : List (List ℚ)) (r : List ℚ) → All (λ v. dot v r ≡ zero_ℚ) vs → dot ms (values vs r) ≡ zero_ℚ
values_none [] vs r k = refl
values_none (m ∷ ms) [] r k = refl
values_none (m ∷ ms) (v ∷ vs) r k = ap₂ (λ a b. m *ℚ a +ℚ b) (All-head (λ w. dot w r ≡ zero_ℚ) v vs k)
    (values_none ms vs r (All-tail (λ w. dot w r ≡ zero_ℚ) v vs k)) ∙ ap (λ x. x +ℚ zero_ℚ) (mul_zero m) ∙ add_zero zero_ℚ

-- ---- what corners of two lists say
record AreCrossed (rs gs ls xs : List (List ℚ)) : Type 0 where
  pub readers_at_gens : AreTightAt rs gs
  pub rows_at_lines : AreTightAt xs ls

crossed : (xs rs gs ls : List (List ℚ)) → Corners (xs ++ rs) (gs ++ ls) → length gs ≡ length xs → AreCrossed rs gs ls xs
crossed [] rs [] ls c h = record { readers_at_gens = All-nil (λ v. All (λ r. IsTight r v) rs); rows_at_lines = all_of_members (λ v. All (λ r. IsTight r v) []) ls (λ v k. All-nil (λ r. IsTight r v)) }
crossed [] rs (g ∷ gs) ls c h = absurd (omega arith)
crossed (x ∷ xs) rs [] ls c h = absurd (omega arith)
crossed (x ∷ xs) rs (g ∷ gs) ls c h =
    let again : AreCrossed rs gs ls xs = crossed xs rs gs ls c.1 (omega arith) in
    record {
      readers_at_gens = All-cons (λ v. All (λ r. IsTight r v) rs) g gs
          (all_of_members (λ r. IsTight r g) rs (λ r k. member_of (λ s. IsTight s g) (xs ++ rs) r c.0.vector_zero (Contains-append_right xs rs r k))) again.readers_at_gens;
      rows_at_lines = all_of_members (λ v. All (λ r. IsTight r v) (x ∷ xs)) ls (λ v k.
          All-cons (λ r. IsTight r v) x xs (member_of (λ w. dot x w ≡ zero_ℚ) (gs ++ ls) v c.0.row_zero (Contains-append_right gs ls v k))
          (member_of (λ w. All (λ r. IsTight r w) xs) ls v again.rows_at_lines k));
    }

-- members of the pins
pub pinned_cases : (readers rows : List (List ℚ)) (r : List ℚ) → Contains (pinned readers rows) r →
    Contains readers r ⊎ (((s : List ℚ) × Contains readers s × (negated s ≡ r)) ⊎ Contains rows r)
pinned_cases readers rows r k = go (Contains-append_cases (readers ++ map negated readers) rows r k)
  where
    pin : Contains readers r ⊎ Contains (map negated readers) r → Contains readers r ⊎ (((s : List ℚ) × Contains readers s × (negated s ≡ r)) ⊎ Contains rows r)
    pin (inl m) = inl m
    pin (inr m) = inr (inl (Contains-map_source negated readers r m))

    go : Contains (readers ++ map negated readers) r ⊎ Contains rows r → Contains readers r ⊎ (((s : List ℚ) × Contains readers s × (negated s ≡ r)) ⊎ Contains rows r)
    go (inl m) = pin (Contains-append_cases readers (map negated readers) r m)
    go (inr m) = inr (inr m)

pub pinned_reader : (readers rows : List (List ℚ)) (r : List ℚ) → Contains readers r → Contains (pinned readers rows) r
pinned_reader readers rows r k = Contains-append_left (readers ++ map negated readers) rows r (Contains-append_left readers (map negated readers) r k)

pub pinned_negative : (readers rows : List (List ℚ)) (r : List ℚ) → Contains readers r → Contains (pinned readers rows) (negated r)
pinned_negative readers rows r k = Contains-append_left (readers ++ map negated readers) rows (negated r)
    (Contains-append_right readers (map negated readers) (negated r) (Contains-map negated readers r k))

pub pinned_row : (readers rows : List (List ℚ)) (r : List ℚ) → Contains rows r → Contains (pinned readers rows) r
pinned_row readers rows r k = Contains-append_right (readers ++ map negated readers) rows r k

-- ---- the start
module _ (n : ℕ) (rows readers gens lines : List (List ℚ)) (c : AreCorners n (rows ++ readers) (gens ++ lines)) (many : length gens ≡ length rows) where
  pair : IsDoubleDescriptionPair n (rows ++ readers) (gens ++ lines)
  pair = start n (rows ++ readers) (gens ++ lines) c

  cross : AreCrossed readers gens lines rows
  cross = crossed rows readers gens lines (corners n (rows ++ readers) (gens ++ lines) c) many

  in_rows : (r : List ℚ) → Contains rows r → Contains (rows ++ readers) r
  in_rows r k = Contains-append_left rows readers r k

  in_readers : (r : List ℚ) → Contains readers r → Contains (rows ++ readers) r
  in_readers r k = Contains-append_right rows readers r k

  gens_wide : AreWide n gens
  gens_wide = record { wide = all_of_members (HasWidth n) gens (λ g k. member_of (HasWidth n) (gens ++ lines) g pair.generators_wide.wide (Contains-append_left gens lines g k)) }

  lines_wide : AreWide n lines
  lines_wide = record { wide = all_of_members (HasWidth n) lines (λ g k. member_of (HasWidth n) (gens ++ lines) g pair.generators_wide.wide (Contains-append_right gens lines g k)) }

  reader_at : (r g : List ℚ) → Contains readers r → Contains gens g → IsTight r g
  reader_at r g k m = member_of (λ s. IsTight s g) readers r (member_of (λ v. All (λ s. IsTight s v) readers) gens g cross.readers_at_gens m) k

  -- a fact on rows and readers at z is one on all rows
  all_pinned : (z : List ℚ) (P : List ℚ → Type 0) → ((r : List ℚ) → Contains readers r → P r) → ((r : List ℚ) → Contains readers r → P (negated r)) →
      ((r : List ℚ) → Contains rows r → P r) → All P (pinned readers rows)
  all_pinned z P a b d = all_of_members P (pinned readers rows) (λ r k. go r (pinned_cases readers rows r k))
    where
      go : (r : List ℚ) → Contains readers r ⊎ (((s : List ℚ) × Contains readers s × (negated s ≡ r)) ⊎ Contains rows r) → P r
      go r (inl m) = a r m
      go r (inr (inl (s, m, e))) = subst P e (b s m)
      go r (inr (inr m)) = d r m

  gen_in : (g : List ℚ) → Contains gens g → IsInCone n (pinned readers rows) g
  gen_in g k = record {
    wide = member_of (HasWidth n) gens g gens_wide.wide k;
    within = all_pinned g (HoldsAt g)
        (λ r m. le_of_eq zero_ℚ (dot r g) (sym (reader_at r g m k)))
        (λ r m. le_of_eq zero_ℚ (dot (negated r) g) (sym (tight_negated r g (reader_at r g m k))))
        (λ r m. member_of (HoldsAt g) (rows ++ readers) r (member_of (IsInCone n (rows ++ readers)) (gens ++ lines) g pair.inside (Contains-append_left gens lines g k)).within (in_rows r m));
  }

  -- a line is in no support of a member of the cone
  module _ (z : List ℚ) (h : IsInCone n (pinned readers rows) z) where
    holds : (r : List ℚ) → Contains (pinned readers rows) r → zero_ℚ ≤ℚ dot r z
    holds r k = member_of (HoldsAt z) (pinned readers rows) r h.within k

    reader_zero : (r : List ℚ) → Contains readers r → dot r z ≡ zero_ℚ
    reader_zero r k = both_ways (dot r z) (holds r (pinned_reader readers rows r k))
        (subst (λ (x : ℚ). zero_ℚ ≤ℚ x) (dot-negated_left r z) (holds (negated r) (pinned_negative readers rows r k)))

    whole : IsGenerated n (gens ++ lines) z
    whole = pair.generates z (record {
      wide = h.wide;
      within = all_of_members (HoldsAt z) (rows ++ readers) (λ r k. elim (Contains-append_cases rows readers r k) [
        | inl m ↦ holds r (pinned_row readers rows r m)
        | inr m ↦ holds r (pinned_reader readers rows r m)
      ]);
    })

    parts : IsSumOf n gens lines z
    parts = generated_append n gens lines z gens_wide lines_wide h.wide whole

    second_zero : (r : List ℚ) → Contains readers r → dot parts.second_is.multipliers (values lines r) ≡ zero_ℚ
    second_zero r k =
        sym (generated_value n lines parts.second parts.second_is r) ∙ sym (zero_add (dot r parts.second))
        ∙ ap (λ x. x +ℚ dot r parts.second) (sym (generated_value n gens parts.first parts.first_is r
        ∙ values_none parts.first_is.multipliers gens r (all_of_members (λ v. dot v r ≡ zero_ℚ) gens (λ v m. dot_comm v r ∙ reader_at r v k m))))
        ∙ sym (dot-plus r parts.first parts.second) ∙ ap (λ v. dot r v) (sym parts.same) ∙ reader_zero r k

    no_line : (l : List ℚ) → InSupport parts.second_is.multipliers lines l → ⊥
    no_line l s =
        let listed : Contains lines l = support_listed parts.second_is.multipliers lines l s in
        let in_all : Contains (gens ++ lines) l = Contains-append_right gens lines l listed in
        member_of (λ v. v ≡ zeros n → ⊥) (gens ++ lines) l pair.not_zero in_all
        (pair.pointed l (member_of (HasWidth n) lines l lines_wide.wide listed)
        (all_of_members (λ r. dot r l ≡ zero_ℚ) (rows ++ readers) (λ r k. elim (Contains-append_cases rows readers r k) [
          | inl m ↦ member_of (λ t. IsTight t l) rows r (member_of (λ v. All (λ t. IsTight t v) rows) lines l cross.rows_at_lines listed) m
          | inr m ↦ dot_comm r l ∙ support_zero parts.second_is.multipliers lines l r parts.second_is.at_least_zero
              (all_of_members (HoldsAt r) lines (λ v q. subst (λ (x : ℚ). zero_ℚ ≤ℚ x) (dot_comm r v)
              (member_of (HoldsAt v) (rows ++ readers) r (member_of (IsInCone n (rows ++ readers)) (gens ++ lines) v pair.inside (Contains-append_right gens lines v q)).within (in_readers r m))))
              (second_zero r m) s
        ])))

    generated : IsGenerated n gens z
    generated =
        let ray : IsOnRay (zeros n) parts.second = one_ray n lines parts.second (zeros n) lines_wide (length-zeros n) parts.second_is (λ l s. absurd (no_line l s)) in
        subst (λ (v : List ℚ). IsGenerated n gens v)
        (same_wide n parts.first z (generated_width n gens parts.first gens_wide parts.first_is) h.wide (λ r.
        sym (add_zero (dot r parts.first))
        ∙ ap (λ x. dot r parts.first +ℚ x) (sym (ap (λ v. dot r v) ray.same ∙ dot-scaled r ray.factor (zeros n)
        ∙ ap (λ x. ray.factor *ℚ x) (dot-zeros r n) ∙ mul_zero ray.factor))
        ∙ sym (dot-plus r parts.first parts.second) ∙ ap (λ v. dot r v) (sym parts.same)))
        parts.first_is

  apart_more : (a b : List ℚ) → Contains gens a → Contains gens b → AreApart (rows ++ readers) a b → AreApart (pinned readers rows) a b
  apart_more a b a_in b_in d = record { first = λ l. d.first (fewer a b b_in l); second = λ l. d.second (fewer b a a_in l) }
    where
      fewer : (x y : List ℚ) → Contains gens y → LiesIn (pinned readers rows) x y → LiesIn (rows ++ readers) x y
      fewer x y y_in l = all_of_members (λ r. IsTight r x → IsTight r y) (rows ++ readers) (λ r k. elim (Contains-append_cases rows readers r k) [
        | inl m ↦ member_of (λ s. IsTight s x → IsTight s y) (pinned readers rows) r l (pinned_row readers rows r m)
        | inr m ↦ (λ e. reader_at r y m y_in)
      ])

  pairs_front : {X : Type 0} (R : X → X → Type 0) (xs ys : List X) → AllPairs R (xs ++ ys) → AllPairs R xs
  pairs_front R [] ys h = pairs-nil R
  pairs_front R (x ∷ xs) ys h =
      pairs-cons R x xs
      (all_of_members (R x) xs (λ y k. member_of (R x) (xs ++ ys) y (pairs-head R x (xs ++ ys) h) (Contains-append_left xs ys y k)))
      (pairs_front R xs ys (pairs-tail R x (xs ++ ys) h))

  pinned_pair : IsDoubleDescriptionPair n (pinned readers rows) gens
  pinned_pair = record {
    rows_wide = record {
      wide = all_pinned [] (HasWidth n)
          (λ r k. member_of (HasWidth n) (rows ++ readers) r pair.rows_wide.wide (in_readers r k))
          (λ r k. length-negated r ∙ member_of (HasWidth n) (rows ++ readers) r pair.rows_wide.wide (in_readers r k))
          (λ r k. member_of (HasWidth n) (rows ++ readers) r pair.rows_wide.wide (in_rows r k));
    };
    generators_wide = gens_wide;
    pointed = λ z width t. pair.pointed z width (all_of_members (λ r. dot r z ≡ zero_ℚ) (rows ++ readers) (λ r k. elim (Contains-append_cases rows readers r k) [
      | inl m ↦ member_of (λ s. dot s z ≡ zero_ℚ) (pinned readers rows) r t (pinned_row readers rows r m)
      | inr m ↦ member_of (λ s. dot s z ≡ zero_ℚ) (pinned readers rows) r t (pinned_reader readers rows r m)
    ]));
    inside = all_of_members (IsInCone n (pinned readers rows)) gens gen_in;
    generates = generated;
    not_zero = all_of_members (λ g. g ≡ zeros n → ⊥) gens (λ g k. member_of (λ v. v ≡ zeros n → ⊥) (gens ++ lines) g pair.not_zero (Contains-append_left gens lines g k));
    apart = pairs-weaker (AreApart (rows ++ readers)) (AreApart (pinned readers rows)) gens apart_more (pairs_front (AreApart (rows ++ readers)) gens lines pair.apart);
  }

pub pinned_start : PinnedStart
pinned_start n rows readers gens lines c many = pinned_pair n rows readers gens lines c many

-- ---- a step
list_all-append : {X : Type 0} (f : X → Bool) (xs ys : List X) → list_all f (xs ++ ys) ≡ (list_all f xs && list_all f ys)
list_all-append f [] ys = refl
list_all-append f (x ∷ xs) ys = go (f x) (list_all-append f xs ys)
  where
    go : (b : Bool) → list_all f (xs ++ ys) ≡ (list_all f xs && list_all f ys) → (b && list_all f (xs ++ ys)) ≡ ((b && list_all f xs) && list_all f ys)
    go true e = e
    go false e = refl

list_all-true : {X : Type 0} (f : X → Bool) (xs : List X) → All (λ x. f x ≡ true) xs → list_all f xs ≡ true
list_all-true f [] h = refl
list_all-true f (x ∷ xs) h = ap₂ (λ a b. a && b) (All-head (λ y. f y ≡ true) x xs h) (list_all-true f xs (All-tail (λ y. f y ≡ true) x xs h))

list_all-same : {X : Type 0} (f g : X → Bool) (xs : List X) → All (λ x. f x ≡ g x) xs → list_all f xs ≡ list_all g xs
list_all-same f g [] h = refl
list_all-same f g (x ∷ xs) h = ap₂ (λ a b. a && b) (All-head (λ y. f y ≡ g y) x xs h) (list_all-same f g xs (All-tail (λ y. f y ≡ g y) x xs h))

filter-same : {X : Type 0} (f g : X → Bool) → ((x : X) → f x ≡ g x) → (xs : List X) → filter f xs ≡ filter g xs
filter-same f g h [] = refl
filter-same f g h (x ∷ xs) = ap₂ (λ b ys. cond b (x ∷ ys) ys) (h x) (filter-same f g h xs)

module _ (readers rows : List (List ℚ)) where
  -- a reduced vector covers two as it does without the pins
  covers_same : (a b g : List ℚ) → All (λ r. IsTight r g) readers → covers rows a b g ≡ covers (pinned readers rows) a b g
  covers_same a b g h =
      sym (list_all-append f (readers ++ map negated readers) rows
      ∙ ap (λ t. t && list_all f rows) (list_all-true f (readers ++ map negated readers) (all_of_members (λ r. f r ≡ true) (readers ++ map negated readers) (λ r k.
      or_right (not (is_zero (dot r a)) || not (is_zero (dot r b))) (is_zero (dot r g)) (test_of_zero (dot r g) (at r (Contains-append_cases readers (map negated readers) r k)))))))
    where
      f : List ℚ → Bool
      f r = not (is_zero (dot r a)) || not (is_zero (dot r b)) || is_zero (dot r g)

      at : (r : List ℚ) → Contains readers r ⊎ Contains (map negated readers) r → dot r g ≡ zero_ℚ
      at r (inl m) = member_of (λ s. IsTight s g) readers r h m
      at r (inr m) =
          let s : (x : List ℚ) × Contains readers x × (negated x ≡ r) = Contains-map_source negated readers r m in
          ap (λ v. dot v g) (sym s.2) ∙ tight_negated s.0 g (member_of (λ t. IsTight t g) readers s.0 h s.1)

  pairs_same : (live : List Numbered) (row : List ℚ) → AreTightAt readers (vectors live) → live_pairs rows live row ≡ live_pairs (pinned readers rows) live row
  pairs_same live row h = filter-same (is_uncovered_live rows live) (is_uncovered_live (pinned readers rows) live) (λ pair.
      list_all-same _ _ live (all_of_members _ live (λ g k.
      ap (λ c. nat_eq g.number pair.plus_side.number || nat_eq g.number pair.minus_side.number || not c)
      (covers_same pair.plus_side.vector pair.minus_side.vector g.vector
      (member_of (λ v. All (λ r. IsTight r v) readers) (vectors live) g.vector h (Contains-map (λ x. x.vector) live g k))))))
      _

pub pinned_step : PinnedStep
pinned_step readers rows list row h = λ i. record {
  live = staying row list.live ++ numbered list.next (made row (map without_numbers (pairs_same readers rows list.live row h i)));
  next = list.next + length (pairs_same readers rows list.live row h i);
}
