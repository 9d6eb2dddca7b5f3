-- The steps of an addition that are held without the entries at marked places are held with them,
-- where all generators are 0 there: what is left are products and sums of 0, and 0 divided.
use Rattle.std.proofs.Common.{◌≡◌, ℕ, List, [], ◌∷◌, ◌++◌, map, length, All, AllPairs, Contains, Bool, true, false, cond, ◌||◌, IsTrue, Option, Some, None, refl, sym, ap, ap₂, ◌∙◌, subst, arith}
use Rattle.std.specs.Prelude.{zip}
use Rattle.std.specs.List.{flat_map}
use Rattle.std.proofs.lemmas.List.Elements.{All-nil, All-cons, All-head, All-tail, All-append}
use Rattle.std.proofs.lemmas.Simd.{map-map}
use Rattle.exact_field.specs.Rational.{ℚ, zero_ℚ, ◌+ℚ◌, ◌*ℚ◌, ◌/ℚ◌, neg_ℚ, inverse_ℚ}
use Rattle.exact_field.specs.Vector.{dot}
use Rattle.exact_field.specs.declared.op.Op.TheVariants as op
use Rattle.frac128.specs.Sparse.{is_zero}
use Rattle.polyhedra.specs.DoubleDescription.{magnitude, norming}
use Rattle.polyhedra.specs.DoubleDescription as poly
use Rattle.polyhedra.specs.LiveList.{Numbered, LiveList, LivePair, live_pairs, pairs}
use Rattle.polyhedra.specs.Vectors.{plus, scaled}
use Rattle.polyhedra.proofs.Algebra.{mul_zero, zero_mul}
use Rattle.polyhedra.proofs.Laws.{add_zero}
use Rattle.polyhedra.proofs.Linear.{length-scaled}
use Rattle.polyhedra.proofs.Members.{all_of_members, member_of, Contains-map, Contains-map_source}
use Rattle.polyhedra.proofs.Tests.{same_tests, test_of_zero, zero_of_test}
use Rattle.polyhedra.proofs.Lists.{all_front, all_back}
use Rattle.double_descr.specs.Adding.{Block, AreHeld, value_block, pair_block, add_blocks}
use Rattle.double_descr.specs.Steps.{Step, IsHeld, term_steps, multiple_steps}
use Rattle.double_descr.specs.Steps as description
use Rattle.double_descr.proofs.StepLists.{no_product, a_term}
use Rattle.lineality.specs.Steps.{IsClear, numbered_without}
use Rattle.lineality.specs.Without.{without, with_zeros}
use Rattle.lineality.proofs.Masks.{without-plus, without-scaled}
use Rattle.lineality.proofs.StepsWithout.{IsGood, same_dot, norming-same, good-scaled, good-plus}
use Rattle.word_lines.specs.declared.part.LogPair.{LogPair}
use Rattle.log_rules.specs.Events.{Event, sum_from, dot_steps}
use Rattle.log_rules.specs.Events.Event.{test, step}
use Rattle.log_rules.specs.Live.{find, log_pair, required_pairs}
use Rattle.log_rules.specs.LiveEvents.{meeting_steps, meeting_point, same_pairs}
use Rattle.log_rules.specs.declared.rule.Rule.TheVariants as rule
use Rattle.log_rules.proofs.Kept.{Earlier, find_is}
use Rattle.log_rules.proofs.PassedTests.{zero_number, zero_passes}
use Rattle.log_live.proofs.LivePairs.{parted}
use Rattle.rep_conv.specs.Events.{IsHeldStep, pair_steps, quotient_steps, pair_of, added_events}

-- ---- lists
some_same : {X : Type 0} (x y : X) → Some x ≡ Some y → x ≡ y
some_same x y e = cc

zero_tests : (q : ℚ) → is_zero q ≡ poly.is_zero q
zero_tests q = same_tests (is_zero q) (poly.is_zero q) (λ h. test_of_zero q (zero_number q h)) (λ h. zero_passes q (zero_of_test q h))

meets : (k : ℚ) (p m : List ℚ) → length p ≡ length m → meeting_point k p m ≡ plus p (scaled k m)
meets k [] [] h = refl
meets k [] (y ∷ m) h = absurd (omega (arith, h))
meets k (x ∷ p) [] h = absurd (omega (arith, h))
meets k (x ∷ p) (y ∷ m) h = ap (λ z. (x +ℚ k *ℚ y) ∷ z) (meets k p m (omega (arith, h)))

abbrev pair_numbers : LivePair → ℕ × ℕ
pair_numbers pair = (pair.plus_side.number, pair.minus_side.number)

-- the steps of a pair whose generators are found
found_pair : (row : List ℚ) (live : List Numbered) (p m : Numbered) → find live p.number ≡ Some p → find live m.number ≡ Some m →
    pair_of row live (log_pair (p.number, m.number)) ≡ pair_steps row p m
found_pair row live p m e f =
    ap (λ (o : Option Numbered). elim o [ Some plus ↦ elim (find live m.number) [ Some minus ↦ pair_steps row plus minus | None ↦ [] ] | None ↦ [] ]) e
    ∙ ap (λ (o : Option Numbered). elim o [ Some minus ↦ pair_steps row p minus | None ↦ [] ]) f

-- ---- vectors that are 0 at the marked places
first_of : (x y : ℚ) (xs ys : List ℚ) → x ∷ xs ≡ y ∷ ys → x ≡ y
first_of x y xs ys e = cc

rest_of : (x y : ℚ) (xs ys : List ℚ) → x ∷ xs ≡ y ∷ ys → xs ≡ ys
rest_of x y xs ys e = cc

clear_zero : (bs : List Bool) (y : ℚ) (v : List ℚ) → IsClear (true ∷ bs) (y ∷ v) → y ≡ zero_ℚ
clear_zero bs y v c = sym (first_of zero_ℚ y (with_zeros bs (without bs v)) v c)

clear_rest : (b : Bool) (bs : List Bool) (y : ℚ) (v : List ℚ) → IsClear (b ∷ bs) (y ∷ v) → IsClear bs v
clear_rest true bs y v c = rest_of zero_ℚ y (with_zeros bs (without bs v)) v c
clear_rest false bs y v c = rest_of y y (with_zeros bs (without bs v)) v c

module _ (holds : ℚ → Bool) (held_zero : IsTrue (holds zero_ℚ)) where
  abbrev Held : Event → Type 0
  Held = IsHeldStep holds

  each_of : {X : Type 0} (f : X → List Event) (xs : List X) → All (λ x. All Held (f x)) xs → All Held (flat_map f xs)
  each_of f [] h = All-nil Held
  each_of f (x ∷ xs) h = All-append Held (f x) (flat_map f xs) (All-head (λ y. All Held (f y)) x xs h) (each_of f xs (All-tail (λ y. All Held (f y)) x xs h))

  each_of_map : {X Y : Type 0} (f : Y → List Event) (g : X → Y) (xs : List X) → All (λ x. All Held (f (g x))) xs → All Held (flat_map f (map g xs))
  each_of_map f g [] h = All-nil Held
  each_of_map f g (x ∷ xs) h =
      All-append Held (f (g x)) (flat_map f (map g xs)) (All-head (λ y. All Held (f (g y))) x xs h) (each_of_map f g xs (All-tail (λ y. All Held (f (g y))) x xs h))

  held_at : (q : ℚ) → q ≡ zero_ℚ → IsTrue (holds q)
  held_at q e = subst (λ (x : ℚ). IsTrue (holds x)) (sym e) held_zero

  -- ---- products
  -- one more term
  one_term : (t x y : ℚ) (xs ys short_xs short_ys : List ℚ) →
      All (IsHeld holds) (term_steps t x y ++ description.product_steps (t +ℚ x *ℚ y) short_xs short_ys) →
      ((u : ℚ) → All (IsHeld holds) (description.product_steps u short_xs short_ys) → All Held (sum_from u (zip xs ys))) →
      All Held (sum_from t ((x, y) ∷ zip xs ys))
  one_term t x y xs ys short_xs short_ys h rest = by (is_zero x || is_zero y) refl
    where
      tests : (is_zero x || is_zero y) ≡ (poly.is_zero x || poly.is_zero y)
      tests = ap₂ (λ a b. a || b) (zero_tests x) (zero_tests y)

      by : (b : Bool) → (is_zero x || is_zero y) ≡ b → All Held (sum_from t ((x, y) ∷ zip xs ys))
      by true e =
          let none : (poly.is_zero x || poly.is_zero y) ≡ true = sym tests ∙ e in
          subst (λ (c : Bool). All Held (cond c (sum_from t (zip xs ys)) (step op.Mul x y ∷ step op.Add t (x *ℚ y) ∷ sum_from (t +ℚ x *ℚ y) (zip xs ys)))) (sym e)
          (subst (λ (u : ℚ). All Held (sum_from u (zip xs ys))) (sym (no_product t x y none))
          (rest (t +ℚ x *ℚ y) (all_back (IsHeld holds) (term_steps t x y) (description.product_steps (t +ℚ x *ℚ y) short_xs short_ys) h)))
      by false e =
          let some : (poly.is_zero x || poly.is_zero y) ≡ false = sym tests ∙ e in
          let first : Step = record { op = op.Mul; a = x; b = y } in
          let second : Step = record { op = op.Add; a = t; b = x *ℚ y } in
          let both : All (IsHeld holds) (first ∷ second ∷ []) =
          subst (λ (ss : List Step). All (IsHeld holds) ss) (a_term t x y some)
          (all_front (IsHeld holds) (term_steps t x y) (description.product_steps (t +ℚ x *ℚ y) short_xs short_ys) h) in
          subst (λ (c : Bool). All Held (cond c (sum_from t (zip xs ys)) (step op.Mul x y ∷ step op.Add t (x *ℚ y) ∷ sum_from (t +ℚ x *ℚ y) (zip xs ys)))) (sym e)
          (All-cons Held (step op.Mul x y) (step op.Add t (x *ℚ y) ∷ sum_from (t +ℚ x *ℚ y) (zip xs ys)) (All-head (IsHeld holds) first (second ∷ []) both)
          (All-cons Held (step op.Add t (x *ℚ y)) (sum_from (t +ℚ x *ℚ y) (zip xs ys))
          (All-head (IsHeld holds) second [] (All-tail (IsHeld holds) first (second ∷ []) both))
          (rest (t +ℚ x *ℚ y) (all_back (IsHeld holds) (term_steps t x y) (description.product_steps (t +ℚ x *ℚ y) short_xs short_ys) h))))

  -- a term with the factor 0 has no step
  no_step : (t x y : ℚ) (xs ys : List ℚ) → y ≡ zero_ℚ → sum_from t (zip xs ys) ≡ sum_from t ((x, y) ∷ zip xs ys)
  no_step t x y xs ys e =
      ap (λ (c : Bool). cond c (sum_from t (zip xs ys)) (step op.Mul x y ∷ step op.Add t (x *ℚ y) ∷ sum_from (t +ℚ x *ℚ y) (zip xs ys)))
      (sym (by (is_zero x) (zero_tests y ∙ test_of_zero y e)))
    where
      by : (b : Bool) → is_zero y ≡ true → (b || is_zero y) ≡ true
      by true h = refl
      by false h = h

  sum_held : (bs : List Bool) (t : ℚ) (r v : List ℚ) → IsClear bs v → All (IsHeld holds) (description.product_steps t (without bs r) (without bs v)) →
      All Held (sum_from t (zip r v))
  sum_held [] t [] v c h = All-nil Held
  sum_held [] t (x ∷ r) [] c h = All-nil Held
  sum_held [] t (x ∷ r) (y ∷ v) c h = one_term t x y r v r v h (λ u k. sum_held [] u r v refl k)
  sum_held (b ∷ bs) t [] v c h = All-nil Held
  sum_held (b ∷ bs) t (x ∷ r) [] c h = All-nil Held
  sum_held (true ∷ bs) t (x ∷ r) (y ∷ v) c h =
      subst (λ (es : List Event). All Held es) (no_step t x y r v (clear_zero bs y v c)) (sum_held bs t r v (clear_rest true bs y v c) h)
  sum_held (false ∷ bs) t (x ∷ r) (y ∷ v) c h =
      one_term t x y r v (without bs r) (without bs v) h (λ u k. sum_held bs u r v (clear_rest false bs y v c) k)

  -- ---- p + k m
  -- the two steps of an entry
  two_steps : (k x y : ℚ) (p m : List ℚ) (rest : List Step) →
      All (IsHeld holds) (record { op = op.Mul; a = k; b = y } ∷ record { op = op.Add; a = x; b = k *ℚ y } ∷ rest) →
      (All (IsHeld holds) rest → All Held (meeting_steps k p m)) → All Held (meeting_steps k (x ∷ p) (y ∷ m))
  two_steps k x y p m rest h again =
      let later : All (IsHeld holds) (record { op = op.Add; a = x; b = k *ℚ y } ∷ rest) =
      All-tail (IsHeld holds) (record { op = op.Mul; a = k; b = y }) (record { op = op.Add; a = x; b = k *ℚ y } ∷ rest) h in
      All-cons Held (step op.Mul k y) (step op.Add x (k *ℚ y) ∷ meeting_steps k p m)
      (All-head (IsHeld holds) (record { op = op.Mul; a = k; b = y }) (record { op = op.Add; a = x; b = k *ℚ y } ∷ rest) h)
      (All-cons Held (step op.Add x (k *ℚ y)) (meeting_steps k p m) (All-head (IsHeld holds) (record { op = op.Add; a = x; b = k *ℚ y }) rest later)
      (again (All-tail (IsHeld holds) (record { op = op.Add; a = x; b = k *ℚ y }) rest later)))

  sums_held : (bs : List Bool) (k : ℚ) (p m : List ℚ) → IsClear bs p → IsClear bs m →
      All (IsHeld holds) (description.combination_steps k (without bs p) (without bs m)) → All Held (meeting_steps k p m)
  sums_held [] k [] m c d h = All-nil Held
  sums_held [] k (x ∷ p) [] c d h = All-nil Held
  sums_held [] k (x ∷ p) (y ∷ m) c d h = two_steps k x y p m (description.combination_steps k p m) h (sums_held [] k p m refl refl)
  sums_held (b ∷ bs) k [] m c d h = All-nil Held
  sums_held (b ∷ bs) k (x ∷ p) [] c d h = All-nil Held
  sums_held (true ∷ bs) k (x ∷ p) (y ∷ m) c d h =
      let none : k *ℚ y ≡ zero_ℚ = ap (λ a. k *ℚ a) (clear_zero bs y m d) ∙ mul_zero k in
      All-cons Held (step op.Mul k y) (step op.Add x (k *ℚ y) ∷ meeting_steps k p m) (held_at (k *ℚ y) none)
      (All-cons Held (step op.Add x (k *ℚ y)) (meeting_steps k p m)
      (held_at (x +ℚ k *ℚ y) (ap₂ (λ a b. a +ℚ b) (clear_zero bs x p c) none ∙ add_zero zero_ℚ))
      (sums_held bs k p m (clear_rest true bs x p c) (clear_rest true bs y m d) h))
  sums_held (false ∷ bs) k (x ∷ p) (y ∷ m) c d h =
      two_steps k x y p m (description.combination_steps k (without bs p) (without bs m)) h
      (sums_held bs k p m (clear_rest false bs x p c) (clear_rest false bs y m d))

  -- ---- quotients
  divided_held : (bs : List Bool) (d : ℚ) (z : List ℚ) → IsClear bs z → All (IsHeld holds) (description.quotient_steps d (without bs z)) →
      All Held (map (λ x. step op.Div x d) z)
  divided_held [] d [] c h = All-nil Held
  divided_held [] d (x ∷ z) c h =
      All-cons Held (step op.Div x d) (map (λ y. step op.Div y d) z) (All-head (IsHeld holds) (record { op = op.Div; a = x; b = d }) (description.quotient_steps d z) h)
      (divided_held [] d z refl (All-tail (IsHeld holds) (record { op = op.Div; a = x; b = d }) (description.quotient_steps d z) h))
  divided_held (b ∷ bs) d [] c h = All-nil Held
  divided_held (true ∷ bs) d (x ∷ z) c h =
      All-cons Held (step op.Div x d) (map (λ y. step op.Div y d) z)
      (held_at (x /ℚ d) (ap (λ a. a /ℚ d) (clear_zero bs x z c) ∙ zero_mul (inverse_ℚ d)))
      (divided_held bs d z (clear_rest true bs x z c) h)
  divided_held (false ∷ bs) d (x ∷ z) c h =
      let rest = description.quotient_steps d (without bs z) in
      All-cons Held (step op.Div x d) (map (λ y. step op.Div y d) z) (All-head (IsHeld holds) (record { op = op.Div; a = x; b = d }) rest h)
      (divided_held bs d z (clear_rest false bs x z c) (All-tail (IsHeld holds) (record { op = op.Div; a = x; b = d }) rest h))

  module _ (bs : List Bool) (row : List ℚ) where
    abbrev W : List ℚ → List ℚ
    W = without bs

    -- ---- the value of a generator
    pub value_held : (g : Numbered) → IsClear bs g.vector → AreHeld holds (value_block (W row) (numbered_without bs g)) → All Held (dot_steps row g.vector)
    value_held g c h = sum_held bs zero_ℚ row g.vector c h

    -- ---- a new generator
    module _ (p m : List ℚ) (gp : IsGood bs p) (gm : IsGood bs m) where
      abbrev k : ℚ
      k = dot row p /ℚ neg_ℚ (dot row m)

      abbrev point : List ℚ
      point = plus p (scaled k m)

      point_good : IsGood bs point
      point_good = good-plus bs p (scaled k m) gp (good-scaled bs k m gm)

      point_without : plus (W p) (scaled k (W m)) ≡ W point
      point_without = ap (plus (W p)) (sym (without-scaled bs k m)) ∙ sym (without-plus bs p (scaled k m) (gp.wide ∙ sym (length-scaled k m ∙ gm.wide)))

      point_is : meeting_point k p m ≡ point
      point_is = meets k p m (gp.wide ∙ sym gm.wide)

      steps_without : description.meeting_steps (dot (W row) (W p)) (dot (W row) (W m)) (W p) (W m)
          ≡ record { op = op.Div; a = dot row p; b = neg_ℚ (dot row m) } ∷ description.combination_steps k (W p) (W m)
          ++ description.quotient_steps (magnitude (norming point)) (W point)
      steps_without =
          ap₂ (λ a b. description.meeting_steps a b (W p) (W m)) (same_dot bs row p gp) (same_dot bs row m gm)
          ∙ ap (λ z. record { op = op.Div; a = dot row p; b = neg_ℚ (dot row m) } ∷ description.combination_steps k (W p) (W m)
          ++ description.quotient_steps (magnitude (norming z)) z) point_without
          ∙ ap (λ a. record { op = op.Div; a = dot row p; b = neg_ℚ (dot row m) } ∷ description.combination_steps k (W p) (W m)
          ++ description.quotient_steps (magnitude a) (W point)) (norming-same bs point point_good)

      meeting_held : All (IsHeld holds) (description.meeting_steps (dot (W row) (W p)) (dot (W row) (W m)) (W p) (W m)) →
          All Held (step op.Div (dot row p) (neg_ℚ (dot row m)) ∷ meeting_steps k p m ++ quotient_steps (meeting_point k p m))
      meeting_held h =
          let first : Step = record { op = op.Div; a = dot row p; b = neg_ℚ (dot row m) } in
          let sums = description.combination_steps k (W p) (W m) in
          let quotients = description.quotient_steps (magnitude (norming point)) (W point) in
          let all : All (IsHeld holds) (first ∷ sums ++ quotients) = subst (All (IsHeld holds)) steps_without h in
          let rest : All (IsHeld holds) (sums ++ quotients) = All-tail (IsHeld holds) first (sums ++ quotients) all in
          All-cons Held (step op.Div (dot row p) (neg_ℚ (dot row m))) (meeting_steps k p m ++ quotient_steps (meeting_point k p m))
          (All-head (IsHeld holds) first (sums ++ quotients) all)
          (All-append Held (meeting_steps k p m) (quotient_steps (meeting_point k p m))
          (sums_held bs k p m gp.clear gm.clear (all_front (IsHeld holds) sums quotients rest))
          (subst (λ z. All Held (quotient_steps z)) (sym point_is)
          (divided_held bs (magnitude (norming point)) point point_good.clear (all_back (IsHeld holds) sums quotients rest))))

    pub pair_held : (plus_side minus_side : Numbered) → IsGood bs plus_side.vector → IsGood bs minus_side.vector →
        AreHeld holds (pair_block (W row) (record { plus_side = numbered_without bs plus_side; minus_side = numbered_without bs minus_side })) →
        All Held (pair_steps row plus_side minus_side)
    pair_held p m gp gm h = meeting_held p.vector m.vector gp gm h

    -- ---- the addition
    module _ (rows : List (List ℚ)) (list : LiveList) (rises : AllPairs Earlier list.live) (good : (g : Numbered) → Contains list.live g → IsGood bs g.vector) where
      abbrev less : Numbered → Numbered
      less = numbered_without bs

      -- a generator without the marked places is that of its number
      same_number : (g : Numbered) (short : Numbered) → Contains list.live g → Contains (map less list.live) short → short.number ≡ g.number → short ≡ less g
      same_number g short c d e =
          let source = Contains-map_source less list.live short d in
          let number : source.0.number ≡ g.number = ap (λ (n : Numbered). n.number) source.2 ∙ e in
          let found : Some source.0 ≡ Some g =
          sym (find_is list.live g.number source.0 rises source.1 number) ∙ find_is list.live g.number g rises c refl in
          sym source.2 ∙ ap less (some_same source.0 g found)

      abbrev short_blocks : List Block
      short_blocks = add_blocks (map W rows) (map less list.live) (W row)

      module _ (pairs_same : pairs rows list.live row ≡ pairs (map W rows) (map less list.live) (W row)) (h : All (AreHeld holds) short_blocks) where
        abbrev short_values : List Block
        short_values = map (value_block (W row)) (map less list.live)

        abbrev short_pairs : List LivePair
        short_pairs = live_pairs (map W rows) (map less list.live) (W row)

        values_held : All Held (flat_map (λ (g : Numbered). dot_steps row g.vector) list.live)
        values_held = each_of (λ (g : Numbered). dot_steps row g.vector) list.live
            (all_of_members (λ (g : Numbered). All Held (dot_steps row g.vector)) list.live (λ g c.
            value_held g (good g c).clear
            (member_of (AreHeld holds) short_values (value_block (W row) (less g))
            (all_front (AreHeld holds) short_values (map (pair_block (W row)) short_pairs) h)
            (Contains-map (value_block (W row)) (map less list.live) (less g) (Contains-map less list.live g c)))))

        one_pair : (pair : LivePair) → Contains (live_pairs rows list.live row) pair → All Held (pair_of row list.live (log_pair (pair_numbers pair)))
        one_pair pair c =
            let two = parted rows list.live row pair c in
            let there : Contains (map pair_numbers short_pairs) (pair_numbers pair) =
            subst (λ (ps : List (ℕ × ℕ)). Contains ps (pair_numbers pair)) pairs_same (Contains-map pair_numbers (live_pairs rows list.live row) pair c) in
            let source = Contains-map_source pair_numbers short_pairs (pair_numbers pair) there in
            let short_two = parted (map W rows) (map less list.live) (W row) source.0 source.1 in
            let plus_is : source.0.plus_side ≡ less pair.plus_side = same_number pair.plus_side source.0.plus_side two.plus short_two.plus (ap (λ (n : ℕ × ℕ). n.0) source.2) in
            let minus_is : source.0.minus_side ≡ less pair.minus_side = same_number pair.minus_side source.0.minus_side two.minus short_two.minus (ap (λ (n : ℕ × ℕ). n.1) source.2) in
            let here : AreHeld holds (pair_block (W row) source.0) =
            member_of (AreHeld holds) (map (pair_block (W row)) short_pairs) (pair_block (W row) source.0)
            (all_back (AreHeld holds) short_values (map (pair_block (W row)) short_pairs) h) (Contains-map (pair_block (W row)) short_pairs source.0 source.1) in
            subst (All Held) (sym (found_pair row list.live pair.plus_side pair.minus_side
            (find_is list.live pair.plus_side.number pair.plus_side rises two.plus refl) (find_is list.live pair.minus_side.number pair.minus_side rises two.minus refl)))
            (pair_held pair.plus_side pair.minus_side (good pair.plus_side two.plus) (good pair.minus_side two.minus)
            (subst (λ (p : LivePair). AreHeld holds (pair_block (W row) p))
            (ap₂ (λ (a b : Numbered). record { plus_side = a; minus_side = b }) plus_is minus_is) here))

        pairs_held : All Held (flat_map (pair_of row list.live) (required_pairs rows list.live row))
        pairs_held = subst (λ (ps : List LogPair). All Held (flat_map (pair_of row list.live) ps)) (sym (map-map log_pair pair_numbers (live_pairs rows list.live row)))
            (each_of_map (pair_of row list.live) (λ (p : LivePair). log_pair (pair_numbers p)) (live_pairs rows list.live row)
            (all_of_members (λ (p : LivePair). All Held (pair_of row list.live (log_pair (pair_numbers p)))) (live_pairs rows list.live row) one_pair))

        -- all steps of the addition of a row are held
        pub added_held : All Held (added_events rows list.live row (required_pairs rows list.live row))
        added_held = All-append Held (flat_map (λ (g : Numbered). dot_steps row g.vector) list.live)
            (test rule.Pairs (same_pairs (required_pairs rows list.live row) (required_pairs rows list.live row)) ∷ flat_map (pair_of row list.live) (required_pairs rows list.live row))
            values_held
            (All-cons Held (test rule.Pairs (same_pairs (required_pairs rows list.live row) (required_pairs rows list.live row)))
            (flat_map (pair_of row list.live) (required_pairs rows list.live row)) tt pairs_held)
