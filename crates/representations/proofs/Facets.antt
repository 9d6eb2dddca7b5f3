-- The named inequalities of a solved set without lines generate each valid one: the greatest multiple of a named
-- row comes off a row that is at least 0 at the generators, until it is 0.
use Rattle.std.proofs.Common.{◌≡◌, ℕ, zero, suc, ◌<◌, List, map, length, All, Contains, refl, sym, ap, ◌∙◌, subst, arith, ◌⊎◌, inl, inr}
use Rattle.std.proofs.lemmas.List.Elements.{All-weaker, All-cons, All-map}
use Rattle.exact_field.specs.Rational.{ℚ, zero_ℚ, one_ℚ, ◌+ℚ◌, ◌*ℚ◌, neg_ℚ, ◌≤ℚ◌, ◌<ℚ◌}
use Rattle.exact_field.specs.Vector.{dot}
use Rattle.polyhedra.specs.Vectors.{AreWide, zeros, plus, scaled}
use Rattle.polyhedra.specs.Cone.{IsGenerated, IsInCone}
use Rattle.polyhedra.specs.Farkas.{IsSeparated}
use Rattle.polyhedra.specs.TightSets.{IsTight, LiesIn}
use Rattle.polyhedra.specs.Inequality.{Inequality}
use Rattle.polyhedra.specs.Hull.{IsValid, IsValidAt}
use Rattle.polyhedra.specs.Exactness.{homogenised, level, row_of, rows_of, IsOneOf, TightLiesIn, IsNamed, IsAccounted, IsSolved}
use Rattle.polyhedra.proofs.Laws.{le_of_lt, zero_lt_one}
use Rattle.polyhedra.proofs.Algebra.{mul_zero}
use Rattle.polyhedra.proofs.Order.{not_zero_of_positive, not_lt_of_le, difference_nonneg}
use Rattle.polyhedra.proofs.Linear.{dot_comm, dot-plus, dot-scaled, dot-zeros, length-plus, length-scaled, length-zeros, same_wide}
use Rattle.polyhedra.proofs.Lists.{HoldsAt, HasWidth, Contains-here, Contains-there, Contains-cases}
use Rattle.polyhedra.proofs.Members.{all_of_members, member_of, Contains-map, Contains-map_source}
use Rattle.polyhedra.proofs.LeastQuotient.{IsPositiveSomewhere, IsLeastQuotient, least_quotient, less, less_back, less_width, less_tight, less_holds, less_reached}
use Rattle.polyhedra.proofs.TightRows.{loose, loose-lt, tight_or_positive}
use Rattle.polyhedra.proofs.Generated.{generated_value, generated_zero, generated_plus, generated_scaled, generated_generator}
use Rattle.polyhedra.proofs.Support.{InSupport, support_listed, support_zero, support_positive}
use Rattle.polyhedra.proofs.Farkas.{farkas, generated_nonneg}
use Rattle.polyhedra.proofs.Homogenised.{length-homogenised, level_value, row_value_point, row_value_direction}
use Rattle.polyhedra.proofs.Cones.{IsOnRay, one_ray}
use Rattle.polyhedra.proofs.ConvexSets.{direction_value}
use Rattle.polyhedra.proofs.Enclosed.{InK, cut_valid, some_point, homogenised_in, point_back, generator_at_cut, generator_at_level}
use Rattle.representations.specs.Facets.{MeetsAll}

module _ (n : ℕ) (Set Directions : List ℚ → Type 0) (c : List ℚ) (cuts : List Inequality) (gens points directions : List (List ℚ)) (named : List Inequality)
    (s : IsSolved n Set Directions c cuts gens points directions named) where
  -- at least 0 at each generator
  unfoldable Nonneg : List ℚ → Type 0
  Nonneg r = All (HoldsAt r) gens

  cut_is_valid : (e : Inequality) → Contains cuts e → IsValidAt n Set c e
  cut_is_valid e k = cut_valid n Set Directions c cuts gens points directions s.enclosed e k

  named_is_cut : (f : Inequality) → Contains named f → Contains cuts f
  named_is_cut f k = (member_of (IsNamed n cuts gens) named f s.names k).cut

  rows_wide : AreWide (suc n) (rows_of n named)
  rows_wide = record {
    wide = All-cons (HasWidth (suc n)) (level n) (map row_of named) (length-homogenised n (zeros n) one_ℚ (length-zeros n))
        (All-map (HasWidth (suc n)) row_of named (all_of_members (λ f. length (row_of f) ≡ suc n) named
        (λ f k. length-homogenised n f.normal (neg_ℚ f.bound) (cut_is_valid f (named_is_cut f k)).wide)));
  }

  -- ---- Farkas: a row that is at least 0 at each generator is a combination of the rows of the cuts
  rows_nonneg : (g : List ℚ) → Contains gens g → All (HoldsAt g) (rows_of n cuts)
  rows_nonneg g k = (member_of (IsInCone (suc n) (rows_of n cuts)) gens g s.described.inside k).within

  from_rows : (r : List ℚ) → length r ≡ suc n → Nonneg r → IsGenerated (suc n) (rows_of n cuts) r
  unfolding Nonneg
  from_rows r width h = go (farkas (suc n) (rows_of n cuts) r s.described.rows_wide width)
    where
      go : IsGenerated (suc n) (rows_of n cuts) r ⊎ IsSeparated (suc n) (rows_of n cuts) r → IsGenerated (suc n) (rows_of n cuts) r
      go (inl g) = g
      go (inr t) = absurd (not_lt_of_le zero_ℚ (dot r t.vector) (generated_nonneg (suc n) gens r t.vector
          (All-weaker (HoldsAt r) (λ g. zero_ℚ ≤ℚ dot r g) (λ g k. subst (λ (x : ℚ). zero_ℚ ≤ℚ x) (dot_comm g r) k) gens h)
          (s.described.generates t.vector t.in_cone)) t.below)

  -- a row of a support is tight wherever the combination is
  support_tight : (r e : List ℚ) (g : IsGenerated (suc n) (rows_of n cuts) r) → InSupport g.multipliers (rows_of n cuts) e → LiesIn gens r e
  support_tight r e g m = all_of_members (λ v. IsTight v r → IsTight v e) gens (λ v k t.
      dot_comm v e ∙ support_zero g.multipliers (rows_of n cuts) e v g.at_least_zero (rows_nonneg v k)
      (sym (generated_value (suc n) (rows_of n cuts) r g v) ∙ t) m)

  lies_through : (a b d : List ℚ) → LiesIn gens a b → LiesIn gens b d → LiesIn gens a d
  lies_through a b d h k = all_of_members (λ v. IsTight v a → IsTight v d) gens
      (λ v m e. member_of (λ w. IsTight w b → IsTight w d) gens v k m (member_of (λ w. IsTight w a → IsTight w b) gens v h m e))

  -- the same with rows in the place of generators
  turned : (a b : List ℚ) → TightLiesIn gens a b → LiesIn gens a b
  turned a b h = all_of_members (λ v. IsTight v a → IsTight v b) gens (λ v k e. dot_comm v b
      ∙ member_of (λ w. dot a w ≡ zero_ℚ → dot b w ≡ zero_ℚ) gens v h k (dot_comm a v ∙ e))

  row_nonneg : (r : List ℚ) → Contains (rows_of n cuts) r → Nonneg r
  unfolding Nonneg
  row_nonneg r k = all_of_members (HoldsAt r) gens (λ g m. subst (λ (x : ℚ). zero_ℚ ≤ℚ x) (dot_comm r g) (member_of (HoldsAt g) (rows_of n cuts) r (rows_nonneg g m) k))

  -- ---- a row that may come off
  pub record IsTaken (r : List ℚ) : Type 0 where
    pub row : List ℚ
    pub listed : Contains (rows_of n named) row
    pub in_use : Contains (rows_of n cuts) row
    pub lies : LiesIn gens r row
    pub positive : IsPositiveSomewhere gens row

  level_taken : (r : List ℚ) → LiesIn gens r (level n) → IsTaken r
  level_taken r l =
      let g : (v : List ℚ) × Contains gens v × (zero_ℚ <ℚ dot (level n) v) = generator_at_level n Set Directions c cuts gens points directions s.enclosed in
      record {
        row = level n;
        listed = Contains-here (level n) (map row_of named) (level n) refl;
        in_use = Contains-here (level n) (map row_of cuts) (level n) refl;
        lies = l;
        positive = record { row = g.0; listed = g.1; positive = subst (λ (x : ℚ). zero_ℚ <ℚ x) (dot_comm (level n) g.0) g.2 };
      }

  named_taken : (r : List ℚ) (f : Inequality) → Contains named f → LiesIn gens r (row_of f) → IsTaken r
  named_taken r f k l =
      let g : (v : List ℚ) × Contains gens v × (zero_ℚ <ℚ dot (row_of f) v) =
      generator_at_cut n Set Directions c cuts gens points directions s.enclosed f (named_is_cut f k) in
      record {
        row = row_of f;
        listed = Contains-there (level n) (map row_of named) (row_of f) (Contains-map row_of named f k);
        in_use = Contains-there (level n) (map row_of cuts) (row_of f) (Contains-map row_of cuts f (named_is_cut f k));
        lies = l;
        positive = record { row = g.0; listed = g.1; positive = subst (λ (x : ℚ). zero_ℚ <ℚ x) (dot_comm (row_of f) g.0) g.2 };
      }

  -- what lies in a row in use is taken
  used_taken : (r e : List ℚ) → Contains (rows_of n cuts) e → LiesIn gens r e → IsTaken r
  used_taken r e k l = go (Contains-cases (level n) (map row_of cuts) e k)
    where
      by_cut : (f : Inequality) → Contains cuts f → row_of f ≡ e →
          (TightLiesIn gens (row_of f) (level n) ⊎ ((h : Inequality) × Contains named h × TightLiesIn gens (row_of f) (row_of h))) → IsTaken r
      by_cut f m t (inl h) = level_taken r (lies_through r e (level n) l (subst (λ (v : List ℚ). LiesIn gens v (level n)) t (turned (row_of f) (level n) h)))
      by_cut f m t (inr (h, listed, lies)) = named_taken r h listed
          (lies_through r e (row_of h) l (subst (λ (v : List ℚ). LiesIn gens v (row_of h)) t (turned (row_of f) (row_of h) lies)))

      go : (level n ≡ e) ⊎ Contains (map row_of cuts) e → IsTaken r
      go (inl t) = level_taken r (subst (λ (v : List ℚ). LiesIn gens r v) (sym t) l)
      go (inr m) =
          let f : (x : Inequality) × Contains cuts x × (row_of x ≡ e) = Contains-map_source row_of cuts e m in
          by_cut f.0 f.1 f.2 (member_of (IsAccounted n named gens) cuts f.0 s.accounted f.1).within

  -- a row that is 0 at each generator is 0: no row in use is in its support
  all_zero : (r : List ℚ) → length r ≡ suc n → Nonneg r → All (λ g. IsTight g r) gens → r ≡ zeros (suc n)
  all_zero r width h t =
      let g : IsGenerated (suc n) (rows_of n cuts) r = from_rows r width h in
      let ray : IsOnRay (zeros (suc n)) r = one_ray (suc n) (rows_of n cuts) r (zeros (suc n)) s.described.rows_wide (length-zeros (suc n)) g
      (λ v m. absurd (none v (used_taken r v (support_listed g.multipliers (rows_of n cuts) v m) (support_tight r v g m)))) in
      same_wide (suc n) r (zeros (suc n)) width (length-zeros (suc n)) (λ w.
      ap (λ v. dot w v) ray.same ∙ dot-scaled w ray.factor (zeros (suc n)) ∙ ap (λ x. ray.factor *ℚ x) (dot-zeros w (suc n)) ∙ mul_zero ray.factor
      ∙ sym (dot-zeros w (suc n)))
    where
      none : (v : List ℚ) → IsTaken r → ⊥
      none v k = not_zero_of_positive (dot k.positive.row k.row) k.positive.positive
          (member_of (λ w. IsTight w r → IsTight w k.row) gens k.positive.row k.lies k.positive.listed
          (member_of (λ w. IsTight w r) gens k.positive.row t k.positive.listed))

  -- what is left after the greatest multiple, and the row from it
  module _ (r : List ℚ) (width : length r ≡ suc n) (h : Nonneg r) (k : IsTaken r) where
    quotient : IsLeastQuotient gens r k.row
    unfolding Nonneg
    quotient = least_quotient r k.row gens h (row_nonneg k.row k.in_use) k.lies k.positive

    rest : List ℚ
    rest = less r quotient.quotient k.row

    row_width : length k.row ≡ suc n
    row_width = member_of (HasWidth (suc n)) (rows_of n named) k.row rows_wide.wide k.listed

    rest_width : length rest ≡ suc n
    unfolding rest
    rest_width = less_width (suc n) r k.row quotient.quotient width row_width

    rest_nonneg : Nonneg rest
    unfolding rest Nonneg
    rest_nonneg = less_holds r k.row quotient.quotient gens quotient.bound

    fewer : loose gens rest < loose gens r
    unfolding rest
    fewer = loose-lt gens r rest quotient.row
        (all_of_members (λ v. IsTight v r → IsTight v rest) gens (λ v m e.
        less_tight r k.row v quotient.quotient e (member_of (λ w. IsTight w r → IsTight w k.row) gens v k.lies m e)))
        quotient.listed
        (λ e. not_zero_of_positive (dot quotient.row k.row) quotient.positive (member_of (λ w. IsTight w r → IsTight w k.row) gens quotient.row k.lies quotient.listed e))
        (less_reached r k.row quotient.row quotient.quotient quotient.reached)

    back : IsGenerated (suc n) (rows_of n named) rest → IsGenerated (suc n) (rows_of n named) r
    unfolding rest
    back g = subst (λ (v : List ℚ). IsGenerated (suc n) (rows_of n named) v)
        (same_wide (suc n) (plus rest (scaled quotient.quotient k.row)) r
        (length-plus (suc n) rest (scaled quotient.quotient k.row) rest_width (length-scaled quotient.quotient k.row ∙ row_width)) width
        (λ w. dot-plus w rest (scaled quotient.quotient k.row) ∙ ap (λ x. dot w rest +ℚ x) (dot-scaled w quotient.quotient k.row)
        ∙ sym (less_back r k.row w quotient.quotient)))
        (generated_plus (suc n) (rows_of n named) rest (scaled quotient.quotient k.row) rows_wide g
        (generated_scaled (suc n) (rows_of n named) quotient.quotient k.row rows_wide (le_of_lt zero_ℚ quotient.quotient quotient.above_zero)
        (generated_generator (suc n) (rows_of n named) k.row rows_wide k.listed)))

  generated_within : (fuel : ℕ) (r : List ℚ) → loose gens r < fuel → length r ≡ suc n → Nonneg r → IsGenerated (suc n) (rows_of n named) r
  unfolding Nonneg
  generated_within zero r f width h = absurd (omega arith)
  generated_within (suc fuel) r f width h = go (tight_or_positive gens r h) (λ z a b d. generated_within fuel z a b d)
    where
      go : All (λ g. IsTight g r) gens ⊎ IsPositiveSomewhere gens r →
          ((z : List ℚ) → loose gens z < fuel → length z ≡ suc n → Nonneg z → IsGenerated (suc n) (rows_of n named) z) → IsGenerated (suc n) (rows_of n named) r
      go (inl t) again = subst (λ (v : List ℚ). IsGenerated (suc n) (rows_of n named) v) (sym (all_zero r width h t)) (generated_zero (suc n) (rows_of n named) rows_wide)
      go (inr p) again =
          let g : IsGenerated (suc n) (rows_of n cuts) r = from_rows r width h in
          let u : (v : List ℚ) × InSupport g.multipliers (rows_of n cuts) v × (zero_ℚ <ℚ dot v p.row) =
          support_positive g.multipliers (rows_of n cuts) p.row g.at_least_zero
          (subst (λ (x : ℚ). zero_ℚ <ℚ x) (generated_value (suc n) (rows_of n cuts) r g p.row) p.positive) in
          let k : IsTaken r = used_taken r u.0 (support_listed g.multipliers (rows_of n cuts) u.0 u.1) (support_tight r u.0 g u.1) in
          let less_loose : loose gens (rest r width h k) < loose gens r = fewer r width h k in
          back r width h k (again (rest r width h k) (omega arith) (rest_width r width h k) (rest_nonneg r width h k))

  -- ---- valid inequalities
  valid_nonneg : (e : Inequality) → IsValid n Set e → Nonneg (row_of e)
  unfolding Nonneg
  valid_nonneg e v = all_of_members (HoldsAt (row_of e)) gens (λ g k. subst (λ (x : ℚ). zero_ℚ ≤ℚ x) (dot_comm (row_of e) g) (at g (member_of (IsOneOf points directions) gens g s.each k)))
    where
      at : (g : List ℚ) → IsOneOf points directions g → zero_ℚ ≤ℚ dot (row_of e) g
      at g (inl (y, k, m)) =
          let y_in : Set y = member_of Set points y s.points_in k in
          subst (λ (w : List ℚ). zero_ℚ ≤ℚ dot (row_of e) w) (sym m)
          (subst (λ (x : ℚ). zero_ℚ ≤ℚ x) (sym (row_value_point e y (v.wide ∙ sym (s.convex.wide y y_in)))) (difference_nonneg e.bound (dot e.normal y) (v.holds y y_in)))
      at g (inr (d, k, m)) =
          let d_in : Directions d = member_of Directions directions d s.directions_in k in
          let p : (y : List ℚ) × Contains points y = some_point n Set Directions c cuts gens points directions s.enclosed in
          subst (λ (w : List ℚ). zero_ℚ ≤ℚ dot (row_of e) w) (sym m)
          (subst (λ (x : ℚ). zero_ℚ ≤ℚ x) (sym (row_value_direction e d (v.wide ∙ sym (s.convex.directions_wide d d_in))))
          (direction_value n Set Directions s.convex e p.0 d v (member_of Set points p.0 s.points_in p.1) d_in))

  pub valid_generated : (e : Inequality) → IsValid n Set e → IsGenerated (suc n) (rows_of n named) (row_of e)
  valid_generated e v = generated_within (suc (loose gens (row_of e))) (row_of e) (omega arith) (length-homogenised n e.normal (neg_ℚ e.bound) v.wide) (valid_nonneg e v)

  pub named_valid : (f : Inequality) → Contains named f → IsValidAt n Set c f
  named_valid f k = cut_is_valid f (named_is_cut f k)

  -- ---- a vector that meets the named inequalities meets all
  pub meets_in : (y : List ℚ) → length y ≡ n → MeetsAll named y → Set y
  unfolding InK
  meets_in y width h = point_back n Set Directions c cuts gens points directions s.enclosed y width
      (homogenised_in n Set Directions c cuts gens points directions s.enclosed y one_ℚ width (le_of_lt zero_ℚ one_ℚ zero_lt_one) (λ e k.
      subst (λ (x : ℚ). zero_ℚ ≤ℚ x) (dot_comm (homogenised y one_ℚ) (row_of e))
      (generated_nonneg (suc n) (rows_of n named) (homogenised y one_ℚ) (row_of e) rows_hold (valid_generated e (cut_is_valid e k).valid))))
    where
      rows_hold : All (λ r. zero_ℚ ≤ℚ dot (homogenised y one_ℚ) r) (rows_of n named)
      rows_hold = All-cons (λ r. zero_ℚ ≤ℚ dot (homogenised y one_ℚ) r) (level n) (map row_of named)
          (subst (λ (x : ℚ). zero_ℚ ≤ℚ x) (sym (dot_comm (homogenised y one_ℚ) (level n) ∙ level_value n y one_ℚ width)) (le_of_lt zero_ℚ one_ℚ zero_lt_one))
          (All-map (λ r. zero_ℚ ≤ℚ dot (homogenised y one_ℚ) r) row_of named (all_of_members (λ f. zero_ℚ ≤ℚ dot (homogenised y one_ℚ) (row_of f)) named (λ f k.
          subst (λ (x : ℚ). zero_ℚ ≤ℚ x) (sym (dot_comm (homogenised y one_ℚ) (row_of f) ∙ row_value_point f y ((named_valid f k).wide ∙ sym width)))
          (difference_nonneg f.bound (dot f.normal y) (member_of (λ x. x.bound ≤ℚ dot x.normal y) named f h k)))))

  pub in_meets : (y : List ℚ) → Set y → MeetsAll named y
  in_meets y h = all_of_members (λ e. e.bound ≤ℚ dot e.normal y) named (λ f k. (named_valid f k).holds y h)
