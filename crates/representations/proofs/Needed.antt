-- What of a representation is needed, and that there is one.
use Rattle.std.proofs.Common.{◌≡◌, ℕ, suc, List, [], ◌∷◌, ◌++◌, map, length, All, Contains, refl, sym, ap, ap₂, ◌∙◌, subst, arith, ◌⊎◌, inl, inr, pos, ◌+◌}
use Rattle.std.proofs.lemmas.List.{length-map, length-append}
use Rattle.std.proofs.lemmas.List.Elements.{All-contains_itself, All-head, All-tail, All-map, All-append, All-weaker, Contains-append_left, Contains-append_right, Contains-append_cases}
use Rattle.exact_field.specs.Rational.{ℚ, zero_ℚ, one_ℚ, ◌+ℚ◌, ◌*ℚ◌, neg_ℚ, inverse_ℚ, ◌≤ℚ◌, ◌<ℚ◌}
use Rattle.exact_field.specs.Vector.{dot}
use Rattle.exact_field.specs.Ring.{v0, v1, v2, ◌⊕◌, ◌⊗◌, ◌⊝◌, ⊖, num}
use Rattle.exact_field.proofs.RingTool.{ring}
use Rattle.exact_field.proofs.Rationals.{rationals}
use Rattle.polyhedra.specs.Vectors.{AreWide, zeros, plus, scaled, values, combination}
use Rattle.polyhedra.specs.Cone.{IsGenerated, IsInCone}
use Rattle.polyhedra.specs.Farkas.{IsSeparated}
use Rattle.polyhedra.specs.TightSets.{IsTight, LiesIn, IsDoubleDescriptionPair}
use Rattle.polyhedra.specs.DoubleDescription.{IsNormed}
use Rattle.polyhedra.specs.Negatives.{negated}
use Rattle.polyhedra.specs.Hull.{IsInHull, IsExtremeDirection}
use Rattle.polyhedra.specs.Exactness.{homogenised}
use Rattle.polyhedra.proofs.Laws.{add_zero, add_assoc, mul_one, le_of_lt, mul_nonneg, mul_comm, zero_lt_one}
use Rattle.polyhedra.proofs.Algebra.{zero_add, mul_zero, zero_mul, neg_neg}
use Rattle.polyhedra.proofs.Order.{add_nonneg, le_of_eq, not_zero_of_positive, not_lt_of_le, neg_positive, inverse_positive, mul_inverse_cancel, negative_of_neg}
use Rattle.polyhedra.proofs.Linear.{dot_comm, dot-plus, dot-plus_left, dot-scaled, dot-combination, length-plus, length-scaled, length-combination, same_wide}
use Rattle.polyhedra.proofs.Lists.{HoldsAt, HasWidth, Contains-here, Contains-there, Contains-cases, Contains-nil, values_nonneg}
use Rattle.polyhedra.proofs.Members.{all_of_members, member_of, Contains-map, Contains-map_source}
use Rattle.polyhedra.proofs.LeastQuotient.{IsPositiveSomewhere}
use Rattle.polyhedra.proofs.TightRows.{tight_or_positive}
use Rattle.polyhedra.proofs.Generated.{generated_value, generated_width}
use Rattle.polyhedra.proofs.Support.{InSupport, support_listed, support_zero, support_positive, dot_nonneg}
use Rattle.polyhedra.proofs.Farkas.{farkas}
use Rattle.polyhedra.proofs.Homogenised.{length-homogenised, plus-homogenised, scaled-homogenised, homogenised-same}
use Rattle.polyhedra.proofs.Cones.{IsSumOf, generated_append, gens_same}
use Rattle.polyhedra.proofs.Generators.{described_are_extreme}
use Rattle.polyhedra.proofs.Negatives.{negated_values, dot-negated_left}
use Rattle.lineality.proofs.Lineality.{length-negated}
use Rattle.representations.specs.Lined.{pinned, AreReaders, IsSpanned, AreSidesOf}
use Rattle.representations.specs.Needed.{AreOthers, GeneratorIsNeeded, SpannedIsNeeded, HullIsNeeded, OneListOfGenerators}
use Rattle.representations.proofs.Pinned.{values_none, both_ways, pinned_reader, pinned_negative, pinned_row, pinned_cases}
use Rattle.representations.proofs.LinedCones.{sides_are_hull, raised_value, raised_wide}

-- ---- generators
pub generator_is_needed : GeneratorIsNeeded
generator_is_needed n rows gens d g others g_in o s = start (tight_or_positive rows g (member_of (IsInCone n rows) gens g d.inside g_in).within)
  where
    others_hold : (r : List ℚ) → Contains rows r → All (HoldsAt r) others
    others_hold r k = all_of_members (HoldsAt r) others (λ v m. subst (λ (x : ℚ). zero_ℚ ≤ℚ x) (dot_comm r v)
        (member_of (HoldsAt v) rows r (member_of (IsInCone n rows) gens v d.inside (member_of (Contains gens) others v o.among m)).within k))

    start : All (λ r. IsTight r g) rows ⊎ IsPositiveSomewhere rows g → ⊥
    start (inl t) = member_of (λ v. v ≡ zeros n → ⊥) gens g d.not_zero g_in (d.pointed g (member_of (IsInCone n rows) gens g d.inside g_in).wide t)
    start (inr p) =
        let u : (v : List ℚ) × InSupport s.multipliers others v × (zero_ℚ <ℚ dot v p.row) = support_positive s.multipliers others p.row s.at_least_zero
        (subst (λ (x : ℚ). zero_ℚ <ℚ x) (generated_value n others g s p.row) p.positive) in
        let listed : Contains others u.0 = support_listed s.multipliers others u.0 u.1 in
        let lies : LiesIn rows g u.0 = all_of_members (λ r. IsTight r g → IsTight r u.0) rows (λ r k e.
        dot_comm r u.0 ∙ support_zero s.multipliers others u.0 r s.at_least_zero (others_hold r k) (sym (generated_value n others g s r) ∙ e) u.1) in
        let same : g ≡ u.0 = gens_same n rows gens d g u.0 g_in (member_of (Contains gens) others u.0 o.among listed) lies in
        o.left_out (subst (λ (v : List ℚ). Contains others v) (sym same) listed)

-- ---- beside lines
-- the generators are reduced
pub gens_reduced : (n : ℕ) (readers rows gens : List (List ℚ)) → IsDoubleDescriptionPair n (pinned readers rows) gens → (g r : List ℚ) → Contains gens g →
    Contains readers r → dot r g ≡ zero_ℚ
gens_reduced n readers rows gens d g r g_in r_in =
    let holds : All (HoldsAt g) (pinned readers rows) = (member_of (IsInCone n (pinned readers rows)) gens g d.inside g_in).within in
    both_ways (dot r g) (member_of (HoldsAt g) (pinned readers rows) r holds (pinned_reader readers rows r r_in))
    (subst (λ (x : ℚ). zero_ℚ ≤ℚ x) (dot-negated_left r g) (member_of (HoldsAt g) (pinned readers rows) (negated r) holds (pinned_negative readers rows r r_in)))

-- slopes that the readers do not see are 0
no_slopes : (readers lines : List (List ℚ)) (ms : List ℚ) → AreReaders readers lines → length ms ≡ length lines →
    All (λ r. dot ms (values lines r) ≡ zero_ℚ) readers → (w : List ℚ) → dot ms (values lines w) ≡ zero_ℚ
no_slopes readers lines [] a l h w = refl
no_slopes readers [] (m ∷ ms) a l h w = refl
no_slopes [] (k ∷ lines) (m ∷ ms) a l h w = absurd a
no_slopes (r ∷ readers) (k ∷ lines) (m ∷ ms) a l h w =
    let own : m ≡ zero_ℚ =
    sym (add_zero m) ∙ ap₂ (λ x y. x +ℚ y) (sym (ap (λ x. m *ℚ x) (dot_comm k r ∙ a.0) ∙ mul_one m))
    (sym (values_none ms lines r (All-weaker (λ j. dot r j ≡ zero_ℚ) (λ j. dot j r ≡ zero_ℚ) (λ j e. dot_comm j r ∙ e) lines a.1)))
    ∙ All-head (λ s. dot (m ∷ ms) (values (k ∷ lines) s) ≡ zero_ℚ) r readers h in
    let rest : dot ms (values lines w) ≡ zero_ℚ = no_slopes readers lines ms a.3 (omega arith)
    (all_of_members (λ s. dot ms (values lines s) ≡ zero_ℚ) readers (λ s c.
    sym (zero_add (dot ms (values lines s))) ∙ ap (λ x. x +ℚ dot ms (values lines s))
    (sym (ap (λ x. m *ℚ x) (dot_comm k s ∙ member_of (λ t. IsTight t k) readers s a.2 c) ∙ mul_zero m))
    ∙ member_of (λ t. dot (m ∷ ms) (values (k ∷ lines) t) ≡ zero_ℚ) readers s (All-tail (λ t. dot (m ∷ ms) (values (k ∷ lines) t) ≡ zero_ℚ) r readers h) c)) w in
    ap₂ (λ x y. x *ℚ dot k w +ℚ y) own rest ∙ ap (λ x. x +ℚ zero_ℚ) (zero_mul (dot k w)) ∙ add_zero zero_ℚ

spanned_at : (n : ℕ) (gens lines : List (List ℚ)) (z : List ℚ) (s : IsSpanned n gens lines z) (r : List ℚ) →
    dot r z ≡ dot s.multipliers (values gens r) +ℚ dot s.slopes (values lines r)
spanned_at n gens lines z s r = ap (λ v. dot r v) s.combined ∙ dot-plus r (combination n s.multipliers gens) (combination n s.slopes lines)
    ∙ ap₂ (λ a b. a +ℚ b) (dot-combination n r s.multipliers gens) (dot-combination n r s.slopes lines)

pub spanned_is_needed : SpannedIsNeeded
spanned_is_needed n readers rows gens lines d g others g_in o s =
    generator_is_needed n (pinned readers rows) gens d.described g others g_in o (record {
      multipliers = s.multipliers;
      one_each = s.one_each;
      at_least_zero = s.at_least_zero;
      combined = same_wide n g (combination n s.multipliers others) (member_of (HasWidth n) gens g d.described.generators_wide.wide g_in)
          (length-combination n s.multipliers others others_wide)
          (λ r. spanned_at n others lines g s r ∙ ap (λ x. dot s.multipliers (values others r) +ℚ x) (none r) ∙ add_zero (dot s.multipliers (values others r))
          ∙ sym (dot-combination n r s.multipliers others));
    })
  where
    others_wide : AreWide n others
    others_wide = record { wide = all_of_members (HasWidth n) others (λ v k. member_of (HasWidth n) gens v d.described.generators_wide.wide (member_of (Contains gens) others v o.among k)) }

    none : (w : List ℚ) → dot s.slopes (values lines w) ≡ zero_ℚ
    none w = no_slopes readers lines s.slopes d.reads s.slope_each (all_of_members (λ r. dot s.slopes (values lines r) ≡ zero_ℚ) readers (λ r k.
        sym (zero_add (dot s.slopes (values lines r)))
        ∙ ap (λ x. x +ℚ dot s.slopes (values lines r)) (sym (values_none s.multipliers others r (all_of_members (λ v. dot v r ≡ zero_ℚ) others (λ v m.
        dot_comm v r ∙ gens_reduced n readers rows gens d.described v r (member_of (Contains gens) others v o.among m) k))))
        ∙ sym (spanned_at n others lines g s r) ∙ gens_reduced n readers rows gens d.described g r g_in k)) w

-- ---- hulls
-- weights and shares as multipliers of raised points and directions
join_values : (us vs : List ℚ) (xs ys : List (List ℚ)) → length us ≡ length xs → (r : List ℚ) →
    dot (us ++ vs) (values (xs ++ ys) r) ≡ dot us (values xs r) +ℚ dot vs (values ys r)
join_values [] vs [] ys l r = sym (zero_add (dot vs (values ys r)))
join_values [] vs (x ∷ xs) ys l r = absurd (omega arith)
join_values (u ∷ us) vs [] ys l r = absurd (omega arith)
join_values (u ∷ us) vs (x ∷ xs) ys l r = ap (λ q. u *ℚ dot x r +ℚ q) (join_values us vs xs ys (omega arith) r)
    ∙ sym (add_assoc (u *ℚ dot x r) (dot us (values xs r)) (dot vs (values ys r)))

module _ (n : ℕ) (readers rows gens points directions lines : List (List ℚ)) (s : AreSidesOf n readers rows gens points directions lines) where
  up : ℚ → List (List ℚ) → List (List ℚ)
  up t vs = map (λ v. homogenised v t) vs

  -- a member of a hull of listed points and directions, raised, is spanned by these
  spans : (ps ds : List (List ℚ)) (y : List ℚ) → AreWide n ps → AreWide n ds → length y ≡ n → IsInHull n ps ds lines y →
      IsSpanned (suc n) (up one_ℚ ps ++ up zero_ℚ ds) (up zero_ℚ lines) (homogenised y one_ℚ)
  unfolding up
  spans ps ds y p d width h =
      let both : AreWide (suc n) (up one_ℚ ps ++ up zero_ℚ ds) = record { wide = All-append (HasWidth (suc n)) (up one_ℚ ps) (up zero_ℚ ds) (raised_wide n one_ℚ ps p).wide (raised_wide n zero_ℚ ds d).wide } in
      record {
        multipliers = h.weights ++ h.shares;
        slopes = h.slopes;
        one_each = length-append h.weights h.shares ∙ ap₂ (λ a b. a + b) (h.weight_each ∙ sym (length-map ps (λ v. homogenised v one_ℚ)))
            (h.share_each ∙ sym (length-map ds (λ v. homogenised v zero_ℚ))) ∙ sym (length-append (up one_ℚ ps) (up zero_ℚ ds));
        slope_each = h.slope_each ∙ sym (length-map lines (λ v. homogenised v zero_ℚ));
        at_least_zero = All-append (λ m. zero_ℚ ≤ℚ m) h.weights h.shares h.weights_at_least_zero h.shares_at_least_zero;
        combined = same_wide (suc n) (homogenised y one_ℚ) _ (length-homogenised n y one_ℚ width)
            (length-plus (suc n) (combination (suc n) (h.weights ++ h.shares) (up one_ℚ ps ++ up zero_ℚ ds)) (combination (suc n) h.slopes (up zero_ℚ lines))
            (length-combination (suc n) (h.weights ++ h.shares) (up one_ℚ ps ++ up zero_ℚ ds) both)
            (length-combination (suc n) h.slopes (up zero_ℚ lines) (raised_wide n zero_ℚ lines s.lines_wide)))
            (λ r. raised_value n one_ℚ ps ds lines y p d s.lines_wide h r
            ∙ sym (add_assoc (dot h.weights (values (up one_ℚ ps) r)) (dot h.shares (values (up zero_ℚ ds) r)) (dot h.slopes (values (up zero_ℚ lines) r)))
            ∙ ap (λ q. q +ℚ dot h.slopes (values (up zero_ℚ lines) r)) (sym (join_values h.weights h.shares (up one_ℚ ps) (up zero_ℚ ds) (h.weight_each ∙ sym (length-map ps (λ v. homogenised v one_ℚ))) r))
            ∙ sym (dot-plus r (combination (suc n) (h.weights ++ h.shares) (up one_ℚ ps ++ up zero_ℚ ds)) (combination (suc n) h.slopes (up zero_ℚ lines))
            ∙ ap₂ (λ a b. a +ℚ b) (dot-combination (suc n) r (h.weights ++ h.shares) (up one_ℚ ps ++ up zero_ℚ ds)) (dot-combination (suc n) r h.slopes (up zero_ℚ lines))));
      }

  listed_wide : (ps others : List (List ℚ)) → AreWide n ps → All (Contains ps) others → AreWide n others
  listed_wide ps others w a = record { wide = all_of_members (HasWidth n) others (λ v k. member_of (HasWidth n) ps v w.wide (member_of (Contains ps) others v a k)) }

  -- what is at the heights of both kinds
  one_not_zero : one_ℚ ≡ zero_ℚ → ⊥
  one_not_zero e = not_zero_of_positive one_ℚ zero_lt_one e

  point_in : (y : List ℚ) → Contains points y → Contains gens (homogenised y one_ℚ)
  point_in y k = member_of (λ u. Contains gens (homogenised u one_ℚ)) points y s.point_listed k

  direction_in : (y : List ℚ) → Contains directions y → Contains gens (homogenised y zero_ℚ)
  direction_in y k = member_of (λ u. Contains gens (homogenised u zero_ℚ)) directions y s.direction_listed k

  raised_among : (ps ds : List (List ℚ)) → All (Contains points) ps → All (Contains directions) ds → All (Contains gens) (up one_ℚ ps ++ up zero_ℚ ds)
  unfolding up
  raised_among ps ds a b = All-append (Contains gens) (up one_ℚ ps) (up zero_ℚ ds)
      (All-map (Contains gens) (λ v. homogenised v one_ℚ) ps (all_of_members (λ v. Contains gens (homogenised v one_ℚ)) ps (λ v k. point_in v (member_of (Contains points) ps v a k))))
      (All-map (Contains gens) (λ v. homogenised v zero_ℚ) ds (all_of_members (λ v. Contains gens (homogenised v zero_ℚ)) ds (λ v k. direction_in v (member_of (Contains directions) ds v b k))))

  all_listed : {X : Type 0} (xs : List X) → All (Contains xs) xs
  all_listed xs = All-contains_itself xs

  -- the point p is a member, and so are p + t d and p + t l
  moved_in : (p v : List ℚ) (t : ℚ) → Contains points p → length v ≡ n → zero_ℚ ≤ℚ t →
      ((r : List ℚ) → Contains rows r → zero_ℚ ≤ℚ dot r (homogenised v zero_ℚ)) → IsInHull n points directions lines (plus p (scaled t v))
  moved_in p v t p_in v_width t_nonneg h =
      let p_width : length p ≡ n = member_of (HasWidth n) points p s.points_wide.wide p_in in
      (sides_are_hull n readers rows gens points directions lines s (plus p (scaled t v)) (length-plus n p (scaled t v) p_width (length-scaled t v ∙ v_width))).0
      (all_of_members (HoldsAt (homogenised (plus p (scaled t v)) one_ℚ)) rows (λ r k.
      subst (λ (w : List ℚ). zero_ℚ ≤ℚ dot r w) (raise p v t p_width v_width)
      (subst (λ (x : ℚ). zero_ℚ ≤ℚ x) (sym (dot-plus r (homogenised p one_ℚ) (scaled t (homogenised v zero_ℚ)) ∙ ap (λ q. dot r (homogenised p one_ℚ) +ℚ q) (dot-scaled r t (homogenised v zero_ℚ))))
      (add_nonneg (dot r (homogenised p one_ℚ)) (t *ℚ dot r (homogenised v zero_ℚ))
      (member_of (HoldsAt (homogenised p one_ℚ)) (pinned readers rows) r
      (member_of (IsInCone (suc n) (pinned readers rows)) gens (homogenised p one_ℚ) s.lined.described.inside (point_in p p_in)).within (pinned_row readers rows r k))
      (mul_nonneg t (dot r (homogenised v zero_ℚ)) t_nonneg (h r k))))))
    where
      raise : (a b : List ℚ) (q : ℚ) → length a ≡ n → length b ≡ n → plus (homogenised a one_ℚ) (scaled q (homogenised b zero_ℚ)) ≡ homogenised (plus a (scaled q b)) one_ℚ
      raise a b q a_width b_width = ap (λ w. plus (homogenised a one_ℚ) w) (scaled-homogenised q b zero_ℚ)
          ∙ plus-homogenised a (scaled q b) one_ℚ (q *ℚ zero_ℚ) (a_width ∙ sym (length-scaled q b ∙ b_width))
          ∙ ap (λ x. homogenised (plus a (scaled q b)) x) (ap (λ x. one_ℚ +ℚ x) (mul_zero q) ∙ add_zero one_ℚ)

  -- p itself
  itself : (p : List ℚ) → Contains points p → IsInHull n points directions lines p
  itself p p_in =
      let p_width : length p ≡ n = member_of (HasWidth n) points p s.points_wide.wide p_in in
      (sides_are_hull n readers rows gens points directions lines s p p_width).0
      (all_of_members (HoldsAt (homogenised p one_ℚ)) rows (λ r k. member_of (HoldsAt (homogenised p one_ℚ)) (pinned readers rows) r
      (member_of (IsInCone (suc n) (pinned readers rows)) gens (homogenised p one_ℚ) s.lined.described.inside (point_in p p_in)).within (pinned_row readers rows r k)))

  needs_point : (p : List ℚ) (others : List (List ℚ)) → Contains points p → AreOthers points others p →
      ((y : List ℚ) → IsInHull n points directions lines y → IsInHull n others directions lines y) → ⊥
  unfolding up
  needs_point p others p_in o h =
      spanned_is_needed (suc n) readers rows gens (up zero_ℚ lines) s.lined (homogenised p one_ℚ) (up one_ℚ others ++ up zero_ℚ directions) (point_in p p_in)
      (record { among = raised_among others directions o.among (all_listed directions); left_out = λ c. apart (Contains-append_cases (up one_ℚ others) (up zero_ℚ directions) (homogenised p one_ℚ) c) })
      (spans others directions p (listed_wide points others s.points_wide o.among) s.directions_wide (member_of (HasWidth n) points p s.points_wide.wide p_in) (h p (itself p p_in)))
    where
      apart : Contains (map (λ v. homogenised v one_ℚ) others) (homogenised p one_ℚ) ⊎ Contains (map (λ v. homogenised v zero_ℚ) directions) (homogenised p one_ℚ) → ⊥
      apart (inl c) =
          let f : (x : List ℚ) × Contains others x × (homogenised x one_ℚ ≡ homogenised p one_ℚ) = Contains-map_source (λ v. homogenised v one_ℚ) others (homogenised p one_ℚ) c in
          o.left_out (subst (λ (v : List ℚ). Contains others v) (homogenised-same f.0 p one_ℚ one_ℚ f.2).0 f.1)
      apart (inr c) =
          let f : (x : List ℚ) × Contains directions x × (homogenised x zero_ℚ ≡ homogenised p one_ℚ) = Contains-map_source (λ v. homogenised v zero_ℚ) directions (homogenised p one_ℚ) c in
          one_not_zero (sym (homogenised-same f.0 p zero_ℚ one_ℚ f.2).1)

  -- ---- a direction: else some vector separates it, and a member far along it is missed
  needs_direction : (p d : List ℚ) (others : List (List ℚ)) → Contains points p → Contains directions d → AreOthers directions others d →
      ((y : List ℚ) → IsInHull n points directions lines y → IsInHull n points others lines y) → ⊥
  unfolding up
  needs_direction p d others p_in d_in o h = go (farkas (suc n) all (homogenised d zero_ℚ) all_wide (length-homogenised n d zero_ℚ d_width))
    where
      d_width : length d ≡ n
      d_width = member_of (HasWidth n) directions d s.directions_wide.wide d_in

      others_wide : AreWide n others
      others_wide = listed_wide directions others s.directions_wide o.among

      fewer : List (List ℚ)
      fewer = map (λ v. homogenised v one_ℚ) points ++ map (λ v. homogenised v zero_ℚ) others

      ends : List (List ℚ)
      ends = map (λ v. homogenised v zero_ℚ) lines ++ map negated (map (λ v. homogenised v zero_ℚ) lines)

      all : List (List ℚ)
      all = fewer ++ ends

      fewer_wide : AreWide (suc n) fewer
      fewer_wide = record { wide = All-append (HasWidth (suc n)) _ _ (raised_wide n one_ℚ points s.points_wide).wide (raised_wide n zero_ℚ others others_wide).wide }

      forth_wide : AreWide (suc n) (map (λ v. homogenised v zero_ℚ) lines)
      forth_wide = raised_wide n zero_ℚ lines s.lines_wide

      back_wide : AreWide (suc n) (map negated (map (λ v. homogenised v zero_ℚ) lines))
      back_wide = record {
        wide = All-map (HasWidth (suc n)) negated (map (λ v. homogenised v zero_ℚ) lines)
            (All-weaker (HasWidth (suc n)) (λ v. length (negated v) ≡ suc n) (λ v e. length-negated v ∙ e) (map (λ v. homogenised v zero_ℚ) lines) forth_wide.wide);
      }

      ends_wide : AreWide (suc n) ends
      ends_wide = record { wide = All-append (HasWidth (suc n)) _ _ forth_wide.wide back_wide.wide }

      all_wide : AreWide (suc n) all
      all_wide = record { wide = All-append (HasWidth (suc n)) fewer ends fewer_wide.wide ends_wide.wide }

      apart : Contains (map (λ v. homogenised v one_ℚ) points) (homogenised d zero_ℚ) ⊎ Contains (map (λ v. homogenised v zero_ℚ) others) (homogenised d zero_ℚ) → ⊥
      apart (inl c) =
          let f : (x : List ℚ) × Contains points x × (homogenised x one_ℚ ≡ homogenised d zero_ℚ) = Contains-map_source (λ v. homogenised v one_ℚ) points (homogenised d zero_ℚ) c in
          one_not_zero (homogenised-same f.0 d one_ℚ zero_ℚ f.2).1
      apart (inr c) =
          let f : (x : List ℚ) × Contains others x × (homogenised x zero_ℚ ≡ homogenised d zero_ℚ) = Contains-map_source (λ v. homogenised v zero_ℚ) others (homogenised d zero_ℚ) c in
          o.left_out (subst (λ (v : List ℚ). Contains others v) (homogenised-same f.0 d zero_ℚ zero_ℚ f.2).0 f.1)

      by_others : IsGenerated (suc n) all (homogenised d zero_ℚ) → ⊥
      by_others g =
          let one : IsSumOf (suc n) fewer ends (homogenised d zero_ℚ) = generated_append (suc n) fewer ends (homogenised d zero_ℚ) fewer_wide ends_wide (length-homogenised n d zero_ℚ d_width) g in
          let two : IsSumOf (suc n) (map (λ v. homogenised v zero_ℚ) lines) (map negated (map (λ v. homogenised v zero_ℚ) lines)) one.second =
          generated_append (suc n) (map (λ v. homogenised v zero_ℚ) lines) (map negated (map (λ v. homogenised v zero_ℚ) lines)) one.second forth_wide back_wide
          (generated_width (suc n) ends one.second ends_wide one.second_is) one.second_is in
          let fs : List ℚ = two.first_is.multipliers in
          let bs : List ℚ = two.second_is.multipliers in
          let bs_each : length bs ≡ length (map (λ v. homogenised v zero_ℚ) lines) = two.second_is.one_each ∙ length-map (map (λ v. homogenised v zero_ℚ) lines) negated in
          spanned_is_needed (suc n) readers rows gens (map (λ v. homogenised v zero_ℚ) lines) s.lined (homogenised d zero_ℚ) fewer (direction_in d d_in)
          (record { among = raised_among points others (all_listed points) o.among; left_out = λ c. apart (Contains-append_cases (map (λ v. homogenised v one_ℚ) points) (map (λ v. homogenised v zero_ℚ) others) (homogenised d zero_ℚ) c) })
          (record {
            multipliers = one.first_is.multipliers;
            slopes = plus fs (negated bs);
            one_each = one.first_is.one_each;
            slope_each = length-plus (length (map (λ v. homogenised v zero_ℚ) lines)) fs (negated bs) two.first_is.one_each (length-negated bs ∙ bs_each);
            at_least_zero = one.first_is.at_least_zero;
            combined = same_wide (suc n) (homogenised d zero_ℚ) _ (length-homogenised n d zero_ℚ d_width)
                (length-plus (suc n) (combination (suc n) one.first_is.multipliers fewer) (combination (suc n) (plus fs (negated bs)) (map (λ v. homogenised v zero_ℚ) lines))
                (length-combination (suc n) one.first_is.multipliers fewer fewer_wide) (length-combination (suc n) (plus fs (negated bs)) (map (λ v. homogenised v zero_ℚ) lines) forth_wide))
                (λ r. ap (λ v. dot r v) one.same ∙ dot-plus r one.first one.second
                ∙ ap₂ (λ a b. a +ℚ b) (ap (λ v. dot r v) one.first_is.combined)
                (ap (λ v. dot r v) two.same ∙ dot-plus r two.first two.second
                ∙ ap₂ (λ a b. a +ℚ b) (generated_value (suc n) (map (λ v. homogenised v zero_ℚ) lines) two.first two.first_is r)
                (generated_value (suc n) (map negated (map (λ v. homogenised v zero_ℚ) lines)) two.second two.second_is r ∙ negated_values bs (map (λ v. homogenised v zero_ℚ) lines) r)
                ∙ sym (dot-plus_left fs (negated bs) (values (map (λ v. homogenised v zero_ℚ) lines) r))
                ∙ sym (dot-combination (suc n) r (plus fs (negated bs)) (map (λ v. homogenised v zero_ℚ) lines)))
                ∙ sym (dot-plus r (combination (suc n) one.first_is.multipliers fewer) (combination (suc n) (plus fs (negated bs)) (map (λ v. homogenised v zero_ℚ) lines))));
          })

      -- a vector that is at least 0 at all others and below 0 at d
      missed : IsSeparated (suc n) all (homogenised d zero_ℚ) → ⊥
      missed t =
          let w : List ℚ = t.vector in
          let a : ℚ = dot w (homogenised p one_ℚ) in
          let b : ℚ = neg_ℚ (dot w (homogenised d zero_ℚ)) in
          let below : dot w (homogenised d zero_ℚ) <ℚ zero_ℚ = subst (λ (x : ℚ). x <ℚ zero_ℚ) (dot_comm (homogenised d zero_ℚ) w) t.below in
          let b_positive : zero_ℚ <ℚ b = neg_positive (dot w (homogenised d zero_ℚ)) below in
          let holds : (v : List ℚ) → Contains all v → zero_ℚ ≤ℚ dot v w = λ v k. member_of (HoldsAt w) all v t.in_cone.within k in
          let a_nonneg : zero_ℚ ≤ℚ a = subst (λ (x : ℚ). zero_ℚ ≤ℚ x) (dot_comm (homogenised p one_ℚ) w)
          (holds (homogenised p one_ℚ) (Contains-append_left fewer ends (homogenised p one_ℚ)
          (Contains-append_left (map (λ v. homogenised v one_ℚ) points) (map (λ v. homogenised v zero_ℚ) others) (homogenised p one_ℚ) (Contains-map (λ v. homogenised v one_ℚ) points p p_in)))) in
          let q : ℚ = inverse_ℚ b *ℚ (a +ℚ one_ℚ) in
          let q_nonneg : zero_ℚ ≤ℚ q = mul_nonneg (inverse_ℚ b) (a +ℚ one_ℚ) (le_of_lt zero_ℚ (inverse_ℚ b) (inverse_positive b b_positive))
          (add_nonneg a one_ℚ a_nonneg (le_of_lt zero_ℚ one_ℚ zero_lt_one)) in
          let y : List ℚ = plus p (scaled q d) in
          let p_width : length p ≡ n = member_of (HasWidth n) points p s.points_wide.wide p_in in
          let far : IsInHull n points others lines y = h y (moved_in p d q p_in d_width q_nonneg (λ r k.
          member_of (HoldsAt (homogenised d zero_ℚ)) (pinned readers rows) r
          (member_of (IsInCone (suc n) (pinned readers rows)) gens (homogenised d zero_ℚ) s.lined.described.inside (direction_in d d_in)).within (pinned_row readers rows r k))) in
          let at_far : zero_ℚ ≤ℚ dot w (homogenised y one_ℚ) =
          subst (λ (x : ℚ). zero_ℚ ≤ℚ x) (sym (raised_value n one_ℚ points others lines y s.points_wide others_wide s.lines_wide far w))
          (add_nonneg _ _ (dot_nonneg far.weights (values (map (λ v. homogenised v one_ℚ) points) w) far.weights_at_least_zero
          (values_nonneg (map (λ v. homogenised v one_ℚ) points) w (all_of_members (HoldsAt w) (map (λ v. homogenised v one_ℚ) points) (λ v k.
          holds v (Contains-append_left fewer ends v (Contains-append_left (map (λ u. homogenised u one_ℚ) points) (map (λ u. homogenised u zero_ℚ) others) v k))))))
          (add_nonneg _ _ (dot_nonneg far.shares (values (map (λ v. homogenised v zero_ℚ) others) w) far.shares_at_least_zero
          (values_nonneg (map (λ v. homogenised v zero_ℚ) others) w (all_of_members (HoldsAt w) (map (λ v. homogenised v zero_ℚ) others) (λ v k.
          holds v (Contains-append_left fewer ends v (Contains-append_right (map (λ u. homogenised u one_ℚ) points) (map (λ u. homogenised u zero_ℚ) others) v k))))))
          (le_of_eq zero_ℚ _ (sym (values_none far.slopes (map (λ v. homogenised v zero_ℚ) lines) w (all_of_members (λ v. dot v w ≡ zero_ℚ) (map (λ v. homogenised v zero_ℚ) lines) (λ v k.
          both_ways (dot v w) (holds v (Contains-append_right fewer ends v (Contains-append_left (map (λ u. homogenised u zero_ℚ) lines) (map negated (map (λ u. homogenised u zero_ℚ) lines)) v k)))
          (subst (λ (x : ℚ). zero_ℚ ≤ℚ x) (dot-negated_left v w) (holds (negated v) (Contains-append_right fewer ends (negated v)
          (Contains-append_right (map (λ u. homogenised u zero_ℚ) lines) (map negated (map (λ u. homogenised u zero_ℚ) lines)) (negated v) (Contains-map negated (map (λ u. homogenised u zero_ℚ) lines) v k)))))))))))) in
          let value : dot w (homogenised y one_ℚ) ≡ neg_ℚ one_ℚ =
          ap (λ v. dot w v) (sym (ap (λ v. plus (homogenised p one_ℚ) v) (scaled-homogenised q d zero_ℚ)
          ∙ plus-homogenised p (scaled q d) one_ℚ (q *ℚ zero_ℚ) (p_width ∙ sym (length-scaled q d ∙ d_width))
          ∙ ap (λ x. homogenised y x) (ap (λ x. one_ℚ +ℚ x) (mul_zero q) ∙ add_zero one_ℚ)))
          ∙ dot-plus w (homogenised p one_ℚ) (scaled q (homogenised d zero_ℚ)) ∙ ap (λ x. a +ℚ x) (dot-scaled w q (homogenised d zero_ℚ))
          ∙ ring rationals (a ∷ q ∷ dot w (homogenised d zero_ℚ) ∷ []) (v0 ⊕ v1 ⊗ v2) (v0 ⊝ v1 ⊗ ⊖ v2) refl
          ∙ ap (λ x. a +ℚ neg_ℚ x) (mul_comm q b ∙ mul_inverse_cancel b (a +ℚ one_ℚ) b_positive)
          ∙ ring rationals (a ∷ []) (v0 ⊝ (v0 ⊕ num (pos 1))) (⊖ (num (pos 1))) refl in
          not_lt_of_le zero_ℚ (neg_ℚ one_ℚ) (subst (λ (x : ℚ). zero_ℚ ≤ℚ x) value at_far)
          (negative_of_neg (neg_ℚ one_ℚ) (subst (λ (x : ℚ). zero_ℚ <ℚ x) (sym (neg_neg one_ℚ)) zero_lt_one))

      go : IsGenerated (suc n) all (homogenised d zero_ℚ) ⊎ IsSeparated (suc n) all (homogenised d zero_ℚ) → ⊥
      go (inl g) = by_others g
      go (inr t) = missed t

  -- ---- a line: its reader sees it, and nothing else
  needs_line : (p l : List ℚ) (others : List (List ℚ)) → Contains points p → Contains lines l → AreOthers lines others l →
      ((y : List ℚ) → IsInHull n points directions lines y → IsInHull n points directions others y) → ⊥
  needs_line p l others p_in l_in o h =
      let f : (r : List ℚ) × Contains readers r × (dot r (homogenised l zero_ℚ) ≡ one_ℚ) × ((k : List ℚ) → Contains lines k → (k ≡ l → ⊥) → dot r (homogenised k zero_ℚ) ≡ zero_ℚ) =
      find readers lines s.lined.reads l l_in in
      let r : List ℚ = f.0 in
      let p_width : length p ≡ n = member_of (HasWidth n) points p s.points_wide.wide p_in in
      let l_width : length l ≡ n = member_of (HasWidth n) lines l s.lines_wide.wide l_in in
      let y : List ℚ = plus p (scaled one_ℚ l) in
      let far : IsInHull n points directions others y = h y (moved_in p l one_ℚ p_in l_width (le_of_lt zero_ℚ one_ℚ zero_lt_one) (λ q k.
      le_of_eq zero_ℚ (dot q (homogenised l zero_ℚ)) (sym (member_of (λ t. IsTight t (homogenised l zero_ℚ)) rows q
      (member_of (λ v. All (λ t. IsTight t v) rows) (map (λ v. homogenised v zero_ℚ) lines) (homogenised l zero_ℚ) s.lined.at_lines (Contains-map (λ v. homogenised v zero_ℚ) lines l l_in)) k)))) in
      let others_wide : AreWide n others = listed_wide lines others s.lines_wide o.among in
      let unseen : dot r (homogenised y one_ℚ) ≡ zero_ℚ =
      raised_value n one_ℚ points directions others y s.points_wide s.directions_wide others_wide far r
      ∙ ap₂ (λ a b. a +ℚ b) (values_none far.weights (map (λ v. homogenised v one_ℚ) points) r (All-map (λ v. dot v r ≡ zero_ℚ) (λ v. homogenised v one_ℚ) points
      (all_of_members (λ v. dot (homogenised v one_ℚ) r ≡ zero_ℚ) points (λ v k. dot_comm (homogenised v one_ℚ) r
      ∙ gens_reduced (suc n) readers rows gens s.lined.described (homogenised v one_ℚ) r (point_in v k) f.1))))
      (ap₂ (λ a b. a +ℚ b) (values_none far.shares (map (λ v. homogenised v zero_ℚ) directions) r (All-map (λ v. dot v r ≡ zero_ℚ) (λ v. homogenised v zero_ℚ) directions
      (all_of_members (λ v. dot (homogenised v zero_ℚ) r ≡ zero_ℚ) directions (λ v k. dot_comm (homogenised v zero_ℚ) r
      ∙ gens_reduced (suc n) readers rows gens s.lined.described (homogenised v zero_ℚ) r (direction_in v k) f.1))))
      (values_none far.slopes (map (λ v. homogenised v zero_ℚ) others) r (All-map (λ v. dot v r ≡ zero_ℚ) (λ v. homogenised v zero_ℚ) others
      (all_of_members (λ v. dot (homogenised v zero_ℚ) r ≡ zero_ℚ) others (λ v k. dot_comm (homogenised v zero_ℚ) r
      ∙ f.3 v (member_of (Contains lines) others v o.among k) (λ e. o.left_out (subst (λ (u : List ℚ). Contains others u) e k)))))))
      ∙ ring rationals [] (num (pos 0) ⊕ (num (pos 0) ⊕ num (pos 0))) (num (pos 0)) refl in
      let seen : dot r (homogenised y one_ℚ) ≡ one_ℚ =
      ap (λ v. dot r v) (sym (ap (λ v. plus (homogenised p one_ℚ) v) (scaled-homogenised one_ℚ l zero_ℚ)
      ∙ plus-homogenised p (scaled one_ℚ l) one_ℚ (one_ℚ *ℚ zero_ℚ) (p_width ∙ sym (length-scaled one_ℚ l ∙ l_width))
      ∙ ap (λ x. homogenised y x) (ap (λ x. one_ℚ +ℚ x) (mul_zero one_ℚ) ∙ add_zero one_ℚ)))
      ∙ dot-plus r (homogenised p one_ℚ) (scaled one_ℚ (homogenised l zero_ℚ))
      ∙ ap₂ (λ a b. a +ℚ b) (gens_reduced (suc n) readers rows gens s.lined.described (homogenised p one_ℚ) r (point_in p p_in) f.1)
      (dot-scaled r one_ℚ (homogenised l zero_ℚ) ∙ ap (λ x. one_ℚ *ℚ x) f.2 ∙ mul_one one_ℚ)
      ∙ zero_add one_ℚ in
      one_not_zero (sym seen ∙ unseen)
    where
      find : (rs ls : List (List ℚ)) → AreReaders rs (map (λ v. homogenised v zero_ℚ) ls) → (k : List ℚ) → Contains ls k →
          (r : List ℚ) × Contains rs r × (dot r (homogenised k zero_ℚ) ≡ one_ℚ) × ((j : List ℚ) → Contains ls j → (j ≡ k → ⊥) → dot r (homogenised j zero_ℚ) ≡ zero_ℚ)
      find rs [] a k c = absurd (Contains-nil k c)
      find [] (x ∷ ls) a k c = absurd a
      find (r ∷ rs) (x ∷ ls) a k c = by (Contains-cases x ls k c) (λ m. find rs ls a.3 k m)
        where
          by : (x ≡ k) ⊎ Contains ls k →
              (Contains ls k → (q : List ℚ) × Contains rs q × (dot q (homogenised k zero_ℚ) ≡ one_ℚ) × ((j : List ℚ) → Contains ls j → (j ≡ k → ⊥) → dot q (homogenised j zero_ℚ) ≡ zero_ℚ)) →
              (q : List ℚ) × Contains (r ∷ rs) q × (dot q (homogenised k zero_ℚ) ≡ one_ℚ) × ((j : List ℚ) → Contains (x ∷ ls) j → (j ≡ k → ⊥) → dot q (homogenised j zero_ℚ) ≡ zero_ℚ)
          by (inl e) again = (
            r,
            Contains-here r rs r refl,
            subst (λ (v : List ℚ). dot r (homogenised v zero_ℚ) ≡ one_ℚ) e a.0,
            λ j j_in other. elim (Contains-cases x ls j j_in) [
              | inl f ↦ absurd (other (sym f ∙ e))
              | inr m ↦ member_of (λ v. dot r v ≡ zero_ℚ) (map (λ v. homogenised v zero_ℚ) ls) (homogenised j zero_ℚ) a.1 (Contains-map (λ v. homogenised v zero_ℚ) ls j m)
            ],
          )
          by (inr m) again =
              let g = again m in (
                g.0,
                Contains-there r rs g.0 g.1,
                g.2,
                λ j j_in other. elim (Contains-cases x ls j j_in) [
                  | inl f ↦ subst (λ (v : List ℚ). dot g.0 (homogenised v zero_ℚ) ≡ zero_ℚ) f (member_of (λ t. IsTight t (homogenised x zero_ℚ)) rs g.0 a.2 g.1)
                  | inr q ↦ g.3 j q other
                ],
              )

pub hull_is_needed : HullIsNeeded
hull_is_needed n readers rows gens points directions lines s = record {
  point = needs_point n readers rows gens points directions lines s;
  direction = needs_direction n readers rows gens points directions lines s;
  line = needs_line n readers rows gens points directions lines s;
}

-- ---- one list
pub one_list_of_generators : OneListOfGenerators
one_list_of_generators n readers rows rows' gens gens' d d' normed normed' same g = (
  λ k. (described_are_extreme n (pinned readers rows') gens' d' normed' g).1 (moved rows rows' (λ z w. (same z w).0) (λ z w. (same z w).1) ((described_are_extreme n (pinned readers rows) gens d normed g).0 k)),
  λ k. (described_are_extreme n (pinned readers rows) gens d normed g).1 (moved rows' rows (λ z w. (same z w).1) (λ z w. (same z w).0) ((described_are_extreme n (pinned readers rows') gens' d' normed' g).0 k)),
)
  where
    over : (a b : List (List ℚ)) → ((z : List ℚ) → length z ≡ n → All (HoldsAt z) a → All (HoldsAt z) b) → (z : List ℚ) → IsInCone n (pinned readers a) z → IsInCone n (pinned readers b) z
    over a b f z h = record {
      wide = h.wide;
      within = all_of_members (HoldsAt z) (pinned readers b) (λ r k. elim (pinned_cases readers b r k) [
        | inl m ↦ member_of (HoldsAt z) (pinned readers a) r h.within (pinned_reader readers a r m)
        | inr q ↦ elim q [
          | inl t ↦ subst (λ (v : List ℚ). zero_ℚ ≤ℚ dot v z) t.2 (member_of (HoldsAt z) (pinned readers a) (negated t.0) h.within (pinned_negative readers a t.0 t.1))
          | inr m ↦ member_of (HoldsAt z) b r (f z h.wide (all_of_members (HoldsAt z) a (λ w c. member_of (HoldsAt z) (pinned readers a) w h.within (pinned_row readers a w c)))) m
        ]
      ]);
    }

    moved : (a b : List (List ℚ)) → ((z : List ℚ) → length z ≡ n → All (HoldsAt z) a → All (HoldsAt z) b) → ((z : List ℚ) → length z ≡ n → All (HoldsAt z) b → All (HoldsAt z) a) →
        IsExtremeDirection n (IsInCone n (pinned readers a)) g × IsNormed g → IsExtremeDirection n (IsInCone n (pinned readers b)) g × IsNormed g
    moved a b f f' e = (
      record {
        member = over a b f g e.0.member;
        not_zero = e.0.not_zero;
        no_sum = λ x y x_in y_in t. e.0.no_sum x y (over b a f' x x_in) (over b a f' y y_in) t;
      },
      e.1,
    )
