-- The weights for which a member of a solved set is least are the hull of the normals of the named
-- inequalities that are tight at it.
use Rattle.std.proofs.Common.{◌≡◌, ℕ, suc, List, [], ◌∷◌, map, length, All, cond, Bool, true, false, true≢false, refl, sym, ap, ap₂, ◌∙◌, subst, arith, ◌⊎◌, inl, inr, Contains}
use Rattle.std.proofs.lemmas.List.{length-map}
use Rattle.std.proofs.lemmas.List.Elements.{All-head, All-tail, All-map}
use Rattle.exact_field.specs.Rational.{ℚ, zero_ℚ, one_ℚ, ◌+ℚ◌, ◌*ℚ◌, neg_ℚ, ◌≤ℚ◌, ◌<ℚ◌}
use Rattle.exact_field.specs.Order.{same_ℚ}
use Rattle.exact_field.specs.Vector.{dot, sum_ℚ}
use Rattle.exact_field.proofs.Rationals.{same_from_difference, difference_self}
use Rattle.exact_field.proofs.Comparison.{same_ℚ-is}
use Rattle.polyhedra.specs.Vectors.{AreWide, zeros, plus, scaled, values, combination, AtLeastZero}
use Rattle.polyhedra.specs.Cone.{IsGenerated}
use Rattle.polyhedra.specs.Inequality.{Inequality}
use Rattle.polyhedra.specs.Hull.{IsInHull}
use Rattle.polyhedra.specs.Exactness.{homogenised, level, row_of, rows_of}
use Rattle.polyhedra.proofs.Laws.{add_zero, le_refl, mul_one, mul_nonneg}
use Rattle.polyhedra.proofs.Algebra.{zero_add, zero_mul, mul_zero, add_mul}
use Rattle.polyhedra.proofs.Order.{zero_or_positive, add_zero_right, add_zero_left, difference_nonneg, product_zero, add_le_both, mul_le}
use Rattle.polyhedra.proofs.Linear.{dot_comm, dot-nil, dot-plus, dot-scaled, dot-zeros, dot-combination, length-scaled, length-zeros, length-combination}
use Rattle.polyhedra.proofs.Lists.{HoldsAt, HasWidth, nonneg-nil, nonneg-cons, nonneg-head, nonneg-tail, values_nonneg, wide-nil, wide-head, wide-tail}
use Rattle.polyhedra.proofs.Members.{all_of_members, member_of, Contains-filter_source}
use Rattle.polyhedra.proofs.Generated.{generated_value}
use Rattle.polyhedra.proofs.Homogenised.{plus-homogenised, scaled-homogenised, homogenised-same, zeros-homogenised, level_value, row_value_point}
use Rattle.polyhedra.proofs.Support.{dot_nonneg}
use Rattle.representations.specs.Facets.{MeetsAll, tight_at, IsLeastFor, WeightsAreFacets}
use Rattle.representations.proofs.Faces.{hull_value, hull_by_values}
use Rattle.representations.proofs.FacetsAlong.{valid_generated, named_valid, in_meets}

abbrev normals : List Inequality → List (List ℚ)
normals es = map (λ e. e.normal) es

-- ---- rows and normals
-- the combination of rows is the row of the combined normals and some bound
rows_combination : (n : ℕ) (ms : List ℚ) (es : List Inequality) → AreWide n (normals es) → (t : ℚ) × (combination (suc n) ms (map row_of es) ≡ homogenised (combination n ms (normals es)) t)
rows_combination n [] es w = (zero_ℚ, zeros-homogenised n)
rows_combination n (m ∷ ms) [] w = (zero_ℚ, zeros-homogenised n)
rows_combination n (m ∷ ms) (e ∷ es) w =
    let again : (t : ℚ) × (combination (suc n) ms (map row_of es) ≡ homogenised (combination n ms (normals es)) t) =
    rows_combination n ms es (wide-tail n e.normal (normals es) w) in (
      m *ℚ neg_ℚ e.bound +ℚ again.0,
      ap₂ (λ u v. plus u v) (scaled-homogenised m e.normal (neg_ℚ e.bound)) again.1
          ∙ plus-homogenised (scaled m e.normal) (combination n ms (normals es)) (m *ℚ neg_ℚ e.bound) again.0
          (length-scaled m e.normal ∙ wide-head n e.normal (normals es) w
          ∙ sym (length-combination n ms (normals es) (wide-tail n e.normal (normals es) w))),
    )

-- the normal of a row that rows generate is the combination of theirs; the multiplier of t ≥ 0 adds
-- nothing to it
pub record IsCombinedOf (n : ℕ) (named : List Inequality) (e : Inequality) : Type 0 where
  pub first : ℚ
  pub multipliers : List ℚ
  pub one_each : length multipliers ≡ length named
  pub first_nonneg : zero_ℚ ≤ℚ first
  pub nonneg : AtLeastZero multipliers
  pub normal : (r : List ℚ) → dot r e.normal ≡ dot multipliers (values (normals named) r)
  pub value : (z : List ℚ) → dot z (row_of e) ≡ first *ℚ dot (level n) z +ℚ dot multipliers (values (map row_of named) z)

combined_of : (n : ℕ) (named : List Inequality) (e : Inequality) → AreWide n (normals named) → IsGenerated (suc n) (rows_of n named) (row_of e) →
    IsCombinedOf n named e
combined_of n named e w g = go g.multipliers refl
  where
    go : (ms : List ℚ) → ms ≡ g.multipliers → IsCombinedOf n named e
    go [] is = absurd (none (ap length is ∙ g.one_each))
      where
        none : 0 ≡ suc (length (map row_of named)) → ⊥
        none h = omega arith
    go (m ∷ ms) is =
        let c : (t : ℚ) × (combination (suc n) ms (map row_of named) ≡ homogenised (combination n ms (normals named)) t) = rows_combination n ms named w in
        let whole : row_of e ≡ homogenised (plus (scaled m (zeros n)) (combination n ms (normals named))) (m *ℚ one_ℚ +ℚ c.0) =
        g.combined ∙ ap (λ x. combination (suc n) x (rows_of n named)) (sym is)
        ∙ ap₂ (λ u v. plus u v) (scaled-homogenised m (zeros n) one_ℚ) c.1
        ∙ plus-homogenised (scaled m (zeros n)) (combination n ms (normals named)) (m *ℚ one_ℚ) c.0
        (length-scaled m (zeros n) ∙ length-zeros n ∙ sym (length-combination n ms (normals named) w)) in
        let same : e.normal ≡ plus (scaled m (zeros n)) (combination n ms (normals named)) =
        (homogenised-same e.normal (plus (scaled m (zeros n)) (combination n ms (normals named))) (neg_ℚ e.bound) (m *ℚ one_ℚ +ℚ c.0) whole).0 in
        let nonneg : AtLeastZero (m ∷ ms) = subst (λ (x : List ℚ). AtLeastZero x) (sym is) g.at_least_zero in
        let counted : suc (length ms) ≡ suc (length (map row_of named)) = ap length is ∙ g.one_each in
        let each : length ms ≡ length (map row_of named) = omega arith in
        record {
          first = m;
          multipliers = ms;
          one_each = each ∙ length-map named row_of;
          first_nonneg = nonneg-head m ms nonneg;
          nonneg = nonneg-tail m ms nonneg;
          normal = λ r.
              ap (λ v. dot r v) same ∙ dot-plus r (scaled m (zeros n)) (combination n ms (normals named))
              ∙ ap₂ (λ u v. u +ℚ v) (dot-scaled r m (zeros n) ∙ ap (λ x. m *ℚ x) (dot-zeros r n) ∙ mul_zero m) (dot-combination n r ms (normals named))
              ∙ zero_add (dot ms (values (normals named) r));
          value = λ z. generated_value (suc n) (rows_of n named) (row_of e) g z ∙ ap (λ x. dot x (values (rows_of n named) z)) (sym is);
        }

-- ---- values
constant_value : (f : List ℚ) (t : ℚ) (ms : List ℚ) (vs : List (List ℚ)) → length ms ≡ length vs → All (λ v. dot v f ≡ t) vs → dot ms (values vs f) ≡ sum_ℚ ms *ℚ t
constant_value f t [] vs k h = sym (zero_mul t)
constant_value f t (m ∷ ms) [] k h = absurd (omega arith)
constant_value f t (m ∷ ms) (v ∷ vs) k h =
    ap₂ (λ u w. m *ℚ u +ℚ w) (All-head (λ x. dot x f ≡ t) v vs h) (constant_value f t ms vs (omega arith) (All-tail (λ x. dot x f ≡ t) v vs h))
    ∙ sym (add_mul m (sum_ℚ ms) t)

values_le : (y z : List ℚ) (ms : List ℚ) (vs : List (List ℚ)) → AtLeastZero ms → All (λ v. dot v y ≤ℚ dot v z) vs → dot ms (values vs y) ≤ℚ dot ms (values vs z)
values_le y z [] vs h k = le_refl zero_ℚ
values_le y z (m ∷ ms) [] h k = le_refl zero_ℚ
values_le y z (m ∷ ms) (v ∷ vs) h k =
    add_le_both (m *ℚ dot v y) (m *ℚ dot v z) (dot ms (values vs y)) (dot ms (values vs z))
    (mul_le m (dot v y) (dot v z) (nonneg-head m ms h) (All-head (λ x. dot x y ≤ℚ dot x z) v vs k))
    (values_le y z ms vs (nonneg-tail m ms h) (All-tail (λ x. dot x y ≤ℚ dot x z) v vs k))

-- ---- multipliers of the inequalities that are tight
module _ (y : List ℚ) where
  at_one : List ℚ
  at_one = homogenised y one_ℚ

  abbrev AsWide : Inequality → Type 0
  AsWide e = length e.normal ≡ length y

  abbrev Meets : Inequality → Type 0
  Meets e = e.bound ≤ℚ dot e.normal y

  row_at : (e : Inequality) → AsWide e → dot (row_of e) at_one ≡ dot e.normal y +ℚ neg_ℚ e.bound
  unfolding at_one
  row_at e w = row_value_point e y w

  rows_hold : (es : List Inequality) → All AsWide es → MeetsAll es y → All (HoldsAt at_one) (map row_of es)
  rows_hold es w h = All-map (HoldsAt at_one) row_of es (all_of_members (λ e. HoldsAt at_one (row_of e)) es (λ e k.
      subst (λ (x : ℚ). zero_ℚ ≤ℚ x) (sym (row_at e (member_of AsWide es e w k))) (difference_nonneg e.bound (dot e.normal y) (member_of Meets es e h k))))

  pub record IsTightPart (ms : List ℚ) (es : List Inequality) : Type 0 where
    pub multipliers : List ℚ
    pub one_each : length multipliers ≡ length (tight_at y es)
    pub nonneg : AtLeastZero multipliers
    pub total : sum_ℚ multipliers ≡ sum_ℚ ms
    pub value : (r : List ℚ) → dot multipliers (values (normals (tight_at y es)) r) ≡ dot ms (values (normals es) r)

  tight_part : (ms : List ℚ) (es : List Inequality) → length ms ≡ length es → AtLeastZero ms → All AsWide es → MeetsAll es y →
      dot ms (values (map row_of es) at_one) ≡ zero_ℚ → IsTightPart ms es
  tight_part [] [] l h w k e = record { multipliers = []; one_each = refl; nonneg = nonneg-nil; total = refl; value = λ r. refl }
  tight_part [] (x ∷ es) l h w k e = absurd (omega arith)
  tight_part (m ∷ ms) [] l h w k e = absurd (omega arith)
  tight_part (m ∷ ms) (x ∷ es) l h w k e = go (same_ℚ (dot x.normal y) x.bound) refl
      (tight_part ms es (omega arith) (nonneg-tail m ms h) (All-tail AsWide x es w) (All-tail Meets x es k) others)
    where
      m_nonneg : zero_ℚ ≤ℚ m
      m_nonneg = nonneg-head m ms h

      slack : dot (row_of x) at_one ≡ dot x.normal y +ℚ neg_ℚ x.bound
      slack = row_at x (All-head AsWide x es w)

      first_nonneg : zero_ℚ ≤ℚ m *ℚ dot (row_of x) at_one
      first_nonneg = mul_nonneg m (dot (row_of x) at_one) m_nonneg
          (subst (λ (q : ℚ). zero_ℚ ≤ℚ q) (sym slack) (difference_nonneg x.bound (dot x.normal y) (All-head Meets x es k)))

      others_nonneg : zero_ℚ ≤ℚ dot ms (values (map row_of es) at_one)
      others_nonneg = dot_nonneg ms (values (map row_of es) at_one) (nonneg-tail m ms h)
          (values_nonneg (map row_of es) at_one (rows_hold es (All-tail AsWide x es w) (All-tail Meets x es k)))

      others : dot ms (values (map row_of es) at_one) ≡ zero_ℚ
      others = add_zero_right (m *ℚ dot (row_of x) at_one) (dot ms (values (map row_of es) at_one)) first_nonneg others_nonneg e

      nothing : same_ℚ (dot x.normal y) x.bound ≡ false → m ≡ zero_ℚ
      nothing t = by (zero_or_positive m m_nonneg)
        where
          by : (m ≡ zero_ℚ) ⊎ (zero_ℚ <ℚ m) → m ≡ zero_ℚ
          by (inl z) = z
          by (inr p) = absurd (true≢false (sym ((same_ℚ-is (dot x.normal y) x.bound).1 (same_from_difference (dot x.normal y) x.bound
              (sym slack ∙ product_zero m (dot (row_of x) at_one) p
              (add_zero_left (m *ℚ dot (row_of x) at_one) (dot ms (values (map row_of es) at_one)) first_nonneg others_nonneg e)))) ∙ t))

      go : (b : Bool) → same_ℚ (dot x.normal y) x.bound ≡ b → IsTightPart ms es → IsTightPart (m ∷ ms) (x ∷ es)
      go true t g =
          let kept : tight_at y (x ∷ es) ≡ x ∷ tight_at y es = ap (λ b. cond b (x ∷ tight_at y es) (tight_at y es)) t in
          record {
            multipliers = m ∷ g.multipliers;
            one_each = ap suc g.one_each ∙ ap length (sym kept);
            nonneg = nonneg-cons m g.multipliers m_nonneg g.nonneg;
            total = ap (λ q. m +ℚ q) g.total;
            value = λ r. ap (λ v. dot (m ∷ g.multipliers) (values (normals v) r)) kept ∙ ap (λ q. m *ℚ dot x.normal r +ℚ q) (g.value r);
          }
      go false t g =
          let kept : tight_at y (x ∷ es) ≡ tight_at y es = ap (λ b. cond b (x ∷ tight_at y es) (tight_at y es)) t in
          record {
            multipliers = g.multipliers;
            one_each = g.one_each ∙ ap length (sym kept);
            nonneg = g.nonneg;
            total = g.total ∙ sym (ap (λ q. q +ℚ sum_ℚ ms) (nothing t) ∙ zero_add (sum_ℚ ms));
            value = λ r. ap (λ v. dot g.multipliers (values (normals v) r)) kept ∙ g.value r
                ∙ sym (ap (λ q. q *ℚ dot x.normal r +ℚ dot ms (values (normals es) r)) (nothing t)
                ∙ ap (λ q. q +ℚ dot ms (values (normals es) r)) (zero_mul (dot x.normal r)) ∙ zero_add (dot ms (values (normals es) r)));
          }

-- ---- the law
pub weights_are_facets : (Set Directions : List ℚ → Type 0) → WeightsAreFacets Set Directions
unfolding at_one
weights_are_facets Set Directions n c lines cuts gens points directions named s w y width one y_in = (to_hull, from_hull)
  where
    y_width : length y ≡ n
    y_width = s.convex.wide y y_in

    named_wide : AreWide n (normals named)
    named_wide = record {
      wide = All-map (HasWidth n) (λ e. e.normal) named
          (all_of_members (λ e. length e.normal ≡ n) named (λ e k. (named_valid n Set Directions c lines cuts gens points directions named s e k).wide));
    }

    as_wide : All (λ e. length e.normal ≡ length y) named
    as_wide = all_of_members (λ e. length e.normal ≡ length y) named
        (λ e k. (named_valid n Set Directions c lines cuts gens points directions named s e k).wide ∙ sym y_width)

    at_c : All (λ v. dot v c ≡ one_ℚ) (normals named)
    at_c = All-map (λ v. dot v c ≡ one_ℚ) (λ e. e.normal) named
        (all_of_members (λ e. dot e.normal c ≡ one_ℚ) named (λ e k. (named_valid n Set Directions c lines cuts gens points directions named s e k).normed))

    tight_wide : AreWide n (normals (tight_at y named))
    tight_wide = record {
      wide = All-map (HasWidth n) (λ e. e.normal) (tight_at y named) (all_of_members (λ e. length e.normal ≡ n) (tight_at y named) (λ e k.
          (named_valid n Set Directions c lines cuts gens points directions named s e (Contains-filter_source (λ f. same_ℚ (dot f.normal y) f.bound) named e k).0).wide));
    }

    to_hull : IsLeastFor Set w y → IsInHull n (normals (tight_at y named)) [] [] w
    to_hull h =
        let e : Inequality = record { normal = w; bound = dot w y } in
        let g : IsCombinedOf n named e = combined_of n named e named_wide
        (valid_generated n Set Directions c lines cuts gens points directions named s e (record { wide = width; holds = h.least })) in
        let meets : MeetsAll named y = in_meets n Set Directions c lines cuts gens points directions named s y y_in in
        let whole : sum_ℚ g.multipliers ≡ one_ℚ =
        sym (mul_one (sum_ℚ g.multipliers))
        ∙ sym (constant_value c one_ℚ g.multipliers (normals named) (g.one_each ∙ sym (length-map named (λ x. x.normal))) at_c)
        ∙ sym (g.normal c) ∙ dot_comm c w ∙ one in
        let nothing : g.first *ℚ dot (level n) (homogenised y one_ℚ) +ℚ dot g.multipliers (values (map row_of named) (homogenised y one_ℚ)) ≡ zero_ℚ =
        sym (g.value (homogenised y one_ℚ)) ∙ dot_comm (homogenised y one_ℚ) (row_of e) ∙ row_value_point e y (width ∙ sym y_width) ∙ difference_self (dot w y) in
        let p : IsTightPart y g.multipliers named = tight_part y g.multipliers named g.one_each g.nonneg as_wide meets
        (add_zero_right (g.first *ℚ dot (level n) (homogenised y one_ℚ)) (dot g.multipliers (values (map row_of named) (homogenised y one_ℚ)))
        (mul_nonneg g.first (dot (level n) (homogenised y one_ℚ)) g.first_nonneg
        (subst (λ (q : ℚ). zero_ℚ ≤ℚ q) (sym (level_value n y one_ℚ y_width)) (Rattle.polyhedra.proofs.Laws.le_of_lt zero_ℚ one_ℚ Rattle.polyhedra.proofs.Laws.zero_lt_one)))
        (dot_nonneg g.multipliers (values (map row_of named) (homogenised y one_ℚ)) g.nonneg
        (values_nonneg (map row_of named) (homogenised y one_ℚ) (rows_hold y named as_wide meets))) nothing) in
        hull_by_values n (normals (tight_at y named)) [] [] w p.multipliers [] [] tight_wide (wide-nil n) (wide-nil n) width
        (p.one_each ∙ sym (length-map (tight_at y named) (λ x. x.normal))) refl refl p.nonneg nonneg-nil (p.total ∙ whole)
        (λ r. g.normal r ∙ sym (p.value r) ∙ sym (add_zero (dot p.multipliers (values (normals (tight_at y named)) r)))
        ∙ ap (λ q. dot p.multipliers (values (normals (tight_at y named)) r) +ℚ q) (sym (add_zero zero_ℚ)))

    from_hull : IsInHull n (normals (tight_at y named)) [] [] w → IsLeastFor Set w y
    from_hull h = record {
      member = y_in;
      least = λ y' y'_in.
          subst (λ (q : ℚ). q ≤ℚ dot w y') (sym (by_weights y)) (subst (λ (q : ℚ). dot h.weights (values (normals (tight_at y named)) y) ≤ℚ q) (sym (by_weights y'))
          (values_le y y' h.weights (normals (tight_at y named)) h.weights_at_least_zero
          (All-map (λ v. dot v y ≤ℚ dot v y') (λ e. e.normal) (tight_at y named) (all_of_members (λ e. dot e.normal y ≤ℚ dot e.normal y') (tight_at y named) (λ e k.
          let from : Contains named e × (same_ℚ (dot e.normal y) e.bound ≡ true) = Contains-filter_source (λ f. same_ℚ (dot f.normal y) f.bound) named e k in
          subst (λ (q : ℚ). q ≤ℚ dot e.normal y') (sym ((same_ℚ-is (dot e.normal y) e.bound).0 from.1))
          ((named_valid n Set Directions c lines cuts gens points directions named s e from.0).holds y' y'_in))))));
    }
      where
        by_weights : (z : List ℚ) → dot w z ≡ dot h.weights (values (normals (tight_at y named)) z)
        by_weights z =
            dot_comm w z ∙ hull_value n (normals (tight_at y named)) [] [] w h z
            ∙ ap₂ (λ u v. dot h.weights (values (normals (tight_at y named)) z) +ℚ (u +ℚ v)) (dot-nil h.shares) (dot-nil h.slopes)
            ∙ ap (λ q. dot h.weights (values (normals (tight_at y named)) z) +ℚ q) (add_zero zero_ℚ)
            ∙ add_zero (dot h.weights (values (normals (tight_at y named)) z))
