-- What of inequalities and equations is needed.
use Rattle.std.proofs.Common.{◌≡◌, ℕ, suc, List, [], ◌∷◌, ◌++◌, length, All, Contains, refl, sym, ap, ap₂, ◌∙◌, subst, ◌⊎◌, inl, inr, pos}
use Rattle.std.proofs.lemmas.List.Elements.{All-weaker, Contains-append_left, Contains-append_right, Contains-append_cases}
use Rattle.exact_field.specs.Rational.{ℚ, zero_ℚ, one_ℚ, ◌+ℚ◌, ◌*ℚ◌, neg_ℚ, inverse_ℚ, ◌≤ℚ◌, ◌<ℚ◌}
use Rattle.exact_field.specs.Vector.{dot}
use Rattle.exact_field.specs.Ring.{v0, v1, v2, ◌⊕◌, ◌⊗◌, ◌⊝◌, ⊖, num}
use Rattle.exact_field.proofs.RingTool.{ring}
use Rattle.exact_field.proofs.Rationals.{rationals, difference_self}
use Rattle.polyhedra.specs.Vectors.{AreWide, zeros, plus, scaled, values, combination}
use Rattle.polyhedra.specs.Cone.{IsGenerated, IsInCone}
use Rattle.polyhedra.specs.Farkas.{IsSeparated}
use Rattle.polyhedra.specs.TightSets.{IsTight, LiesIn}
use Rattle.polyhedra.specs.Exactness.{homogenised}
use Rattle.polyhedra.proofs.Laws.{add_zero, mul_nonneg, mul_comm, mul_one, le_of_lt, zero_lt_one}
use Rattle.polyhedra.proofs.Algebra.{zero_add, mul_zero, one_mul, neg_neg}
use Rattle.polyhedra.proofs.Order.{add_nonneg, add_zero_left, zero_or_positive, le_of_eq, not_zero_of_positive, not_lt_of_le, neg_positive, inverse_positive, mul_inverse_cancel, negative_of_neg}
use Rattle.polyhedra.proofs.Linear.{dot_comm, dot-plus, dot-scaled, dot-zeros, dot-combination, length-plus, length-scaled, length-zeros, length-combination, same_wide}
use Rattle.polyhedra.proofs.Lists.{HoldsAt, HasWidth, Contains-here, Contains-there, Contains-cases, Contains-nil}
use Rattle.polyhedra.proofs.Members.{all_of_members, member_of}
use Rattle.polyhedra.proofs.LeastQuotient.{less, less_value, less_width, IsPositiveSomewhere}
use Rattle.polyhedra.proofs.TightRows.{tight_or_positive}
use Rattle.polyhedra.proofs.Generated.{generated_value}
use Rattle.polyhedra.proofs.Support.{InSupport, support_listed, support_zero, support_positive}
use Rattle.polyhedra.proofs.Farkas.{farkas}
use Rattle.polyhedra.proofs.Homogenised.{IsHomogenised, unhomogenised, length-homogenised, dot-homogenised, scaled-homogenised, homogenised-same}
use Rattle.polyhedra.proofs.Cones.{IsOnRay, gens_same, ray_of}
use Rattle.representations.specs.Lined.{pinned, AreReaders, AreLined, HoldsFor, EqualFor}
use Rattle.representations.specs.Needed.{AreOthers, SidesAreNeeded, held_by_all}
use Rattle.representations.proofs.LinedCones.{slopes_read, gen_holds}
use Rattle.representations.proofs.Needed.{gens_reduced}
use Rattle.representations.proofs.Pinned.{tight_negated, pinned_reader, pinned_cases, values_none}

-- ---- readers
-- lines read readers as readers read lines
swapped : (readers lines : List (List ℚ)) → AreReaders readers lines → AreReaders lines readers
swapped [] [] h = h
swapped [] (l ∷ lines) h = absurd h
swapped (r ∷ readers) [] h = absurd h
swapped (r ∷ readers) (l ∷ lines) h = (
  dot_comm l r ∙ h.0,
  All-weaker (λ s. IsTight s l) (λ s. dot l s ≡ zero_ℚ) (λ s e. dot_comm l s ∙ e) readers h.2,
  All-weaker (λ k. dot r k ≡ zero_ℚ) (λ k. IsTight k r) (λ k e. dot_comm k r ∙ e) lines h.1,
  swapped readers lines h.3,
)

-- the reader of a line
record IsReaderOf (readers lines : List (List ℚ)) (e : List ℚ) : Type 0 where
  reader : List ℚ
  listed : Contains readers reader
  own : dot reader e ≡ one_ℚ
  other : (k : List ℚ) → Contains lines k → (k ≡ e → ⊥) → dot reader k ≡ zero_ℚ

own_reader : (readers lines : List (List ℚ)) → AreReaders readers lines → (e : List ℚ) → Contains lines e → IsReaderOf readers lines e
own_reader [] [] a e c = absurd (Contains-nil e c)
own_reader [] (l ∷ lines) a e c = absurd a
own_reader (r ∷ readers) [] a e c = absurd a
own_reader (r ∷ readers) (x ∷ lines) a e c = go (Contains-cases x lines e c) (λ m. own_reader readers lines a.3 e m)
  where
    go : (x ≡ e) ⊎ Contains lines e → (Contains lines e → IsReaderOf readers lines e) → IsReaderOf (r ∷ readers) (x ∷ lines) e
    go (inl f) again = record {
      reader = r;
      listed = Contains-here r readers r refl;
      own = ap (dot r) (sym f) ∙ a.0;
      other = λ k k_in apart. here k apart (Contains-cases x lines k k_in);
    }
      where
        here : (k : List ℚ) → (k ≡ e → ⊥) → (x ≡ k) ⊎ Contains lines k → dot r k ≡ zero_ℚ
        here k apart (inl g) = absurd (apart (sym g ∙ f))
        here k apart (inr q) = member_of (λ j. dot r j ≡ zero_ℚ) lines k a.1 q
    go (inr m) again =
        let g = again m in
        record {
          reader = g.reader;
          listed = Contains-there r readers g.reader g.listed;
          own = g.own;
          other = λ k k_in apart. there g k apart (Contains-cases x lines k k_in);
        }
      where
        there : (g : IsReaderOf readers lines e) (k : List ℚ) → (k ≡ e → ⊥) → (x ≡ k) ⊎ Contains lines k → dot g.reader k ≡ zero_ℚ
        there g k apart (inl f) = ap (dot g.reader) (sym f) ∙ member_of (λ t. IsTight t x) readers g.reader a.2 g.listed
        there g k apart (inr q) = g.other k q apart

-- ---- the inequality 0 ≥ -1
pub held_value : (n : ℕ) (y : List ℚ) (t : ℚ) → length y ≡ n → dot (held_by_all n) (homogenised y t) ≡ neg_ℚ t
held_value n y t h = dot-homogenised (zeros n) y (neg_ℚ one_ℚ) t (length-zeros n ∙ sym h)
    ∙ ap (λ a. a +ℚ neg_ℚ one_ℚ *ℚ t) (dot_comm (zeros n) y ∙ dot-zeros y n)
    ∙ ring rationals (t ∷ []) (num (pos 0) ⊕ ⊖ (num (pos 1)) ⊗ v0) (⊖ v0) refl

-- a vector at which it is 1
record IsLowered (n : ℕ) (v : List ℚ) : Type 0 where
  z : List ℚ
  width : length z ≡ n
  same : v ≡ homogenised z (neg_ℚ one_ℚ)

lowered : (n : ℕ) (v : List ℚ) → length v ≡ suc n → dot (held_by_all n) v ≡ one_ℚ → IsLowered n v
lowered n v h e = go (unhomogenised n v h)
  where
    go : IsHomogenised n v → IsLowered n v
    go u = record {
      z = u.front;
      width = u.wide;
      same = u.same ∙ ap (λ t. homogenised u.front t) (sym (neg_neg u.last) ∙ ap neg_ℚ (sym (held_value n u.front u.last u.wide) ∙ ap (dot (held_by_all n)) (sym u.same) ∙ e));
    }

-- what it is a multiple of has no normal
flat_of_ray : (n : ℕ) (g : List ℚ) → length g ≡ suc n → IsOnRay g (held_by_all n) → (t : ℚ) × (g ≡ homogenised (zeros n) t)
flat_of_ray n g h ray = go (unhomogenised n g h)
  where
    go : IsHomogenised n g → (t : ℚ) × (g ≡ homogenised (zeros n) t)
    go u =
        let q : ℚ = ray.factor in
        let parts : (zeros n ≡ scaled q u.front) × (neg_ℚ one_ℚ ≡ q *ℚ u.last) =
        homogenised-same (zeros n) (scaled q u.front) (neg_ℚ one_ℚ) (q *ℚ u.last) (ray.same ∙ ap (scaled q) u.same ∙ scaled-homogenised q u.front u.last) in
        let none : (r : List ℚ) → dot r u.front ≡ zero_ℚ = λ r.
        ring rationals (dot r u.front ∷ []) v0 (⊖ (⊖ (num (pos 1))) ⊗ v0) refl
        ∙ ap (λ x. neg_ℚ x *ℚ dot r u.front) parts.1
        ∙ ring rationals (q ∷ u.last ∷ dot r u.front ∷ []) (⊖ (v0 ⊗ v1) ⊗ v2) (⊖ v1 ⊗ (v0 ⊗ v2)) refl
        ∙ ap (λ x. neg_ℚ u.last *ℚ x) (sym (dot-scaled r q u.front) ∙ ap (dot r) (sym parts.0) ∙ dot-zeros r n)
        ∙ mul_zero (neg_ℚ u.last) in (
          u.last,
          u.same ∙ ap (λ v. homogenised v u.last) (same_wide n u.front (zeros n) u.wide (length-zeros n) (λ r. none r ∙ sym (dot-zeros r n))),
        )

module _ (n : ℕ) (readers rows gens equations : List (List ℚ)) (p : List ℚ) (d : AreLined (suc n) readers rows gens equations)
    (down : All (λ r. zero_ℚ ≤ℚ dot r (held_by_all n)) rows) (unread : All (λ r. dot r (held_by_all n) ≡ zero_ℚ) readers) (p_width : length p ≡ n)
    (p_in : Contains rows (homogenised p (neg_ℚ one_ℚ))) where
  abbrev at_p : List ℚ
  at_p = homogenised p (neg_ℚ one_ℚ)

  at_p_width : length (homogenised p (neg_ℚ one_ℚ)) ≡ suc n
  at_p_width = length-homogenised n p (neg_ℚ one_ℚ) p_width

  gen_at_p : (g : List ℚ) → Contains gens g → zero_ℚ ≤ℚ dot g (homogenised p (neg_ℚ one_ℚ))
  gen_at_p g c = subst (λ (x : ℚ). zero_ℚ ≤ℚ x) (dot_comm (homogenised p (neg_ℚ one_ℚ)) g)
      (gen_holds (suc n) readers rows gens equations d g (homogenised p (neg_ℚ one_ℚ)) c p_in)

  equation_at_p : (e : List ℚ) → Contains equations e → dot e (homogenised p (neg_ℚ one_ℚ)) ≡ zero_ℚ
  equation_at_p e c = dot_comm e (homogenised p (neg_ℚ one_ℚ))
      ∙ member_of (λ r. IsTight r e) rows (homogenised p (neg_ℚ one_ℚ)) (member_of (λ v. All (λ r. IsTight r v) rows) equations e d.at_lines c) p_in

  held_at_p : dot (held_by_all n) (homogenised p (neg_ℚ one_ℚ)) ≡ one_ℚ
  held_at_p = held_value n p (neg_ℚ one_ℚ) p_width ∙ neg_neg one_ℚ

  reader_width : (r : List ℚ) → Contains readers r → length r ≡ suc n
  reader_width r c = member_of (HasWidth (suc n)) (pinned readers rows) r d.described.rows_wide.wide (pinned_reader readers rows r c)

  gen_width : (g : List ℚ) → Contains gens g → length g ≡ suc n
  gen_width g c = member_of (HasWidth (suc n)) gens g d.described.generators_wide.wide c

  -- ---- an equation: from the point along its reader
  needs_equation : (e : List ℚ) (others : List (List ℚ)) → Contains equations e → AreOthers equations others e →
      ((z : List ℚ) → length z ≡ n → All (HoldsFor z) gens → All (EqualFor z) others → EqualFor z e) → ⊥
  needs_equation e others e_in o h =
      let r : IsReaderOf readers equations e = own_reader readers equations d.reads e e_in in
      let q : List ℚ = plus (homogenised p (neg_ℚ one_ℚ)) r.reader in
      let height : dot (held_by_all n) q ≡ one_ℚ =
      dot-plus (held_by_all n) (homogenised p (neg_ℚ one_ℚ)) r.reader
      ∙ ap₂ (λ a b. a +ℚ b) held_at_p (dot_comm (held_by_all n) r.reader ∙ member_of (λ s. dot s (held_by_all n) ≡ zero_ℚ) readers r.reader unread r.listed) ∙ add_zero one_ℚ in
      let low : IsLowered n q = lowered n q (length-plus (suc n) (homogenised p (neg_ℚ one_ℚ)) r.reader at_p_width (reader_width r.reader r.listed)) height in
      let equal : EqualFor low.z e = h low.z low.width
      (all_of_members (HoldsFor low.z) gens (λ g c. subst (λ (v : List ℚ). zero_ℚ ≤ℚ dot g v) low.same
      (subst (λ (x : ℚ). zero_ℚ ≤ℚ x) (sym (dot-plus g (homogenised p (neg_ℚ one_ℚ)) r.reader
      ∙ ap (λ x. dot g (homogenised p (neg_ℚ one_ℚ)) +ℚ x) (dot_comm g r.reader ∙ gens_reduced (suc n) readers rows gens d.described g r.reader c r.listed)
      ∙ add_zero (dot g (homogenised p (neg_ℚ one_ℚ))))) (gen_at_p g c))))
      (all_of_members (EqualFor low.z) others (λ k c.
      let k_in : Contains equations k = member_of (Contains equations) others k o.among c in
      ap (dot k) (sym low.same) ∙ dot-plus k (homogenised p (neg_ℚ one_ℚ)) r.reader
      ∙ ap₂ (λ a b. a +ℚ b) (equation_at_p k k_in) (dot_comm k r.reader ∙ r.other k k_in (λ f. o.left_out (subst (λ (v : List ℚ). Contains others v) f c))) ∙ add_zero zero_ℚ)) in
      not_zero_of_positive one_ℚ zero_lt_one (sym (zero_add one_ℚ)
      ∙ ap₂ (λ a b. a +ℚ b) (sym (equation_at_p e e_in)) (sym (dot_comm e r.reader ∙ r.own)) ∙ sym (dot-plus e (homogenised p (neg_ℚ one_ℚ)) r.reader)
      ∙ ap (dot e) low.same ∙ equal)

  -- ---- an inequality
  held_in : IsInCone (suc n) (pinned readers rows) (held_by_all n)
  held_in = record {
    wide = length-homogenised n (zeros n) (neg_ℚ one_ℚ) (length-zeros n);
    within = all_of_members (HoldsAt (held_by_all n)) (pinned readers rows) (λ r k. elim (pinned_cases readers rows r k) [
      | inl m ↦ le_of_eq zero_ℚ (dot r (held_by_all n)) (sym (member_of (λ s. dot s (held_by_all n) ≡ zero_ℚ) readers r unread m))
      | inr q ↦ elim q [
        | inl t ↦ le_of_eq zero_ℚ (dot r (held_by_all n))
            (sym (ap (λ v. dot v (held_by_all n)) (sym t.2) ∙ tight_negated t.0 (held_by_all n) (member_of (λ s. dot s (held_by_all n) ≡ zero_ℚ) readers t.0 unread t.1)))
        | inr m ↦ member_of (λ s. zero_ℚ ≤ℚ dot s (held_by_all n)) rows r down m
      ]
    ]);
  }

  module _ (g : List ℚ) (others : List (List ℚ)) (g_in : Contains gens g) (o : AreOthers gens others g) where
    abbrev vs : List (List ℚ)
    vs = others ++ held_by_all n ∷ []

    gen_in : (v : List ℚ) → Contains gens v → IsInCone (suc n) (pinned readers rows) v
    gen_in v c = member_of (IsInCone (suc n) (pinned readers rows)) gens v d.described.inside c

    other_or_held : (v : List ℚ) → Contains (others ++ held_by_all n ∷ []) v → Contains others v ⊎ (held_by_all n ≡ v)
    other_or_held v c = go (Contains-append_cases others (held_by_all n ∷ []) v c)
      where
        last : (held_by_all n ≡ v) ⊎ Contains [] v → held_by_all n ≡ v
        last (inl e) = e
        last (inr k) = absurd (Contains-nil v k)

        go : Contains others v ⊎ Contains (held_by_all n ∷ []) v → Contains others v ⊎ (held_by_all n ≡ v)
        go (inl k) = inl k
        go (inr k) = inr (last (Contains-cases (held_by_all n) [] v k))

    vs_in : (v : List ℚ) → Contains (others ++ held_by_all n ∷ []) v → IsInCone (suc n) (pinned readers rows) v
    vs_in v c = go (other_or_held v c)
      where
        go : Contains others v ⊎ (held_by_all n ≡ v) → IsInCone (suc n) (pinned readers rows) v
        go (inl k) = gen_in v (member_of (Contains gens) others v o.among k)
        go (inr e) = subst (λ (u : List ℚ). IsInCone (suc n) (pinned readers rows) u) e held_in

    vs_wide : AreWide (suc n) (others ++ held_by_all n ∷ [])
    vs_wide = record { wide = all_of_members (HasWidth (suc n)) (others ++ held_by_all n ∷ []) (λ v c. (vs_in v c).wide) }

    -- g is no combination of others and of 0 ≥ -1
    not_combined : ((t : ℚ) → g ≡ homogenised (zeros n) t → ⊥) → IsGenerated (suc n) (others ++ held_by_all n ∷ []) g → ⊥
    not_combined normal s = start (tight_or_positive (pinned readers rows) g (gen_in g g_in).within)
      where
        hold : (r : List ℚ) → Contains (pinned readers rows) r → All (HoldsAt r) (others ++ held_by_all n ∷ [])
        hold r k = all_of_members (HoldsAt r) (others ++ held_by_all n ∷ []) (λ v m. subst (λ (x : ℚ). zero_ℚ ≤ℚ x) (dot_comm r v)
            (member_of (HoldsAt v) (pinned readers rows) r (vs_in v m).within k))

        by : (v : List ℚ) → LiesIn (pinned readers rows) g v → Contains others v ⊎ (held_by_all n ≡ v) → ⊥
        by v lies (inl k) =
            let same : g ≡ v = gens_same (suc n) (pinned readers rows) gens d.described g v g_in (member_of (Contains gens) others v o.among k) lies in
            o.left_out (subst (λ (u : List ℚ). Contains others u) (sym same) k)
        by v lies (inr e) =
            let f = flat_of_ray n g (gen_width g g_in) (ray_of (suc n) (pinned readers rows) gens d.described g (held_by_all n) g_in held_in
            (subst (λ (u : List ℚ). LiesIn (pinned readers rows) g u) (sym e) lies)) in
            normal f.0 f.1

        start : All (λ r. IsTight r g) (pinned readers rows) ⊎ IsPositiveSomewhere (pinned readers rows) g → ⊥
        start (inl t) = member_of (λ v. v ≡ zeros (suc n) → ⊥) gens g d.described.not_zero g_in (d.described.pointed g (gen_width g g_in) t)
        start (inr a) =
            let u : (v : List ℚ) × InSupport s.multipliers (others ++ held_by_all n ∷ []) v × (zero_ℚ <ℚ dot v a.row) =
            support_positive s.multipliers (others ++ held_by_all n ∷ []) a.row s.at_least_zero
            (subst (λ (x : ℚ). zero_ℚ <ℚ x) (generated_value (suc n) (others ++ held_by_all n ∷ []) g s a.row) a.positive) in
            by u.0 (all_of_members (λ r. IsTight r g → IsTight r u.0) (pinned readers rows) (λ r k e.
            dot_comm r u.0 ∙ support_zero s.multipliers (others ++ held_by_all n ∷ []) u.0 r s.at_least_zero (hold r k)
            (sym (generated_value (suc n) (others ++ held_by_all n ∷ []) g s r) ∙ e) u.1))
            (other_or_held u.0 (support_listed s.multipliers (others ++ held_by_all n ∷ []) u.0 u.1))

    -- a vector that meets others and equations, but not g
    missed : ((z : List ℚ) → length z ≡ n → All (HoldsFor z) others → All (EqualFor z) equations → HoldsFor z g) →
        IsSeparated (suc n) (others ++ held_by_all n ∷ []) g → ⊥
    missed h t =
        let readers_wide : AreWide (suc n) readers = record { wide = all_of_members (HasWidth (suc n)) readers reader_width } in
        let along : List ℚ = combination (suc n) (values equations t.vector) readers in
        let along_width : length along ≡ suc n = length-combination (suc n) (values equations t.vector) readers readers_wide in
        let x : List ℚ = less t.vector one_ℚ along in
        let x_width : length x ≡ suc n = less_width (suc n) t.vector along one_ℚ t.in_cone.wide along_width in
        let reduced : (v : List ℚ) → ((r : List ℚ) → Contains readers r → dot r v ≡ zero_ℚ) → dot v x ≡ dot v t.vector = λ v k.
        less_value t.vector along v one_ℚ
        ∙ ap (λ y. dot v t.vector +ℚ neg_ℚ y) (one_mul (dot v along) ∙ dot-combination (suc n) v (values equations t.vector) readers
        ∙ values_none (values equations t.vector) readers v (all_of_members (λ r. dot r v ≡ zero_ℚ) readers k))
        ∙ ring rationals (dot v t.vector ∷ []) (v0 ⊝ num (pos 0)) v0 refl in
        let at_equation : (e : List ℚ) → Contains equations e → dot e x ≡ zero_ℚ = λ e k.
        less_value t.vector along e one_ℚ
        ∙ ap (λ y. dot e t.vector +ℚ neg_ℚ y) (one_mul (dot e along) ∙ dot-combination (suc n) e (values equations t.vector) readers
        ∙ member_of (λ s. dot (values equations t.vector) (values readers s) ≡ dot s t.vector) equations e (slopes_read t.vector equations readers (swapped readers equations d.reads)) k)
        ∙ difference_self (dot e t.vector) in
        let at_gen : (v : List ℚ) → Contains gens v → dot v x ≡ dot v t.vector = λ v k. reduced v (λ r m. gens_reduced (suc n) readers rows gens d.described v r k m) in
        let at_held : dot (held_by_all n) x ≡ dot (held_by_all n) t.vector = reduced (held_by_all n) (λ r m. member_of (λ s. dot s (held_by_all n) ≡ zero_ℚ) readers r unread m) in
        let other_nonneg : (v : List ℚ) → Contains others v → zero_ℚ ≤ℚ dot v x = λ v k.
        subst (λ (y : ℚ). zero_ℚ ≤ℚ y) (sym (at_gen v (member_of (Contains gens) others v o.among k)))
        (member_of (HoldsAt t.vector) (others ++ held_by_all n ∷ []) v t.in_cone.within (Contains-append_left others (held_by_all n ∷ []) v k)) in
        let held_nonneg : zero_ℚ ≤ℚ dot (held_by_all n) x = subst (λ (y : ℚ). zero_ℚ ≤ℚ y) (sym at_held)
        (member_of (HoldsAt t.vector) (others ++ held_by_all n ∷ []) (held_by_all n) t.in_cone.within
        (Contains-append_right others (held_by_all n ∷ []) (held_by_all n) (Contains-here (held_by_all n) [] (held_by_all n) refl))) in
        let below : dot g x <ℚ zero_ℚ = subst (λ (y : ℚ). y <ℚ zero_ℚ) (sym (at_gen g g_in)) t.below in
        let a : ℚ = dot g (homogenised p (neg_ℚ one_ℚ)) in
        let b : ℚ = neg_ℚ (dot g x) in
        let b_positive : zero_ℚ <ℚ b = neg_positive (dot g x) below in
        let q : ℚ = inverse_ℚ b *ℚ (a +ℚ one_ℚ) in
        let q_nonneg : zero_ℚ ≤ℚ q = mul_nonneg (inverse_ℚ b) (a +ℚ one_ℚ) (le_of_lt zero_ℚ (inverse_ℚ b) (inverse_positive b b_positive))
        (add_nonneg a one_ℚ (gen_at_p g g_in) (le_of_lt zero_ℚ one_ℚ zero_lt_one)) in
        let far : List ℚ = plus (homogenised p (neg_ℚ one_ℚ)) (scaled q x) in
        let far_value : (v : List ℚ) → dot v far ≡ dot v (homogenised p (neg_ℚ one_ℚ)) +ℚ q *ℚ dot v x = λ v.
        dot-plus v (homogenised p (neg_ℚ one_ℚ)) (scaled q x) ∙ ap (λ y. dot v (homogenised p (neg_ℚ one_ℚ)) +ℚ y) (dot-scaled v q x) in
        let far_width : length far ≡ suc n = length-plus (suc n) (homogenised p (neg_ℚ one_ℚ)) (scaled q x) at_p_width (length-scaled q x ∙ x_width) in
        let height : ℚ = dot (held_by_all n) far in
        let height_is : height ≡ one_ℚ +ℚ q *ℚ dot (held_by_all n) x = far_value (held_by_all n) ∙ ap (λ y. y +ℚ q *ℚ dot (held_by_all n) x) held_at_p in
        let height_positive : zero_ℚ <ℚ height = subst (λ (y : ℚ). zero_ℚ <ℚ y) (sym height_is) (more_than_one (q *ℚ dot (held_by_all n) x) (mul_nonneg q (dot (held_by_all n) x) q_nonneg held_nonneg)) in
        let back : ℚ = inverse_ℚ height in
        let back_nonneg : zero_ℚ ≤ℚ back = le_of_lt zero_ℚ back (inverse_positive height height_positive) in
        let near : List ℚ = scaled back far in
        let near_height : dot (held_by_all n) near ≡ one_ℚ = dot-scaled (held_by_all n) back far ∙ mul_comm back height ∙ sym (ap (λ y. height *ℚ y) (mul_one back))
        ∙ mul_inverse_cancel height one_ℚ height_positive in
        let low : IsLowered n near = lowered n near (length-scaled back far ∙ far_width) near_height in
        let held : HoldsFor low.z g = h low.z low.width
        (all_of_members (HoldsFor low.z) others (λ v k. subst (λ (w : List ℚ). zero_ℚ ≤ℚ dot v w) low.same (subst (λ (y : ℚ). zero_ℚ ≤ℚ y) (sym (dot-scaled v back far))
        (mul_nonneg back (dot v far) back_nonneg (subst (λ (y : ℚ). zero_ℚ ≤ℚ y) (sym (far_value v))
        (add_nonneg (dot v (homogenised p (neg_ℚ one_ℚ))) (q *ℚ dot v x) (gen_at_p v (member_of (Contains gens) others v o.among k)) (mul_nonneg q (dot v x) q_nonneg (other_nonneg v k))))))))
        (all_of_members (EqualFor low.z) equations (λ e k. ap (dot e) (sym low.same) ∙ dot-scaled e back far ∙ ap (λ y. back *ℚ y) (far_value e
        ∙ ap₂ (λ u w. u +ℚ q *ℚ w) (equation_at_p e k) (at_equation e k) ∙ ap (λ y. zero_ℚ +ℚ y) (mul_zero q) ∙ add_zero zero_ℚ) ∙ mul_zero back)) in
        let at_far : dot g far ≡ neg_ℚ one_ℚ = far_value g
        ∙ ring rationals (a ∷ q ∷ dot g x ∷ []) (v0 ⊕ v1 ⊗ v2) (v0 ⊝ v1 ⊗ ⊖ v2) refl
        ∙ ap (λ y. a +ℚ neg_ℚ y) (mul_comm q b ∙ mul_inverse_cancel b (a +ℚ one_ℚ) b_positive)
        ∙ ring rationals (a ∷ []) (v0 ⊝ (v0 ⊕ num (pos 1))) (⊖ (num (pos 1))) refl in
        not_lt_of_le zero_ℚ (neg_ℚ one_ℚ)
        (subst (λ (y : ℚ). zero_ℚ ≤ℚ y) (mul_comm height (dot g near) ∙ ap (λ y. y *ℚ height) (dot-scaled g back far)
        ∙ ring rationals (back ∷ dot g far ∷ height ∷ []) (v0 ⊗ v1 ⊗ v2) (v2 ⊗ (v0 ⊗ v1)) refl ∙ mul_inverse_cancel height (dot g far) height_positive ∙ at_far)
        (mul_nonneg height (dot g near) (le_of_lt zero_ℚ height height_positive) (subst (λ (w : List ℚ). zero_ℚ ≤ℚ dot g w) (sym low.same) held)))
        (negative_of_neg (neg_ℚ one_ℚ) (subst (λ (y : ℚ). zero_ℚ <ℚ y) (sym (neg_neg one_ℚ)) zero_lt_one))
      where
        more_than_one : (c : ℚ) → zero_ℚ ≤ℚ c → zero_ℚ <ℚ one_ℚ +ℚ c
        more_than_one c k = go (zero_or_positive (one_ℚ +ℚ c) (add_nonneg one_ℚ c (le_of_lt zero_ℚ one_ℚ zero_lt_one) k))
          where
            go : (one_ℚ +ℚ c ≡ zero_ℚ) ⊎ (zero_ℚ <ℚ one_ℚ +ℚ c) → zero_ℚ <ℚ one_ℚ +ℚ c
            go (inl e) = absurd (not_zero_of_positive one_ℚ zero_lt_one (add_zero_left one_ℚ c (le_of_lt zero_ℚ one_ℚ zero_lt_one) k e))
            go (inr m) = m

    needs_side : ((t : ℚ) → g ≡ homogenised (zeros n) t → ⊥) →
        ((z : List ℚ) → length z ≡ n → All (HoldsFor z) others → All (EqualFor z) equations → HoldsFor z g) → ⊥
    needs_side normal h = go (farkas (suc n) (others ++ held_by_all n ∷ []) g vs_wide (gen_width g g_in))
      where
        go : IsGenerated (suc n) (others ++ held_by_all n ∷ []) g ⊎ IsSeparated (suc n) (others ++ held_by_all n ∷ []) g → ⊥
        go (inl s) = not_combined normal s
        go (inr t) = missed h t

pub sides_are_needed : SidesAreNeeded
sides_are_needed n readers rows gens equations p d down unread p_width p_in = record {
  side = λ g others g_in o normal h. needs_side n readers rows gens equations p d down unread p_width p_in g others g_in o normal h;
  equation = needs_equation n readers rows gens equations p d down unread p_width p_in;
}
