-- The directions of an enclosed set are exactly its normed extreme directions, since the generators of the cone of the rows are
-- exactly those of the cone.
use Rattle.std.proofs.Common.{◌≡◌, ℕ, suc, List, map, All, Contains, refl, sym, ap, ap₂, ◌∙◌, subst, inl, inr}
use Rattle.exact_field.specs.Rational.{ℚ, zero_ℚ, ◌+ℚ◌, ◌*ℚ◌, ◌≤ℚ◌}
use Rattle.exact_field.specs.Vector.{dot}
use Rattle.polyhedra.specs.Inequality.{Inequality}
use Rattle.polyhedra.specs.Vectors.{zeros, plus, scaled}
use Rattle.polyhedra.specs.Cone.{IsInCone}
use Rattle.polyhedra.specs.DoubleDescription.{IsNormed}
use Rattle.polyhedra.specs.Hull.{IsMultiple, IsExtremeDirection, IsNormedDirection}
use Rattle.polyhedra.specs.Exactness.{homogenised, level, row_of, rows_of, IsOneOf, IsEnclosed}
use Rattle.polyhedra.proofs.Homogenised.{homogenised-same, point_normed, level_value, scaled-homogenised, plus-homogenised, IsHomogenised, direction_normed, unhomogenised, zeros-homogenised}
use Rattle.polyhedra.proofs.Algebra.{mul_zero}
use Rattle.polyhedra.proofs.Enclosed.{InK, direction_in, direction_back, direction_of}
use Rattle.polyhedra.proofs.Laws.{add_zero}
use Rattle.polyhedra.proofs.Generators.{generator_is_extreme, extreme_is_generator}
use Rattle.polyhedra.proofs.Members.{member_of, all_of_members}
use Rattle.polyhedra.proofs.Lists.{HoldsAt, Contains-here}
use Rattle.polyhedra.proofs.Order.{add_zero_left}
use Rattle.polyhedra.proofs.Linear.{dot-plus, plus_comm}

module _ (n : ℕ) (Set Directions : List ℚ → Type 0) (c : List ℚ) (cuts : List Inequality) (gens points directions : List (List ℚ))
    (s : IsEnclosed n Set Directions c cuts gens points directions) where
  abbrev big : List ℚ → List ℚ
  big d = homogenised d zero_ℚ

  abbrev Cone : List ℚ → Type 0
  Cone z = IsInCone (suc n) (rows_of n cuts) z

  -- a multiple of a homogenised direction is that of the direction
  multiple : (d a : List ℚ) → IsMultiple (big d) (big a) → IsMultiple d a
  multiple d a m = record { factor = m.factor; same = (homogenised-same a (scaled m.factor d) zero_ℚ (m.factor *ℚ zero_ℚ) (m.same ∙ scaled-homogenised m.factor d zero_ℚ)).0 }

  multiple_back : (d a : List ℚ) → IsMultiple d a → IsMultiple (big d) (big a)
  multiple_back d a m = record {
    factor = m.factor;
    same = ap₂ homogenised m.same (sym (mul_zero m.factor)) ∙ sym (scaled-homogenised m.factor d zero_ℚ);
  }

  in_cone : (d : List ℚ) → Directions d → Cone (big d)
  unfolding InK
  in_cone d h = direction_in n Set Directions c cuts gens points directions s d h

  sums : (d a b : List ℚ) → Directions a → Directions b → d ≡ plus a b → big d ≡ plus (big a) (big b)
  sums d a b a_in b_in e = ap₂ homogenised e (sym (add_zero zero_ℚ))
      ∙ sym (plus-homogenised a b zero_ℚ zero_ℚ (s.convex.directions_wide a a_in ∙ sym (s.convex.directions_wide b b_in)))

  -- a member of the cone of height 0 is a homogenised direction
  at_height_zero : (z : List ℚ) → Cone z → dot (level n) z ≡ zero_ℚ → (a : List ℚ) × Directions a × (z ≡ big a)
  unfolding InK
  at_height_zero z h e =
      let u : IsHomogenised n z = unhomogenised n z h.wide in
      let height : u.last ≡ zero_ℚ = sym (level_value n u.front u.last u.wide) ∙ ap (λ v. dot (level n) v) (sym u.same) ∙ e in
      let same : z ≡ big u.front = u.same ∙ ap (λ t. homogenised u.front t) height in (
        u.front,
        direction_back n Set Directions c cuts gens points directions s u.front u.wide (subst (λ (v : List ℚ). Cone v) same h),
        same,
      )

  -- the generators are normed
  generators_normed : All IsNormed gens
  generators_normed = all_of_members IsNormed gens (λ g k. by g (member_of (IsOneOf points directions) gens g s.each k))
    where
      by : (g : List ℚ) → IsOneOf points directions g → IsNormed g
      by g (inl (y, k, e)) = subst (λ (v : List ℚ). IsNormed v) (sym e) (point_normed y)
      by g (inr (d, k, e)) = subst (λ (v : List ℚ). IsNormed v) (sym e) (direction_normed d (member_of IsNormedDirection directions d s.directions_normed k))

  -- ---- a listed direction is extreme
  pub listed_is_extreme : (d : List ℚ) → Contains directions d → IsExtremeDirection n Directions d × IsNormedDirection d
  listed_is_extreme d listed = (
    record {
      member = member_of Directions directions d s.directions_in listed;
      not_zero = λ e. extreme.not_zero (ap big e ∙ sym (zeros-homogenised n));
      no_sum = λ a b a_in b_in e.
          let r : IsMultiple (big d) (big a) × IsMultiple (big d) (big b) = extreme.no_sum (big a) (big b) (in_cone a a_in) (in_cone b b_in) (sums d a b a_in b_in e) in
          (multiple d a r.0, multiple d b r.1);
    },
    member_of IsNormedDirection directions d s.directions_normed listed,
  )
    where
      extreme : IsExtremeDirection (suc n) Cone (big d)
      extreme = generator_is_extreme (suc n) (rows_of n cuts) gens s.described (big d)
          (member_of (λ v. Contains gens (homogenised v zero_ℚ)) directions d s.direction_listed listed)

  -- ---- an extreme direction is listed
  pub extreme_is_listed : (d : List ℚ) → IsExtremeDirection n Directions d → IsNormedDirection d → Contains directions d
  extreme_is_listed d extreme normed =
      let g : Contains gens (big d) = extreme_is_generator (suc n) (rows_of n cuts) gens s.described (big d) generators_normed big_extreme (direction_normed d normed) in
      let h : (x : List ℚ) × Contains directions x × (big d ≡ big x) = direction_of n Set Directions c cuts gens points directions s (big d) g
      (level_value n d zero_ℚ (s.convex.directions_wide d extreme.member)) in
      subst (λ (v : List ℚ). Contains directions v) (sym (homogenised-same d h.0 zero_ℚ zero_ℚ h.2).0) h.1
    where
      height : dot (level n) (big d) ≡ zero_ℚ
      height = level_value n d zero_ℚ (s.convex.directions_wide d extreme.member)

      level_nonneg : (z : List ℚ) → Cone z → zero_ℚ ≤ℚ dot (level n) z
      level_nonneg z h = member_of (HoldsAt z) (rows_of n cuts) (level n) h.within (Contains-here (level n) (map row_of cuts) (level n) refl)

      side : (a b : List ℚ) → Cone a → Cone b → big d ≡ plus a b → (x : List ℚ) × Directions x × (a ≡ big x)
      side a b a_in b_in e = at_height_zero a a_in (add_zero_left (dot (level n) a) (dot (level n) b) (level_nonneg a a_in) (level_nonneg b b_in)
          (sym (dot-plus (level n) a b) ∙ ap (λ v. dot (level n) v) (sym e) ∙ height))

      big_extreme : IsExtremeDirection (suc n) Cone (big d)
      big_extreme = record {
        member = in_cone d extreme.member;
        not_zero = λ e. extreme.not_zero (homogenised-same d (zeros n) zero_ℚ zero_ℚ (e ∙ zeros-homogenised n)).0;
        no_sum = λ a b a_in b_in e.
            let p : (x : List ℚ) × Directions x × (a ≡ big x) = side a b a_in b_in e in
            let q : (x : List ℚ) × Directions x × (b ≡ big x) = side b a b_in a_in (e ∙ plus_comm a b) in
            let whole : d ≡ plus p.0 q.0 = (homogenised-same d (plus p.0 q.0) zero_ℚ (zero_ℚ +ℚ zero_ℚ)
            (e ∙ ap₂ plus p.2 q.2 ∙ plus-homogenised p.0 q.0 zero_ℚ zero_ℚ
            (s.convex.directions_wide p.0 p.1 ∙ sym (s.convex.directions_wide q.0 q.1)))).0 in
            let r : IsMultiple d p.0 × IsMultiple d q.0 = extreme.no_sum p.0 q.0 p.1 q.1 whole in (
              subst (λ (v : List ℚ). IsMultiple (big d) v) (sym p.2) (multiple_back d p.0 r.0),
              subst (λ (v : List ℚ). IsMultiple (big d) v) (sym q.2) (multiple_back d q.0 r.1),
            );
      }
