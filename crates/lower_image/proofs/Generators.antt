-- What a live generator of the cone of dual vectors stands for.
use Rattle.std.proofs.Common.{◌≡◌, ◌≢◌, ℕ, zero, suc, List, [], ◌∷◌, ◌++◌, length, take, All, Contains, refl, sym, ap, ap₂, ◌∙◌, subst, arith, ◌≤◌, ◌-◌, ◌+◌, Bool, true, false, ◌⊎◌, inl, inr, length-append, true≢false}
use Rattle.std.specs.Prelude.{if◌then◌else◌, not}
use Rattle.std.proofs.Math.Seq.{take-append_seam}
use Rattle.std.proofs.lemmas.List.{length-take-le}
use Rattle.exact_field.specs.Rational.{ℚ, zero_ℚ, one_ℚ, ◌-ℚ◌, neg_ℚ, le_ℚ, ◌≤ℚ◌, ◌<ℚ◌}
use Rattle.exact_field.specs.Vector.{dot, entry, front}
use Rattle.polyhedra.specs.Cone.{IsInCone}
use Rattle.polyhedra.specs.DoubleDescription.{IsNormed, is_zero, leading, magnitude, norming}
use Rattle.polyhedra.specs.LiveList.{LiveList, vectors}
use Rattle.polyhedra.specs.Vectors.{zeros}
use Rattle.polyhedra.proofs.Algebra.{neg_neg, zero_add}
use Rattle.polyhedra.proofs.Laws.{le_antisymm, add_neg}
use Rattle.polyhedra.proofs.Linear.{dot_comm, dot-zeros}
use Rattle.polyhedra.proofs.LiveSteps.{are_live}
use Rattle.polyhedra.proofs.Members.{member_of}
use Rattle.polyhedra.proofs.Order.{le_or_lt, le_of_difference}
use Rattle.polyhedra.proofs.Tests.{test_of_zero, test_of_other}
use Rattle.vlp_problem.specs.declared.problem.Problem.{Problem}
use Rattle.upper_image.specs.OrderingCone.{Fits, IsInDualCone, IsInOrderingCone}
use Rattle.upper_image.proofs.Absorbing.{zero_at_interior}
use Rattle.overflows.specs.Base.{image_of, weight_of}
use Rattle.geo_duality.specs.Rows.{exchange_row}
use Rattle.lower_image.specs.Lower.{IsLower, dual_at, weight_at}
use Rattle.lower_image.specs.Laws.{IsWeighted, LowerGeneratorLaws}
use Rattle.lower_image.proofs.Exchange.{exchange_at, two_more, weight_long, weight_normed, dual_parts, front_zero}
use Rattle.lower_image.proofs.LowerRows.{c_long, c_last, some, image_wide}

-- ---- signs
magnitude_up : (q : ℚ) → zero_ℚ ≤ℚ q → magnitude q ≡ q
magnitude_up q h = ap (λ (b : Bool). if b then q else neg_ℚ q) h

magnitude_down : (q : ℚ) → q <ℚ zero_ℚ → magnitude q ≡ neg_ℚ q
magnitude_down q h = ap (λ (b : Bool). if b then q else neg_ℚ q) (turned (le_ℚ zero_ℚ q) h)
  where
    turned : (b : Bool) → not b ≡ true → b ≡ false
    turned true e = absurd (true≢false (sym e))
    turned false e = refl

leading_zeros : (n : ℕ) (v : List ℚ) → leading (zeros n ++ v) ≡ leading v
leading_zeros zero v = refl
leading_zeros (suc n) v = ap (λ (b : Bool). if b then leading (zeros n ++ v) else zero_ℚ) (test_of_zero zero_ℚ refl) ∙ leading_zeros n v

pub front-weight : (c f : List ℚ) (s : ℚ) → front (weight_at c f s) ≡ f
front-weight c f s =
    ap (λ (n : ℕ). take n (weight_at c f s)) (omega (arith, length-append f ((s -ℚ dot (front c) f) ∷ [])))
    ∙ take-append_seam f ((s -ℚ dot (front c) f) ∷ [])

module _ (file : Problem) (c : List ℚ) (rows : List (List ℚ)) (list : LiveList) (g : List ℚ) (fits : Fits file c) (h : IsLower file c rows list)
    (listed : Contains (vectors list.live) g) where
  pub in_cone : IsInCone (suc file.objs) rows g
  in_cone = member_of (IsInCone (suc file.objs) rows) (vectors list.live) g h.live.described.inside listed

  is_normed : IsNormed g
  is_normed = member_of IsNormed (vectors list.live) g h.live.normed listed

  abbrev f : List ℚ
  f = take (file.objs - 1) g

  abbrev gamma : ℚ
  gamma = entry g file.objs

  abbrev s : ℚ
  s = entry g (suc file.objs)

  pub parts : g ≡ dual_at (take (file.objs - 1) g) (entry g file.objs) (entry g (suc file.objs))
  parts = dual_parts file.objs g file.some_objective in_cone.wide

  pub f_long : length (take (file.objs - 1) g) ≡ file.objs - 1
  f_long = length-take-le (file.objs - 1) g (omega (arith, in_cone.wide))

  pub f_again : length (take (file.objs - 1) g) ≡ length c - 1
  f_again = f_long ∙ ap (λ (n : ℕ). n - 1) (sym (c_long file c fits))

  inside : IsInDualCone file (weight_at c f s)
  inside = h.rows_are.in_dual f gamma s f_long (subst (λ (v : List ℚ). All (λ r. zero_ℚ ≤ℚ dot r v) rows) parts in_cone.within)

  level : dot (weight_at c f s) c ≡ s
  level = weight_normed c f s (some file c fits) f_again (c_last file c fits)

  up : zero_ℚ ≤ℚ s
  up = subst (λ (a : ℚ). zero_ℚ ≤ℚ a) level (inside.within c fits.interior.member)

  last_is : entry g (length g) ≡ s
  last_is = ap (λ (n : ℕ). entry g n) in_cone.wide

  module _ (other : s ≢ zero_ℚ) where
    s_one : s ≡ one_ℚ
    s_one =
        sym (magnitude_up s up)
        ∙ ap magnitude (sym (ap (λ (b : Bool). if b then leading g else s) (test_of_other s other)) ∙ ap (λ (a : ℚ). if is_zero a then leading g else a) (sym last_is))
        ∙ is_normed

    weight_is : weight_of c g ≡ weight_at c f one_ℚ
    weight_is = ap (λ (n : ℕ). take (n - 1) g ++ (one_ℚ -ℚ dot (front c) (take (n - 1) g)) ∷ []) (c_long file c fits)

    weighted : IsWeighted file c g
    weighted = record {
      last = s_one;
      wide = ap (λ (v : List ℚ). length v) weight_is ∙ weight_long c f one_ℚ (some file c fits) f_again ∙ c_long file c fits;
      in_dual = subst (IsInDualCone file) (ap (λ (a : ℚ). weight_at c f a) s_one ∙ sym weight_is) inside;
      normed = ap (λ (v : List ℚ). dot v c) weight_is ∙ weight_normed c f one_ℚ (some file c fits) f_again (c_last file c fits);
      base = record {
        rows = rows;
        base = h.rows_are.base;
        generator = g;
        is = record { pointed = h.live.described.pointed; extreme = ((are_live.extreme (suc file.objs) rows list h.live g).0 listed).0; normed = is_normed };
        last = s_one;
        same = refl;
      };
      same = parts
          ∙ ap₂ (λ (v : List ℚ) (a : ℚ). v ++ gamma ∷ a ∷ []) (sym (ap front weight_is ∙ front-weight c f one_ℚ))
          (s_one ∙ sym (ap (λ (v : List ℚ). dot v c) weight_is ∙ weight_normed c f one_ℚ (some file c fits) f_again (c_last file c fits)));
    }

  module _ (none : s ≡ zero_ℚ) where
    weight_zero : weight_at c f s ≡ zeros file.objs
    weight_zero = zero_at_interior file.objs (IsInOrderingCone file) c (weight_at c f s) fits.interior inside (level ∙ none)

    g_is : g ≡ dual_at (zeros (file.objs - 1)) gamma zero_ℚ
    g_is = parts ∙ ap₂ (λ (v : List ℚ) (a : ℚ). v ++ gamma ∷ a ∷ []) (front_zero c f s file.objs f_long weight_zero) none

    -- the row of the feasible point says that the bound is at most 0
    down : zero_ℚ ≤ℚ neg_ℚ gamma
    down =
        subst (λ (a : ℚ). zero_ℚ ≤ℚ a)
        (ap (λ (v : List ℚ). dot (exchange_row c (image_of file h.rows_are.point) true) v) parts
        ∙ exchange_at c (image_of file h.rows_are.point) f gamma s true (some file c fits) (image_wide file h.rows_are.point ∙ sym (c_long file c fits)) f_again
        ∙ ap (λ (a : ℚ). a -ℚ gamma) (ap (λ (v : List ℚ). dot v (image_of file h.rows_are.point)) weight_zero ∙ dot_comm (zeros file.objs) _ ∙ dot-zeros _ file.objs)
        ∙ zero_add (neg_ℚ gamma))
        (member_of (λ r. zero_ℚ ≤ℚ dot r g) rows _ in_cone.within h.rows_are.listed)

    gamma_other : gamma ≢ zero_ℚ
    gamma_other e = member_of (λ v. v ≡ zeros (suc file.objs) → ⊥) (vectors list.live) g h.live.described.not_zero listed
        (let whole : suc (suc (file.objs - 1)) ≡ suc file.objs = omega (arith, file.some_objective) in
        g_is ∙ ap (λ (a : ℚ). zeros (file.objs - 1) ++ a ∷ zero_ℚ ∷ []) e ∙ two_more (file.objs - 1) ∙ ap (λ (n : ℕ). zeros n) whole)

    norm_is : norming g ≡ gamma
    norm_is =
        ap (λ (a : ℚ). if is_zero a then leading g else a) (last_is ∙ none) ∙ ap (λ (b : Bool). if b then leading g else zero_ℚ) (test_of_zero zero_ℚ refl)
        ∙ ap leading g_is ∙ leading_zeros (file.objs - 1) (gamma ∷ zero_ℚ ∷ [])
        ∙ ap (λ (b : Bool). if b then leading (zero_ℚ ∷ []) else gamma) (test_of_other gamma gamma_other)

    below : gamma <ℚ zero_ℚ
    below = go (le_or_lt zero_ℚ gamma)
      where
        go : (zero_ℚ ≤ℚ gamma) ⊎ (gamma <ℚ zero_ℚ) → gamma <ℚ zero_ℚ
        go (inr l) = l
        go (inl u) = absurd (gamma_other (le_antisymm gamma zero_ℚ
            (le_of_difference gamma zero_ℚ (neg_ℚ gamma) down (add_neg gamma)) u))

    gamma_is : gamma ≡ neg_ℚ one_ℚ
    gamma_is = sym (neg_neg gamma) ∙ ap neg_ℚ (sym (magnitude_down gamma below) ∙ ap magnitude (sym norm_is) ∙ is_normed)

    other_is : g ≡ dual_at (zeros (file.objs - 1)) (neg_ℚ one_ℚ) zero_ℚ
    other_is = g_is ∙ ap (λ (a : ℚ). zeros (file.objs - 1) ++ a ∷ zero_ℚ ∷ []) gamma_is

pub lower_generators : LowerGeneratorLaws
lower_generators = record {
  weighted = λ file c rows list g fits h listed other. weighted file c rows list g fits h listed other;
  other = λ file c rows list g fits h listed none. other_is file c rows list g fits h listed none;
}
