-- The multipliers of an optimum of Benson's program are a pre-image of the start vector, where the last of them is not positive.
use Rattle.std.proofs.Common.{◌≡◌, ℕ, suc, List, [], ◌∷◌, map, length, take, drop, refl, sym, ap, ◌∙◌, subst, arith, ◌≤◌, ◌+◌, inl, inr, Bool, true, false, length-append}
use Rattle.std.specs.Prelude.{if◌then◌else◌}
use Rattle.exact_field.specs.Rational.{ℚ, zero_ℚ, one_ℚ, ◌+ℚ◌, ◌*ℚ◌, neg_ℚ, lt_ℚ, ◌≤ℚ◌, ◌<ℚ◌}
use Rattle.exact_field.specs.Vector.{dot, entry}
use Rattle.frac128.specs.declared.vectors.Spot.{Spot}
use Rattle.polyhedra.specs.Inequality.{Inequality}
use Rattle.polyhedra.specs.Negatives.{negated}
use Rattle.polyhedra.specs.Vectors.{AtLeastZero, zeros, plus, scaled, values}
use Rattle.polyhedra.proofs.Algebra.{zero_mul, neg_zero}
use Rattle.polyhedra.proofs.Laws.{add_zero, le_antisymm, le_of_lt}
use Rattle.polyhedra.proofs.Linear.{dot-combination, dot-plus_left, dot-scaled, dot-scaled_left, length-zeros}
use Rattle.polyhedra.proofs.Order.{le_or_lt, lt_irrefl, neg_nonneg}
use Rattle.std.proofs.lemmas.List.Elements.{All-weaker}
use Rattle.tableaux.specs.Simplex.{IsOptimal}
use Rattle.tableaux.specs.Table.{column_of}
use Rattle.vlp_problem.specs.Sides.{sides, side_bounds, IsRecession}
use Rattle.vlp_problem.specs.declared.problem.Problem.{Problem}
use Rattle.vlp_problem.specs.declared.problem.Cone.{Cone}
use Rattle.vlp_problem.specs.declared.problem.Cone.TheVariants.{Orthant, Gens, Dual}
use Rattle.upper_image.specs.OrderingCone.{IsIn}
use Rattle.upper_image.specs.Shows.{ShowsIn, ShowsInterior, ShowsFitting, ShowsAbove}
use Rattle.upper_image.specs.Spots.{dense, IsVector}
use Rattle.upper_image.specs.UpperImage.{normals, rest}
use Rattle.upper_image.proofs.ConvexCones.{cone_convex}
use Rattle.upper_image.proofs.Solid.{duality_fits}
use Rattle.upper_image.proofs.WorkingImage.{rest_wide}
use Rattle.lp_form.specs.Programs.{side_total, on_parts, dual_unknowns, dual_equations, generators, benson_system, choice_of, value_of, share_of, full_share_of}
use Rattle.lp_form.proofs.Systems.{benson_ok, length-negated}
use Rattle.overflows.proofs.Cuts.{benson_unknowns, length-benson_cost, length-bounds_if}
use Rattle.benson_program.specs.Laws.{BensonPreimage}
use Rattle.benson_program.proofs.Blocks.{benson_equations}
use Rattle.benson_program.proofs.Priced.{pulled, pushed, x_long, p_long, normals_at_least, shares_positive, rest_value}
use Rattle.benson_program.proofs.Shown.{IsMade, AreMade, shows_made}
use Rattle.benson_program.proofs.Vectors.{AreAtMost, sides_hold}

-- the multipliers of the cone's equations with their signs turned
abbrev pub shares : Problem → ℕ → Cone → List ℚ → List ℚ
shares file q cone y = negated (take (dual_equations q cone) (drop file.cols y))

-- one for each equation
pub multipliers_long : (file : Problem) (c v : List ℚ) (t : Bool) (y : List ℚ) → length c ≡ file.objs → length v ≡ file.objs →
    length y ≡ length (benson_equations file c) → length y ≡ suc (file.cols + dual_equations file.objs file.cone)
multipliers_long file c v t y c_long v_long h =
    let k : ℕ = file.cols + dual_equations file.objs file.cone in
    omega (arith, h, (benson_ok file c v t c_long v_long).right_each, length-append (zeros k) (one_ℚ ∷ []), length-zeros k)

zero_each : (ss : List Inequality) → map (λ s. zero_ℚ) ss ≡ zeros (length ss)
zero_each [] = refl
zero_each (s ∷ ss) = ap (λ v. zero_ℚ ∷ v) (zero_each ss)

-- where no side falls
pub sides_rise : (file : Problem) (x : List ℚ) → length x ≡ file.cols → AreAtMost (zeros (side_total file)) (values (normals file) x) →
    IsRecession file x
sides_rise file x long h = record {
  width = long;
  meets = sides_hold (λ s. zero_ℚ) x (sides file)
      (subst (λ (v : List ℚ). AreAtMost v (values (normals file) x)) (sym (zero_each (sides file))) h);
}

-- the full share by cases
full_with : (file : Problem) (cone : Cone) (weights y : List ℚ) → value_of y <ℚ zero_ℚ →
    full_share_of file cone weights y ≡ plus (share_of file cone y) (scaled (neg_ℚ (value_of y)) weights)
full_with file cone weights y l =
    ap (λ (b : Bool). if b then plus (share_of file cone y) (scaled (neg_ℚ (value_of y)) weights) else share_of file cone y) l

full_without : (file : Problem) (cone : Cone) (weights y : List ℚ) → (value_of y <ℚ zero_ℚ → ⊥) → full_share_of file cone weights y ≡ share_of file cone y
full_without file cone weights y h = go (lt_ℚ (value_of y) zero_ℚ) refl
  where
    go : (b : Bool) → lt_ℚ (value_of y) zero_ℚ ≡ b →
        (if b then plus (share_of file cone y) (scaled (neg_ℚ (value_of y)) weights) else share_of file cone y) ≡ share_of file cone y
    go true e = absurd (h e)
    go false e = refl

-- the multipliers of a full share make what the shares give and c times the magnitude of the last multiplier
share_made : (file : Problem) (q : ℕ) (cone : Cone) (y c weights : List ℚ) (picks : List ℕ) (inverse : List ℚ) (m : List Spot) →
    ShowsInterior q cone c weights picks inverse → length (shares file q cone y) ≡ dual_equations q cone → AtLeastZero (pushed cone (shares file q cone y)) →
    value_of y ≤ℚ zero_ℚ → dense (length (generators cone)) m ≡ full_share_of file cone weights y →
    AreMade cone (shares file q cone y) (scaled (neg_ℚ (value_of y)) c) m
share_made file q Orthant y c weights picks inverse m h long positive below full = tt
share_made file q (Dual vectors) y c weights picks inverse m h long positive below full = tt
share_made file q (Gens vectors) y c weights picks inverse m h long positive below full =
    let n : List ℚ = negated (take (length vectors) (drop file.cols y)) in
    elim (le_or_lt zero_ℚ (value_of y)) [
      | inl above ↦
          let none : value_of y ≡ zero_ℚ = le_antisymm (value_of y) zero_ℚ below above in
          let same : dense (length vectors) m ≡ n =
          full ∙ full_without file (Gens vectors) weights y (λ l. lt_irrefl zero_ℚ (subst (λ (s : ℚ). s <ℚ zero_ℚ) none l)) in (
            subst AtLeastZero (sym same) positive,
            λ r. ap (λ s. dot n (values vectors r) +ℚ s)
                (dot-scaled r (neg_ℚ (value_of y)) c ∙ ap (λ s. s *ℚ dot r c) (ap neg_ℚ none ∙ neg_zero) ∙ zero_mul (dot r c))
                ∙ add_zero (dot n (values vectors r)) ∙ ap (λ s. dot s (values vectors r)) (sym same),
          )
      | inr under ↦
          let same : dense (length vectors) m ≡ plus n (scaled (neg_ℚ (value_of y)) weights) = full ∙ full_with file (Gens vectors) weights y under in (
            subst AtLeastZero (sym same)
                ((cone_convex (length vectors) Orthant refl).sum n (scaled (neg_ℚ (value_of y)) weights) record { wide = long; entries = positive }
                ((cone_convex (length vectors) Orthant refl).multiple (neg_ℚ (value_of y)) weights (neg_nonneg (value_of y) below)
                record { wide = h.weight_each; entries = All-weaker (λ s. zero_ℚ <ℚ s) (λ s. zero_ℚ ≤ℚ s) (λ s l. le_of_lt zero_ℚ s l) weights h.sign })).entries,
            λ r. ap (λ s. dot n (values vectors r) +ℚ s)
                (dot-scaled r (neg_ℚ (value_of y)) c
                ∙ ap (λ s. neg_ℚ (value_of y) *ℚ s) (ap (λ s. dot r s) (sym h.combined) ∙ dot-combination q r weights vectors)
                ∙ sym (dot-scaled_left (neg_ℚ (value_of y)) weights (values vectors r)))
                ∙ sym (dot-plus_left n (scaled (neg_ℚ (value_of y)) weights) (values vectors r)) ∙ ap (λ s. dot s (values vectors r)) (sym same),
          )
    ]

module _ (file : Problem) (c v : List ℚ) (t : Bool) (z y : List ℚ) (c_long : length c ≡ file.objs) (v_long : length v ≡ file.objs)
    (h : IsOptimal (benson_system file c v t) z y) where
  y_long : length y ≡ suc (file.cols + dual_equations file.objs file.cone)
  y_long = multipliers_long file c v t y c_long v_long h.one_each

  bounds : (j : ℕ) → 1 ≤ j → j ≤ benson_unknowns file →
      entry (on_parts (if t then side_bounds file else zeros (side_total file)) (negated v) (zeros (dual_unknowns file.objs file.cone))) j
      ≤ℚ dot y (column_of (benson_equations file c) j)
  bounds j low high = h.bounds j low (omega (arith, high, length-benson_cost file v t v_long))

  normals_at : AreAtMost (if t then side_bounds file else zeros (side_total file)) (values (normals file) (choice_of file y))
  normals_at = normals_at_least file c y c_long y_long _ v (length-bounds_if file t) v_long bounds

  choice_long : length (choice_of file y) ≡ file.cols
  choice_long = x_long file c y c_long y_long

  made : (k : List ℚ) → IsIn file.objs file.cone k → ((r : List ℚ) → dot r k ≡ neg_ℚ (value_of y) *ℚ dot r c) →
      IsMade file.objs file.cone (shares file file.objs file.cone y) k (rest file v (choice_of file y))
  made k inside value = record {
    wide = rest_wide file v (choice_of file y) v_long;
    one_each = length-negated _ _ (p_long file c y c_long y_long);
    at_least_zero = shares_positive file c y c_long y_long _ v (length-bounds_if file t) v_long bounds;
    beside = inside;
    value = λ r. rest_value file c y c_long y_long _ v (length-bounds_if file t) v_long bounds r
        ∙ ap (λ s. dot r (pulled file.objs file.cone (shares file file.objs file.cone y)) +ℚ s) (sym (value r));
  }

  above : (weights : List ℚ) (picks : List ℕ) (inverse : List ℚ) (x m : List Spot) → ShowsFitting file c weights picks inverse →
      value_of y ≤ℚ zero_ℚ → IsVector (length (generators file.cone)) m → dense file.cols x ≡ choice_of file y →
      dense (length (generators file.cone)) m ≡ full_share_of file file.cone weights y → ShowsAbove file v x m
  above weights picks inverse x m fitting below vector same full =
      let k : List ℚ = scaled (neg_ℚ (value_of y)) c in
      let one : IsMade file.objs file.cone (shares file file.objs file.cone y) k (rest file v (choice_of file y)) =
      made k
      ((cone_convex file.objs file.cone file.cone_vectors).multiple (neg_ℚ (value_of y)) c (neg_nonneg (value_of y) below)
      (duality_fits file c weights picks inverse fitting).interior.member)
      (λ r. dot-scaled r (neg_ℚ (value_of y)) c) in
      subst (λ (e : List ℚ). ShowsIn file.cone (rest file v e) m) (sym same)
      (shows_made file.objs file.cone (shares file file.objs file.cone y) k (rest file v (choice_of file y)) m file.cone_vectors vector one
      (share_made file file.objs file.cone y c weights picks inverse m fitting.interior one.one_each one.at_least_zero below full))

pub benson_preimage : BensonPreimage
benson_preimage = record {
  feasible = λ file c v z y c_long v_long h. record {
    width = choice_long file c v true z y c_long v_long h;
    meets = sides_hold (λ s. s.bound) (choice_of file y) (sides file) (normals_at file c v true z y c_long v_long h);
  };
  recedes = λ file c v z y c_long v_long h.
      sides_rise file (choice_of file y) (choice_long file c v false z y c_long v_long h) (normals_at file c v false z y c_long v_long h);
  above = λ file c weights picks inverse v t z y x m fitting v_long h below vector same full.
      above file c v t z y fitting.lengths v_long h weights picks inverse x m fitting below vector same full;
}
