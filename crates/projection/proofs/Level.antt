-- Which directions of the associated image have entries that sum to 0.
use Rattle.std.proofs.Common.{◌≡◌, ℕ, zero, suc, ◌-◌, ◌≤◌, List, [], ◌∷◌, map, length, take, slice_index_or, Bool, true, false, cond, All, Contains, refl, sym, ap, ap₂, ◌∙◌, subst, arith, ◌⊎◌, inl, inr, pos}
use Rattle.std.proofs.lemmas.List.{length-take-le}
use Rattle.exact_field.specs.Rational.{ℚ, zero_ℚ, one_ℚ, ◌+ℚ◌, ◌*ℚ◌, neg_ℚ, inverse_ℚ, ◌≤ℚ◌, ◌<ℚ◌}
use Rattle.exact_field.specs.Ring.{v0, v1, v2, ◌⊕◌, ◌⊗◌, ⊖, num}
use Rattle.exact_field.specs.Vector.{dot, entry, sum_ℚ}
use Rattle.exact_field.proofs.RingTool.{ring}
use Rattle.exact_field.proofs.Rationals.{rationals, one-not-zero}
use Rattle.exact_field.proofs.Sums.{sum-append, sum-scaled}
use Rattle.polyhedra.specs.DoubleDescription.{is_zero, leading}
use Rattle.polyhedra.specs.Exactness.{homogenised}
use Rattle.polyhedra.specs.Hull.{IsMultiple, IsExtremeDirection}
use Rattle.polyhedra.specs.Inequality.{Inequality}
use Rattle.polyhedra.specs.Vectors.{AtLeastZero, zeros, plus, scaled, values}
use Rattle.polyhedra.proofs.Laws.{add_zero, le_refl}
use Rattle.polyhedra.proofs.Algebra.{zero_add, neg_zero}
use Rattle.polyhedra.proofs.Cones.{sum_nonneg}
use Rattle.polyhedra.proofs.Homogenised.{length-homogenised, plus-homogenised, zeros-homogenised, IsHomogenised, unhomogenised}
use Rattle.polyhedra.proofs.Linear.{dot-plus, scaled-one, length-plus, length-zeros, same_wide}
use Rattle.polyhedra.proofs.Lists.{HasWidth, nonneg-nil, nonneg-cons, nonneg-head, nonneg-tail}
use Rattle.polyhedra.proofs.Members.{all_of_members, member_of}
use Rattle.polyhedra.proofs.Order.{add_zero_left, add_zero_right, zero_or_positive, mul_inverse_cancel}
use Rattle.polyhedra.proofs.Tests.{zero_of_test}
use Rattle.lineality.specs.Lines.{leading_place, RunsAlong, IsReduced, IsReducedIn, reduction}
use Rattle.lineality.proofs.Reduction.{reduction_same, reduction-plus, reduction_directs}
use Rattle.upper_image.specs.OrderingCone.{IsNonnegative, IsInOrderingCone}
use Rattle.upper_image.specs.UpperImage.{normals, objectives, rest, turned, IsInWorkingImage, IsWorkingDirection, IsExactFor, IsDirectionPreimage}
use Rattle.upper_image.proofs.WorkingImage.{cone_in_directions}
use Rattle.vlp_problem.specs.declared.problem.Problem.{Problem}
use Rattle.representations.specs.Projection.{spread}
use Rattle.representations.proofs.Slices.{image_is_above, spread-sum, sum-plus, sum-zeros}
use Rattle.projection.specs.Associated.{Begins, IsAssociated}
use Rattle.projection.specs.Laws.{IsLevel, LevelDirections}
use Rattle.projection.proofs.Slices.{in_orthant, from_orthant, cone, plain, values_are, working_along, working_convex, working_extreme, recession_in_file, points_are_level, projection_is_slice_of}

-- ---- vectors
-- numbers of at least 0 that sum to 0 are 0
nothing : (n : ℕ) (d : List ℚ) → length d ≡ n → AtLeastZero d → sum_ℚ d ≡ zero_ℚ → d ≡ zeros n
nothing zero [] l h e = refl
nothing zero (x ∷ d) l h e = absurd (omega arith)
nothing (suc n) [] l h e = absurd (omega arith)
nothing (suc n) (x ∷ d) l h e =
    let others : zero_ℚ ≤ℚ sum_ℚ d = sum_nonneg d (nonneg-tail x d h) in
    ap₂ (λ a b. a ∷ b) (add_zero_left x (sum_ℚ d) (nonneg-head x d h) others e)
    (nothing n d (omega arith) (nonneg-tail x d h) (add_zero_right x (sum_ℚ d) (nonneg-head x d h) others e))

pub take-front : (k : ℕ) (f : List ℚ) (t : ℚ) → length f ≡ k → take k (homogenised f t) ≡ f
take-front zero [] t h = refl
take-front zero (x ∷ f) t h = absurd (omega arith)
take-front (suc k) [] t h = absurd (omega arith)
take-front (suc k) (x ∷ f) t h = ap (λ w. x ∷ w) (take-front k f t (omega arith))

pub plus-zeros : (n : ℕ) (v : List ℚ) → length v ≡ n → plus v (zeros n) ≡ v
plus-zeros zero [] h = refl
plus-zeros zero (x ∷ v) h = absurd (omega arith)
plus-zeros (suc n) [] h = absurd (omega arith)
plus-zeros (suc n) (x ∷ v) h = ap₂ (λ a b. a ∷ b) (add_zero x) (plus-zeros n v (omega arith))

nonneg-last : (k : ℕ) (t : ℚ) → zero_ℚ ≤ℚ t → AtLeastZero (homogenised (zeros k) t)
nonneg-last zero t h = nonneg-cons t [] h nonneg-nil
nonneg-last (suc k) t h = nonneg-cons zero_ℚ (homogenised (zeros k) t) (le_refl zero_ℚ) (nonneg-last k t h)

-- ---- no line has its place at the last entry, since its entries sum to 0
place : List ℚ → ℕ
place [] = 0
place (x ∷ xs) = cond (is_zero x) (suc (place xs)) 0

place_is : (d : List ℚ) → leading_place d ≡ suc (place d)
unfolding place
place_is [] = refl
place_is (x ∷ xs) = go (place_is xs) (is_zero x)
  where
    go : leading_place xs ≡ suc (place xs) → (b : Bool) → cond b (suc (leading_place xs)) 1 ≡ suc (cond b (suc (place xs)) 0)
    go h true = ap suc h
    go h false = refl

less_one : (k : ℕ) → suc k - 1 ≡ k
less_one k = omega arith

no_line_last : (k : ℕ) (l : List ℚ) (t : ℚ) → length l ≡ suc k → sum_ℚ l ≡ zero_ℚ → leading l ≡ one_ℚ → slice_index_or (homogenised (zeros k) t) (place l) zero_ℚ ≡ zero_ℚ
unfolding place
no_line_last k [] t w s o = absurd (omega (arith, w))
no_line_last zero (x ∷ y ∷ l) t w s o = absurd (omega (arith, w))
no_line_last zero (x ∷ []) t w s o = absurd (one-not-zero (sym o ∙ go (is_zero x)))
  where
    go : (b : Bool) → cond b zero_ℚ x ≡ zero_ℚ
    go true = refl
    go false = sym (add_zero x) ∙ s
no_line_last (suc k) (x ∷ l) t w s o = go (is_zero x) refl o (no_line_last k l t (omega (arith, w)))
  where
    go : (b : Bool) → is_zero x ≡ b → cond b (leading l) x ≡ one_ℚ → (sum_ℚ l ≡ zero_ℚ → leading l ≡ one_ℚ → slice_index_or (homogenised (zeros k) t) (place l) zero_ℚ ≡ zero_ℚ) →
        slice_index_or (zero_ℚ ∷ homogenised (zeros k) t) (cond b (suc (place l)) 0) zero_ℚ ≡ zero_ℚ
    go true e p again = again (sym (zero_add (sum_ℚ l)) ∙ ap (λ q. q +ℚ sum_ℚ l) (sym (zero_of_test x e)) ∙ s) p
    go false e p again = refl

last_reduced : (k : ℕ) (lines : List (List ℚ)) (t : ℚ) → All (HasWidth (suc k)) lines → All IsLevel lines → All (λ l. leading l ≡ one_ℚ) lines →
    IsReduced lines (homogenised (zeros k) t)
last_reduced k lines t wide level ones = all_of_members (λ l. entry (homogenised (zeros k) t) (leading_place l) ≡ zero_ℚ) lines (λ l m.
    ap (λ (j : ℕ). slice_index_or (homogenised (zeros k) t) (j - 1) zero_ℚ) (place_is l)
    ∙ ap (λ (j : ℕ). slice_index_or (homogenised (zeros k) t) j zero_ℚ) (less_one (place l))
    ∙ no_line_last k l t (member_of (HasWidth (suc k)) lines l wide m) (member_of IsLevel lines l level m) (member_of (λ u. leading u ≡ one_ℚ) lines l ones m))

-- ---- what lies above the value at a choice
-- y is the front of x, followed by minus its sum, plus a vector without negative entries
pub record IsAbove (k : ℕ) (x y : List ℚ) : Type 0 where
  pub front_wide : length (take k x) ≡ k
  pub more : List ℚ
  pub in_orthant : IsNonnegative (suc k) more
  pub same : y ≡ plus (spread (take k x)) more

-- where y is level, it is the front of x, followed by minus its sum
pub level_above : (k : ℕ) (x y : List ℚ) → IsAbove k x y → sum_ℚ y ≡ zero_ℚ → y ≡ spread (take k x)
level_above k x y a e =
    let none : a.more ≡ zeros (suc k) = nothing (suc k) a.more a.in_orthant.wide a.in_orthant.entries
    (sym (zero_add (sum_ℚ a.more)) ∙ ap (λ q. q +ℚ sum_ℚ a.more) (sym (spread-sum (take k x))) ∙ sym (sum-plus (spread (take k x)) a.more) ∙ ap sum_ℚ (sym a.same) ∙ e) in
    a.same ∙ ap (plus (spread (take k x))) none
    ∙ plus-zeros (suc k) (spread (take k x)) (length-homogenised k (take k x) (neg_ℚ (sum_ℚ (take k x))) a.front_wide)

pub level_begins : (k : ℕ) (x y : List ℚ) → IsAbove k x y → sum_ℚ y ≡ zero_ℚ → Begins k x (take k y)
level_begins k x y a e = sym (ap (take k) (level_above k x y a e) ∙ take-front k (take k x) (neg_ℚ (sum_ℚ (take k x))) a.front_wide)

pub spread-zeros : (k : ℕ) → spread (zeros k) ≡ zeros (suc k)
spread-zeros k = ap (λ t. homogenised (zeros k) t) (ap neg_ℚ (sum-zeros k) ∙ neg_zero) ∙ sym (zeros-homogenised k)

module _ (k : ℕ) (file made : Problem) (below : k ≤ file.cols) (s : IsAssociated k file made) where
  pub above_of : (y x : List ℚ) → length y ≡ made.objs → length x ≡ made.cols → IsInOrderingCone made (rest made (turned made.dir y) x) → IsAbove k x y
  above_of y x y_width x_width h =
      let value : List ℚ = values (objectives made) x in
      let e : List ℚ = rest made y x in
      let e_in : IsNonnegative (suc k) e = in_orthant k file made below s e (subst (λ (v : List ℚ). IsInOrderingCone made (rest made v x)) (plain k file made below s y) h) in
      let f_width : length (take k x) ≡ k = length-take-le k x (subst (λ (n : ℕ). k ≤ n) (sym (x_width ∙ s.cols)) below) in
      let value_is : value ≡ spread (take k x) = values_are k file made below s x x_width in
      let value_width : length value ≡ suc k = ap length value_is ∙ length-homogenised k (take k x) (neg_ℚ (sum_ℚ (take k x))) f_width in
      record {
        front_wide = f_width;
        more = e;
        in_orthant = e_in;
        same = same_wide (suc k) y (plus value e) (y_width ∙ s.objs) (length-plus (suc k) value e value_width e_in.wide)
            (λ r. sym (dot-plus r value e ∙ ap (λ q. dot r value +ℚ q) (dot-plus r y (map neg_ℚ value) ∙ ap (λ q. dot r y +ℚ q) (dot-negated_right r value))
            ∙ ring rationals (dot r value ∷ dot r y ∷ []) (v0 ⊕ (v1 ⊕ ⊖ v0)) v1 refl))
            ∙ ap (λ v. plus v e) value_is;
      }
    where
      dot-negated_right : (r v : List ℚ) → dot r (map neg_ℚ v) ≡ neg_ℚ (dot r v)
      dot-negated_right [] v = sym neg_zero
      dot-negated_right (x ∷ r) [] = sym neg_zero
      dot-negated_right (x ∷ r) (y ∷ v) = ap (λ q. x *ℚ neg_ℚ y +ℚ q) (dot-negated_right r v)
          ∙ ring rationals (x ∷ y ∷ dot r v ∷ []) (v0 ⊗ ⊖ v1 ⊕ ⊖ v2) (⊖ (v0 ⊗ v1 ⊕ v2)) refl

  -- ---- a direction
  module _ (c : List ℚ) (lines points directions : List (List ℚ)) (facets : List Inequality) (exact : IsExactFor made c lines points directions facets)
      (d x : List ℚ) (listed : Contains directions d) (p : IsDirectionPreimage made d x) where
    extreme : IsExtremeDirection (suc k) (IsReducedIn lines (IsWorkingDirection made)) d
    extreme = working_extreme k file made below s lines d ((exact.extreme d).0 listed).0

    along : RunsAlong (suc k) (IsWorkingDirection made) lines
    along = working_along k file made below s lines exact.lines_are

    above : IsAbove k x d
    above = above_of d x p.wide p.recedes.width p.above

    d_width : length d ≡ suc k
    d_width = p.wide ∙ s.objs

    abbrev front : List ℚ
    front = take k x

    abbrev base : List ℚ
    base = spread front

    base_width : length base ≡ suc k
    base_width = length-homogenised k front (neg_ℚ (sum_ℚ front)) above.front_wide

    base_in : IsWorkingDirection made base
    base_in = ((projection_is_slice_of k file made below s).directions front above.front_wide).1
        (record { choice = x; recedes = recession_in_file k file made below s x p.recedes; begins = refl })

    to_front : IsLevel d → Begins k x (take k d) × (take k d ≡ zeros k → ⊥)
    to_front e = (
      level_begins k x d above e,
      λ h. extreme.not_zero (level_above k x d above e ∙ ap spread (level_begins k x d above e ∙ h) ∙ spread-zeros k),
    )

    nonneg : zero_ℚ ≤ℚ sum_ℚ d
    nonneg = image_is_above (IsInOrderingCone made) made.cols k (normals made) (zeros (length (normals made))) (objectives made)
        (values_are k file made below s) (cone k file made below s) d extreme.member.member

    -- the sum of the entries, at the last place
    abbrev last : List ℚ
    last = homogenised (zeros k) (sum_ℚ d)

    last_width : length last ≡ suc k
    last_width = length-homogenised k (zeros k) (sum_ℚ d) (length-zeros k)

    last_in : IsWorkingDirection made last
    last_in = cone_in_directions made last (from_orthant k file made below s last (record { wide = last_width; entries = nonneg-last k (sum_ℚ d) nonneg }))

    last_sum : sum_ℚ last ≡ sum_ℚ d
    last_sum = sum-append (zeros k) (sum_ℚ d ∷ []) ∙ ap₂ (λ a b. a +ℚ b) (sum-zeros k) (add_zero (sum_ℚ d)) ∙ zero_add (sum_ℚ d)

    whole : front ≡ take k d → d ≡ plus base last
    whole h = go (unhomogenised k d d_width)
      where
        go : IsHomogenised k d → d ≡ plus base last
        go u =
            let same : u.front ≡ front = sym (h ∙ ap (take k) u.same ∙ take-front k u.front u.last u.wide) in
            let total : sum_ℚ d ≡ sum_ℚ front +ℚ (u.last +ℚ zero_ℚ) = ap sum_ℚ u.same ∙ sum-append u.front (u.last ∷ []) ∙ ap (λ v. sum_ℚ v +ℚ (u.last +ℚ zero_ℚ)) same in
            u.same ∙ ap (λ v. homogenised v u.last) same
            ∙ ap₂ (λ v t. homogenised v t) (sym (plus-zeros k front above.front_wide))
            (sym (ap (λ q. neg_ℚ (sum_ℚ front) +ℚ q) total
            ∙ ring rationals (sum_ℚ front ∷ u.last ∷ []) (⊖ v0 ⊕ (v0 ⊕ (v1 ⊕ num (pos 0)))) v1 refl))
            ∙ sym (plus-homogenised front (zeros k) (neg_ℚ (sum_ℚ front)) (sum_ℚ d) (above.front_wide ∙ sym (length-zeros k)))

    lines_level : All IsLevel lines
    lines_level = (points_are_level k file made c lines points directions facets below s exact).lines_level

    left_last : front ≡ take k d → IsMultiple d last
    left_last h =
        let same : reduction (suc k) lines last ≡ last = reduction_same (suc k) lines last along.echelon.wide last_width
        (last_reduced k lines (sum_ℚ d) along.echelon.wide.wide lines_level along.echelon.leading_one) in
        let parts : d ≡ plus (reduction (suc k) lines base) (reduction (suc k) lines last) =
        sym (reduction_same (suc k) lines d along.echelon.wide d_width extreme.member.reduced) ∙ ap (reduction (suc k) lines) (whole h)
        ∙ reduction-plus (suc k) lines base last along.echelon.wide base_width last_width in
        let m : IsMultiple d (reduction (suc k) lines last) =
        (extreme.no_sum (reduction (suc k) lines base) (reduction (suc k) lines last)
        (reduction_directs (suc k) (IsInWorkingImage made) (IsWorkingDirection made) lines (working_convex k file made below s) along base base_in)
        (reduction_directs (suc k) (IsInWorkingImage made) (IsWorkingDirection made) lines (working_convex k file made below s) along last last_in) parts).1 in
        record { factor = m.factor; same = sym same ∙ m.same }

    -- where the sum is positive, the multiple is d itself
    is_last : zero_ℚ <ℚ sum_ℚ d → IsMultiple d last → d ≡ last
    is_last h m =
        let t : ℚ = sum_ℚ d in
        let times : t ≡ m.factor *ℚ t = sym last_sum ∙ ap sum_ℚ m.same ∙ sum-scaled m.factor d in
        let one : m.factor ≡ one_ℚ =
        sym (mul_inverse_cancel t m.factor h)
        ∙ ring rationals (t ∷ inverse_ℚ t ∷ m.factor ∷ []) (v0 ⊗ (v1 ⊗ v2)) (v1 ⊗ (v2 ⊗ v0)) refl
        ∙ ap (λ q. inverse_ℚ t *ℚ q) (sym times)
        ∙ ring rationals (t ∷ inverse_ℚ t ∷ []) (v1 ⊗ v0) (v0 ⊗ (v1 ⊗ num (pos 1))) refl
        ∙ mul_inverse_cancel t one_ℚ h in
        sym (m.same ∙ ap (λ q. scaled q d) one ∙ scaled-one d)

    from_front : Begins k x (take k d) × (take k d ≡ zeros k → ⊥) → IsLevel d
    from_front h = go (zero_or_positive (sum_ℚ d) nonneg)
      where
        go : (sum_ℚ d ≡ zero_ℚ) ⊎ (zero_ℚ <ℚ sum_ℚ d) → sum_ℚ d ≡ zero_ℚ
        go (inl e) = e
        go (inr q) = absurd (h.1 (ap (take k) (is_last q (left_last h.0)) ∙ take-front k (zeros k) (sum_ℚ d) (length-zeros k)))

pub level_directions : LevelDirections
level_directions k file made c lines points directions facets below s exact d x listed p = (
  to_front k file made below s c lines points directions facets exact d x listed p,
  from_front k file made below s c lines points directions facets exact d x listed p,
)
