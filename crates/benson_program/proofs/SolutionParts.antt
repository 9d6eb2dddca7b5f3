-- The parts of a solution: u, w by two parts whose difference it is, and what comes after them; and what the columns' equations give
-- at u and w.
use Rattle.std.proofs.Common.{◌≡◌, ℕ, List, [], ◌∷◌, length, take, drop, refl, sym, ap, ap₂, ◌∙◌, arith, ◌+◌}
use Rattle.std.specs.Prelude.{pos}
use Rattle.std.proofs.lemmas.List.{length-map, length-take-le, length-drop}
use Rattle.std.proofs.lemmas.List.Elements.{All-take, All-drop}
use Rattle.exact_field.specs.Rational.{ℚ, zero_ℚ, ◌+ℚ◌, neg_ℚ, ◌≤ℚ◌}
use Rattle.exact_field.specs.Vector.{dot}
use Rattle.exact_field.specs.Ring.{v0, v1, ◌⊝◌, num}
use Rattle.exact_field.proofs.RingTool.{ring_by}
use Rattle.exact_field.proofs.Rationals.{rationals}
use Rattle.polyhedra.specs.Negatives.{negated}
use Rattle.polyhedra.specs.Vectors.{zeros, plus, combination, values, AtLeastZero}
use Rattle.polyhedra.proofs.Linear.{dot-combination, dot-plus, dot-zeros, length-combination, length-plus, same_wide}
use Rattle.polyhedra.proofs.Negatives.{dot-negated}
use Rattle.vlp_problem.specs.Sides.{sides}
use Rattle.vlp_problem.specs.declared.problem.Problem.{Problem}
use Rattle.upper_image.specs.UpperImage.{normals, objectives}
use Rattle.upper_image.proofs.Widths.{wide_normals, wide_objectives}
use Rattle.lp_form.specs.Programs.{side_total, u_of, w_of, after_w_of}
use Rattle.lp_form.proofs.Systems.{length-negated}
use Rattle.overflows.proofs.Violated.{length-minus}

-- ---- a solution whose last part has `more` entries
module _ (file : Problem) (more : ℕ) (z : List ℚ) (z_long : length z ≡ side_total file + file.objs + file.objs + more) where
  pub u_long : length (u_of file z) ≡ side_total file
  u_long = length-take-le (side_total file) z (omega (arith, z_long))

  pub a_long : length (take file.objs (drop (side_total file) z)) ≡ file.objs
  a_long = length-take-le file.objs (drop (side_total file) z) (omega (arith, length-drop (side_total file) z, z_long))

  pub b_long : length (take file.objs (drop (side_total file + file.objs) z)) ≡ file.objs
  b_long = length-take-le file.objs (drop (side_total file + file.objs) z) (omega (arith, length-drop (side_total file + file.objs) z, z_long))

  pub after_long : length (after_w_of file z) ≡ more
  after_long = omega (arith, length-drop (side_total file + file.objs + file.objs) z, z_long)

  pub w_long : length (w_of file z) ≡ file.objs
  w_long = length-minus file.objs _ _ a_long b_long

  pub u_positive : AtLeastZero z → AtLeastZero (u_of file z)
  u_positive h = All-take (λ x. zero_ℚ ≤ℚ x) (side_total file) z h

  pub after_positive : AtLeastZero z → AtLeastZero (after_w_of file z)
  after_positive h = All-drop (λ x. zero_ℚ ≤ℚ x) (side_total file + file.objs + file.objs) z h

-- vectors whose difference is 0
pub same_from_difference : (n : ℕ) (f g : List ℚ) → length f ≡ n → length g ≡ n → plus f (negated g) ≡ zeros n → f ≡ g
same_from_difference n f g h k e =
    same_wide n f g h k
    (λ r. equal (dot r f) (dot r g) (ap (λ x. dot r f +ℚ x) (sym (dot-negated r g)) ∙ sym (dot-plus r f (negated g)) ∙ ap (λ v. dot r v) e ∙ dot-zeros r n))
  where
    equal : (x y : ℚ) → x +ℚ neg_ℚ y ≡ zero_ℚ → x ≡ y
    equal x y d = ring_by rationals (x ∷ y ∷ []) v0 v1 (num (pos 1)) (v0 ⊝ v1) (num (pos 0)) d refl

-- ---- the equations of the columns
-- what they give at u and w
unfoldable pub columns_part : (file : Problem) (u w : List ℚ) → List ℚ
columns_part file u w = plus (combination file.cols u (normals file)) (negated (combination file.cols w (objectives file)))

pub columns_part-long : (file : Problem) (u w : List ℚ) → length (columns_part file u w) ≡ file.cols
unfolding columns_part
columns_part-long file u w =
    length-plus file.cols (combination file.cols u (normals file)) (negated (combination file.cols w (objectives file)))
    (length-combination file.cols u (normals file) (wide_normals file))
    (length-negated (combination file.cols w (objectives file)) file.cols (length-combination file.cols w (objectives file) (wide_objectives file)))

pub columns_part-value : (file : Problem) (u w x : List ℚ) → dot x (columns_part file u w) ≡
    dot u (values (normals file) x) +ℚ neg_ℚ (dot w (values (objectives file) x))
unfolding columns_part
columns_part-value file u w x =
    dot-plus x (combination file.cols u (normals file)) (negated (combination file.cols w (objectives file)))
    ∙ ap₂ (λ s t. s +ℚ t) (dot-combination file.cols x u (normals file))
    (dot-negated x (combination file.cols w (objectives file)) ∙ ap neg_ℚ (dot-combination file.cols x w (objectives file)))

-- where they give 0, u balances w
pub balanced_parts : (file : Problem) (u w : List ℚ) → columns_part file u w ≡ zeros file.cols →
    combination file.cols u (normals file) ≡ combination file.cols w (objectives file)
unfolding columns_part
balanced_parts file u w =
    same_from_difference file.cols (combination file.cols u (normals file)) (combination file.cols w (objectives file))
    (length-combination file.cols u (normals file) (wide_normals file)) (length-combination file.cols w (objectives file) (wide_objectives file))

-- there is a value of a normal for each side
pub normals-long : (file : Problem) (x : List ℚ) → length (values (normals file) x) ≡ side_total file
normals-long file x = length-map (normals file) (λ v. dot v x) ∙ length-map (sides file) (λ s. s.normal)
