-- What a solution of the equations of Benson's program says of its parts: u balances w, w is in the dual cone, and w . c is the last right
-- side.
use Rattle.std.proofs.Common.{◌≡◌, ℕ, List, [], ◌∷◌, ◌++◌, length, sym, ap, ◌∙◌, subst, arith, ◌+◌, length-append}
use Rattle.std.specs.Prelude.{IsTrue}
use Rattle.std.proofs.lemmas.List.{replicate-append-replicate}
use Rattle.exact_field.specs.Rational.{ℚ, zero_ℚ, ◌≤ℚ◌}
use Rattle.exact_field.specs.Vector.{dot, entry}
use Rattle.polyhedra.specs.Cone.{IsInDual}
use Rattle.polyhedra.specs.Negatives.{negated}
use Rattle.polyhedra.specs.Vectors.{zeros, plus, combination, values, AtLeastZero}
use Rattle.polyhedra.proofs.Duality.{dual_cones}
use Rattle.polyhedra.proofs.Linear.{dot_comm, length-plus, length-zeros}
use Rattle.polyhedra.proofs.Lists.{all_from_map}
use Rattle.polyhedra.proofs.Support.{dot_nonneg}
use Rattle.vlp_problem.specs.Cones.{cone_fits}
use Rattle.vlp_problem.specs.declared.problem.Problem.{Problem}
use Rattle.vlp_problem.specs.declared.problem.Cone.{Cone}
use Rattle.vlp_problem.specs.declared.problem.Cone.TheVariants.{Orthant, Gens, Dual}
use Rattle.upper_image.specs.OrderingCone.{IsIn}
use Rattle.upper_image.specs.UpperImage.{normals, objectives}
use Rattle.lp_form.specs.Programs.{side_total, dual_unknowns, dual_equations, u_of, w_of, after_w_of}
use Rattle.lp_form.proofs.Systems.{IsWideCone, cone_wide, length-negated}
use Rattle.overflows.proofs.Cuts.{benson_unknowns}
use Rattle.benson_program.proofs.Blocks.{asked, given, length-asked, length-given, benson_equations, equations-value}
use Rattle.benson_program.proofs.Vectors.{append_parts, parts_of}
use Rattle.benson_program.proofs.SolutionParts.{u_long, a_long, b_long, after_long, w_long, same_from_difference, columns_part, columns_part-long, balanced_parts}

-- where w meets what the cone asks with h, which is at least 0, it is in the dual cone
pub in_dual : (q : ℕ) (cone : Cone) (w h : List ℚ) → IsTrue (cone_fits q cone) → length w ≡ q → length h ≡ dual_unknowns q cone → AtLeastZero h →
    asked cone w ≡ given q cone h → IsInDual q (IsIn q cone) w
in_dual q Orthant w h fits wide long positive e =
    record { wide = wide; within = λ y k. dot_nonneg w y (subst AtLeastZero (sym e) positive) k.entries }
in_dual q (Gens vs) w h fits wide long positive e =
    (dual_cones.of_generated q vs w (cone_wide q (Gens vs) fits)).1
    record { wide = wide; within = all_from_map (λ x. zero_ℚ ≤ℚ x) (λ v. dot v w) vs (subst AtLeastZero (sym e) positive) }
in_dual q (Dual vs) w h fits wide long positive e =
    (dual_cones.of_rows q vs w (cone_wide q (Dual vs) fits)).1 record { multipliers = h; one_each = long; at_least_zero = positive; combined = e }

module _ (file : Problem) (z : List ℚ) (z_long : length z ≡ benson_unknowns file) (c : List ℚ) (c_long : length c ≡ file.objs) (last : ℚ)
    (solves : values (benson_equations file c) z ≡ zeros (file.cols + dual_equations file.objs file.cone) ++ last ∷ []) where
  -- how many unknowns stand after those of w
  abbrev unknowns : ℕ
  unknowns = dual_unknowns file.objs file.cone

  wide : IsWideCone file.objs file.cone
  wide = cone_wide file.objs file.cone file.cone_vectors

  asks : List ℚ
  asks = asked file.cone (w_of file z)

  gives : List ℚ
  gives = given file.objs file.cone (after_w_of file z)

  members : ℕ
  members = dual_equations file.objs file.cone

  asks_long : length asks ≡ members
  unfolding asks members
  asks_long = length-asked file.objs file.cone (w_of file z) (w_long file unknowns z z_long)

  gives_long : length gives ≡ members
  unfolding gives members
  gives_long = length-given file.objs file.cone (after_w_of file z) wide (after_long file unknowns z z_long)

  members_long : length (plus asks (negated gives)) ≡ members
  members_long = length-plus members asks (negated gives) asks_long (length-negated gives members gives_long)

  whole : columns_part file (u_of file z) (w_of file z) ++ plus asks (negated gives) ++ dot c (w_of file z) ∷ [] ≡ zeros (file.cols + members) ++ last ∷ []
  unfolding columns_part asks gives members
  whole =
      sym (equations-value file c (u_of file z) _ _ (after_w_of file z) c_long (u_long file unknowns z z_long) (a_long file unknowns z z_long) (b_long file unknowns z z_long) wide
      (after_long file unknowns z z_long))
      ∙ ap (λ v. values (benson_equations file c) v) (parts_of (side_total file) file.objs z) ∙ solves

  split : (columns_part file (u_of file z) (w_of file z) ++ plus asks (negated gives) ≡ zeros (file.cols + members)) × (dot c (w_of file z) ∷ [] ≡ last ∷ [])
  split = append_parts (columns_part file (u_of file z) (w_of file z) ++ plus asks (negated gives)) (dot c (w_of file z) ∷ []) (zeros (file.cols + members)) (last ∷ [])
      (omega (arith, length-append (columns_part file (u_of file z) (w_of file z)) (plus asks (negated gives)), columns_part-long file (u_of file z) (w_of file z), members_long, length-zeros (file.cols + members))) whole

  halves : (columns_part file (u_of file z) (w_of file z) ≡ zeros file.cols) × (plus asks (negated gives) ≡ zeros members)
  halves = append_parts (columns_part file (u_of file z) (w_of file z)) (plus asks (negated gives)) (zeros file.cols) (zeros members)
      (columns_part-long file (u_of file z) (w_of file z) ∙ sym (length-zeros file.cols)) (split.0 ∙ sym (replicate-append-replicate file.cols members zero_ℚ))

  pub balanced : combination file.cols (u_of file z) (normals file) ≡ combination file.cols (w_of file z) (objectives file)
  balanced = balanced_parts file (u_of file z) (w_of file z) halves.0

  pub member : asked file.cone (w_of file z) ≡ given file.objs file.cone (after_w_of file z)
  unfolding asks gives
  member = same_from_difference members asks gives asks_long gives_long halves.1

  pub scaled_at : dot (w_of file z) c ≡ last
  scaled_at = dot_comm (w_of file z) c ∙ ap (λ v. entry v 1) split.1
