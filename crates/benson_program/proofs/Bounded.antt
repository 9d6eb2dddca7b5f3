-- Where the duality vector is interior to the ordering cone, Benson's program is bounded.
use Rattle.std.proofs.Common.{◌≡◌, ℕ, List, [], ◌∷◌, ◌++◌, length, sym, ap, ap₂, ◌∙◌, subst, arith, ◌+◌, Bool, true, false, length-append}
use Rattle.std.specs.Prelude.{if◌then◌else◌}
use Rattle.std.proofs.lemmas.List.{length-map, replicate-append-replicate}
use Rattle.exact_field.specs.Rational.{ℚ, zero_ℚ, one_ℚ, ◌+ℚ◌, ◌*ℚ◌, neg_ℚ, ◌<ℚ◌}
use Rattle.exact_field.specs.Vector.{dot}
use Rattle.polyhedra.specs.Inequality.{Inequality}
use Rattle.polyhedra.specs.Vectors.{zeros, values, combination}
use Rattle.polyhedra.proofs.Algebra.{zero_add, mul_zero, neg_neg, neg_mul}
use Rattle.polyhedra.proofs.Farkas.{no_solution}
use Rattle.polyhedra.proofs.Homogenised.{row_value}
use Rattle.polyhedra.proofs.Laws.{mul_one}
use Rattle.polyhedra.proofs.Linear.{dot_comm, dot-combination, dot-zeros, length-combination, length-zeros, same_wide}
use Rattle.polyhedra.proofs.Order.{lt_irrefl}
use Rattle.tableaux.specs.Simplex.{IsUnbounded}
use Rattle.vlp_problem.specs.Sides.{sides, side_bounds, IsFeasible}
use Rattle.vlp_problem.specs.declared.problem.Problem.{Problem}
use Rattle.upper_image.specs.OrderingCone.{IsInOrderingCone, IsInteriorToCone}
use Rattle.upper_image.specs.UpperImage.{normals, objectives}
use Rattle.upper_image.proofs.Absorbing.{zero_at_interior}
use Rattle.upper_image.proofs.ConvexCones.{ordering_cone_convex}
use Rattle.upper_image.proofs.Widths.{wide_objectives}
use Rattle.upper_image.proofs.WorkingImage.{feasible_meets}
use Rattle.lp_form.specs.Programs.{dual_equations, benson_system, u_of, w_of, after_w_of, dual_unknowns}
use Rattle.lp_form.proofs.Systems.{benson_ok}
use Rattle.overflows.proofs.Cuts.{benson_cost, benson_unknowns, length-benson_cost}
use Rattle.overflows.proofs.Violated.{said_value}
use Rattle.benson_program.specs.Laws.{BensonBounded}
use Rattle.benson_program.proofs.Blocks.{benson_equations}
use Rattle.benson_program.proofs.Solved.{balanced, in_dual, member, scaled_at}
use Rattle.benson_program.proofs.SolutionParts.{after_long, after_positive, u_long, u_positive, w_long}

module _ (file : Problem) (c v : List ℚ) (t : Bool) (z r : List ℚ) (inner : IsInteriorToCone file c) (v_long : length v ≡ file.objs)
    (h : IsUnbounded (benson_system file c v t) z r) where
  c_long : length c ≡ file.objs
  c_long = (ordering_cone_convex file).wide c inner.member

  r_long : length r ≡ benson_unknowns file
  r_long = h.ray_wide ∙ length-benson_cost file v t v_long

  equations_many : length (benson_equations file c) ≡ file.cols + dual_equations file.objs file.cone + 1
  equations_many =
      let k : ℕ = file.cols + dual_equations file.objs file.cone in
      omega (arith, (benson_ok file c v t c_long v_long).right_each, length-append (zeros k) (one_ℚ ∷ []), length-zeros k)

  solves : values (benson_equations file c) r ≡ zeros (file.cols + dual_equations file.objs file.cone) ++ zero_ℚ ∷ []
  solves = h.along.equal ∙ ap zeros equations_many ∙ sym (replicate-append-replicate (file.cols + dual_equations file.objs file.cone) 1 zero_ℚ)

  -- w is in the dual cone with the product 0 with c
  no_weight : w_of file r ≡ zeros file.objs
  no_weight =
      zero_at_interior file.objs (IsInOrderingCone file) c (w_of file r) inner
      (in_dual file.objs file.cone (w_of file r) (after_w_of file r) file.cone_vectors (w_long file (dual_unknowns file.objs file.cone) r r_long) (after_long file (dual_unknowns file.objs file.cone) r r_long)
      (after_positive file (dual_unknowns file.objs file.cone) r r_long h.along.at_least_zero) (member file r r_long c c_long zero_ℚ solves))
      (scaled_at file r r_long c c_long zero_ℚ solves)

  -- the cost along the ray is that of the sides alone
  cost_is : dot (benson_cost file v t) r ≡ dot (side_bounds file) (u_of file r) *ℚ (if t then one_ℚ else zero_ℚ)
  cost_is =
      sym (neg_neg (dot (benson_cost file v t) r))
      ∙ ap neg_ℚ
      (sym (said_value file v t r v_long r_long)
      ∙ row_value said v (if t then one_ℚ else zero_ℚ) (w_long file (dual_unknowns file.objs file.cone) r r_long ∙ sym v_long)
      ∙ ap₂ (λ a b. a +ℚ b) (ap (λ w. dot w v) no_weight ∙ dot_comm (zeros file.objs) v ∙ dot-zeros v file.objs)
      (neg_mul (dot (side_bounds file) (u_of file r)) (if t then one_ℚ else zero_ℚ))
      ∙ zero_add (neg_ℚ (dot (side_bounds file) (u_of file r) *ℚ (if t then one_ℚ else zero_ℚ))))
      ∙ neg_neg (dot (side_bounds file) (u_of file r) *ℚ (if t then one_ℚ else zero_ℚ))
    where
      said : Inequality
      said = record { normal = w_of file r; bound = dot (side_bounds file) (u_of file r) }

  rises : zero_ℚ <ℚ dot (side_bounds file) (u_of file r) *ℚ (if t then one_ℚ else zero_ℚ)
  rises = subst (λ (s : ℚ). zero_ℚ <ℚ s) cost_is h.rises

  nothing : combination file.cols (w_of file r) (objectives file) ≡ zeros file.cols
  nothing =
      same_wide file.cols (combination file.cols (w_of file r) (objectives file)) (zeros file.cols)
      (length-combination file.cols (w_of file r) (objectives file) (wide_objectives file)) (length-zeros file.cols)
      (λ s. dot-combination file.cols s (w_of file r) (objectives file) ∙ ap (λ w. dot w (values (objectives file) s)) no_weight
      ∙ dot_comm (zeros file.objs) (values (objectives file) s) ∙ dot-zeros (values (objectives file) s) file.objs ∙ sym (dot-zeros s file.cols))

  -- where the bounds have a positive product with u, no point is feasible
  no_point : (x : List ℚ) → IsFeasible file x → zero_ℚ <ℚ dot (side_bounds file) (u_of file r) → ⊥
  no_point x f p =
      no_solution file.cols (normals file) (side_bounds file) (u_of file r)
      record {
        one_each = u_long file (dual_unknowns file.objs file.cone) r r_long ∙ sym (length-map (sides file) (λ s. s.normal));
        at_least_zero = u_positive file (dual_unknowns file.objs file.cone) r r_long h.along.at_least_zero;
        balanced = balanced file r r_long c c_long zero_ℚ solves ∙ nothing;
      } p x (feasible_meets file x f)

pub benson_bounded : BensonBounded
benson_bounded = record {
  direction = λ file c v z r inner v_long h.
      lt_irrefl zero_ℚ (subst (λ (s : ℚ). zero_ℚ <ℚ s) (mul_zero (dot (side_bounds file) (u_of file r))) (rises file c v false z r inner v_long h));
  point = λ file c v z r x inner v_long f h.
      no_point file c v true z r inner v_long h x f
      (subst (λ (s : ℚ). zero_ℚ <ℚ s) (mul_one (dot (side_bounds file) (u_of file r))) (rises file c v true z r inner v_long h));
}
