-- An optimum of Benson's program is a cut.
use Rattle.std.proofs.Common.{◌≡◌, ℕ, List, length, sym, ap, ◌∙◌, subst, Bool, true, false}
use Rattle.std.specs.Prelude.{if◌then◌else◌}
use Rattle.exact_field.specs.Rational.{ℚ, zero_ℚ, one_ℚ, ◌+ℚ◌, ◌-ℚ◌, ◌*ℚ◌, neg_ℚ, ◌≤ℚ◌}
use Rattle.exact_field.specs.Vector.{dot}
use Rattle.frac128.specs.declared.vectors.Spot.{Spot}
use Rattle.polyhedra.specs.Inequality.{Inequality}
use Rattle.polyhedra.specs.Vectors.{AtLeastZero, values, combination}
use Rattle.polyhedra.proofs.Algebra.{mul_zero, neg_zero}
use Rattle.polyhedra.proofs.Homogenised.{row_value}
use Rattle.polyhedra.proofs.Laws.{mul_one}
use Rattle.polyhedra.proofs.Linear.{dot-combination}
use Rattle.polyhedra.proofs.Lists.{all_from_map}
use Rattle.tableaux.specs.Simplex.{IsOptimal}
use Rattle.vlp_problem.specs.Sides.{side_bounds}
use Rattle.vlp_problem.specs.declared.problem.Problem.{Problem}
use Rattle.vlp_problem.specs.declared.problem.Cone.{Cone}
use Rattle.vlp_problem.specs.declared.problem.Cone.TheVariants.{Orthant, Gens, Dual}
use Rattle.upper_image.specs.OrderingCone.{dual_of}
use Rattle.upper_image.specs.Shows.{ShowsCut}
use Rattle.upper_image.specs.Spots.{dense, product, IsVector}
use Rattle.upper_image.specs.UpperImage.{normals}
use Rattle.upper_image.proofs.Widths.{product_is}
use Rattle.lp_form.specs.Programs.{side_total, dual_unknowns, generators, benson_system, u_of, w_of, v_of, after_w_of, value_of}
use Rattle.lp_form.proofs.Systems.{IsWideCone, cone_wide, benson_ok, length-side_bounds}
use Rattle.overflows.specs.Base.{AreCutParts}
use Rattle.overflows.proofs.Cuts.{benson_unknowns, length-benson_cost}
use Rattle.overflows.proofs.CutTurns.{optimal_value}
use Rattle.overflows.proofs.Violated.{said_value}
use Rattle.benson_program.specs.Laws.{BensonCut}
use Rattle.benson_program.proofs.Blocks.{asked, given}
use Rattle.benson_program.proofs.Shown.{IsHeld, shows}
use Rattle.benson_program.proofs.Solved.{balanced, member, scaled_at}
use Rattle.benson_program.proofs.Spots.{positive_values}
use Rattle.benson_program.proofs.SolutionParts.{after_long, after_positive, u_positive, w_long}

dual_wide : (q : ℕ) (cone : Cone) → IsWideCone q cone → IsWideCone q (dual_of cone)
dual_wide q Orthant h = h
dual_wide q (Gens vectors) h = h
dual_wide q (Dual vectors) h = h

-- w is in the dual cone by what stands after it, as a sparse vector
dual_held : (file : Problem) (q : ℕ) (cone : Cone) (w z : List ℚ) (m : List Spot) → length (after_w_of file z) ≡ dual_unknowns q cone →
    AtLeastZero (after_w_of file z) → asked cone w ≡ given q cone (after_w_of file z) → IsVector (length (v_of file cone z)) m →
    dense (length (v_of file cone z)) m ≡ v_of file cone z → IsVector (length (generators (dual_of cone))) m × IsHeld (dual_of cone) w m
dual_held file q Orthant w z m long positive e v d = (v, subst AtLeastZero (sym e) positive)
dual_held file q (Gens vectors) w z m long positive e v d =
    (v, all_from_map (λ s. zero_ℚ ≤ℚ s) (λ g. dot g w) vectors (subst AtLeastZero (sym e) positive))
dual_held file q (Dual vectors) w z m long positive e v d =
    let h : List ℚ = after_w_of file z in
    let same : dense (length vectors) m ≡ h = subst (λ (n : ℕ). dense n m ≡ h) long d in (
      subst (λ (n : ℕ). IsVector n m) long v,
      (
        subst AtLeastZero (sym same) positive,
        λ r. ap (λ s. dot r s) e ∙ dot-combination q r h vectors ∙ ap (λ s. dot s (values vectors r)) (sym same),
      ),
    )

module _ (file : Problem) (c v : List ℚ) (t : Bool) (z y : List ℚ) (gamma : ℚ) (u m : List Spot) (c_long : length c ≡ file.objs)
    (v_long : length v ≡ file.objs) (h : IsOptimal (benson_system file c v t) z y) where
  z_long : length z ≡ benson_unknowns file
  z_long = h.wide ∙ length-benson_cost file v t v_long

  cut : IsVector (side_total file) u → IsVector (length (v_of file file.cone z)) m → AreCutParts file z u m → product (side_bounds file) u ≡ gamma →
      ShowsCut file c (w_of file z) gamma u m
  cut u_vector m_vector parts bound =
      let held = dual_held file file.objs file.cone (w_of file z) z m (after_long file (dual_unknowns file.objs file.cone) z z_long) (after_positive file (dual_unknowns file.objs file.cone) z z_long h.solves.at_least_zero)
      (member file z z_long c c_long one_ℚ h.solves.equal) m_vector parts.cone in
      record {
        lengths = w_long file (dual_unknowns file.objs file.cone) z z_long;
        index = u_vector.places;
        sign = positive_values (side_total file) u u_vector (subst AtLeastZero (sym parts.dual) (u_positive file (dual_unknowns file.objs file.cone) z z_long h.solves.at_least_zero));
        balance = ap (λ d. combination file.cols d (normals file)) parts.dual ∙ balanced file z z_long c c_long one_ℚ h.solves.equal;
        cone = shows file.objs (dual_of file.cone) (w_of file z) m (dual_wide file.objs file.cone (cone_wide file.objs file.cone file.cone_vectors))
            (w_long file (dual_unknowns file.objs file.cone) z z_long) held.0 held.1;
        scaled = scaled_at file z z_long c c_long one_ℚ h.solves.equal;
        bound = bound;
      }

  value : AreCutParts file z u m → product (side_bounds file) u ≡ gamma → dot (w_of file z) v -ℚ (if t then gamma else zero_ℚ) ≡ neg_ℚ (value_of y)
  value parts bound =
      ap (λ s. dot (w_of file z) v +ℚ s) (sym (level t))
      ∙ sym (row_value said v (if t then one_ℚ else zero_ℚ) (w_long file (dual_unknowns file.objs file.cone) z z_long ∙ sym v_long))
      ∙ said_value file v t z v_long z_long ∙ ap neg_ℚ (optimal_value file c v t z y (benson_ok file c v t c_long v_long) h)
    where
      said : Inequality
      said = record { normal = w_of file z; bound = dot (side_bounds file) (u_of file z) }

      gamma_is : dot (side_bounds file) (u_of file z) ≡ gamma
      gamma_is = ap (λ d. dot (side_bounds file) d) (sym parts.dual) ∙ sym (product_is (side_total file) (side_bounds file) u (length-side_bounds file)) ∙ bound

      level : (b : Bool) → neg_ℚ (dot (side_bounds file) (u_of file z)) *ℚ (if b then one_ℚ else zero_ℚ) ≡ neg_ℚ (if b then gamma else zero_ℚ)
      level true = mul_one (neg_ℚ (dot (side_bounds file) (u_of file z))) ∙ ap neg_ℚ gamma_is
      level false = mul_zero (neg_ℚ (dot (side_bounds file) (u_of file z))) ∙ sym neg_zero

pub benson_cut : BensonCut
benson_cut = record {
  cut = λ file c v t z y gamma u m c_long v_long h u_vector m_vector parts bound. cut file c v t z y gamma u m c_long v_long h u_vector m_vector parts bound;
  value = λ file c v t z y gamma u m c_long v_long h parts bound. value file c v t z y gamma u m c_long v_long h parts bound;
}
