-- The ends of the program of a weight.
use Rattle.std.proofs.Common.{◌≡◌, ℕ, List, ◌++◌, length, sym, ap, ap₂, ◌∙◌, subst, arith, ◌≤◌, ◌+◌, ◌-◌, length-append}
use Rattle.std.proofs.lemmas.List.{length-map, replicate-append-replicate}
use Rattle.exact_field.specs.Rational.{ℚ, zero_ℚ, one_ℚ, ◌+ℚ◌, neg_ℚ, ◌≤ℚ◌, ◌<ℚ◌}
use Rattle.exact_field.specs.Vector.{dot, entry}
use Rattle.frac128.specs.declared.vectors.Spot.{Spot}
use Rattle.polyhedra.specs.Hull.{IsValidAt}
use Rattle.polyhedra.specs.Vectors.{AtLeastZero, zeros, values, combination}
use Rattle.polyhedra.proofs.Algebra.{zero_add}
use Rattle.polyhedra.proofs.Farkas.{cut_holds, no_solution, weak_duality}
use Rattle.polyhedra.proofs.Laws.{add_zero, le_antisymm}
use Rattle.polyhedra.proofs.Linear.{dot_comm, dot-combination, dot-combination_left, dot-zeros, length-combination, length-zeros, same_wide}
use Rattle.polyhedra.proofs.Order.{le_of_difference, lt_of_le_of_lt}
use Rattle.polyhedra.proofs.Negatives.{negated-zeros}
use Rattle.tableaux.specs.Simplex.{IsOptimal, IsInfeasible, IsUnbounded}
use Rattle.tableaux.specs.Table.{column_of}
use Rattle.tableaux.proofs.Inverse.{dot-append}
use Rattle.tableaux.proofs.Unique.{slice-zeros}
use Rattle.vlp_problem.specs.Sides.{sides, side_bounds, IsFeasible, IsRecession}
use Rattle.vlp_problem.specs.declared.problem.Problem.{Problem}
use Rattle.upper_image.specs.OrderingCone.{IsInDualCone}
use Rattle.upper_image.specs.Shows.{ShowsCut}
use Rattle.upper_image.specs.Spots.{product, IsVector}
use Rattle.upper_image.specs.UpperImage.{normals, objectives, IsInWorkingImage}
use Rattle.upper_image.proofs.Widths.{wide_objectives}
use Rattle.upper_image.proofs.WorkingImage.{feasible_meets}
use Rattle.lp_form.specs.Programs.{side_total, on_parts, weight_system, weight_unknowns, weight_equations, u_of, w_of, v_of, after_w_of, choice_of}
use Rattle.lp_form.proofs.Systems.{weight_ok, length-side_bounds}
use Rattle.overflows.specs.Base.{AreCutParts, image_of}
use Rattle.benson_program.proofs.Blocks.{on_parts-value}
use Rattle.benson_program.proofs.AsPreimage.{sides_rise}
use Rattle.benson_program.proofs.Spots.{positive_values}
use Rattle.benson_program.proofs.Vectors.{parts_of, sides_hold}
use Rattle.benson_program.proofs.SolutionParts.{u_long, a_long, b_long, after_long, u_positive, after_positive}
use Rattle.lower_image.specs.Weights.{WeightBounded, WeightChoice, WeightCut, WeightRay}
use Rattle.lower_image.proofs.WeightCone.{dual_shown, slack_nonneg}
use Rattle.lower_image.proofs.WeightEquations.{tied, weight_rows, weight_total, weight_cost, length-weight_cost}
use Rattle.lower_image.proofs.WeightPriced.{pulled, prices_of, ties_of, x_long, p_long, f_long, y_parts, normals_at_least, after_at_least, price_value}
use Rattle.lower_image.proofs.WeightSolved.{after_is, balanced, weight_is}

rows_many : (file : Problem) → length (weight_rows file) ≡ file.cols + file.objs + weight_equations file.objs file.cone
rows_many file =
    let k : ℕ = weight_equations file.objs file.cone in
    omega (
      arith,
      (weight_ok file (zeros file.objs) (length-zeros file.objs)).right_each,
      length-append (zeros file.cols ++ zeros file.objs) (zeros k),
      length-append (zeros file.cols) (zeros file.objs),
      length-zeros file.cols,
      length-zeros file.objs,
      length-zeros k,
    )

module _ (file : Problem) (z : List ℚ) (z_long : length z ≡ weight_total file) where
  -- the cost of a solution is that of its u
  pub cost_is : dot (weight_cost file) z ≡ dot (side_bounds file) (u_of file z)
  cost_is =
      ap (λ v. dot (weight_cost file) v) (sym (parts_of (side_total file) file.objs z))
      ∙ on_parts-value (side_bounds file) (zeros file.objs) (zeros (weight_unknowns file.cone)) (u_of file z) _ _ (after_w_of file z)
      (length-side_bounds file ∙ sym (u_long file (weight_unknowns file.cone) z z_long)) (length-zeros file.objs ∙ sym (a_long file (weight_unknowns file.cone) z z_long)) (length-zeros file.objs ∙ sym (b_long file (weight_unknowns file.cone) z z_long))
      ∙ ap₂ (λ s t. dot (side_bounds file) (u_of file z) +ℚ s +ℚ t) (dot_comm (zeros file.objs) (w_of file z) ∙ dot-zeros (w_of file z) file.objs)
      (dot_comm (zeros (weight_unknowns file.cone)) (after_w_of file z) ∙ dot-zeros (after_w_of file z) (weight_unknowns file.cone))
      ∙ add_zero _ ∙ add_zero _

module _ (file : Problem) (w y : List ℚ) (w_long : length w ≡ file.objs) (y_long : length y ≡ file.cols + file.objs + weight_equations file.objs file.cone) where
  -- the product with the right sides is that of the multipliers that fix the weight with it
  pub right_is : dot y (zeros file.cols ++ w ++ zeros (weight_equations file.objs file.cone)) ≡ dot w (prices_of file y)
  right_is =
      ap (λ v. dot v (zeros file.cols ++ w ++ zeros k)) (sym (y_parts file y y_long))
      ∙ dot-append (choice_of file y ++ prices_of file y) (ties_of file y) (zeros file.cols ++ w) (zeros k)
      (omega (arith, length-append (choice_of file y) (prices_of file y), length-append (zeros file.cols) w, x_long file y y_long, p_long file y y_long, length-zeros file.cols, w_long))
      ∙ ap₂ (λ s t. s +ℚ t)
      (dot-append (choice_of file y) (prices_of file y) (zeros file.cols) w (x_long file y y_long ∙ sym (length-zeros file.cols))
      ∙ ap₂ (λ s t. s +ℚ t) (dot-zeros (choice_of file y) file.cols) (dot_comm (prices_of file y) w) ∙ zero_add _)
      (dot-zeros (ties_of file y) k)
      ∙ add_zero _
    where
      k : ℕ
      k = weight_equations file.objs file.cone

  -- it is at least the weight's value at the choice
  module _ (front : List ℚ) (front_long : length front ≡ side_total file) (inside : IsInDualCone file w)
      (bounds : (j : ℕ) → 1 ≤ j → j ≤ weight_total file →
      entry (on_parts front (zeros file.objs) (zeros (weight_unknowns file.cone))) j ≤ℚ dot y (column_of (weight_rows file) j)) where
    pub value_below : dot w (image_of file (choice_of file y)) ≤ℚ dot y (zeros file.cols ++ w ++ zeros (weight_equations file.objs file.cone))
    value_below =
        le_of_difference (dot w (image_of file (choice_of file y))) _ (neg_ℚ (dot w (pulled file.objs file.cone (ties_of file y))))
        (slack_nonneg file.objs file.cone (ties_of file y) w inside (f_long file y y_long) (after_at_least file y y_long front front_long bounds))
        (sym (price_value file y y_long front front_long bounds w) ∙ sym right_is)

-- ---- an optimum
module _ (file : Problem) (w z y : List ℚ) (w_long : length w ≡ file.objs) (h : IsOptimal (weight_system file w) z y) where
  z_long : length z ≡ weight_total file
  z_long = h.wide ∙ length-weight_cost file

  y_long : length y ≡ file.cols + file.objs + weight_equations file.objs file.cone
  y_long = h.one_each ∙ rows_many file

  bounds : (j : ℕ) → 1 ≤ j → j ≤ weight_total file → entry (weight_cost file) j ≤ℚ dot y (column_of (weight_rows file) j)
  bounds j low high = h.bounds j low (omega (arith, high, length-weight_cost file))

  normal : w_of file z ≡ w
  normal = weight_is file z w (zeros (weight_equations file.objs file.cone)) z_long w_long h.solves.equal

  feasible : IsFeasible file (choice_of file y)
  feasible = record {
    width = x_long file y y_long;
    meets = sides_hold (λ s. s.bound) (choice_of file y) (sides file) (normals_at_least file y y_long (side_bounds file) (length-side_bounds file) bounds);
  }

  balance : combination file.cols (u_of file z) (normals file) ≡ combination file.cols w (objectives file)
  balance =
      balanced file z w (zeros (weight_equations file.objs file.cone)) z_long w_long h.solves.equal
      ∙ ap (λ v. combination file.cols v (objectives file)) normal

  above : dot (side_bounds file) (u_of file z) ≤ℚ dot w (image_of file (choice_of file y))
  above =
      subst (λ (s : ℚ). dot (side_bounds file) (u_of file z) ≤ℚ s) (dot-combination_left file.cols w (objectives file) (choice_of file y))
      (weak_duality file.cols (normals file) (side_bounds file) (combination file.cols w (objectives file)) (u_of file z) (choice_of file y)
      record {
        one_each = u_long file (weight_unknowns file.cone) z z_long ∙ sym (length-map (sides file) (λ s. s.normal));
        at_least_zero = u_positive file (weight_unknowns file.cone) z z_long h.solves.at_least_zero;
        balanced = balance;
      } (feasible_meets file (choice_of file y) feasible))

  value : IsInDualCone file w → dot w (image_of file (choice_of file y)) ≡ dot (side_bounds file) (u_of file z)
  value inside =
      le_antisymm _ _
      (subst (λ (s : ℚ). dot w (image_of file (choice_of file y)) ≤ℚ s) (sym h.equal ∙ cost_is file z z_long)
      (value_below file w y w_long y_long (side_bounds file) (length-side_bounds file) inside bounds)) above

  cut : (c : List ℚ) (gamma : ℚ) (u m : List Spot) → dot w c ≡ one_ℚ → IsInDualCone file w → IsVector (side_total file) u →
      IsVector (length (v_of file file.cone z)) m → AreCutParts file z u m → product (side_bounds file) u ≡ gamma → ShowsCut file c w gamma u m
  cut c gamma u m scaled inside u_vector m_vector parts bound = record {
    lengths = w_long;
    index = u_vector.places;
    sign = positive_values (side_total file) u u_vector (subst AtLeastZero (sym parts.dual) (u_positive file (weight_unknowns file.cone) z z_long h.solves.at_least_zero));
    balance = ap (λ d. combination file.cols d (normals file)) parts.dual ∙ balance;
    cone = dual_shown file file.objs file.cone w z m file.cone_vectors w_long inside (after_positive file (weight_unknowns file.cone) z z_long h.solves.at_least_zero)
        (subst (λ (v : List ℚ). tied file.objs file.cone v (after_w_of file z) ≡ zeros (weight_equations file.objs file.cone)) normal
        (after_is file z w (zeros (weight_equations file.objs file.cone)) z_long w_long h.solves.equal))
        m_vector parts.cone (after_long file (weight_unknowns file.cone) z z_long);
    scaled = scaled;
    bound = bound;
  }

  valid : (c : List ℚ) → dot w c ≡ one_ℚ → IsInDualCone file w →
      IsValidAt file.objs (IsInWorkingImage file) c record { normal = w; bound = dot (side_bounds file) (u_of file z) }
  valid c scaled inside = record {
    valid = record {
      wide = w_long;
      holds = λ v k.
          cut_holds file.cols (normals file) (side_bounds file) (objectives file) w (u_of file z) k.solution v k.beyond
          record {
            one_each = u_long file (weight_unknowns file.cone) z z_long ∙ sym (length-map (sides file) (λ s. s.normal));
            at_least_zero = u_positive file (weight_unknowns file.cone) z z_long h.solves.at_least_zero;
            balanced = balance;
          } k.meets k.same (inside.within k.beyond k.in_cone);
    };
    normed = scaled;
  }

pub weight_cut : WeightCut
weight_cut = record {
  valid = λ file c w z y w_long scaled inside h. valid file w z y w_long h c scaled inside;
  cut = λ file c w z y gamma u m w_long scaled inside h u_vector m_vector parts bound.
      cut file w z y w_long h c gamma u m scaled inside u_vector m_vector parts bound;
  normal = normal;
}

pub weight_choice : WeightChoice
weight_choice = record {
  feasible = feasible;
  value = λ file w z y w_long inside h. value file w z y w_long h inside;
}

-- ---- no solution
no_cost : (m q more : ℕ) → on_parts (zeros m) (zeros q) (zeros more) ≡ zeros (m + q + q + more)
no_cost m q more =
    ap (λ a. zeros m ++ zeros q ++ a ++ zeros more) (negated-zeros q)
    ∙ ap (λ a. a ++ zeros q ++ zeros more) (replicate-append-replicate m q zero_ℚ) ∙ ap (λ a. a ++ zeros more) (replicate-append-replicate (m + q) q zero_ℚ)
    ∙ replicate-append-replicate (m + q + q) more zero_ℚ

module _ (file : Problem) (w y : List ℚ) (w_long : length w ≡ file.objs) (h : IsInfeasible (weight_system file w) y) where
  many : length y ≡ file.cols + file.objs + weight_equations file.objs file.cone
  many = h.one_each ∙ rows_many file

  no_bounds : (j : ℕ) → 1 ≤ j → j ≤ weight_total file →
      entry (on_parts (zeros (side_total file)) (zeros file.objs) (zeros (weight_unknowns file.cone))) j ≤ℚ dot y (column_of (weight_rows file) j)
  no_bounds j low high =
      subst (λ (s : ℚ). s ≤ℚ dot y (column_of (weight_rows file) j))
      (sym (ap (λ f. entry f j) (no_cost (side_total file) file.objs (weight_unknowns file.cone)) ∙ slice-zeros (weight_total file) (j - 1)))
      (h.bounds j low (omega (arith, high, length-weight_cost file)))

  recedes : IsRecession file (choice_of file y)
  recedes = sides_rise file (choice_of file y) (x_long file y many)
      (normals_at_least file y many (zeros (side_total file)) (length-zeros (side_total file)) no_bounds)

  falls : IsInDualCone file w → dot w (image_of file (choice_of file y)) <ℚ zero_ℚ
  falls inside =
      lt_of_le_of_lt _ _ zero_ℚ
      (value_below file w y w_long many (zeros (side_total file)) (length-zeros (side_total file)) inside no_bounds) h.below

pub weight_ray : WeightRay
weight_ray = record {
  recedes = recedes;
  falls = λ file w y w_long inside h. falls file w y w_long h inside;
}

-- ---- no bound
module _ (file : Problem) (w z r : List ℚ) (w_long : length w ≡ file.objs) (h : IsUnbounded (weight_system file w) z r) where
  r_long : length r ≡ weight_total file
  r_long = h.ray_wide ∙ length-weight_cost file

  k : ℕ
  k = weight_equations file.objs file.cone

  solves : values (weight_rows file) r ≡ zeros file.cols ++ zeros file.objs ++ zeros k
  unfolding k
  solves =
      h.along.equal ∙ ap zeros (rows_many file)
      ∙ sym (ap (λ a. a ++ zeros (weight_equations file.objs file.cone)) (replicate-append-replicate file.cols file.objs zero_ℚ)
      ∙ replicate-append-replicate (file.cols + file.objs) (weight_equations file.objs file.cone) zero_ℚ)

  no_weight : w_of file r ≡ zeros file.objs
  no_weight = weight_is file r (zeros file.objs) (zeros k) r_long (length-zeros file.objs) solves

  nothing : combination file.cols (w_of file r) (objectives file) ≡ zeros file.cols
  nothing =
      same_wide file.cols (combination file.cols (w_of file r) (objectives file)) (zeros file.cols)
      (length-combination file.cols (w_of file r) (objectives file) (wide_objectives file)) (length-zeros file.cols)
      (λ s. dot-combination file.cols s (w_of file r) (objectives file) ∙ ap (λ v. dot v (values (objectives file) s)) no_weight
      ∙ dot_comm (zeros file.objs) (values (objectives file) s) ∙ dot-zeros (values (objectives file) s) file.objs ∙ sym (dot-zeros s file.cols))

  unbounded : (x : List ℚ) → IsFeasible file x → ⊥
  unbounded x f =
      no_solution file.cols (normals file) (side_bounds file) (u_of file r)
      record {
        one_each = u_long file (weight_unknowns file.cone) r r_long ∙ sym (length-map (sides file) (λ s. s.normal));
        at_least_zero = u_positive file (weight_unknowns file.cone) r r_long h.along.at_least_zero;
        balanced = balanced file r (zeros file.objs) (zeros k) r_long (length-zeros file.objs) solves ∙ nothing;
      } (subst (λ (s : ℚ). zero_ℚ <ℚ s) (cost_is file r r_long) h.rises) x (feasible_meets file x f)

pub weight_bounded : WeightBounded
weight_bounded file w z r x w_long f h = unbounded file w z r w_long h x f
