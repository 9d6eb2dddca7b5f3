-- What a solution of the equations of the program of a weight says of its parts.
use Rattle.std.proofs.Common.{◌≡◌, List, ◌++◌, length, sym, ap, ◌∙◌, arith, ◌+◌, length-append}
use Rattle.exact_field.specs.Rational.{ℚ}
use Rattle.polyhedra.specs.Vectors.{zeros, combination, values}
use Rattle.polyhedra.proofs.Linear.{length-zeros}
use Rattle.vlp_problem.specs.declared.problem.Problem.{Problem}
use Rattle.upper_image.specs.UpperImage.{normals, objectives}
use Rattle.lp_form.specs.Programs.{side_total, u_of, w_of, after_w_of, weight_unknowns}
use Rattle.lp_form.proofs.Systems.{IsWideCone, cone_wide}
use Rattle.benson_program.proofs.Vectors.{append_parts, parts_of}
use Rattle.benson_program.proofs.SolutionParts.{u_long, a_long, b_long, after_long, w_long, columns_part, columns_part-long, balanced_parts}
use Rattle.lower_image.proofs.WeightEquations.{tied, rows-value, weight_rows, weight_total}

-- z has the values `right` at the columns' equations, w at those that fix the weight, and `last` after those
module _ (file : Problem) (z w last : List ℚ) (z_long : length z ≡ weight_total file) (wide_w : length w ≡ file.objs)
    (solves : values (weight_rows file) z ≡ zeros file.cols ++ w ++ last) where
  wide : IsWideCone file.objs file.cone
  wide = cone_wide file.objs file.cone file.cone_vectors

  whole : columns_part file (u_of file z) (w_of file z) ++ w_of file z ++ tied file.objs file.cone (w_of file z) (after_w_of file z) ≡ zeros file.cols ++ w ++ last
  unfolding columns_part
  whole =
      sym (rows-value file (u_of file z) _ _ (after_w_of file z) (u_long file (weight_unknowns file.cone) z z_long) (a_long file (weight_unknowns file.cone) z z_long) (b_long file (weight_unknowns file.cone) z z_long) wide (after_long file (weight_unknowns file.cone) z z_long))
      ∙ ap (λ v. values (weight_rows file) v) (parts_of (side_total file) file.objs z) ∙ solves

  split : (columns_part file (u_of file z) (w_of file z) ++ w_of file z ≡ zeros file.cols ++ w) × (tied file.objs file.cone (w_of file z) (after_w_of file z) ≡ last)
  split = append_parts (columns_part file (u_of file z) (w_of file z) ++ w_of file z) (tied file.objs file.cone (w_of file z) (after_w_of file z)) (zeros file.cols ++ w) last
      (omega (arith, length-append (columns_part file (u_of file z) (w_of file z)) (w_of file z), length-append (zeros file.cols) w, columns_part-long file (u_of file z) (w_of file z), w_long file (weight_unknowns file.cone) z z_long, length-zeros file.cols, wide_w)) whole

  halves : (columns_part file (u_of file z) (w_of file z) ≡ zeros file.cols) × (w_of file z ≡ w)
  halves = append_parts (columns_part file (u_of file z) (w_of file z)) (w_of file z) (zeros file.cols) w (columns_part-long file (u_of file z) (w_of file z) ∙ sym (length-zeros file.cols)) split.0

  pub balanced : combination file.cols (u_of file z) (normals file) ≡ combination file.cols (w_of file z) (objectives file)
  balanced = balanced_parts file (u_of file z) (w_of file z) halves.0

  pub weight_is : w_of file z ≡ w
  weight_is = halves.1

  pub after_is : tied file.objs file.cone (w_of file z) (after_w_of file z) ≡ last
  after_is = split.1
