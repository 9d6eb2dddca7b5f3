-- The ends of the program that asks whether the sides contradict each other.
use Rattle.std.proofs.Common.{◌≡◌, ℕ, suc, List, length, sym, ap, ◌∙◌, subst, arith, slice_index_or, take_all}
use Rattle.std.proofs.lemmas.List.{length-map}
use Rattle.exact_field.specs.Rational.{ℚ, zero_ℚ, ◌≤ℚ◌, ◌<ℚ◌}
use Rattle.exact_field.specs.Vector.{dot, entry}
use Rattle.frac128.specs.declared.vectors.Spot.{Spot}
use Rattle.polyhedra.specs.Vectors.{AreWide, AtLeastZero, zeros, values, combination}
use Rattle.polyhedra.proofs.Linear.{dot_comm, dot-combination, dot-zeros, length-combination, same_wide}
use Rattle.polyhedra.proofs.Order.{lt_irrefl}
use Rattle.tableaux.specs.Simplex.{IsOptimal, IsInfeasible, IsUnbounded}
use Rattle.tableaux.specs.Table.{Table, column_of, listed}
use Rattle.tableaux.proofs.Places.{length-list_from}
use Rattle.tableaux.proofs.Unique.{entry-combination}
use Rattle.vlp_problem.specs.Sides.{sides, side_column, side_bounds, IsFeasible}
use Rattle.vlp_problem.specs.declared.problem.Problem.{Problem}
use Rattle.upper_image.specs.Spots.{dense, IsVector}
use Rattle.upper_image.specs.UpperImage.{normals}
use Rattle.upper_image.proofs.Widths.{wide_normals, side_columns, product_is}
use Rattle.log_rules.specs.Meets.{MeetsFarkas}
use Rattle.log_rules.proofs.ByEntries.{entry-suc}
use Rattle.log_rules.proofs.Witnesses.{farkas_right}
use Rattle.lp_form.specs.Programs.{side_total, feasible_system, choice_of}
use Rattle.lp_form.proofs.Systems.{feasible_ok, length-side_bounds}
use Rattle.benson_program.specs.Laws.{FeasibleEnds}
use Rattle.benson_program.proofs.Blocks.{values_listed}
use Rattle.benson_program.proofs.Spots.{positive_values}
use Rattle.benson_program.proofs.Vectors.{AreAtMost, at_most_each, sides_hold}

abbrev columns : Problem → Table
columns file = listed file.cols (side_column file)

columns-long : (file : Problem) → length (columns file) ≡ file.cols
columns-long file = length-list_from 1 file.cols (side_column file)

columns-value : (file : Problem) (u : List ℚ) → values (columns file) u ≡ combination file.cols u (normals file)
columns-value file u =
    values_listed file.cols (side_column file) u (combination file.cols u (normals file)) (length-combination file.cols u (normals file) (wide_normals file))
    (λ j low high. dot_comm (side_column file j) u ∙ ap (λ k. dot u k) (sym (side_columns file j)) ∙ sym (entry-combination file.cols u (normals file) j))

solvable : (file : Problem) (y : List ℚ) → IsInfeasible (feasible_system file) y → ⊥
solvable file y h = lt_irrefl zero_ℚ (subst (λ (s : ℚ). s <ℚ zero_ℚ) (dot-zeros y file.cols) h.below)

farkas : (file : Problem) (x r : List ℚ) (u : List Spot) → IsUnbounded (feasible_system file) x r → IsVector (side_total file) u →
    dense (side_total file) u ≡ r → MeetsFarkas file u
farkas file x r u h v e = record {
  index = v.places;
  sign = positive_values (side_total file) u v (subst AtLeastZero (sym e) h.along.at_least_zero);
  balance = ap (λ d. combination file.cols d (normals file)) e ∙ sym (columns-value file r) ∙ h.along.equal ∙ ap zeros (columns-long file);
  bound = subst (λ (s : ℚ). zero_ℚ <ℚ s)
      (sym (product_is (side_total file) (side_bounds file) u (length-side_bounds file) ∙ ap (λ d. dot (side_bounds file) d) e)) h.rises;
}

-- the products of multipliers with the columns are the values of the sides
priced : (file : Problem) (y : List ℚ) → combination (side_total file) y (columns file) ≡ values (normals file) y
priced file y =
    same_wide (side_total file) (combination (side_total file) y (columns file)) (values (normals file) y)
    (length-combination (side_total file) y (columns file) wide) (length-map (normals file) _ ∙ length-map (sides file) _)
    (λ r. dot-combination (side_total file) r y (columns file) ∙ ap (λ v. dot y v) (columns-value file r) ∙ dot-combination file.cols y r (normals file))
  where
    wide : AreWide (side_total file) (columns file)
    wide = subst (λ (n : ℕ). AreWide n (columns file)) (length-side_bounds file) (feasible_ok file).wide

optimal : (file : Problem) (z y : List ℚ) → IsOptimal (feasible_system file) z y → IsFeasible file (choice_of file y)
optimal file z y h =
    subst (IsFeasible file) (sym (take_all file.cols y (omega (arith, long))))
    record { width = long; meets = sides_hold (λ s. s.bound) y (sides file) at_most }
  where
    long : length y ≡ file.cols
    long = h.one_each ∙ columns-long file

    values_long : length (values (normals file) y) ≡ side_total file
    values_long = sym (ap length (priced file y)) ∙ length-combination (side_total file) y (columns file)
        (subst (λ (n : ℕ). AreWide n (columns file)) (length-side_bounds file) (feasible_ok file).wide)

    at_most : AreAtMost (side_bounds file) (values (normals file) y)
    at_most =
        at_most_each (side_bounds file) (values (normals file) y) (length-side_bounds file ∙ sym values_long)
        (λ i l. subst (λ (s : ℚ). slice_index_or (side_bounds file) i zero_ℚ ≤ℚ s)
        (sym (entry-combination (side_total file) y (columns file) (suc i)) ∙ ap (λ v. entry v (suc i)) (priced file y) ∙ entry-suc (values (normals file) y) i)
        (subst (λ (s : ℚ). s ≤ℚ dot y (column_of (columns file) (suc i))) (entry-suc (side_bounds file) i) (h.bounds (suc i) (omega arith) (omega (arith, l)))))

pub feasible_ends : FeasibleEnds
feasible_ends = record {
  solvable = solvable;
  farkas = farkas;
  unbounded = λ file x r u h v e. farkas_right file u v.sparse (farkas file x r u h v e);
  optimal = optimal;
}
