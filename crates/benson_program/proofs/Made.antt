-- The cut that is made of the parts of an optimum of Benson's program.
use Rattle.std.proofs.Common.{◌≡◌, ℕ, List, map, length, sym, ap, ◌∙◌, subst, Bool}
use Rattle.std.proofs.lemmas.List.{length-map}
use Rattle.exact_field.specs.Rational.{ℚ}
use Rattle.exact_field.specs.Vector.{dot}
use Rattle.frac128.specs.declared.vectors.Spot.{Spot}
use Rattle.vlp_problem.specs.Sides.{side_bounds}
use Rattle.vlp_problem.specs.declared.problem.Problem.{Problem}
use Rattle.upper_image.specs.Shows.{ShowsCut}
use Rattle.upper_image.specs.Spots.{dense, product, IsVector}
use Rattle.upper_image.proofs.Widths.{product_is}
use Rattle.lp_form.specs.Programs.{side_total, benson_system, u_of, w_of, v_of, dual_unknowns}
use Rattle.lp_form.proofs.Systems.{length-side_bounds}
use Rattle.overflows.specs.Base.{AreCutParts, IsBaseCut}
use Rattle.benson_program.proofs.AsCut.{benson_cut}
use Rattle.benson_program.proofs.Read.{z_long, base}
use Rattle.benson_program.specs.Cuts.{IsCutOf}
use Rattle.benson_program.specs.Ends.{IsOptimumAt}
use Rattle.benson_program.proofs.SolutionParts.{u_long}
use Rattle.lp_form.specs.Sparse.{IsSparseOf}
use Rattle.lp_form.specs.declared.shown.Cut.{Cut}

-- a cut whose vectors are read off a solution: sparse vectors that say them are its parts
module _ {F : Type 0} (value : F → ℚ) (file : Problem) (z : List ℚ) (cut : Cut F) (u_many : length cut.u ≡ side_total file)
    (u_read : map value cut.u ≡ u_of file z) (v_read : map value cut.v ≡ v_of file file.cone z) where
  pub v_many : length cut.v ≡ length (v_of file file.cone z)
  v_many = sym (length-map cut.v value) ∙ ap length v_read

  pub parts : (u m : List Spot) → IsSparseOf value cut.u u → IsSparseOf value cut.v m → AreCutParts file z u m
  parts u m left right = record {
    dual = subst (λ (n : ℕ). dense n u ≡ u_of file z) u_many (left.same ∙ u_read);
    cone = subst (λ (n : ℕ). dense n m ≡ v_of file file.cone z) v_many (right.same ∙ v_read);
  }

  pub proves : (u m : List Spot) → IsSparseOf value cut.u u → IsSparseOf value cut.v m → value cut.gamma ≡ dot (side_bounds file) (map value cut.u) →
      product (side_bounds file) u ≡ value cut.gamma
  proves u m left right bound =
      product_is (side_total file) (side_bounds file) u (length-side_bounds file)
      ∙ ap (λ d. dot (side_bounds file) d) ((parts u m left right).dual ∙ sym u_read) ∙ sym bound

module _ {F : Type 0} (value : F → ℚ) (file : Problem) (c v : List ℚ) (t : Bool) (basis : List ℕ) (z y : List ℚ) (c_long : length c ≡ file.objs)
    (v_long : length v ≡ file.objs) (h : IsOptimumAt (benson_system file c v t) basis z y) (cut : Cut F) (u_read : map value cut.u ≡ u_of file z)
    (w_read : map value cut.w ≡ w_of file z) (v_read : map value cut.v ≡ v_of file file.cone z) where
  u_many : length cut.u ≡ side_total file
  u_many = sym (length-map cut.u value) ∙ ap length u_read ∙ u_long file (dual_unknowns file.objs file.cone) z (z_long file c v t basis z y c_long v_long h)

  pub made : value cut.gamma ≡ dot (side_bounds file) (map value cut.u) → IsCutOf value file c z cut
  made bound = record {
    u_read = u_read;
    w_read = w_read;
    v_read = v_read;
    bound = bound;
    shown = λ u m left right. subst (λ (w : List ℚ). ShowsCut file c w (value cut.gamma) u m) (sym w_read)
        (benson_cut.cut file c v t z y (value cut.gamma) u m c_long v_long h.optimal (subst (λ (n : ℕ). IsVector n u) u_many left.vector)
        (subst (λ (n : ℕ). IsVector n m) (v_many value file z cut u_many u_read v_read) right.vector) (parts value file z cut u_many u_read v_read u m left right)
        (proves value file z cut u_many u_read v_read u m left right bound));
    base = λ u m left right. subst (λ (w : List ℚ). IsBaseCut file c w u m) (sym w_read)
        (base file c v t basis z y c_long v_long h u m (parts value file z cut u_many u_read v_read u m left right));
  }
