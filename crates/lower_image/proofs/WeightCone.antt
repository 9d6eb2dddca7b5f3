-- A weight in the dual cone, as a log shows it, and what the multipliers of the dual form's equations give there.
use Rattle.std.proofs.Common.{◌≡◌, ℕ, zero, suc, List, [], ◌∷◌, length, refl, sym, ap, ap₂, ◌∙◌, subst, arith}
use Rattle.std.specs.Prelude.{IsTrue}
use Rattle.exact_field.specs.Rational.{ℚ, zero_ℚ, one_ℚ, ◌+ℚ◌, neg_ℚ, ◌≤ℚ◌}
use Rattle.exact_field.specs.Vector.{dot}
use Rattle.exact_field.proofs.Inequalities.{zero-lt-one}
use Rattle.frac128.specs.declared.vectors.Spot.{Spot}
use Rattle.polyhedra.specs.Cone.{IsInDual}
use Rattle.polyhedra.specs.Negatives.{negated}
use Rattle.polyhedra.specs.Vectors.{AtLeastZero, zeros, combination, values}
use Rattle.polyhedra.proofs.Algebra.{zero_add, zero_mul, one_mul, neg_zero}
use Rattle.polyhedra.proofs.Duality.{dual_cones}
use Rattle.polyhedra.proofs.Laws.{add_zero, le_of_lt, le_refl}
use Rattle.polyhedra.proofs.Linear.{dot_comm, dot-combination, dot-zeros, length-combination, length-zeros}
use Rattle.polyhedra.proofs.Lists.{nonneg-nil, nonneg-cons, all_from_map}
use Rattle.polyhedra.proofs.Negatives.{dot-negated}
use Rattle.vlp_problem.specs.Cones.{cone_fits}
use Rattle.vlp_problem.specs.declared.problem.Problem.{Problem}
use Rattle.vlp_problem.specs.declared.problem.Cone.{Cone}
use Rattle.vlp_problem.specs.declared.problem.Cone.TheVariants.{Orthant, Gens, Dual}
use Rattle.upper_image.specs.OrderingCone.{IsIn, dual_of}
use Rattle.upper_image.specs.Shows.{ShowsIn}
use Rattle.upper_image.specs.Spots.{dense, IsVector}
use Rattle.upper_image.proofs.ConvexCones.{cone_convex}
use Rattle.lp_form.specs.Programs.{weight_unknowns, weight_equations, v_of, after_w_of}
use Rattle.lp_form.proofs.Systems.{cone_wide, length-negated}
use Rattle.benson_program.proofs.Shown.{shows}
use Rattle.benson_program.proofs.Spots.{without_places}
use Rattle.benson_program.proofs.SolutionParts.{same_from_difference}
use Rattle.lower_image.proofs.WeightEquations.{tied}
use Rattle.lower_image.proofs.WeightPriced.{pulled, pushed}

zeros_nonneg : (n : ℕ) → AtLeastZero (zeros n)
zeros_nonneg n = (cone_convex n Orthant refl).zero.entries

-- a vector whose product with each vector without a negative entry is at least 0 has none itself
nonneg_dual : (n : ℕ) (w : List ℚ) → length w ≡ n → ((y : List ℚ) → length y ≡ n → AtLeastZero y → zero_ℚ ≤ℚ dot w y) → AtLeastZero w
nonneg_dual n [] l h = nonneg-nil
nonneg_dual zero (x ∷ w) l h = absurd (omega arith)
nonneg_dual (suc n) (x ∷ w) l h =
    nonneg-cons x w
    (subst (λ (q : ℚ). zero_ℚ ≤ℚ q) first (h (one_ℚ ∷ zeros n) (ap suc (length-zeros n)) (nonneg-cons one_ℚ (zeros n) (le_of_lt zero_ℚ one_ℚ zero-lt-one) (zeros_nonneg n))))
    (nonneg_dual n w (omega arith)
    (λ y k p. subst (λ (q : ℚ). zero_ℚ ≤ℚ q) (others y) (h (zero_ℚ ∷ y) (ap suc k) (nonneg-cons zero_ℚ y (le_refl zero_ℚ) p))))
  where
    first : dot (x ∷ w) (one_ℚ ∷ zeros n) ≡ x
    first = dot_comm (x ∷ w) (one_ℚ ∷ zeros n) ∙ ap₂ (λ a b. a +ℚ b) (one_mul x) (dot_comm (zeros n) w ∙ dot-zeros w n) ∙ add_zero x

    others : (y : List ℚ) → dot (x ∷ w) (zero_ℚ ∷ y) ≡ dot w y
    others y = dot_comm (x ∷ w) (zero_ℚ ∷ y) ∙ ap₂ (λ a b. a +ℚ b) (zero_mul x) (dot_comm y w) ∙ zero_add (dot w y)

-- w is in the dual cone, by what stands after it, as a sparse vector
pub dual_shown : (file : Problem) (q : ℕ) (cone : Cone) (w z : List ℚ) (m : List Spot) → IsTrue (cone_fits q cone) → length w ≡ q →
    IsInDual q (IsIn q cone) w → AtLeastZero (after_w_of file z) → tied q cone w (after_w_of file z) ≡ zeros (weight_equations q cone) →
    IsVector (length (v_of file cone z)) m → dense (length (v_of file cone z)) m ≡ v_of file cone z → length (after_w_of file z) ≡ weight_unknowns cone →
    ShowsIn (dual_of cone) w m
dual_shown file q Orthant w z m fits long d positive e v s l = record {
  lengths = without_places m v;
  cone = nonneg_dual q w long (λ y k p. d.within y (record { wide = k; entries = p }));
}
dual_shown file q (Gens vs) w z m fits long d positive e v s l = record {
  lengths = without_places m v;
  cone = ((dual_cones.of_generated q vs w (cone_wide q (Gens vs) fits)).0 d).within;
}
dual_shown file q (Dual vs) w z m fits long d positive e v s l =
    let h : List ℚ = after_w_of file z in
    let same : dense (length vs) m ≡ h = subst (λ (n : ℕ). dense n m ≡ h) l s in
    let made : w ≡ combination q h vs =
    same_from_difference q w (combination q h vs) long (length-combination q h vs (cone_wide q (Dual vs) fits)) e in
    shows q (Gens vs) w m (cone_wide q (Dual vs) fits) long (subst (λ (n : ℕ). IsVector n m) l v)
    (subst AtLeastZero (sym same) positive, λ r. ap (λ s. dot r s) made ∙ dot-combination q r h vs ∙ ap (λ s. dot s (values vs r)) (sym same))

-- at a weight in the dual cone, what multipliers that are at most 0 after w give is at most 0
negated-values : (vs : List (List ℚ)) (f : List ℚ) → negated (values vs f) ≡ values vs (negated f)
negated-values [] f = refl
negated-values (v ∷ vs) f = ap₂ (λ a b. a ∷ b) (sym (dot-negated v f)) (negated-values vs f)

pub slack_nonneg : (q : ℕ) (cone : Cone) (f w : List ℚ) → IsInDual q (IsIn q cone) w → length f ≡ weight_equations q cone →
    AtLeastZero (negated (pushed cone f)) → zero_ℚ ≤ℚ neg_ℚ (dot w (pulled q cone f))
slack_nonneg q Orthant f w d l h = subst (λ (x : ℚ). zero_ℚ ≤ℚ x) (sym (ap neg_ℚ (dot-zeros w q) ∙ neg_zero)) (le_refl zero_ℚ)
slack_nonneg q (Gens vs) f w d l h = subst (λ (x : ℚ). zero_ℚ ≤ℚ x) (sym (ap neg_ℚ (dot-zeros w q) ∙ neg_zero)) (le_refl zero_ℚ)
slack_nonneg q (Dual vs) f w d l h =
    subst (λ (x : ℚ). zero_ℚ ≤ℚ x) (dot-negated w f)
    (d.within (negated f) record {
      wide = length-negated f q l;
      within = all_from_map (λ x. zero_ℚ ≤ℚ x) (λ v. dot v (negated f)) vs (subst AtLeastZero (negated-values vs f) h);
    })
