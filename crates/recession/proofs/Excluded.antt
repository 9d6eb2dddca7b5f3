-- Answers of two kinds exclude each other.
use Rattle.std.proofs.Common.{◌≡◌, ℕ, List, [], ◌∷◌, map, length, sym, ap, ◌∙◌, subst, arith, Bool}
use Rattle.std.proofs.lemmas.List.{length-map}
use Rattle.std.proofs.lemmas.List.Elements.{All-head}
use Rattle.exact_field.specs.Rational.{ℚ}
use Rattle.vlp_problem.specs.Sides.{IsFeasible}
use Rattle.vlp_problem.specs.declared.problem.Problem.{Problem}
use Rattle.upper_image.specs.Spots.{dense, IsVector}
use Rattle.overflows.specs.Base.{IsBaseChoice}
use Rattle.lp_form.specs.Programs.{side_total}
use Rattle.benson_program.specs.Laws.{IsCutNormal}
use Rattle.benson_program.proofs.Excluded.{answers_exclude}
use Rattle.benson_program.specs.Ends.{IsContradiction}
use Rattle.benson_program.specs.Wholes.{IsWholeOf}
use Rattle.lp_form.specs.declared.shown.Cut.{Cut}
use Rattle.benson_program.specs.declared.whole.WholeParts.{WholeParts}
use Rattle.outer_approx.specs.Cuts.{IsCutFor}
use Rattle.outer_approx.specs.Task.{Task, IsFitting}
use Rattle.outer_approx.specs.declared.log.Line.{Line}
use Rattle.recession.specs.First.{AreAlike, AreFirstCuts, IsFirst}
use Rattle.recession.specs.declared.first.First.{First}
use Rattle.recession.specs.declared.first.First.TheVariants.{Infeasible, Whole, Cuts}
use Rattle.recession.proofs.Asking_ends.{cut_normal, fits, sparse_there}
use Rattle.recession.proofs.Written.{written}

module _ {F : Type 0} (value : F → ℚ) (holds : ℚ → Bool) (task : Task) (fitting : IsFitting holds task) where
  abbrev file : Problem
  file = task.file

  -- ---- what each kind shows
  no_point : (u x : List ℚ) → IsContradiction file u → IsFeasible file x → ⊥
  no_point u x h feasible =
      let w = written u in
      let vector : IsVector (side_total file) w.0 = subst (λ (n : ℕ). IsVector n w.0) h.wide w.1.vector in
      let same : dense (side_total file) w.0 ≡ u = ap (λ (n : ℕ). dense n w.0) (sym h.wide) ∙ w.1.same in
      answers_exclude.infeasible file w.0 (h.shows w.0 vector same) x feasible

  no_cut : (x : List F) (parts : WholeParts F) (w : List ℚ) → IsBaseChoice file (map value x) → IsWholeOf value file task.c parts →
      IsCutNormal file task.c w → ⊥
  no_cut x parts w choice h cut =
      let spots = sparse_there value x in
      let ray = sparse_there value parts.ray in
      let cols : length x ≡ file.cols = sym (length-map x value) ∙ choice.feasible.width in
      let vector : IsVector file.cols spots.0 = subst (λ (n : ℕ). IsVector n spots.0) cols spots.1.vector in
      let same : dense file.cols spots.0 ≡ map value x = ap (λ (n : ℕ). dense n spots.0) (sym cols) ∙ spots.1.same in
      answers_exclude.whole file task.c w spots.0 ray.0
      (h.whole spots.0 ray.0 ray.1 (fits holds task fitting) vector (subst (IsFeasible file) (sym same) choice.feasible)) cut

  some_cut : (x : List F) (ls : List (Line F)) (cuts : List (Cut F)) → AreFirstCuts value task x ls cuts → (w : List ℚ) × IsCutNormal file task.c w
  some_cut x ls [] h = absurd (let l = h.some in omega (arith, l))
  some_cut x ls (cut ∷ cuts) h = (map value cut.w, cut_normal value task cut (All-head (IsCutFor value task) cut cuts h.each))

  pub exclude : (a b : First F) → IsFirst value task a → IsFirst value task b → AreAlike a b
  exclude (Infeasible u) (Infeasible u') h k = tt
  exclude (Infeasible u) (Whole x parts) h k = no_point (map value u) (map value x) h k.0.feasible
  exclude (Infeasible u) (Cuts x ls cuts) h k = no_point (map value u) (map value x) h k.choice.feasible
  exclude (Whole x parts) (Infeasible u) h k = no_point (map value u) (map value x) k h.0.feasible
  exclude (Whole x parts) (Whole x' parts') h k = tt
  exclude (Whole x parts) (Cuts x' ls cuts) h k = let cut = some_cut x' ls cuts k in no_cut x parts cut.0 h.0 h.1 cut.1
  exclude (Cuts x ls cuts) (Infeasible u) h k = no_point (map value u) (map value x) k h.choice.feasible
  exclude (Cuts x ls cuts) (Whole x' parts) h k = let cut = some_cut x ls cuts h in no_cut x' parts cut.0 k.0 k.1 cut.1
  exclude (Cuts x ls cuts) (Cuts x' ls' cuts') h k = tt
