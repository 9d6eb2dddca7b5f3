-- Both ways to solve a problem tell one image.
use Rattle.std.proofs.Common.{◌≡◌, ℕ, List, [], ◌∷◌, ap, ◌∙◌, sym, subst}
use Rattle.std.specs.Prelude.{codes}
use Rattle.std.specs.List.{flat_map}
use Rattle.std.proofs.lemmas.Grind.{flat_map-append}
use Rattle.src_sink.specs.Texts.{line_text}
use Rattle.exact_field.specs.Rational.{ℚ}
use Rattle.vlp_problem.specs.declared.problem.Problem.{Problem}
use Rattle.log_rules.specs.Report.{report_text, witness_lines}
use Rattle.log_rules.specs.Right.{IsRight, IsSolution}
use Rattle.log_rules.specs.declared.answer.Answer.{Answer}
use Rattle.log_rules.specs.declared.answer.Answer.TheVariants.{Infeasible, Whole, Solved}
use Rattle.benson_dual.specs.Reports.{ImagePartsAgree, image_part}
use Rattle.solver.specs.Agree.{HasFront, OneImage, TellsImageBy}

-- a report has the text of its image part in front of the witnesses
has_front : (file : Problem) (a : Answer) (text : List ℕ) → text ≡ report_text file a →
    HasFront (flat_map line_text (image_part file a)) text
has_front file a text is = record {
  rest = flat_map line_text (witness_lines a);
  is =
      is
      ∙ flat_map-append line_text (image_part file a)
      ((codes "witnesses" ∷ []) ∷ witness_lines a);
}

module _ (law : ImagePartsAgree) (file : Problem) (c : List ℚ) where
  parts_agree : (a a' : Answer) → IsRight file a → IsRight file a' →
      TellsImageBy c a → TellsImageBy c a' → image_part file a ≡ image_part file a'
  parts_agree (Solved k ls ps ds fs) (Solved k' ls' ps' ds' fs') h h' by by' =
      ap (λ (v : List ℚ). image_part file (Solved v ls ps ds fs)) by
      ∙ law file c ls ls' ps ps' ds ds' fs fs'
      (subst (λ (v : List ℚ). IsSolution file v ls ps ds fs) by h)
      (subst (λ (v : List ℚ). IsSolution file v ls' ps' ds' fs') by' h')
      ∙ sym (ap (λ (v : List ℚ). image_part file (Solved v ls' ps' ds' fs')) by')
  parts_agree (Solved k ls ps ds fs) (Infeasible u) h h' by by' = absurd by'
  parts_agree (Solved k ls ps ds fs) (Whole k' x ray) h h' by by' = absurd by'
  parts_agree (Infeasible u) a' h h' by by' = absurd by
  parts_agree (Whole k x ray) a' h h' by by' = absurd by

pub one_image : ImagePartsAgree → OneImage
one_image law = λ file logs logs' r r' s d c by by'.
    let a : Answer = s.solution.answer in
    let a' : Answer = d.solved.solution.answer in
    let same : image_part file a ≡ image_part file a' =
    parts_agree law file c a a' s.right.accepts.right d.solved.right.accepts.right by by' in (
      flat_map line_text (image_part file a),
      has_front file a r.text s.report,
      subst (λ (ls : List (List (List ℕ))). HasFront (flat_map line_text ls) r'.text) (sym same)
          (has_front file a' r'.text d.solved.report),
    )
