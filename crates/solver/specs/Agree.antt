-- That both ways to solve a problem tell one image.
use Rattle.std.specs.Prelude.{◌≡◌, ℕ, Bool, List, [], ◌∷◌, ◌++◌, codes}
use Rattle.src_sink.specs.Texts.{line_text}
use Rattle.exact_field.specs.Rational.{ℚ}
use Rattle.vlp_problem.specs.declared.problem.Problem.{Problem}
use Rattle.log_rules.specs.declared.answer.Answer.{Answer}
use Rattle.log_rules.specs.declared.answer.Answer.TheVariants as answer
use Rattle.commands.specs.declared.reply.Reply.{Reply}
use Rattle.solver.specs.Replies.{DualSolved, Solved}

-- the answer tells an image by this duality vector
abbrev pub TellsImageBy : List ℚ → Answer → Type 0
TellsImageBy c (answer.Solved c' ls points directions facets) = c' ≡ c
TellsImageBy c _ = ⊥

-- a text has this front, then the line `witnesses`, and then more
pub record HasFront (front text : List ℕ) : Type 0 where
  pub rest : List ℕ
  pub is : text ≡ front ++ (line_text (codes "witnesses" ∷ []) ++ rest)

-- where both tell an image by the same duality vector, their texts are equal up to the witnesses
abbrev pub OneImage : Type 0
OneImage = (file : Problem) (logs logs' : Bool) (r r' : Reply)
    (s : Solved logs file r) (d : DualSolved logs' file r') (c : List ℚ) →
    TellsImageBy c s.solution.answer → TellsImageBy c d.solved.solution.answer →
    (front : List ℕ) × HasFront front r.text × HasFront front r'.text
