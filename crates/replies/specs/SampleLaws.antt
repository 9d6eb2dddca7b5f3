-- What is proved of sample files.
use Rattle.std.specs.Prelude.{◌≡◌, ℕ, List}
use Rattle.exact_field.specs.Rational.{ℚ}
use Rattle.polyhedra.specs.Vectors.{zeros}
use Rattle.vlp_reader.specs.FirstFault.{Reads}
use Rattle.vlp_problem.specs.Sides.{IsFeasible, IsRecession}
use Rattle.vlp_problem.specs.declared.problem.Problem.{Problem}
use Rattle.vlp_problem.specs.declared.problem.Cone.TheVariants.{Orthant}
use Rattle.vlp_printer.specs.Printing.{problem_text}
use Rattle.log_rules.specs.Right.{IsRight}
use Rattle.log_rules.specs.declared.answer.Answer.{Answer}
use Rattle.replies.specs.Sample.{IsSample}
use Rattle.replies.specs.Summary.{IsSolved}

-- the text of a sample file reads as this file
abbrev pub SamplesRead : Type 0
SamplesRead = (number : ℕ) (file : Problem) → IsSample number file → Reads (problem_text file) file

-- no direction but 0 leads on for ever in the feasible set
abbrev pub IsBounded : Problem → Type 0
IsBounded file = (x : List ℚ) → IsRecession file x → x ≡ zeros file.cols

-- the right answer of a file with a bounded feasible set that is not empty, and the orthant as
-- ordering cone, lists its image, which has no line
abbrev pub BoundedAreSolved : Type 0
BoundedAreSolved = (file : Problem) (x : List ℚ) (answer : Answer) → file.cone ≡ Orthant → IsFeasible file x → IsBounded file →
    IsRight file answer → IsSolved answer

-- and so does that of a sample file
abbrev pub SamplesAreSolved : Type 0
SamplesAreSolved = (number : ℕ) (file : Problem) (answer : Answer) → IsSample number file → IsRight file answer → IsSolved answer
