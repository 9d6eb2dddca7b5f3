-- What `sample` says of the sample file of a number.
use Rattle.std.specs.Prelude.{◌≡◌, ◌⊎◌, ℕ, None}
use Rattle.frac128.specs.Held.{is_held}
use Rattle.vlp_reader.specs.FirstFault.{Reads}
use Rattle.vlp_problem.specs.declared.problem.Problem.{Problem}
use Rattle.vlp_printer.specs.Printing.{problem_text}
use Rattle.deriv_log.specs.declared.licence.Licence.{Licence}
use Rattle.replies.specs.Sample.{IsSample}
use Rattle.replies.specs.Summary.{Sums}
use Rattle.solver.specs.Replies.{Overflowed}
use Rattle.solver.specs.Solving.{IsSolutionOf, LicensedInOrder}
use Rattle.solver.specs.declared.end.Solution.{Solution}
use Rattle.commands.specs.Told.{CanBeTold}
use Rattle.commands.specs.declared.reply.Reply.{Reply}
use Rattle.commands.specs.declared.status.Status.TheVariants.{Done}

-- there are the sample file, as which its text reads, and a log's entries and an answer, which
-- solve it: the answer lists its image, the text is the summary of the lists, and there is no log
pub record SampleSolved (number : ℕ) (r : Reply) : Type 0 where
  pub status : r.status ≡ Done
  pub file : Problem
  pub sample : IsSample number file
  pub reads : Reads (problem_text file) file
  pub solution : Solution
  pub right : IsSolutionOf file solution
  pub summary : Sums number solution.answer r.text
  pub no_log : r.log ≡ None

-- an overflow is licensed for the sample file
pub record SampleOverflowed (number : ℕ) (r : Reply) : Type 0 where
  pub file : Problem
  pub sample : IsSample number file
  pub overflow : Overflowed file r

-- what is told of the sample file of a number
abbrev pub SampleVerdict : ℕ → Reply → Type 0
SampleVerdict number r = SampleSolved number r ⊎ SampleOverflowed number r

-- no overflow that can be told is licensed for the sample file
abbrev pub IsSampleHeld : ℕ → Type 0
IsSampleHeld number = (file : Problem) → IsSample number file →
    (l : Licence) → CanBeTold l → LicensedInOrder is_held file l → ⊥
