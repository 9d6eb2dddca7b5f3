-- What `project` and `associate` reply of a problem.
use Rattle.std.specs.Prelude.{◌≡◌, ◌⊎◌, ℕ, ◌<◌, ◌≤◌, Bool, None}
use Rattle.vlp_problem.specs.declared.problem.Problem.{Problem}
use Rattle.vlp_printer.specs.Printing.{problem_text}
use Rattle.projection.specs.Associated.{IsAssociated}
use Rattle.replies.specs.Described.{Describes, IsDescribable}
use Rattle.commands.specs.Replies.{TellsFault}
use Rattle.commands.specs.declared.reply.Reply.{Reply}
use Rattle.commands.specs.declared.status.Status.TheVariants.{Done, Columns}

-- more columns are asked for than there are
pub record ColumnsWanting (k : ℕ) (file : Problem) (r : Reply) : Type 0 where
  pub status : r.status ≡ Columns k file.cols
  pub above : file.cols < k
  pub told : TellsFault r

-- there are so many, and they are described
pub record Projected (k : ℕ) (file : Problem) (logs : Bool) (r : Reply) : Type 0 where
  pub within : k ≤ file.cols
  pub describes : Describes k file logs r

-- what `project` replies
abbrev pub ProjectVerdict : ℕ → Bool → Problem → Reply → Type 0
ProjectVerdict k logs file r = ColumnsWanting k file r ⊎ Projected k file logs r

-- nothing stands against an answer
pub record IsProjectable (k : ℕ) (file : Problem) : Type 0 where
  pub within : k ≤ file.cols
  pub describable : IsDescribable k file

-- there are so many, and the text is the associated problem, as a file gives it
pub record Associated (k : ℕ) (file : Problem) (r : Reply) : Type 0 where
  pub status : r.status ≡ Done
  pub within : k ≤ file.cols
  pub made : Problem
  pub associated : IsAssociated k file made
  pub text : r.text ≡ problem_text made
  pub no_log : r.log ≡ None

-- what `associate` replies
abbrev pub AssociateVerdict : ℕ → Problem → Reply → Type 0
AssociateVerdict k file r = ColumnsWanting k file r ⊎ Associated k file r
