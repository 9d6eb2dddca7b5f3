-- How far reading has come, and how it ends.
use Rattle.std.specs.Prelude.{◌≡◌, ℕ, ◌+◌, ◌≤◌, Bool, false, List, [], ◌∷◌, ◌++◌, length, map, Option, None, Some, unwrap_or, Result, MatchResult}
use Rattle.std.specs.List.{list_any}
use Rattle.vlp_reader.specs.Drafts.{Has, HasRead}
use Rattle.vlp_reader.specs.FirstFault.{FirstFault, Passes, is_end, ends}
use Rattle.vlp_reader.specs.Grammar.{first_given, given_sizes, closing_fault, line_fault, statement_fault, formed, Gives}
use Rattle.vlp_reader.specs.Lines.{lines_of}
use Rattle.vlp_reader.specs.Statements.{statement_on, statement_of}
use Rattle.vlp_reader.specs.Ends.{ComesFrom}
use Rattle.vlp_reader.specs.declared.draft.Draft.{Draft}
use Rattle.vlp_reader.specs.declared.fault.LineEnd.{LineEnd}
use Rattle.vlp_reader.specs.declared.fault.VlpEnd.{VlpEnd}
use Rattle.vlp_reader.specs.declared.fault.VlpEnd.TheVariants.{Fault, NoMemory}
use Rattle.vlp_problem.specs.declared.problem.Problem.{Problem}
use Rattle.vlp_reader.specs.declared.sizes.Sizes.{Sizes}
use Rattle.vlp_reader.specs.declared.statement.Statement.{Statement}
use Rattle.vlp_reader.specs.declared.statement.Statement.TheVariants.{Silent}

-- what taking the words of a line after the sizes does
pub record TakesWords (kind : ℕ) (words : List (List ℕ)) (earlier : List Statement) (old new : Draft) (ended : Bool) : Type 0 where
  pub passes : formed (statement_of kind words) (statement_fault earlier old.sizes) ≡ None
  pub has : Has new (earlier ++ unwrap_or (statement_of kind words) Silent ∷ [])
  pub end : ended ≡ is_end (unwrap_or (statement_of kind words) Silent)

-- what taking a line does, after lines that say these statements
pub record TakesLine (line : List ℕ) (earlier : List Statement) (new : Option Draft) (ended : Bool) : Type 0 where
  pub passes : line_fault earlier line ≡ None
  pub has : HasRead new (earlier ++ statement_on line ∷ [])
  pub end : ended ≡ ends line

-- statements give this problem, and pass the tests after the last line
pub record Closes (statements : List Statement) (problem : Problem) : Type 0 where
  pub passes : closing_fault (first_given given_sizes statements) statements ≡ None
  pub sizes : Sizes
  pub given : first_given given_sizes statements ≡ Some sizes
  pub gives : Gives statements sizes problem

-- the problem that the statements give, or the first test after the last line that they fail
abbrev pub ClosesOr : List Statement → Result Problem LineEnd → Type 0
ClosesOr statements result = MatchResult result (Closes statements) (ComesFrom (closing_fault (first_given given_sizes statements) statements))

-- the lines so far, which have no fault and no `e` line among them; the draft has what they give
pub record HasCome (bytes rest : List ℕ) (number : ℕ) (draft : Option Draft) : Type 0 where
  pub done : List (List ℕ)
  pub lines : lines_of bytes ≡ done ++ lines_of rest
  pub unended : list_any ends done ≡ false
  pub pass : Passes done (length done)
  pub has : HasRead draft (map statement_on done)
  pub count : number ≡ length done
  pub within : number + length rest ≤ length bytes

-- why no problem was read
abbrev pub EndsReading : List ℕ → VlpEnd → Type 0
EndsReading bytes (Fault f) = FirstFault bytes f.line f.kind
EndsReading bytes NoMemory = Unit {0}
