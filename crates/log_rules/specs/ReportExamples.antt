-- Worked reports, one of each kind of answer, line by line.
use Rattle.std.specs.Prelude.{◌≡◌, ℕ, List, [], ◌∷◌, map, codes, pos}
use Rattle.exact_field.specs.Rational.{fraction}
use Rattle.src_sink.specs.Texts.{words_text}
use Rattle.vlp_problem.specs.declared.problem.Problem.{Problem}
use Rattle.vlp_problem.specs.declared.problem.Bound.TheVariants.{Unsaid, Lower}
use Rattle.deriv_log.specs.declared.entry.Entry.{Entry}
use Rattle.log_rules.specs.Examples.{Parts, Says, n, at, half, minus_one, empty, one, line_file, line_log, largest}
use Rattle.log_rules.specs.Proves.{PlainProves}
use Rattle.log_rules.specs.Report.{report_lines}
use Rattle.log_rules.specs.declared.answer.Answer.{Answer}
use Rattle.log_rules.specs.declared.answer.Answer.TheVariants.{Infeasible, Whole, Solved}

-- a file that says this, for which the report of the answer has these lines
pub record Reports (parts : Parts) (answer : Answer) (lines : List (List ℕ)) : Type 0 where
  pub file : Problem
  pub says : Says file parts
  pub lines_are : map words_text (report_lines file answer) ≡ lines

-- a file that says this, for which the log proves the answer
pub record Shows (parts : Parts) (log : List Entry) (answer : Answer) : Type 0 where
  pub file : Problem
  pub says : Says file parts
  pub proves : PlainProves file log answer

-- x1 + x2 ≤ 1 and x ≥ 0, maximised: two points, two directions, three facets
abbrev pub largest_answer : Answer
largest_answer = Solved (n 1 ∷ n 1 ∷ []) []
    (record { y = n 0 ∷ n 1 ∷ []; pre = at 2 (n 1) ∷ [] } ∷ record { y = n 1 ∷ n 0 ∷ []; pre = at 1 (n 1) ∷ [] } ∷ [])
    (record { y = minus_one ∷ n 0 ∷ []; pre = [] } ∷ record { y = n 0 ∷ minus_one ∷ []; pre = [] } ∷ [])
    (record { w = n 0 ∷ n 1 ∷ []; gamma = n 1; u = at 1 (n 1) ∷ at 2 (n 1) ∷ []; tight = 1 ∷ 3 ∷ [] }
    ∷ record { w = half ∷ half ∷ []; gamma = half; u = at 1 half ∷ []; tight = 1 ∷ 2 ∷ [] }
    ∷ record { w = n 1 ∷ n 0 ∷ []; gamma = n 1; u = at 1 (n 1) ∷ at 3 (n 1) ∷ []; tight = 2 ∷ 4 ∷ [] } ∷ [])

-- its report
abbrev pub largest_report : List (List ℕ)
largest_report =
    codes "report 1" ∷ codes "answer solved" ∷ codes "free 0 0" ∷ codes "c 1 1"
    ∷ codes "points 2" ∷ codes "1 0 1" ∷ codes "1 1 0"
    ∷ codes "directions 2" ∷ codes "0 -1 0" ∷ codes "0 0 -1"
    ∷ codes "facets 3" ∷ codes "f 0 1 1" ∷ codes "f 1/2 1/2 1/2" ∷ codes "f 1 0 1"
    ∷ codes "dual 3" ∷ codes "1 0 1" ∷ codes "1 1/2 1/2" ∷ codes "1 1 1" ∷ codes "0 0 1"
    ∷ codes "incidence 3" ∷ codes "n 2 1 3" ∷ codes "n 2 1 2" ∷ codes "n 2 2 4"
    ∷ codes "witnesses" ∷ codes "x 1 2 1" ∷ codes "x 1 1 1" ∷ codes "r 0" ∷ codes "r 0"
    ∷ codes "u 2 1 1 2 1" ∷ codes "u 1 1 1/2" ∷ codes "u 2 1 1 3 1" ∷ []

-- one variable of at least 3/2
abbrev pub bounded_answer : Answer
bounded_answer = Solved (n 1 ∷ []) []
    (record { y = fraction (pos 3) 2 ∷ []; pre = at 1 (fraction (pos 3) 2) ∷ [] } ∷ [])
    (record { y = n 1 ∷ []; pre = [] } ∷ [])
    (record { w = n 1 ∷ []; gamma = fraction (pos 3) 2; u = at 1 (n 1) ∷ []; tight = 1 ∷ [] } ∷ [])

-- its report
abbrev pub bounded_report : List (List ℕ)
bounded_report =
    codes "report 1" ∷ codes "answer solved" ∷ codes "free 0 0" ∷ codes "c 1"
    ∷ codes "points 1" ∷ codes "1 3/2" ∷ codes "directions 1" ∷ codes "0 1" ∷ codes "facets 1" ∷ codes "f 1 3/2"
    ∷ codes "dual 1" ∷ codes "1 3/2" ∷ codes "0 -1" ∷ codes "incidence 1" ∷ codes "n 1 1"
    ∷ codes "witnesses" ∷ codes "x 1 1 3/2" ∷ codes "r 0" ∷ codes "u 1 1 1" ∷ []

-- a free variable and one of at least 0: a line
abbrev pub line_answer : Answer
line_answer = Solved (n 1 ∷ n 1 ∷ []) (record { d = n 1 ∷ n 0 ∷ []; ray = at 1 (n 1) ∷ []; back = at 1 minus_one ∷ [] } ∷ [])
    (record { y = n 0 ∷ n 0 ∷ []; pre = [] } ∷ [])
    (record { y = n 0 ∷ n 1 ∷ []; pre = [] } ∷ [])
    (record { w = n 0 ∷ n 1 ∷ []; gamma = n 0; u = at 1 (n 1) ∷ []; tight = 1 ∷ [] } ∷ [])

-- its report
abbrev pub line_report : List (List ℕ)
line_report =
    codes "report 1" ∷ codes "answer solved" ∷ codes "free 0 0" ∷ codes "c 1 1"
    ∷ codes "lines 1" ∷ codes "l 1 0"
    ∷ codes "points 1" ∷ codes "1 0 0" ∷ codes "directions 1" ∷ codes "0 0 1" ∷ codes "facets 1" ∷ codes "f 0 1 0"
    ∷ codes "dual 1" ∷ codes "1 0 0" ∷ codes "0 0 -1" ∷ codes "incidence 1" ∷ codes "n 1 1"
    ∷ codes "witnesses" ∷ codes "r 1 1 1" ∷ codes "r 1 1 -1" ∷ codes "x 0" ∷ codes "r 0" ∷ codes "u 1 1 1" ∷ []

-- these reports, and those of an image that is everything and of a file without a feasible point; a
-- log proves the answer with a line
pub record WorkedReports : Type 0 where
  pub solved : Reports largest largest_answer largest_report
  pub one_objective : Reports (one (Lower (fraction (pos 3) 2))) bounded_answer bounded_report
  pub line : Reports line_file line_answer line_report
  pub line_shown : Shows line_file line_log line_answer
  pub everything : Reports (one Unsaid) (Whole (n 1 ∷ []) [] (at 1 minus_one ∷ []))
      (codes "report 1" ∷ codes "answer whole" ∷ codes "free 0 1" ∷ codes "c 1" ∷ codes "witnesses" ∷ codes "x 0" ∷ codes "r 1 1 -1" ∷ [])
  pub no_solution : Reports empty (Infeasible (at 1 (n 1) ∷ at 2 (n 1) ∷ []))
      (codes "report 1" ∷ codes "answer infeasible" ∷ codes "free 0 0" ∷ codes "witnesses" ∷ codes "u 2 1 1 2 1" ∷ [])
