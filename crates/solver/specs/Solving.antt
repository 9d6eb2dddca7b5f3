-- What a solution of a problem is, and why there may be none.
use Rattle.std.specs.Prelude.{Bool, List, Contains, ◌⊎◌}
use Rattle.exact_field.specs.Rational.{ℚ}
use Rattle.frac128.specs.Held.{is_held}
use Rattle.deriv_log.specs.Formed.{IsLog}
use Rattle.word_lines.specs.declared.part.EndKind.TheVariants as kind
use Rattle.deriv_log.specs.declared.entry.Entry.{Entry}
use Rattle.deriv_log.specs.declared.entry.Entry.TheVariants.{End}
use Rattle.deriv_log.specs.declared.licence.Licence.{Licence}
use Rattle.vlp_problem.specs.declared.problem.Problem.{Problem}
use Rattle.cone_rules.specs.Faults.{IsSound, HasFault}
use Rattle.log_rules.specs.Proves.{PlainProves}
use Rattle.cert_check.specs.Verdict.{Accepts}
use Rattle.overflows.specs.Licence.{Licensed, LicensedByCone}
use Rattle.benson_dual.specs.Logs.{AreAllNamed, IsFacetLog}
use Rattle.solver.specs.declared.end.Solution.{Solution}
use Rattle.solver.specs.declared.end.SolveEnd.{SolveEnd}
use Rattle.solver.specs.declared.end.SolveEnd.TheVariants.{Cone, Left, NoMemory}

-- the ordering cone is sound, the entries are a log of which no event fails, and prove the answer,
-- which is right; they are a plain log, without hints or shared vectors
pub record IsSolutionOf (file : Problem) (s : Solution) : Type 0 where
  pub sound : IsSound file
  pub log : IsLog s.entries
  pub accepts : Accepts file s.entries s.answer
  pub plainly : PlainProves file s.entries s.answer

-- the log over the facets, for some duality vector and weights
abbrev pub IsFacetLogAnyhow : (ℚ → Bool) → Problem → List Entry → Type 0
IsFacetLogAnyhow holds file entries = (c weights : List ℚ) × IsFacetLog holds file c weights entries

-- where entries end as solved, they name each of their cuts as a facet
abbrev pub NamesAllCuts : Problem → List Entry → Type 0
NamesAllCuts file entries = Contains entries (End kind.Solved) → AreAllNamed file.objs entries

-- an overflow is licensed by the cone and f alone; or, where the cone is sound, with some duality
-- vector: no operation of the search comes before the cone's
abbrev pub LicensedInOrder : (ℚ → Bool) → Problem → Licence → Type 0
LicensedInOrder holds file licence =
    LicensedByCone holds file licence
    ⊎ (IsSound file × ((c : List ℚ) × Licensed holds file c licence))

-- the first fault of the cone; or an overflow that is licensed; nothing of want of memory
abbrev pub EndsIn : (ℚ → Bool) → Problem → SolveEnd → Type 0
EndsIn holds file (Cone fault) = HasFault file fault
EndsIn holds file (Left licence) = LicensedInOrder holds file licence
EndsIn holds file NoMemory = Unit {0}

-- the same in fractions
abbrev pub EndsSolving : Problem → SolveEnd → Type 0
EndsSolving = EndsIn is_held
