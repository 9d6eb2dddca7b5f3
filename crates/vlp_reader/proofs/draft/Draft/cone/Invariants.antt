use Rattle.std.proofs.Common.{◌≡◌, map}
use Rattle.vlp_problem.specs.Sides.{numbers_from}
use Rattle.vlp_reader.specs.Tables.{table_column}
use Rattle.vlp_reader.proofs.draft.Draft.cone.Given as goal

abbrev pub invariant-loop-before : goal.invariant-loop-before
invariant-loop-before l = l.vectors ≡ map (table_column l.self.vectors) (numbers_from 1 l.before)
