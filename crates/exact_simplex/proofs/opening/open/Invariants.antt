use Rattle.exact_simplex.specs.Program.{IsTableauOf}
use Rattle.lin_rows.specs.System.{system_of}
use Rattle.exact_simplex.proofs.Opened.{IsOpened}
use Rattle.exact_simplex.proofs.opening.open.Given as goal

abbrev pub invariant-loop-i : goal.invariant-loop-i
invariant-loop-i g l =
    let s = system_of g.F.Field.value l.system in
    record {
      held : IsTableauOf s l.tableau;
      opened : IsOpened s l.i l.tableau.basis l.tableau.table;
    }
