use Rattle.std.proofs.Common.{◌∙◌, ap, sym, take, map}
use Rattle.tableaux.proofs.Ends.{ends_are_right}
use Rattle.lin_rows.specs.System.{system_of}
use Rattle.exact_simplex.proofs.Programs.{system_ok, equation_count_is}
use Rattle.exact_simplex.proofs.EndsRead.{optimal_read}
use Rattle.exact_simplex.proofs.reading.read_optimal.Goals as goal

pub returns-clause-read_off : goal.returns-clause-read_off
returns-clause-read_off g c =
    let value = g.F.Field.value in
    let p = c.args.system.now in
    let s = system_of value p in
    let t = c.args.tableau.now in
    let columns = c.in_ok-basis.ensures ∙ ap (λ k. take k t.basis) (sym (equation_count_is value p c.requires.lengths)) in
    (t.table, optimal_read value s t c.in_ok-basis.basis columns (map value c.in_ok-x.x) (map value c.in_ok-dual.dual) c.requires.feasible c.requires.best c.in_ok-x.ensures c.in_ok-dual.ensures)

pub returns-clause-certified : goal.returns-clause-certified
returns-clause-certified g c =
    let value = g.F.Field.value in
    let p = c.args.system.now in
    let read = returns-clause-read_off g c in
    ends_are_right.optimal (system_of value p) c.in_ok-basis.basis read.0 (map value c.in_ok-x.x) (map value c.in_ok-dual.dual) (system_ok value p c.requires.lengths) read.1
