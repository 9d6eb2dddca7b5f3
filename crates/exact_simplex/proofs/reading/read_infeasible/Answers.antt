use Rattle.std.proofs.Common.{◌∙◌, ap, sym, take, map}
use Rattle.tableaux.proofs.Ends.{ends_are_right}
use Rattle.lin_rows.specs.System.{system_of}
use Rattle.exact_simplex.proofs.Programs.{system_ok, equation_count_is}
use Rattle.exact_simplex.proofs.EndsRead.{infeasible_read}
use Rattle.exact_simplex.proofs.reading.read_infeasible.Goals as goal

pub returns-clause-read_off : goal.returns-clause-read_off
returns-clause-read_off g c =
    let value = g.F.Field.value in
    let p = c.args.system.now in
    let s = system_of value p in
    let t = c.args.tableau in
    let columns = c.in_ok-basis.ensures ∙ ap (λ k. take k t.basis) (sym (equation_count_is value p c.requires.lengths)) in
    (t.table, infeasible_read value s t c.in_ok-basis.basis columns (map value c.in_ok-farkas.farkas) c.requires.primal c.requires.best c.requires.below c.in_ok-farkas.ensures.ok)

pub returns-clause-certified : goal.returns-clause-certified
returns-clause-certified g c =
    let value = g.F.Field.value in
    let p = c.args.system.now in
    let read = returns-clause-read_off g c in
    ends_are_right.infeasible (system_of value p) c.in_ok-basis.basis read.0 (map value c.in_ok-farkas.farkas) (system_ok value p c.requires.lengths) read.1
