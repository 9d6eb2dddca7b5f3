use Rattle.std.proofs.Common.{sym, arith, ap, length}
use Rattle.std.proofs.lemmas.List.{length-take-le}
use Rattle.lin_rows.specs.System.{system_of}
use Rattle.exact_simplex.proofs.Pivots.{basis_many}
use Rattle.exact_simplex.proofs.Programs.{system_ok, equation_count_is}
use Rattle.exact_simplex.proofs.reading.columns_of.Goals as goal

pub slice_bounds-append-end : goal.slice_bounds-append-end
slice_bounds-append-end g c =
    let value = g.F.Field.value in
    let p = c.args.system.now in
    sym (length-take-le p.rows c.basis.result.now (omega (
      arith,
      ap length c.basis.ensures.basis,
      basis_many value (system_of value p) (system_ok value p c.requires.lengths) c.args.tableau.now c.requires.held,
      equation_count_is value p c.requires.lengths,
    )))
