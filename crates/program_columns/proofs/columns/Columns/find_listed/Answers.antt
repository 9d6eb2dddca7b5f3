use Rattle.std.proofs.Common.{◌-◌, ◌∙◌, [], ap, arith, slice_index_or, sym}
use Rattle.std.proofs.lemmas.List.{get_or-map}
use Rattle.exact_field.specs.Rational.{zero_ℚ}
use Rattle.exact_field.specs.Vector.{entry}
use Rattle.tableaux.proofs.Places.{listed-place}
use Rattle.lin_rows.specs.Lines.{entries, sum_at}
use Rattle.program_columns.specs.Program.{spots_at, column_in}
use Rattle.program_columns.proofs.columns.Columns.find_listed.Goals as goal
use Rattle.std.proofs.Common.{length}

pub returns-clause-entries : goal.returns-clause-entries
returns-clause-entries g c = λ j low high.
    let value = g.F.Field.value in
    let p = c.args.self.now in
    let columns = c.args.columns.now in
    let k = c.args.k in
    ap (λ v. entry v j) (get_or-map (column_in value p) columns (k - 1) 0 [] (omega arith))
    ∙ listed-place (length p.right)
    (sum_at (entries value (spots_at p (slice_index_or columns (k - 1) 0)))) j zero_ℚ low high
    ∙ ap (λ spots. sum_at (entries value spots) j) (sym c.column.ensures.spots)
