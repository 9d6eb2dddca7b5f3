use Rattle.std.proofs.Common.{◌≡◌, ◌+◌, ◌∙◌, ap, length, map}
use Rattle.std.specs.List.{list_all}
use Rattle.lin_rows.specs.Lines.{entries}
use Rattle.lp_form.specs.Shapes.{are_places}
use Rattle.program_columns.specs.Columns.{all_columns}
use Rattle.program_columns.specs.Entries.{unit_entries}
use Rattle.program_columns.proofs.Assembled.{all_fit, units_many}
use Rattle.program_columns.proofs.written.assemble.Goals as goal

pub invariant_of-result : goal.invariant_of-result
invariant_of-result g c =
    let value = g.F.Field.value in
    let form = c.args.form.now in
    let units = c.in_ok-units.units in
    let is : entries value units ≡ unit_entries 0 (map value c.args.right) =
    c.in_ok-units.ensures ∙ ap (λ l. unit_entries 0 (map value l)) c.as_slice.ensures.items in
    record {
      unknowns = ap (λ l. length l + length c.args.others) c.as_slice-2.ensures.items
          ∙ c.requires.unknowns;
      artificial = units_many value units c.args.right is;
      places =
          ap (λ l. list_all (are_places (length c.args.right) 0) (all_columns l c.args.others units))
          c.as_slice-2.ensures.items
          ∙ all_fit value form.cols form.sides c.args.others units c.args.right c.requires.equations
          form.side_places c.requires.places is;
    }
