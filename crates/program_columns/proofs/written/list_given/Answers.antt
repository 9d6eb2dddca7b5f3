use Rattle.std.proofs.Common.{ap}
use Rattle.std.specs.List.{list_all}
use Rattle.lp_form.specs.Shapes.{are_places}
use Rattle.program_columns.specs.Entries.{given_equations, given_row}
use Rattle.program_columns.proofs.Entered.{appended_two}
use Rattle.program_columns.proofs.written.list_given.Goals as goal

pub returns : goal.returns
returns g c =
    let value = g.F.Field.value in
    let form = c.args.form.now in
    let n = given_equations form in
    let first = c.in_ok-push_given.ensures in
    let second = c.in_ok-push_negatives.ensures n in
    record {
      numbers = appended_two value n (given_row value form) c.new-list.result
          c.push_given.new.list c.push_negatives.new.list c.new-list.ensures first second;
      places = second.places (first.places (ap (list_all (are_places n 0)) c.new-list.ensures));
    }
