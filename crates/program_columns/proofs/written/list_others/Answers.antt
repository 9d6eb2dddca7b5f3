use Rattle.std.proofs.Common.{ap}
use Rattle.std.specs.List.{list_all}
use Rattle.lp_form.specs.Shapes.{are_places}
use Rattle.program_columns.specs.Entries.{benson_equations, row_after_w, weight_row}
use Rattle.program_columns.proofs.Entered.{appended_three}
use Rattle.program_columns.proofs.written.list_others.Goals as goal

pub returns : goal.returns
returns g c =
    let value = g.F.Field.value in
    let form = c.args.form.now in
    let n = benson_equations value form in
    let first = c.in_ok-push_weights.ensures in
    let second = c.in_ok-push_negatives.ensures n in
    let third = c.in_ok-push_after_w.ensures in
    record {
      numbers = appended_three value n (weight_row value form c.args.c.now) (row_after_w value form)
          c.new-list.result c.push_weights.new.list c.push_negatives.new.list c.push_after_w.new.list
          c.new-list.ensures first second third;
      places = third.places (second.places (first.places
          (ap (list_all (are_places n 0)) c.new-list.ensures)));
    }
