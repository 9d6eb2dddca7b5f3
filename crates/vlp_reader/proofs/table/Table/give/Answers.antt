use Rattle.std.proofs.Common.{◌&&◌, ◌==◌, ◌+◌, if◌then◌else◌, Some, is_some, ap, sym, ◌∙◌}
use Rattle.std.specs.BTreeMap.{btree_map_len}
use Rattle.exact_field.specs.Rational.{ℚ}
use Rattle.vlp_problem.specs.Cells.{is_within}
use Rattle.vlp_reader.specs.Grammar.{number_value}
use Rattle.vlp_reader.specs.Places.{given}
use Rattle.vlp_reader.proofs.Tables.{given_more, within_insert, entry_passes}
use Rattle.vlp_reader.proofs.table.Table.give.Goals as goal

pub invariant_of-self-2 : goal.invariant_of-self-2
invariant_of-self-2 c =
    let table = c.args.self.now in
    record {
      within = within_insert c.insert.result table.cells c.insert.new.self table.rows table.cols c.args.row c.args.col c.in_ok-number.field-0
          c.insert.ensures.updates c.insert.ensures.err (sym c.if-not-is_place.ensures) table.within;
    }

pub returns-clause-given : goal.returns-clause-given
returns-clause-given c =
    let table = c.args.self.now in
    let row = c.args.row in
    let col = c.args.col in
    let v = c.in_ok-number.field-0 in (
      entry_passes (is_within table.rows table.cols row col) c.args.number v (given table.cells row col) (sym c.if-not-is_place.ensures) c.in_ok-number.was
          (ap is_some (sym c.in_ok-before.ensures.old) ∙ sym c.if-is_some.ensures),
      record {
        values = λ i j. given_more table.cells c.insert.new.self row col v c.in_ok-before.ensures.updates.0 i j
            ∙ ap (λ (q : ℚ). if i == row && j == col then Some q else given table.cells i j) (sym (ap number_value c.in_ok-number.was));
        count = c.in_ok-before.ensures.len ∙ ap (λ b. btree_map_len table.cells + (if b then 0 else 1)) (sym c.if-is_some.ensures);
      },
    )
