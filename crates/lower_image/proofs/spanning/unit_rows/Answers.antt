use Rattle.std.proofs.Common.{◌≡◌, ◌+◌, ap, sym, ◌∙◌, length, map, List}
use Rattle.std.proofs.lemmas.List.{length-map}
use Rattle.exact_field.specs.Rational.{ℚ}
use Rattle.tableaux.specs.Table.{unit}
use Rattle.lin_rows.proofs.Lists.{mapped_more}
use Rattle.lp_form.proofs.Systems.{length-unit}
use Rattle.lower_image.proofs.spanning.unit_rows.Goals as goal

pub push_row-requires : goal.push_row-requires
push_row-requires g c =
    ap length c.as_slice.ensures.items ∙ sym (length-map c.in_ok-unit.unit g.F.Field.value) ∙ ap length c.in_ok-unit.ensures
    ∙ length-unit c.args.q (c.loop-i.i + 1) ∙ sym c.loop-i.invariant.width

pub loop-i-preserved : goal.loop-i-preserved
loop-i-preserved g c =
    let value = g.F.Field.value in
    record {
      width = c.in_ok-push_row.ensures.width ∙ c.loop-i.invariant.width;
      list = mapped_more (map value) c.loop-i.rows.list c.push_row.new.self.list c.as_slice.result.now c.loop-i.i (unit c.args.q) c.in_ok-push_row.ensures.ok
          c.loop-i.invariant.list (ap (map value) c.as_slice.ensures.items ∙ c.in_ok-unit.ensures);
    }
