use Rattle.rep_conv.proofs.GivenRows.{two_kinds}
use Rattle.rep_conv.proofs.giving.inequality_rows.Goals as goal

pub returns : goal.returns
returns c width s h = record {
  sides = c.in_ok-side_list.side_list;
  sides_are = c.in_ok-side_list.ensures width s c.args.lines.now h;
  all = two_kinds c.new-rows.result c.push_as.new.rows c.push_as-2.new.rows c.args.lines.now c.as_slice.result.now s.lines c.in_ok-side_list.side_list
      c.new-rows.ensures c.in_ok-push_as.ensures c.in_ok-push_as-2.ensures h.lines_are c.as_slice.ensures.items;
}
