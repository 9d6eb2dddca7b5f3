use Rattle.std.proofs.Common.{◌++◌, ap, ◌∙◌}
use Rattle.rep_text.specs.RepText.{kind_name}
use Rattle.rep_text.proofs.RepByLine.{row_put}
use Rattle.rep_text.proofs.writer.put_row.Goals as goal

pub returns : goal.returns
returns c =
    let row = c.args.row.now in
    row_put c.args.into.now (kind_name row.kind) c.append.new.self c.put_items.new.into c.push.new.self row.v c.as_slice.result.now
    (c.in_ok-append.ensures.ok ∙ ap (λ r. c.args.into.now ++ r) c.kind_name.ensures) c.as_slice.ensures.items c.in_ok-put_items.ensures c.in_ok-push.ensures.ok
