use Rattle.replies.proofs.Drawing.{three_rows}
use Rattle.replies.proofs.file.objectives.Goals as goal

pub returns : goal.returns
returns c = three_rows c.args.number c.args.cols _ _ _ _ _ _ c.new-cells.ensures c.in_ok-second.ensures.state c.in_ok-third.ensures.state
    c.in_ok-second.ensures.cells c.in_ok-third.ensures.cells c.in_ok-put_objective.ensures.cells
