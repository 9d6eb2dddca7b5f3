use Rattle.std.proofs.Common.{◌∷◌, [], codes}
use Rattle.sol_writer.proofs.Written.{report_written}
use Rattle.projection.specs.Text.{head_lines, set_lines, witness_lines}
use Rattle.projection.proofs.text.projection_text.Goals as goal

pub returns : goal.returns
returns c = report_written (head_lines c.args.k c.args.found.now) (set_lines c.args.found.now) (codes "witnesses" ∷ [])
    (witness_lines c.args.found.now) (rw c.new-text.ensures at c.in_ok-put_head.ensures) c.in_ok-put_set.ensures c.in_ok-append.ensures.ok c.in_ok-put_witnesses.ensures
