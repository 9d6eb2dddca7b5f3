use Rattle.std.proofs.Common.{refl}
use Rattle.weighing.proofs.ProvedSets.{proved_are_weight_sets}
use Rattle.replies.proofs.weights.told_reply.Goals as goal

pub returns : goal.returns
returns c = λ file right.
    let solution = c.args.solution.now in
    record {
      status = refl;
      solution = solution;
      right = right;
      sets = proved_are_weight_sets file solution.entries solution.answer right.plainly;
      text = c.in_ok-weights_text.ensures;
      no_log = refl;
    }
