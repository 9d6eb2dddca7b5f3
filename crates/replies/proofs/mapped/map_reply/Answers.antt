use Rattle.std.proofs.Common.{◌≤◌, arith}
use Rattle.replies.proofs.SetsTold.{map_told}
use Rattle.replies.proofs.mapped.map_reply.Goals as goal

pub returns : goal.returns
returns c =
    let few : c.args.a.now.objs ≤ 19 = omega arith in
    map_told c.args.a.now c.in_ok-made.made few c.in_ok-made.ensures.layout
    c.in_ok-made.ensures.set c.describe.result c.describe.ensures
