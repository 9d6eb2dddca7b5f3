use Rattle.std.proofs.Common.{rules}
use Rattle.replies.specs.Calculus.{SizesFit}
use Rattle.replies.proofs.SetsTold.{meet_told}
use Rattle.replies.proofs.joined.meet_reply.Goals as goal

pub returns : goal.returns
returns c =
    let fit : SizesFit c.args.a.now c.args.b.now = search rules in
    meet_told c.args.a.now c.args.b.now c.in_ok-made.made fit c.in_ok-made.ensures.layout
    c.in_ok-made.ensures.set c.describe.result c.describe.ensures
