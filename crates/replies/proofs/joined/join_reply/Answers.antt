use Rattle.std.proofs.Common.{rules}
use Rattle.replies.specs.Calculus.{SizesFit}
use Rattle.replies.specs.Parts.{BothAreFeasible}
use Rattle.replies.proofs.SetsTold.{join_told}
use Rattle.replies.proofs.joined.join_reply.Goals as goal

pub returns : goal.returns
returns c =
    let fit : SizesFit c.args.a.now c.args.b.now = search rules in
    let parts : BothAreFeasible c.args.a.now c.args.b.now = search rules in
    join_told c.args.a.now c.args.b.now c.in_ok-made.made fit parts c.in_ok-made.ensures.layout
    c.in_ok-made.ensures.set c.describe.result c.describe.ensures
