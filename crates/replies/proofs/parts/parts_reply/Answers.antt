use Rattle.std.proofs.Common.{rules, ◌∙◌}
use Rattle.poly_calc.specs.Sets.{HasFeasible}
use Rattle.replies.proofs.SetsTold.{first_told, second_told_of}
use Rattle.replies.proofs.parts.parts_reply.Goals as goal

pub returns-in-Some-clause-some : goal.returns-in-Some-clause-some
returns-in-Some-clause-some c = λ r same.
    first_told c.args.a.now c.args.b.now r (c.in_ok-reply.ensures.some r (c.in-Some.is ∙ same))

pub returns-clause-some : goal.returns-clause-some
returns-clause-some c =
    let first : HasFeasible c.args.a.now = search rules in
    second_told_of c.args.a.now c.args.b.now first c.part_reply-2.result c.part_reply-2.ensures.some
