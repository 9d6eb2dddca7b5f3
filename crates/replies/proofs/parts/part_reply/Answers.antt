use Rattle.std.proofs.Common.{◌≡◌, Err}
use Rattle.overflows.specs.declared.fault.SolveFault.TheVariants.{Left}
use Rattle.replies.proofs.Asked.{setting, stop_of}
use Rattle.replies.proofs.SetsTold.{stop_told}
use Rattle.replies.proofs.parts.part_reply.Goals as goal

pub returns-in-Err-Left-clause-some : goal.returns-in-Err-Left-clause-some
returns-in-Err-Left-clause-some c = λ r same.
    let part = c.args.part.now in
    let told = c.in_ok-reply-in-Err-Left in
    let is : c.feasible_end.result ≡ Err (Left c.in-Err-Left.licence) = cc in
    stop_told c.args.second part told.reply r
    (stop_of part c.feasible_end.result c.in-Err-Left.licence is
    (c.feasible_end.ensures.left (setting part) c.in_ok-form.ensures) c.feasible_end.ensures.place
    told.ensures.held told.reply told.ensures.status told.ensures.told)
    same
