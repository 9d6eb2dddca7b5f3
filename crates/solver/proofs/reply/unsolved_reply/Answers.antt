use Rattle.std.proofs.Common.{subst}
use Rattle.solver.specs.Solving.{EndsSolving}
use Rattle.solver.specs.declared.end.SolveEnd.{SolveEnd}
use Rattle.solver.proofs.Replies.{cone_told, left_told}
use Rattle.solver.proofs.reply.unsolved_reply.Goals as goal

pub returns-in-Cone : goal.returns-in-Cone
returns-in-Cone c = λ file ends.
    cone_told file c.in-Cone.fault c.fault_reply.result (subst (λ (e : SolveEnd). EndsSolving file e) c.in-Cone.is ends)
    c.fault_reply.ensures.status c.fault_reply.ensures.told

pub returns-in-Left : goal.returns-in-Left
returns-in-Left c = λ file ends.
    left_told file c.in-Left.licence c.fault_reply-in-Left.result (subst (λ (e : SolveEnd). EndsSolving file e) c.in-Left.is ends)
    c.fault_reply-in-Left.ensures.held c.fault_reply-in-Left.ensures.status c.fault_reply-in-Left.ensures.told
