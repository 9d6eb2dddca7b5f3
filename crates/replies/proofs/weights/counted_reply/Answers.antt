use Rattle.std.proofs.Common.{◌≡◌, ℕ, IfOk, subst}
use Rattle.commands.specs.declared.status.Status.TheVariants.{Weights}
use Rattle.replies.proofs.WeightVerdicts.{counted_told}
use Rattle.replies.proofs.weights.counted_reply.Goals as goal

pub returns : goal.returns
returns c =
    counted_told c.args.weights.now c.args.file.now c.fault_reply.result c.requires
    (subst (λ (n : ℕ). IfOk c.fault_reply.result (λ r. r.status ≡ Weights n c.args.file.now.objs)) c.len.ensures.value c.fault_reply.ensures.status)
    c.fault_reply.ensures.told
