use Rattle.std.proofs.Common.{subst}
use Rattle.rep_conv.specs.Checked.{IsRefusal}
use Rattle.replies.proofs.Entries.{left_within, wrong_within}
use Rattle.replies.proofs.ConversionsTold.{step_told}
use Rattle.replies.proofs.checking.refusal_reply.Goals as goal

pub number_in-entry-requires : goal.number_in-entry-requires
number_in-entry-requires c =
    wrong_within c.args.rep.now c.args.log.now c.args.refusal c.in-Wrong.entry c.in-Wrong.rule
    c.in-Wrong.is c.requires.refusal

pub number_in-entry-requires-in-Left : goal.number_in-entry-requires-in-Left
number_in-entry-requires-in-Left c =
    left_within c.args.rep.now c.args.log.now c.args.refusal c.in-Left.entry c.in-Left.step
    c.in-Left.left c.in-Left.is c.requires.refusal

pub returns-in-Left : goal.returns-in-Left
returns-in-Left c =
    step_told c.args.rep.now c.args.log.now c.requires.whole c.in-Left.entry _ c.in-Left.step
    c.in-Left.left c.step_reply.result c.number_in-entry-in-Left.ensures
    (subst (IsRefusal c.args.rep.now c.args.log.now) c.in-Left.is c.requires.refusal) c.step_reply.ensures
