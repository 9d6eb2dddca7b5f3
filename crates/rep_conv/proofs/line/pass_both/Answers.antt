use Rattle.std.proofs.Common.{ap, not}
use Rattle.log_live.proofs.Hintings.{first_passes}
use Rattle.rep_conv.proofs.line.pass_both.Goals as goal

pub returns : goal.returns
returns c taken = first_passes c.args.first c.args.second c.args.a c.args.b taken c.pass.result (ap not c.if-not-a.false) (c.pass.ensures taken)
