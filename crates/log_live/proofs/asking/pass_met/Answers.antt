use Rattle.log_rules.specs.declared.rule.Rule.TheVariants as rule
use Rattle.log_live.proofs.Hintings.{first_passes}
use Rattle.log_live.proofs.asking.pass_met.Goals as goal

pub returns : goal.returns
returns c taken = first_passes rule.Pairs rule.Hint c.args.met.listed c.args.met.hinted taken
    c.pass.result c.if-not-met.false (c.pass.ensures taken)
