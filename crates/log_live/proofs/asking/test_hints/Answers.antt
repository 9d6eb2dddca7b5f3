use Rattle.log_rules.specs.declared.rule.Rule.TheVariants as rule
use Rattle.log_live.proofs.asking.test_hints.Goals as goal
use Rattle.log_live.proofs.Hintings.{two_tests}

pub returns-in-Ok : goal.returns-in-Ok
returns-in-Ok c q rows row taken a =
    two_tests rule.Pairs rule.Hint c.in-Ok.met.listed c.in-Ok.met.hinted _ _ taken c.pass_met.result
    (c.in-Ok.ensures.listed q rows row a) (c.in-Ok.ensures.hinted q rows row a)
    (c.pass_met.ensures taken)
