use Rattle.log_rules.specs.Live.{required_pairs}
use Rattle.log_rules.specs.LiveEvents.{same_pairs}
use Rattle.log_rules.specs.declared.rule.Rule.TheVariants as rule
use Rattle.entry_checks.proofs.Going.{test-as}
use Rattle.log_live.specs.Live.{live_of}
use Rattle.log_live.proofs.asking.test_pairs.Goals as goal

pub returns-in-Ok : goal.returns-in-Ok
returns-in-Ok c q rows row taken a =
    test-as rule.Pairs c.in-Ok.asked
    (same_pairs c.args.pairs.now (required_pairs rows (live_of c.args.generators.now) row)) taken
    c.pass.result
    (c.in-Ok.ensures q rows row a) (c.pass.ensures taken)
