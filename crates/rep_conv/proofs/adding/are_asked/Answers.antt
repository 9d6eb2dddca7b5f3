use Rattle.log_live.specs.Adding.{AreAtPairs}
use Rattle.log_live.proofs.PairCounts.{rising_of}
use Rattle.rep_conv.proofs.Between.{many}
use Rattle.rep_conv.proofs.adding.are_asked.Goals as goal

pub has_pairs-requires-clause-values : goal.has_pairs-requires-clause-values
has_pairs-requires-clause-values c = many c.requires.0 c.requires.1 c.requires.2 c.args.generators.now c.args.values.now c.requires.3 c.requires.4

pub returns : goal.returns
returns c width rows row a at_row =
    let rising = rising_of c.args.generators.now a.rises in
    let d : AreAtPairs width c.least_common-least.result rows c.args.generators.now = record {
      next = rising.0;
      rising = rising.1;
      described = a.described;
      tight = a.tight;
      least_is = c.least_common-least.ensures width rows a.described;
    } in
    c.has_pairs.ensures width rows row d at_row
