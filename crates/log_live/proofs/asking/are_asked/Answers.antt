use Rattle.log_live.proofs.PairCounts.{at_pairs}
use Rattle.log_live.proofs.asking.are_asked.Goals as goal

pub returns : goal.returns
returns c q rows row a =
    c.has_pairs.ensures q rows row
    (at_pairs q c.least_common-least.result rows row c.args.generators.now c.args.values.now a
    (c.least_common-least.ensures q rows a.described)) a.at_row
