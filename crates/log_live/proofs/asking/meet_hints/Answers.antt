use Rattle.std.proofs.Common.{◌∙◌, sym}
use Rattle.log_live.specs.Adding.{AreAtPairs}
use Rattle.log_live.specs.Live.{live_of}
use Rattle.log_versions.specs.Walk.{Decides}
use Rattle.log_versions.proofs.Walked.{walk_decides}
use Rattle.log_live.proofs.PairCounts.{at_pairs}
use Rattle.log_live.proofs.asking.meet_hints.Goals as goal

pub returns-clause-listed : goal.returns-clause-listed
returns-clause-listed c q rows row a =
    let d : AreAtPairs q c.least_common-least.result rows c.args.generators.now =
    at_pairs q c.least_common-least.result rows row c.args.generators.now c.args.values.now a
    (c.least_common-least.ensures q rows a.described) in
    c.in_ok-met.ensures.listed q rows row d a.at_row
    ∙ (walk_decides rows (record { live = live_of c.args.generators.now; next = d.next }) row
    c.args.pairs.now c.args.hints.now d.rising).listed

pub returns-clause-hinted : goal.returns-clause-hinted
returns-clause-hinted c q rows row a h =
    let d : AreAtPairs q c.least_common-least.result rows c.args.generators.now =
    at_pairs q c.least_common-least.result rows row c.args.generators.now c.args.values.now a
    (c.least_common-least.ensures q rows a.described) in
    let decided : Decides rows (live_of c.args.generators.now) row c.args.pairs.now
    c.args.hints.now =
    walk_decides rows (record { live = live_of c.args.generators.now; next = d.next }) row
    c.args.pairs.now c.args.hints.now d.rising in
    c.in_ok-met.ensures.hinted q rows row d a.at_row h
    ∙ decided.hinted (sym (c.in_ok-met.ensures.listed q rows row d a.at_row) ∙ h)
