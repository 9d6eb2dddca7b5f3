use Rattle.std.proofs.Common.{rules, List, sym, subst}
use Rattle.deriv_log.specs.Formed.{IsLog}
use Rattle.deriv_log.specs.declared.entry.Entry.{Entry}
use Rattle.log_rules.specs.Proves.{AllMeet}
use Rattle.overflows.specs.Trails.{IsBaseTrail}
use Rattle.overflows.proofs.Formed.{sparse_written}
use Rattle.outer_approx.proofs.Built.{infeasible_is_log, infeasible_meets, infeasible_trail}
use Rattle.outer_approx.proofs.unstarted.infeasible_log.Goals as goal

pub returns-clause-entries : goal.returns-clause-entries
returns-clause-entries c = search rules

pub returns-clause-log : goal.returns-clause-log
returns-clause-log c = λ rises.
    subst (λ (es : List Entry). IsLog es) (sym (returns-clause-entries c))
    (infeasible_is_log c.args.u (sparse_written c.args.u c.as_slice.result.now c.as_slice.ensures.items c.as_slice.ensures.bound c.spots_are_written.ensures rises))

pub returns-clause-meet : goal.returns-clause-meet
returns-clause-meet c = λ file h.
    subst (λ (es : List Entry). AllMeet file es) (sym (returns-clause-entries c)) (infeasible_meets file c.args.u h)

pub returns-clause-base : goal.returns-clause-base
returns-clause-base c = λ file d weights h read.
    subst (λ (es : List Entry). IsBaseTrail file d weights es) (sym (returns-clause-entries c)) (infeasible_trail file d weights c.args.u h read)
