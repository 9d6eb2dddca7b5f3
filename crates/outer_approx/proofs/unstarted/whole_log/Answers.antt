use Rattle.std.proofs.Common.{rules, List, sym, subst}
use Rattle.deriv_log.specs.Formed.{IsLog}
use Rattle.deriv_log.specs.declared.entry.Entry.{Entry}
use Rattle.log_rules.specs.Proves.{AllMeet}
use Rattle.overflows.specs.Trails.{IsBaseTrail}
use Rattle.overflows.proofs.Formed.{sparse_written}
use Rattle.outer_approx.proofs.Built.{whole_is_log, whole_meets, whole_trail}
use Rattle.outer_approx.proofs.unstarted.whole_log.Goals as goal

pub returns-clause-entries : goal.returns-clause-entries
returns-clause-entries c = search rules

pub returns-clause-log : goal.returns-clause-log
returns-clause-log c = λ d weights picks inverse same x_rises ray_rises m_rises.
    subst (λ (es : List Entry). IsLog es) (sym (returns-clause-entries c))
    (whole_is_log c.args.opening c.args.x c.args.ray c.args.m d weights picks inverse same (c.duality_is_written.ensures d weights picks inverse same)
    (sparse_written c.args.x c.as_slice.result.now c.as_slice.ensures.items c.as_slice.ensures.bound c.spots_are_written.ensures x_rises)
    (sparse_written c.args.ray c.as_slice-2.result.now c.as_slice-2.ensures.items c.as_slice-2.ensures.bound c.spots_are_written-2.ensures ray_rises)
    (sparse_written c.args.m c.as_slice-3.result.now c.as_slice-3.ensures.items c.as_slice-3.ensures.bound c.spots_are_written-3.ensures m_rises))

pub returns-clause-meet : goal.returns-clause-meet
returns-clause-meet c = λ file d weights h.
    subst (λ (es : List Entry). AllMeet file es) (sym (returns-clause-entries c)) (whole_meets file d weights c.args.opening c.args.x c.args.ray c.args.m h)

pub returns-clause-base : goal.returns-clause-base
returns-clause-base c = λ file d weights h read.
    subst (λ (es : List Entry). IsBaseTrail file d weights es) (sym (returns-clause-entries c))
    (whole_trail file d weights c.args.opening c.args.x c.args.ray c.args.m h read)
