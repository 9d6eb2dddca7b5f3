use Rattle.std.proofs.Common.{sym, subst}
use Rattle.frac128.specs.Sparse.{IsSparse}
use Rattle.deriv_log.specs.declared.entry.Entry.TheVariants.{Cut}
use Rattle.cert_check.proofs.OneEntry.{took_as}
use Rattle.cert_check.proofs.testing.take_own_cut.Goals as goal

pub take_cut-requires-clause-multipliers : goal.take_cut-requires-clause-multipliers
take_cut-requires-clause-multipliers c = subst IsSparse (sym c.in_ok-shared.ensures.ok) c.requires.multipliers

pub returns : goal.returns
returns c = λ before may.
    took_as c.args.problem.now before (Cut c.args.w.now c.args.gamma c.in_ok-shared.shared c.args.v.now)
    (Cut c.args.w.now c.args.gamma c.args.u.now c.args.v.now) c.take_cut.new.solving c.take_cut.result
    (λ i. Cut c.args.w.now c.args.gamma (c.in_ok-shared.ensures.ok i) c.args.v.now) (c.take_cut.ensures before may)
