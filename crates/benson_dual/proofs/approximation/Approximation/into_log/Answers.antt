use Rattle.std.proofs.Common.{◌≡◌, List, sym, subst}
use Rattle.deriv_log.specs.declared.entry.Entry.{Entry}
use Rattle.overflows.specs.Faults.{OnLicence, Overflows, with_trail}
use Rattle.outer_approx.specs.Standing.{IsOpenTrail}
use Rattle.outer_approx.specs.Task.{setting}
use Rattle.recession.proofs.OwnLogs.{carried, licensed}
use Rattle.benson_dual.proofs.approximation.Approximation.into_log.Goals as goal

pub returns-in-Err-clause-left : goal.returns-in-Err-clause-left
returns-in-Err-clause-left g c =
    let holds = g.F.Field.holds in
    let trail = c.end-told.new.self.trail in
    let same = c.into_trail-entries.ensures in
    let told = subst (λ (t : List Entry). c.with_trail.result ≡ with_trail c.in-Err.fault t) same c.with_trail.ensures.told in
    licensed holds g.task c.requires.1.0.known.fitting trail c.with_trail.result
    (subst (λ f. OnLicence f (λ licence. IsOpenTrail g.task trail)) (sym told) (carried (IsOpenTrail g.task trail) c.in-Err.fault trail c.in-Err.ensures.trail))
    (subst (λ (t : List Entry). Overflows holds (setting g.task trail) t c.with_trail.result) same (c.with_trail.ensures.licensed holds (setting g.task trail) c.in-Err.ensures.left))
