use Rattle.std.proofs.Common.{◌∙◌, ap, refl, rules}
use Rattle.deriv_log.specs.declared.entry.Entry.TheVariants.{Cut, CutOf}
use Rattle.log_versions.specs.Plain.{shares, shared}
use Rattle.log_versions.specs.WrittenEvents.{written_kind_events}
use Rattle.cert_check.proofs.OneEntry.{took_as}
use Rattle.cert_check.proofs.Sharing.{there, is_number, not_there, took_sharing}
use Rattle.cert_check.proofs.testing.take_cut_of.Goals as goal

pub at-u-requires-clause-least : goal.at-u-requires-clause-least
at-u-requires-clause-least c =
    (is_number c.has.result c.args.share _ c.has.ensures (c.in_ok-pass.ensures 0).0).0

pub at-u-requires-clause-most : goal.at-u-requires-clause-most
at-u-requires-clause-most c =
    (is_number c.has.result c.args.share _ c.has.ensures (c.in_ok-pass.ensures 0).0).1

pub returns-in_err-pass : goal.returns-in_err-pass
returns-in_err-pass c = λ before may.
    let stopped = not_there c.has.result c.args.share before c.args.known.now.shares c.has.ensures
    may.knows.shares
    (written_kind_events c.args.problem.now before
    (Cut c.args.w.now c.args.gamma (shared (shares before) c.args.share) c.args.v.now))
    c.in_err-pass.field-0.0 (c.in_err-pass.ensures 0) in
    search (stopped, rules)

pub returns : goal.returns
returns c = λ before may.
    let file = c.args.problem.now in
    let p = Cut c.args.w.now c.args.gamma (shared (shares before) c.args.share) c.args.v.now in
    let same = c.at-u.ensures.value ∙ ap (λ vs. shared vs c.args.share) may.knows.shares in
    took_sharing file before (CutOf c.args.w.now c.args.gamma c.args.share c.args.v.now) p
    c.args.share c.take_cut.new.solving c.take_cut.result refl refl refl
    c.has.result
    (there c.has.result c.args.share before c.args.known.now.shares c.has.ensures may.knows.shares)
    (c.in_ok-pass.ensures 0).0
    (took_as file before (Cut c.args.w.now c.args.gamma c.at-u.result.now c.args.v.now) p
    c.take_cut.new.solving c.take_cut.result
    (λ i. Cut c.args.w.now c.args.gamma (same i) c.args.v.now) (c.take_cut.ensures before may))
