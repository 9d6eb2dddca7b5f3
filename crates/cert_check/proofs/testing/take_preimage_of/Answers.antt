use Rattle.std.proofs.Common.{◌∙◌, sym, ap, subst, rules}
use Rattle.frac128.specs.Sparse.{IsSparse}
use Rattle.log_versions.specs.Plain.{shared, plain}
use Rattle.cert_check.proofs.Sharing.{there, is_number, preimage_not_there, took_preimage}
use Rattle.cert_check.proofs.testing.take_preimage_of.Goals as goal

pub at-x-requires-clause-least : goal.at-x-requires-clause-least
at-x-requires-clause-least c =
    (is_number c.has.result c.args.share _ c.has.ensures (c.in_ok-pass.ensures 0).0).0

pub at-x-requires-clause-most : goal.at-x-requires-clause-most
at-x-requires-clause-most c =
    (is_number c.has.result c.args.share _ c.has.ensures (c.in_ok-pass.ensures 0).0).1

pub certify-requires-clause-matrices : goal.certify-requires-clause-matrices
certify-requires-clause-matrices c = c.requires.may.1.knows.matrices

pub certify-requires-clause-preimage : goal.certify-requires-clause-preimage
certify-requires-clause-preimage c = c.at-x.ensures.sparse

pub certify-requires-clause-multipliers : goal.certify-requires-clause-multipliers
certify-requires-clause-multipliers c =
    subst IsSparse (sym c.as_slice.ensures.items) c.requires.multipliers

pub certify-requires-clause-standing : goal.certify-requires-clause-standing
certify-requires-clause-standing c =
    let from = c.requires.may in (plain from.0, from.1.stands)

pub returns-in_err-pass : goal.returns-in_err-pass
returns-in_err-pass c = λ before may.
    let stopped = preimage_not_there c.args.kind c.args.problem.now before c.args.generator
    c.args.share c.args.m.now c.has.result c.args.known.now.shares c.has.ensures may.knows.shares
    c.in_err-pass.field-0.0 (c.in_err-pass.ensures 0) in
    search (stopped, rules)

pub returns : goal.returns
returns c = λ before may.
    took_preimage c.args.kind c.args.problem.now before c.args.generator c.args.share
    c.at-x.result.now c.args.m.now c.as_slice.result.now c.certify.new.self c.certify.result
    (c.at-x.ensures.value
    ∙ ap (λ vs. shared vs c.args.share) may.knows.shares) c.as_slice.ensures.items c.has.result
    (there c.has.result c.args.share before c.args.known.now.shares c.has.ensures may.knows.shares)
    (c.in_ok-pass.ensures 0).0 (c.certify.ensures (plain before) may.stands)
