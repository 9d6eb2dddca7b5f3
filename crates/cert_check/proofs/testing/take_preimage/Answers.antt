use Rattle.std.proofs.Common.{sym, subst}
use Rattle.frac128.specs.Sparse.{IsSparse}
use Rattle.log_versions.specs.Plain.{plain}
use Rattle.cert_check.proofs.Sharing.{took_own_preimage}
use Rattle.cert_check.proofs.testing.take_preimage.Goals as goal

pub certify-requires-clause-matrices : goal.certify-requires-clause-matrices
certify-requires-clause-matrices c = c.requires.may.1.knows.matrices

pub certify-requires-clause-preimage : goal.certify-requires-clause-preimage
certify-requires-clause-preimage c = subst IsSparse (sym c.in_ok-shared.ensures.ok) c.requires.preimage

pub certify-requires-clause-multipliers : goal.certify-requires-clause-multipliers
certify-requires-clause-multipliers c = subst IsSparse (sym c.as_slice.ensures.items) c.requires.multipliers

pub certify-requires-clause-standing : goal.certify-requires-clause-standing
certify-requires-clause-standing c =
    let from = c.requires.may in (plain from.0, from.1.stands)

pub returns : goal.returns
returns c = λ before may.
    took_own_preimage c.args.kind c.args.problem.now before c.args.generator
    c.in_ok-shared.shared c.args.x.now c.args.m.now c.as_slice.result.now c.certify.new.self c.certify.result
    c.in_ok-shared.ensures.ok c.as_slice.ensures.items (c.certify.ensures (plain before) may.stands)
