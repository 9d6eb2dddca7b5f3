use Rattle.log_versions.specs.Plain.{plain}
use Rattle.cert_check.proofs.Kept.{going_passes, never_stopped}
use Rattle.cert_check.proofs.checker.Checker.least_hints.Goals as goal

pub least_hints-requires : goal.least_hints-requires
least_hints-requires c =
    let from = c.requires in (
      from.0,
      plain from.1,
      going_passes from.0 from.1 c.args.cut c.args.pairs.now c.args.self.now c.in-Going.progress
          c.in-Going.is from.2,
    )

pub returns : goal.returns
returns c = λ file before passes.
    c.least_hints.ensures file (plain before)
    (going_passes file before c.args.cut c.args.pairs.now c.args.self.now c.in-Going.progress
    c.in-Going.is passes)

pub unreachable-requires : goal.unreachable-requires
unreachable-requires c =
    let from = c.requires in
    never_stopped from.0 from.1 c.args.cut c.args.pairs.now c.args.self.now c.in-Stopped.field-0
    c.in-Stopped.is from.2
