use Rattle.std.proofs.Common.{◌∙◌, sym, ap, ◌&&◌}
use Rattle.cert_check.proofs.OneEntry.{followed}
use Rattle.cert_check.proofs.kinds.Kinds.may_follow.Goals as goal

pub returns-then-fits_version : goal.returns-then-fits_version
returns-then-fits_version c = λ before are.
    ap (λ b. b && c.in_order.result) (sym c.if-fits_version.true)
    ∙ sym (followed before c.args.entry.now c.fits_version.result c.in_order.result
    c.in_default.not-Share
    (c.fits_version.ensures before are) (c.in_order.ensures before are))
