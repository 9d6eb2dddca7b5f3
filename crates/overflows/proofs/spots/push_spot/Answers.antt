use Rattle.std.proofs.Common.{ap, ◌∙◌, not}
use Rattle.frac128.specs.Sparse.{is_zero}
use Rattle.lp_form.proofs.Steps.{not_nought}
use Rattle.overflows.proofs.Sparse.{AreKept, kept_more, on_ok}
use Rattle.overflows.proofs.spots.push_spot.Goals as goal

pub returns-clause-kept : goal.returns-clause-kept
returns-clause-kept g c =
    let value = g.F.Field.value in
    let old = c.args.spots.now in
    let new = c.push.new.self in
    let own = ap (λ q. not (is_zero q)) c.frac_of-value.ensures ∙ ap not (not_nought (value c.args.x) c.is_zero.result c.is_zero.ensures.fact c.if-is_zero.false) in
    on_ok c.push.result _ (AreKept old → AreKept new)
    (λ pushed. kept_more old new (record { at = c.args.at; value = c.frac_of-value.result }) pushed own) c.push.ensures.ok
