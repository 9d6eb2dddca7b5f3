use Rattle.std.proofs.Common.{map, subst}
use Rattle.geo_duality.specs.Exchange.{IsExchangeFault, exchange_steps}
use Rattle.geo_duality.specs.declared.exchanged.ExchangeFault.{ExchangeFault}
use Rattle.lower_image.proofs.Exchanged.{exchange_overflows}
use Rattle.lower_image.proofs.rows.exchanged_row.Goals as goal

pub returns-in-Ok-clause-ok : goal.returns-in-Ok-clause-ok
returns-in-Ok-clause-ok g c = c.in-Ok.ensures.row

pub returns-in-Err-Left-clause-left : goal.returns-in-Err-Left-clause-left
returns-in-Err-Left-clause-left g c = λ s known base.
    let value = g.F.Field.value in
    let holds = g.F.Field.holds in
    let here = c.in-Err-Left in
    exchange_overflows value holds g.met.F.Field.holds_zero s (map value c.args.c.now) (map value c.args.y.now) c.args.t here.step here.left c.exchange_fault.result known base
    (subst (λ (f : ExchangeFault _). IsExchangeFault value holds (exchange_steps (map value c.args.y.now) (map value c.args.c.now)) f) here.field-0-is here.ensures.left)
    c.exchange_fault.ensures
