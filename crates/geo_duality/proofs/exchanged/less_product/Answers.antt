use Rattle.std.proofs.Common.{sym, ap, ◌∙◌}
use Rattle.exact_field.specs.Rational.{◌-ℚ◌}
use Rattle.double_descr.proofs.StepLists.{one_more, stopped, stopped_second, two_more}
use Rattle.geo_duality.proofs.exchanged.less_product.Goals as goal

pub returns-in-Err-clause-runs : goal.returns-in-Err-clause-runs
returns-in-Err-clause-runs g c = λ steps left h.
    let value = g.F.Field.value in
    stopped value g.F.Field.holds steps _ _ c.args.done c.in-Err.left h c.in-Err.ensures.1
    (ap (λ l. l.op) c.in-Err.ensures.0) (ap (λ l. value l.a) c.in-Err.ensures.0) (ap (λ l. value l.b) c.in-Err.ensures.0)

pub returns-in-Err-sub-clause-runs : goal.returns-in-Err-sub-clause-runs
returns-in-Err-sub-clause-runs g c = λ steps left h.
    let value = g.F.Field.value in
    stopped_second value g.F.Field.holds steps _ _ c.args.done c.in-Err-sub.left (one_more g.F.Field.holds steps _ _ c.args.done h c.in-Ok.ensures.1)
    (ap (λ q. g.F.Field.holds (value c.args.y -ℚ q)) (sym c.in-Ok.ensures.0) ∙ c.in-Err-sub.ensures.1)
    (ap (λ l. l.op) c.in-Err-sub.ensures.0) (ap (λ l. value l.a) c.in-Err-sub.ensures.0) (ap (λ l. value l.b) c.in-Err-sub.ensures.0 ∙ c.in-Ok.ensures.0)

pub returns-in-Ok-sub-clause-runs : goal.returns-in-Ok-sub-clause-runs
returns-in-Ok-sub-clause-runs g c = λ steps left h.
    let value = g.F.Field.value in
    two_more g.F.Field.holds steps _ _ left c.args.done h c.in-Ok.ensures.1 (ap (λ q. g.F.Field.holds (value c.args.y -ℚ q)) (sym c.in-Ok.ensures.0) ∙ c.in-Ok-sub.ensures.1)
