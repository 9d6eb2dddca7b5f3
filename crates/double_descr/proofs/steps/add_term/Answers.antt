use Rattle.std.proofs.Common.{◌++◌, sym, ap, ◌∙◌}
use Rattle.double_descr.proofs.steps.add_term.Goals as goal
use Rattle.double_descr.proofs.StepLists.{same_left, no_product, no_term, a_term}

pub returns-then-is_no_term-clause-runs : goal.returns-then-is_no_term-clause-runs
returns-then-is_no_term-clause-runs g c = λ steps left h. same_left g.F.Field.holds steps _ left c.args.done
    (ap (λ ss. ss ++ left) (no_term (g.F.Field.value c.args.total) (g.F.Field.value c.args.x) (g.F.Field.value c.args.y) (sym c.is_no_term.ensures ∙ c.if-is_no_term.true))) h

pub returns-then-is_no_term-clause-value : goal.returns-then-is_no_term-clause-value
returns-then-is_no_term-clause-value g c = no_product (g.F.Field.value c.args.total) (g.F.Field.value c.args.x) (g.F.Field.value c.args.y) (sym c.is_no_term.ensures ∙ c.if-is_no_term.true)

pub returns-in-Err-clause-runs : goal.returns-in-Err-clause-runs
returns-in-Err-clause-runs g c = λ steps left h. c.in-Err.ensures.runs steps left (same_left g.F.Field.holds steps _ _ c.args.done
    (ap (λ ss. ss ++ left) (a_term (g.F.Field.value c.args.total) (g.F.Field.value c.args.x) (g.F.Field.value c.args.y) (sym c.is_no_term.ensures ∙ c.if-is_no_term.false))) h)

pub returns-in-Ok-clause-runs : goal.returns-in-Ok-clause-runs
returns-in-Ok-clause-runs g c = λ steps left h. c.in-Ok.ensures.runs steps left (same_left g.F.Field.holds steps _ _ c.args.done
    (ap (λ ss. ss ++ left) (a_term (g.F.Field.value c.args.total) (g.F.Field.value c.args.x) (g.F.Field.value c.args.y) (sym c.is_no_term.ensures ∙ c.if-is_no_term.false))) h)
