use Rattle.std.proofs.Common.{◌∙◌, sym, arith}
use Rattle.std.proofs.lemmas.List.{length-map}
use Rattle.exact_field.specs.Rational.{◌/ℚ◌}
use Rattle.lin_rows.specs.Lines.{entries, sum_at}
use Rattle.exact_simplex.specs.Ratios.{ratios}
use Rattle.exact_simplex.proofs.Order.{lex_end}
use Rattle.exact_simplex.proofs.Comparing.{less_is, greater_is, equal_is}
use Rattle.exact_simplex.proofs.ratio.is_before.Goals as goal

pub returns-in-Less-clause-ok : goal.returns-in-Less-clause-ok
returns-in-Less-clause-ok g c =
    let value = g.F.Field.value in
    λ n u_rises v_rises.
    sym (less_is (value c.args.p) (value c.args.r) (entries value c.args.u.now) (entries value c.args.v.now) c.args.columns.now c.loop-column.column-index (omega arith) c.in_ok-compare_at.field-0
    (c.in_ok-compare_at.ensures.ok n u_rises v_rises) c.in-Less.is)
    ∙ c.loop-column.invariant n u_rises v_rises

pub returns-in-Greater-clause-ok : goal.returns-in-Greater-clause-ok
returns-in-Greater-clause-ok g c =
    let value = g.F.Field.value in
    λ n u_rises v_rises.
    sym (greater_is (value c.args.p) (value c.args.r) (entries value c.args.u.now) (entries value c.args.v.now) c.args.columns.now c.loop-column.column-index (omega arith) c.in_ok-compare_at.field-0
    (c.in_ok-compare_at.ensures.ok n u_rises v_rises) c.in-Greater.is)
    ∙ c.loop-column.invariant n u_rises v_rises

pub loop-column-preserved : goal.loop-column-preserved
loop-column-preserved g c =
    let value = g.F.Field.value in
    λ n u_rises v_rises.
    equal_is (value c.args.p) (value c.args.r) (entries value c.args.u.now) (entries value c.args.v.now) c.args.columns.now c.loop-column.column-index (omega arith) c.in_ok-compare_at.field-0
    (c.in_ok-compare_at.ensures.ok n u_rises v_rises) c.in-Equal.is
    ∙ c.loop-column.invariant n u_rises v_rises

pub returns-clause-ok : goal.returns-clause-ok
returns-clause-ok g c =
    let value = g.F.Field.value in
    let us = ratios (value c.args.p) (entries value c.args.u.now) c.args.columns.now in
    let vs = ratios (value c.args.r) (entries value c.args.v.now) c.args.columns.now in
    λ n u_rises v_rises.
    sym (lex_end c.loop-column.column-index us vs (omega (arith, length-map c.args.columns.now (λ k. sum_at (entries value c.args.u.now) k /ℚ value c.args.p))))
    ∙ c.loop-column.invariant n u_rises v_rises
