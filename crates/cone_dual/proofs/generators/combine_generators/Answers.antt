use Rattle.std.proofs.Common.{ℕ, List, ◌+◌, map, ap, sym, subst, ◌∙◌, inr, arith}
use Rattle.exact_field.specs.Rational.{ℚ}
use Rattle.exact_field.specs.Vector.{dot}
use Rattle.deriv_log.specs.declared.entry.Entry.{Entry}
use Rattle.overflows.specs.Products.{AreMultiplied}
use Rattle.lin_rows.specs.Read.{numbers}
use Rattle.lp_form.proofs.Figures.{wide_enough}
use Rattle.overflows.specs.Faults.{Overflows}
use Rattle.tableaux.specs.Table.{column_of}
use Rattle.cone_dual.proofs.Combined.{combined_all, combined_more}
use Rattle.cone_dual.proofs.generators.combine_generators.Goals as goal

pub column-requires-clause-high : goal.column-requires-clause-high
column-requires-clause-high g c = wide_enough g.F.Field.value c.args.q (c.loop-i.i + 1) c.args.vectors.now c.requires.wide (omega arith)

pub returns-in-Err-clause-left : goal.returns-in-Err-clause-left
returns-in-Err-clause-left g c = λ s objs given shares.
    let value = g.F.Field.value in
    let holds = g.F.Field.holds in
    let all = numbers value c.args.vectors.now in
    let place : ℕ = c.loop-i.i + 1 in
    let column_is = ap (map value) c.as_slice.ensures.items ∙ c.in_ok-column.ensures ∙ ap (λ (vs : List (List ℚ)). column_of vs place) (sym given) in
    subst (λ (t : List Entry). Overflows holds s t c.term_fault.result) c.new.ensures
    (c.term_fault.ensures.licensed s (map value c.args.mu.now) (map value c.as_slice.result.now) (inr (AreMultiplied.shares place (omega arith) (omega (arith, objs)) column_is shares))
    c.in-Err.ensures.left.term)

pub loop-i-preserved : goal.loop-i-preserved
loop-i-preserved g c =
    let value = g.F.Field.value in
    let mu = map value c.args.mu.now in
    combined_more value c.args.q (numbers value c.args.vectors.now) mu c.loop-i.i c.loop-i.c c.push.new.self c.in-Ok.sum c.requires.wide (omega arith)
    c.in_ok-push-in-Ok.ensures.ok c.loop-i.invariant (c.in-Ok.ensures.ok ∙ ap (dot mu) (ap (map value) c.as_slice.ensures.items ∙ c.in_ok-column.ensures))

pub returns-clause-ok : goal.returns-clause-ok
returns-clause-ok g c =
    let value = g.F.Field.value in
    combined_all value c.args.q (numbers value c.args.vectors.now) (map value c.args.mu.now) c.loop-i.i c.loop-i.c c.requires.wide (omega arith) c.loop-i.invariant
