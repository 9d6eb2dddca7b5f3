use Rattle.std.proofs.Common.{ap, arith, length, ◌∙◌, slice_index_or}
use Rattle.lin_rows.specs.Lines.{entries}
use Rattle.exact_simplex.proofs.ProgramLines.{second_more, second_ends}
use Rattle.exact_simplex.proofs.opening.second_cost_line.Goals as goal

pub loop-i-preserved : goal.loop-i-preserved
loop-i-preserved g c =
    let value = g.F.Field.value in
    let p = c.args.system.now in
    let x = c.index-cost-i.result in
    second_more value p c.requires c.loop-i.i x c.neg.result (entries value c.loop-i.line.items) (entries value c.push_kept.new.line.items)
    (omega (arith, ap length c.as_slice-cost.ensures.items)) (c.index-cost-i.is ∙ ap (λ v. slice_index_or v c.loop-i.i x) c.as_slice-cost.ensures.items) c.neg.ensures c.loop-i.invariant c.in_ok-push_kept.ensures

pub returns : goal.returns
returns g c =
    let value = g.F.Field.value in
    second_ends value c.args.system.now c.requires c.loop-i.i (entries value c.loop-i.line.items) (omega (arith, ap length c.as_slice-cost.ensures.items)) c.loop-i.invariant
