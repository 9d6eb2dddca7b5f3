use Rattle.exact_simplex.proofs.ProgramLines.{equation_is}
use Rattle.lin_rows.specs.Lines.{entries}
use Rattle.std.proofs.Common.{refl, ap, ◌∙◌, ◌+◌, slice_index_or}
use Rattle.exact_simplex.proofs.opening.equation_line.Goals as goal

pub returns : goal.returns
returns g c =
    let value = g.F.Field.value in
    let p = c.args.system.now in
    equation_is value p c.requires.lengths c.args.i c.requires.inside c.coefficients.result.now c.in_ok-line.line.items c.push.new.self.items
    (record { at = p.cols + c.args.i + 1; value = c.artificial-value.result }) c.index-as_slice-i.result (entries value c.push_kept.new.line.items)
    c.coefficients.ensures c.in_ok-line.ensures c.in_ok-push.ensures.items refl c.artificial-value.ensures
    (c.index-as_slice-i.is ∙ ap (λ v. slice_index_or v c.args.i c.index-as_slice-i.result) c.as_slice.ensures.items) c.in_ok-push_kept.ensures
