use Rattle.std.proofs.Common.{sym, ◌∷◌, [], ◌+◌, ◌-◌, ap, slice_index_or}
use Rattle.vlp_problem.specs.declared.problem.Bound.{Bound}
use Rattle.vlp_problem.specs.declared.problem.Bound.TheVariants.{Unsaid}
use Rattle.vlp_printer.specs.Printing.{bound_line}
use Rattle.vlp_printer.proofs.Lists.{at_number, numbers_more}
use Rattle.vlp_printer.proofs.print.put_bounds.Goals as goal

pub loop-before-preserved : goal.loop-before-preserved
loop-before-preserved c =
    let n = c.loop-before.before in
    let slice = c.as_slice-list in
    let item = c.index-list-before in
    numbers_more (λ k. bound_line (c.args.letter ∷ []) k (slice_index_or c.args.bounds.now (k - 1) Unsaid)) c.args.into.now c.loop-before.into c.put_bound.new.into n (bound_line (c.args.letter ∷ []) (n + 1) item.result) c.loop-before.invariant c.in_ok-put_bound.ensures
    (ap (λ (x : Bound). bound_line (c.args.letter ∷ []) (n + 1) x) (sym (at_number c.args.bounds.now slice.result.now n item.result Unsaid c.loop-before-test.true slice.ensures.items item.is)))
