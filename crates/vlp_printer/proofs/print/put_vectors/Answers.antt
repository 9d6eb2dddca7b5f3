use Rattle.std.proofs.Common.{sym, [], ◌+◌, ◌-◌, ap, slice_index_or, List}
use Rattle.exact_field.specs.Rational.{ℚ}
use Rattle.vlp_printer.specs.Printing.{vector_text}
use Rattle.vlp_printer.proofs.Lists.{at_number, numbers_more}
use Rattle.vlp_printer.proofs.print.put_vectors.Goals as goal

pub loop-before-preserved : goal.loop-before-preserved
loop-before-preserved c =
    let n = c.loop-before.before in
    let slice = c.as_slice-list in
    let item = c.index-list-before in
    numbers_more (λ j. vector_text j (slice_index_or c.args.vectors.now (j - 1) [])) c.args.into.now c.loop-before.into c.put_vector.new.into n (vector_text (n + 1) item.result) c.loop-before.invariant c.in_ok-put_vector.ensures
    (ap (λ (x : List ℚ). vector_text (n + 1) x) (sym (at_number c.args.vectors.now slice.result.now n item.result [] c.loop-before-test.true slice.ensures.items item.is)))
