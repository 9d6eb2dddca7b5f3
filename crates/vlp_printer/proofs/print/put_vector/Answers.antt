use Rattle.std.proofs.Common.{sym, ◌+◌, ap}
use Rattle.exact_field.specs.Rational.{ℚ, zero_ℚ}
use Rattle.exact_field.specs.Vector.{entry}
use Rattle.vlp_printer.specs.Printing.{vector_entry}
use Rattle.vlp_printer.proofs.Lists.{at_number, numbers_more}
use Rattle.vlp_printer.proofs.print.put_vector.Goals as goal

pub loop-before-preserved : goal.loop-before-preserved
loop-before-preserved c =
    let n = c.loop-before.before in
    let slice = c.as_slice-entries in
    let item = c.index-entries-before in
    numbers_more (λ i. vector_entry i c.args.col (entry c.args.vector.now i)) c.args.into.now c.loop-before.into c.put_vector_entry.new.into n (vector_entry (n + 1) c.args.col item.result) c.loop-before.invariant c.in_ok-put_vector_entry.ensures
    (ap (λ (x : ℚ). vector_entry (n + 1) c.args.col x) (sym (at_number c.args.vector.now slice.result.now n item.result zero_ℚ c.loop-before-test.true slice.ensures.items item.is)))
