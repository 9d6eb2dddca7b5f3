use Rattle.std.proofs.Common.{sym, ◌+◌, ap, codes}
use Rattle.exact_field.specs.Rational.{ℚ, zero_ℚ}
use Rattle.exact_field.specs.Vector.{entry}
use Rattle.vlp_printer.specs.Printing.{entry_line}
use Rattle.vlp_printer.proofs.Lists.{at_number, numbers_more}
use Rattle.vlp_printer.proofs.print.put_duality.Goals as goal

pub loop-before-preserved : goal.loop-before-preserved
loop-before-preserved c =
    let n = c.loop-before.before in
    let slice = c.as_slice-entries in
    let item = c.index-entries-before in
    numbers_more (λ i. entry_line (codes "k") i 0 (entry c.args.duality.now i)) c.args.into.now c.loop-before.into c.put_entry.new.into n (entry_line (codes "k") (n + 1) 0 item.result) c.loop-before.invariant c.in_ok-put_entry.ensures
    (ap (λ (x : ℚ). entry_line (codes "k") (n + 1) 0 x) (sym (at_number c.args.duality.now slice.result.now n item.result zero_ℚ c.loop-before-test.true slice.ensures.items item.is)))
