use Rattle.std.proofs.Common.{sym, ◌∙◌, not, ap}
use Rattle.std.specs.List.{find}
use Rattle.vlp_printer.specs.Decimal.{is_decimal}
use Rattle.vlp_problem.proofs.Pieces.{not_yet, found_at}
use Rattle.vlp_printer.proofs.numbers.wide_vector.Goals as goal

pub returns-in-Some : goal.returns-in-Some
returns-in-Some c =
    sym (found_at (λ q. not (is_decimal q)) (λ v. v) c.args.vectors.now c.loop-vector.vector-index c.vector-item.result c.in-Some.number c.loop-vector-test.true c.vector-item.is c.loop-vector.invariant
    (ap (find (λ q. not (is_decimal q))) (sym c.as_slice.ensures.items) ∙ sym c.wide_entry.ensures ∙ c.in-Some.is))

pub loop-vector-preserved : goal.loop-vector-preserved
loop-vector-preserved c =
    not_yet (λ q. not (is_decimal q)) (λ v. v) c.args.vectors.now c.loop-vector.vector-index c.vector-item.result c.loop-vector-test.true c.vector-item.is c.loop-vector.invariant
    (ap (find (λ q. not (is_decimal q))) (sym c.as_slice.ensures.items) ∙ sym c.wide_entry.ensures ∙ c.in_default.is)
