use Rattle.std.proofs.Common.{IsTrue, sym, subst}
use Rattle.deriv_log.specs.Formed.{is_formed}
use Rattle.deriv_log.specs.declared.entry.Entry.{Entry}
use Rattle.overflows.proofs.Formed.{vector_written, naturals_written, duality_written}
use Rattle.overflows.proofs.written.duality_is_written.Goals as goal

pub returns-in-Duality : goal.returns-in-Duality
returns-in-Duality c = λ c' weights picks inverse same.
    subst (λ (e : Entry). IsTrue (is_formed e)) (sym c.in-Duality.is)
    (duality_written c.in-Duality.c c.in-Duality.weights c.in-Duality.picks c.in-Duality.inverse
    (vector_written c.in-Duality.c c.as_slice.result.now c.as_slice.ensures.items c.as_slice.ensures.bound c.fractions_are_written.ensures)
    (vector_written c.in-Duality.weights c.as_slice-in-Duality.result.now c.as_slice-in-Duality.ensures.items c.as_slice-in-Duality.ensures.bound
    c.fractions_are_written-in-Duality.ensures)
    (naturals_written c.in-Duality.picks c.as_slice-in-Duality-2.result.now c.as_slice-in-Duality-2.ensures.items c.as_slice-in-Duality-2.ensures.bound
    c.naturals_are_written.ensures)
    (vector_written c.in-Duality.inverse c.as_slice-in-Duality-3.result.now c.as_slice-in-Duality-3.ensures.items c.as_slice-in-Duality-3.ensures.bound
    c.fractions_are_written-in-Duality-2.ensures))
