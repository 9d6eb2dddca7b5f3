use Rattle.std.proofs.Common.{List, map, subst, inl}
use Rattle.deriv_log.specs.declared.entry.Entry.{Entry}
use Rattle.overflows.specs.Products.{AreMultiplied, IsBesideCone}
use Rattle.overflows.specs.Faults.{Overflows}
use Rattle.cone_dual.proofs.Standing.{before, given_to, without}
use Rattle.cone_dual.proofs.dual_form.is_against.Goals as goal

pub returns-in-Err-clause-left : goal.returns-in-Err-clause-left
returns-in-Err-clause-left g c = λ file stands among.
    let value = g.F.Field.value in
    let holds = g.F.Field.holds in
    let f = map value c.args.f.now in
    let v = map value c.args.vector.now in
    without holds file c.term_fault.result
    (subst (λ (t : List Entry). Overflows holds (before file) t c.term_fault.result) c.new.ensures
    (c.term_fault.ensures.licensed (before file) v f
    (inl (AreMultiplied.cone among (IsBesideCone.given (given_to value c.args.form.now file stands c.args.f.now c.requires.duality))))
    c.in-Err.ensures.left.term))
