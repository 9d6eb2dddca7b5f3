use Rattle.std.proofs.Common.{◌≡◌, List, map, subst, inl, refl}
use Rattle.exact_field.specs.Rational.{ℚ}
use Rattle.vlp_problem.specs.Sides.{side_bounds}
use Rattle.deriv_log.specs.declared.entry.Entry.{Entry}
use Rattle.overflows.specs.Products.{AreMultiplied}
use Rattle.overflows.specs.Faults.{IsTermAt, Overflows}
use Rattle.benson_program.proofs.Read.{bounds_in}
use Rattle.lower_image.proofs.certificate.bound_of.Goals as goal

pub returns-clause-left : goal.returns-clause-left
returns-clause-left g c = λ s stands base.
    let value = g.F.Field.value in
    let holds = g.F.Field.holds in
    let u = c.args.u.now in
    let same : map value c.as_slice-2.result.now ≡ side_bounds s.file =
    bounds_in value c.args.form.now s stands c.as_slice.result.now c.in_ok-bounds.bounds c.as_slice-2.result.now c.as_slice.ensures.items c.in_ok-bounds.ensures
    c.as_slice-2.ensures.items in
    let at = subst (λ (xs : List ℚ). IsTermAt value holds xs (map value u) c.in-Err.fault) same c.in-Err.ensures.left.term in
    subst (λ (trail : List Entry). Overflows holds s trail c.term_fault.result) c.new.ensures
    (c.term_fault.ensures.licensed s (side_bounds s.file) (map value u) (inl (AreMultiplied.bounds refl base)) at)
