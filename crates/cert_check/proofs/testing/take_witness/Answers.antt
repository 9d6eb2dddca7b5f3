use Rattle.std.proofs.Common.{◌∙◌, sym, refl, arith}
use Rattle.deriv_log.specs.declared.entry.Entry.TheVariants.{Duality, Point, Ray, Farkas}
use Rattle.cert_check.proofs.OneEntry.{sparse_at, took, took_as, kind_as}
use Rattle.cert_check.proofs.testing.take_witness.Goals as goal

pub take_preimage-requires-clause-preimage : goal.take_preimage-requires-clause-preimage
take_preimage-requires-clause-preimage c =
    sparse_at c.args.entry.now (Point c.in-Point.generator c.in-Point.x c.in-Point.m) c.in-Point.is
    c.requires.formed 1 (omega arith) c.in-Point.x refl

pub take_preimage-requires-clause-multipliers : goal.take_preimage-requires-clause-multipliers
take_preimage-requires-clause-multipliers c =
    sparse_at c.args.entry.now (Point c.in-Point.generator c.in-Point.x c.in-Point.m) c.in-Point.is
    c.requires.formed 2 (omega arith) c.in-Point.m refl

pub take_preimage-requires-clause-may : goal.take_preimage-requires-clause-may
take_preimage-requires-clause-may c =
    let from = c.requires.may in (
      from.0,
      (kind_as c.args.problem.now from.0 c.args.entry.now (Point c.in-Point.generator c.in-Point.x c.in-Point.m)
          c.args.known.now c.args.solving.now c.in-Point.is from.1),
    )

pub take_preimage-requires-in-Ray-clause-preimage : goal.take_preimage-requires-in-Ray-clause-preimage
take_preimage-requires-in-Ray-clause-preimage c =
    sparse_at c.args.entry.now (Ray c.in-Ray.generator c.in-Ray.x c.in-Ray.m) c.in-Ray.is
    c.requires.formed 1 (omega arith) c.in-Ray.x refl

pub take_preimage-requires-in-Ray-clause-multipliers : goal.take_preimage-requires-in-Ray-clause-multipliers
take_preimage-requires-in-Ray-clause-multipliers c =
    sparse_at c.args.entry.now (Ray c.in-Ray.generator c.in-Ray.x c.in-Ray.m) c.in-Ray.is
    c.requires.formed 2 (omega arith) c.in-Ray.m refl

pub take_preimage-requires-in-Ray-clause-may : goal.take_preimage-requires-in-Ray-clause-may
take_preimage-requires-in-Ray-clause-may c =
    let from = c.requires.may in (
      from.0,
      (kind_as c.args.problem.now from.0 c.args.entry.now (Ray c.in-Ray.generator c.in-Ray.x c.in-Ray.m)
          c.args.known.now c.args.solving.now c.in-Ray.is from.1),
    )

pub returns-in-Duality : goal.returns-in-Duality
returns-in-Duality c = λ before may.
    let file = c.args.problem.now in
    let e = Duality c.as_slice.result.now c.as_slice-in-Duality.result.now
    c.as_slice-in-Duality-2.result.now c.as_slice-in-Duality-3.result.now in
    took_as file before e c.args.entry.now c.args.solving.now c.check_duality.result
    ((λ i. Duality (c.as_slice.ensures.items i) (c.as_slice-in-Duality.ensures.items i)
    (c.as_slice-in-Duality-2.ensures.items i) (c.as_slice-in-Duality-3.ensures.items i))
    ∙ sym c.in-Duality.is)
    (took file before e e c.args.solving.now c.check_duality.result refl (λ q st. refl) refl
    (λ k. refl) may.stands.solving c.check_duality.ensures)

pub returns-in-Point : goal.returns-in-Point
returns-in-Point c = λ before may.
    let file = c.args.problem.now in
    took_as file before (Point c.in-Point.generator c.in-Point.x c.in-Point.m) c.args.entry.now
    c.take_preimage.new.solving c.take_preimage.result (sym c.in-Point.is)
    (c.take_preimage.ensures before
    (kind_as file before c.args.entry.now (Point c.in-Point.generator c.in-Point.x c.in-Point.m)
    c.args.known.now c.args.solving.now c.in-Point.is may))

pub returns-in-Ray : goal.returns-in-Ray
returns-in-Ray c = λ before may.
    let file = c.args.problem.now in
    took_as file before (Ray c.in-Ray.generator c.in-Ray.x c.in-Ray.m) c.args.entry.now
    c.take_preimage-in-Ray.new.solving c.take_preimage-in-Ray.result (sym c.in-Ray.is)
    (c.take_preimage-in-Ray.ensures before
    (kind_as file before c.args.entry.now (Ray c.in-Ray.generator c.in-Ray.x c.in-Ray.m)
    c.args.known.now c.args.solving.now c.in-Ray.is may))

pub returns-in-Farkas : goal.returns-in-Farkas
returns-in-Farkas c = λ before may.
    let file = c.args.problem.now in
    let e = Farkas c.as_slice-in-Farkas.result.now in
    took_as file before e c.args.entry.now c.args.solving.now c.check_farkas.result
    ((λ i. Farkas (c.as_slice-in-Farkas.ensures.items i)) ∙ sym c.in-Farkas.is)
    (took file before e e c.args.solving.now c.check_farkas.result refl (λ q st. refl) refl
    (λ k. refl) may.stands.solving c.check_farkas.ensures)
