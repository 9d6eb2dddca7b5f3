use Rattle.std.proofs.Common.{◌≡◌, ℕ, List, ◌+◌, length, map, ap, sym, subst, arith}
use Rattle.std.proofs.lemmas.List.{length-map}
use Rattle.exact_field.specs.Rational.{ℚ, zero_ℚ, ◌≤ℚ◌, ◌<ℚ◌}
use Rattle.exact_field.specs.Vector.{entry}
use Rattle.exact_simplex.specs.Ends.{IsCertified}
use Rattle.lp_form.specs.Data.{cone_of, duality_of}
use Rattle.lp_form.specs.Programs.{interior_system}
use Rattle.tableaux.specs.Simplex.{IsInfeasible, IsOptimal, IsUnbounded}
use Rattle.cone_dual.proofs.GivenInside.{bounded, farkas_long, infeasible_outside, last_read, multipliers_long, optimal_inside, optimal_outside}
use Rattle.cone_dual.proofs.Signs.{not_positive}
use Rattle.cone_dual.proofs.generators.positive_solution.Goals as goal

pub returns-then-is_positive-clause-ok : goal.returns-then-is_positive-clause-ok
returns-then-is_positive-clause-ok g c =
    let value = g.F.Field.value in
    let form = c.args.form.now in
    let vectors = c.args.vectors.now in
    let f = c.args.f.now in
    let n : ℕ = length vectors in
    let x : List ℚ = map value c.in-Optimal.x in
    let d : List ℚ = map value c.in-Optimal.dual in
    let system = interior_system (length form.p) (cone_of value form.cone) (duality_of value form.duality) in
    let optimal : IsOptimal system x d = subst (λ e. IsCertified value system e) c.in-Optimal.is c.in_ok-x.ensures.certified in
    let here : entry x (n + n + 1) ≡ value c.index-as_slice-n.result =
    last_read value form vectors c.requires.generators f c.requires.duality g.F.Field.holds c.in-Optimal.x c.as_slice.result.now d c.index-as_slice-n.result optimal
    c.as_slice.ensures.items c.index-as_slice-n.is in
    let high : zero_ℚ <ℚ entry x (n + n + 1) = subst (λ (z : ℚ). zero_ℚ <ℚ z) (sym here) (c.is_positive.ensures.fact.0 c.if-is_positive.true) in
    optimal_inside value form vectors c.requires.generators f c.requires.duality x d optimal high

pub outside_fault-requires-clause-long : goal.outside_fault-requires-clause-long
outside_fault-requires-clause-long g c =
    let value = g.F.Field.value in
    let form = c.args.form.now in
    let vectors = c.args.vectors.now in
    let x : List ℚ = map value c.in-Optimal.x in
    let d : List ℚ = map value c.in-Optimal.dual in
    let system = interior_system (length form.p) (cone_of value form.cone) (duality_of value form.duality) in
    let optimal : IsOptimal system x d = subst (λ e. IsCertified value system e) c.in-Optimal.is c.in_ok-x.ensures.certified in
    let long = multipliers_long value form vectors c.requires.generators c.args.f.now c.requires.duality x d optimal in
    omega (arith, long, length-map c.in-Optimal.dual value, ap length c.as_slice-in-Optimal.ensures.items)

pub outside_fault-requires-clause-shown : goal.outside_fault-requires-clause-shown
outside_fault-requires-clause-shown g c =
    let value = g.F.Field.value in
    let form = c.args.form.now in
    let vectors = c.args.vectors.now in
    let f = c.args.f.now in
    let n : ℕ = length vectors in
    let x : List ℚ = map value c.in-Optimal.x in
    let d : List ℚ = map value c.in-Optimal.dual in
    let read = c.index-as_slice-n.result in
    let system = interior_system (length form.p) (cone_of value form.cone) (duality_of value form.duality) in
    let optimal : IsOptimal system x d = subst (λ e. IsCertified value system e) c.in-Optimal.is c.in_ok-x.ensures.certified in
    let here : entry x (n + n + 1) ≡ value read =
    last_read value form vectors c.requires.generators f c.requires.duality g.F.Field.holds c.in-Optimal.x c.as_slice.result.now d read optimal
    c.as_slice.ensures.items c.index-as_slice-n.is in
    let low : entry x (n + n + 1) ≤ℚ zero_ℚ =
    subst (λ (z : ℚ). z ≤ℚ zero_ℚ) (sym here) (not_positive c.is_positive.result (value read) c.is_positive.ensures.fact c.if-is_positive.false) in
    optimal_outside value form vectors c.requires.generators f c.requires.duality x d (map value c.as_slice-in-Optimal.result.now)
    (ap (map value) c.as_slice-in-Optimal.ensures.items) optimal low

pub outside_fault-requires-in-Infeasible-clause-long : goal.outside_fault-requires-in-Infeasible-clause-long
outside_fault-requires-in-Infeasible-clause-long g c =
    let value = g.F.Field.value in
    let form = c.args.form.now in
    let vectors = c.args.vectors.now in
    let d : List ℚ = map value c.in-Infeasible.farkas in
    let system = interior_system (length form.p) (cone_of value form.cone) (duality_of value form.duality) in
    let infeasible : IsInfeasible system d = subst (λ e. IsCertified value system e) c.in-Infeasible.is c.in_ok-x.ensures.certified in
    let long = farkas_long value form vectors c.requires.generators c.args.f.now c.requires.duality d infeasible in
    omega (arith, long, length-map c.in-Infeasible.farkas value, ap length c.as_slice-in-Infeasible.ensures.items)

pub outside_fault-requires-in-Infeasible-clause-shown : goal.outside_fault-requires-in-Infeasible-clause-shown
outside_fault-requires-in-Infeasible-clause-shown g c =
    let value = g.F.Field.value in
    let form = c.args.form.now in
    let vectors = c.args.vectors.now in
    let d : List ℚ = map value c.in-Infeasible.farkas in
    let system = interior_system (length form.p) (cone_of value form.cone) (duality_of value form.duality) in
    let infeasible : IsInfeasible system d = subst (λ e. IsCertified value system e) c.in-Infeasible.is c.in_ok-x.ensures.certified in
    infeasible_outside value form vectors c.requires.generators c.args.f.now c.requires.duality d (map value c.as_slice-in-Infeasible.result.now)
    (ap (map value) c.as_slice-in-Infeasible.ensures.items) infeasible

pub unreachable-requires : goal.unreachable-requires
unreachable-requires g c =
    let value = g.F.Field.value in
    let form = c.args.form.now in
    let vectors = c.args.vectors.now in
    let x : List ℚ = map value c.in-Unbounded.x in
    let ray : List ℚ = map value c.in-Unbounded.ray in
    let system = interior_system (length form.p) (cone_of value form.cone) (duality_of value form.duality) in
    let unbounded : IsUnbounded system x ray = subst (λ e. IsCertified value system e) c.in-Unbounded.is c.in_ok-x.ensures.certified in
    bounded value form vectors c.requires.generators c.args.f.now c.requires.duality x ray c.requires.solid c.requires.pointed unbounded
