use Rattle.std.proofs.Common.{◌≡◌, List, ◌-◌, ◌+◌, length, map, ap, sym, subst, ◌∙◌, arith}
use Rattle.std.proofs.lemmas.List.{length-map}
use Rattle.exact_field.specs.Rational.{ℚ}
use Rattle.lin_rows.specs.Read.{numbers}
use Rattle.lp_form.proofs.Steps.{row_at}
use Rattle.tableaux.specs.Table.{row_of}
use Rattle.cone_rules.specs.Faults.{IsZeroCombination}
use Rattle.cone_rules.proofs.Pointed.{pointed_program}
use Rattle.cone_dual.proofs.Leading.{head_of, none_of, first_place}
use Rattle.cone_dual.proofs.Spreading.{spread_of}
use Rattle.cone_dual.proofs.combining.combination_of.Goals as goal

pub bounds-vectors-spot : goal.bounds-vectors-spot
bounds-vectors-spot g c =
    let value = g.F.Field.value in
    let vectors = c.args.vectors.now in
    let spread = spread_of value (numbers value vectors) (map value c.args.x.now) c.as_slice.result.now c.in_ok-m.m (ap (map value) c.as_slice.ensures.items ∙ c.in_ok-numbers.ensures)
    c.in_ok-m.ensures.vector c.in_ok-m.ensures.numbers in
    let head = head_of c.as_slice-2.result.now c.in-Some.spot.now (sym c.in-Some.ensures.value) in
    let place = first_place (length (numbers value vectors)) c.in_ok-m.m c.in-Some.spot.now head.0 (sym c.as_slice-2.ensures.items ∙ head.1) spread.vector in
    omega (arith, place.0, place.1, length-map vectors (map value))

pub unreachable-requires : goal.unreachable-requires
unreachable-requires g c =
    let value = g.F.Field.value in
    let vectors = c.args.vectors.now in
    let spread = spread_of value (numbers value vectors) (map value c.args.x.now) c.as_slice.result.now c.in_ok-m.m (ap (map value) c.as_slice.ensures.items ∙ c.in_ok-numbers.ensures)
    c.in_ok-m.ensures.vector c.in_ok-m.ensures.numbers in
    let law = pointed_program.optimal c.args.q (numbers value vectors) (map value c.args.x.now) c.requires.optimal.0 c.in_ok-m.m c.requires.wide c.requires.optimal.1 spread in
    law.0 (sym c.as_slice-2.ensures.items ∙ none_of c.as_slice-2.result.now (sym c.in-None.ensures.value))

pub returns : goal.returns
returns g c =
    let value = g.F.Field.value in
    let vectors = c.args.vectors.now in
    let q = c.args.q in
    let spot = c.in-Some.spot.now in
    let spread = spread_of value (numbers value vectors) (map value c.args.x.now) c.as_slice.result.now c.in_ok-m.m (ap (map value) c.as_slice.ensures.items ∙ c.in_ok-numbers.ensures)
    c.in_ok-m.ensures.vector c.in_ok-m.ensures.numbers in
    let law = pointed_program.optimal q (numbers value vectors) (map value c.args.x.now) c.requires.optimal.0 c.in_ok-m.m c.requires.wide c.requires.optimal.1 spread in
    let head = head_of c.as_slice-2.result.now spot (sym c.in-Some.ensures.value) in
    let leads = sym c.as_slice-2.ensures.items ∙ head.1 in
    let place = first_place (length (numbers value vectors)) c.in_ok-m.m spot head.0 leads spread.vector in
    let low = place.0 in
    let high = place.1 in
    let back : spot.at - 1 + 1 ≡ spot.at = omega (arith, low) in
    let own : row_of (numbers value vectors) spot.at ≡ c.in_ok-first-in-Some.first =
    ap (row_of (numbers value vectors)) (sym back)
    ∙ sym (row_at value vectors (spot.at - 1) c.index-vectors-spot.result (omega (arith, low, high, length-map vectors (map value))) c.index-vectors-spot.is)
    ∙ sym (ap (map value) c.as_slice-in-Some.ensures.items) ∙ sym c.in_ok-first-in-Some.ensures.same in
    subst (λ (v : List ℚ). IsZeroCombination q (numbers value vectors) c.in_ok-m.m v) own (law.1 spot head.0 leads)
