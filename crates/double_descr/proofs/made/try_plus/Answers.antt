use Rattle.std.proofs.Common.{◌≡◌, ◌+◌, ◌++◌, true, false, List, length, drop, refl, sym, ap, ◌∙◌, subst, arith}
use Rattle.exact_field.specs.Rational.{zero_ℚ, lt_ℚ, ◌<ℚ◌}
use Rattle.exact_field.specs.Vector.{dot}
use Rattle.polyhedra.specs.LiveList.{LivePair}
use Rattle.polyhedra.proofs.Lists.{drop_value}
use Rattle.double_descr.specs.Steps.{values}
use Rattle.double_descr.specs.State.{live_of, numbered_of}
use Rattle.double_descr.specs.Making.{IsMadeSoFar, candidates_from, with_negatives}
use Rattle.double_descr.proofs.made.try_plus.Goals as goal
use Rattle.double_descr.proofs.MadePairs.{value_at_index, candidates_at, two_of, unmet}

pub meet_with-requires : goal.meet_with-requires
meet_with-requires g c κs within =
    let value = g.F.Field.value in
    let d = g.addition in
    let gens = c.args.generators.now in
    let live = live_of value gens in
    let i = c.args.i in
    let making = c.requires.1.0 in
    let inside = c.requires.1.1.1.1.0 in
    let p = c.index-generators-i.result in
    let e = drop_value (numbered_of value) gens i p inside c.index-generators-i.is in
    let ae : value c.index-values-i.result ≡ dot d.row (values value p.vector.items) = value_at_index value d.row gens c.args.values.now making.at_row
    i c.index-values-i.result p (omega (arith, c.requires.1.1.1.0, inside)) inside c.index-values-i.is c.index-generators-i.is in (
      within,
      (
        record {
          addition = making.addition;
          at_row = making.at_row;
          room = making.room;
          few = making.few;
          listed = (i, inside, sym c.index-generators-i.is);
          valued = ae;
          positive = sym c.is_positive.ensures.test ∙ c.if-not-is_positive.false;
        },
        (c.requires.1.1.1.0, (making.places, (c.requires.1.1.1.1.1.bound, c.requires.1.1.0))),
      ),
    )

pub returns-then-not-is_positive-clause-ok : goal.returns-then-not-is_positive-clause-ok
returns-then-not-is_positive-clause-ok g c =
    let value = g.F.Field.value in
    let d = g.addition in
    let gens = c.args.generators.now in
    let live = live_of value gens in
    let i = c.args.i in
    let making = c.requires.1.0 in
    let inside = c.requires.1.1.1.1.0 in
    let p = c.index-generators-i.result in
    let e = drop_value (numbered_of value) gens i p inside c.index-generators-i.is in
    let ae : value c.index-values-i.result ≡ dot d.row (values value p.vector.items) = value_at_index value d.row gens c.args.values.now making.at_row
    i c.index-values-i.result p (omega (arith, c.requires.1.1.1.0, inside)) inside c.index-values-i.is c.index-generators-i.is in
    subst (λ (l : List LivePair). IsMadeSoFar value g.F.Field.holds d gens l c.args.so_far.now)
    (candidates_at d.row (numbered_of value p) (drop i live) (drop (i + 1) live) live e false
    (sym (ap (λ x. lt_ℚ zero_ℚ x) (sym ae) ∙ sym c.is_positive.ensures.test ∙ c.if-not-is_positive.true))) c.requires.1.1.1.1.1

-- no pair of the generator is left
pub returns-then-not-meets_enough-clause-ok : goal.returns-then-not-meets_enough-clause-ok
returns-then-not-meets_enough-clause-ok g c =
    let value = g.F.Field.value in
    let holds = g.F.Field.holds in
    let d = g.addition in
    let gens = c.args.generators.now in
    let live = live_of value gens in
    let i = c.args.i in
    let making = c.requires.1.0 in
    let inside = c.requires.1.1.1.1.0 in
    let p = c.index-generators-i.result in
    let a = value c.index-values-i.result in
    let e = drop_value (numbered_of value) gens i p inside c.index-generators-i.is in
    let ae : value c.index-values-i.result ≡ dot d.row (values value p.vector.items) = value_at_index value d.row gens c.args.values.now making.at_row
    i c.index-values-i.result p (omega (arith, c.requires.1.1.1.0, inside)) inside c.index-values-i.is c.index-generators-i.is in
    let up : zero_ℚ <ℚ a = sym c.is_positive.ensures.test ∙ c.if-not-is_positive.false in
    let here : IsMadeSoFar value g.F.Field.holds d gens (with_negatives d.row (numbered_of value p) live ++ candidates_from value d gens (i + 1)) c.args.so_far.now =
    subst (λ (l : List LivePair). IsMadeSoFar value g.F.Field.holds d gens l c.args.so_far.now)
    (candidates_at d.row (numbered_of value p) (drop i live) (drop (i + 1) live) live e true
    (sym (ap (λ x. lt_ℚ zero_ℚ x) (sym ae) ∙ sym c.is_positive.ensures.test ∙ c.if-not-is_positive.false))) c.requires.1.1.1.1.1 in
    unmet value d gens making.addition holds p
    (λ m mc down. c.meets_enough.ensures (length d.row) d.rows gens m
    (two_of value d gens making.addition p m a (dot d.row (values value m.vector.items)) (i, inside, sym c.index-generators-i.is) mc ae refl up down)
    (c.requires.1.1.0.reach m mc down) c.if-not-meets_enough.true)
    (candidates_from value d gens (i + 1)) c.args.so_far.now here

pub returns-clause-ok : goal.returns-clause-ok
returns-clause-ok g c =
    let value = g.F.Field.value in
    let d = g.addition in
    let gens = c.args.generators.now in
    let live = live_of value gens in
    let i = c.args.i in
    let making = c.requires.1.0 in
    let inside = c.requires.1.1.1.1.0 in
    let p = c.index-generators-i.result in
    let e = drop_value (numbered_of value) gens i p inside c.index-generators-i.is in
    let ae : value c.index-values-i.result ≡ dot d.row (values value p.vector.items) = value_at_index value d.row gens c.args.values.now making.at_row
    i c.index-values-i.result p (omega (arith, c.requires.1.1.1.0, inside)) inside c.index-values-i.is c.index-generators-i.is in
    let here : IsMadeSoFar value g.F.Field.holds d gens (with_negatives d.row (numbered_of value p) live ++ candidates_from value d gens (i + 1)) c.args.so_far.now =
    subst (λ (l : List LivePair). IsMadeSoFar value g.F.Field.holds d gens l c.args.so_far.now)
    (candidates_at d.row (numbered_of value p) (drop i live) (drop (i + 1) live) live e true
    (sym (ap (λ x. lt_ℚ zero_ℚ x) (sym ae) ∙ sym c.is_positive.ensures.test ∙ c.if-not-is_positive.false))) c.requires.1.1.1.1.1 in
    c.meet_with.ensures.ok (candidates_from value d gens (i + 1)) here

pub returns-clause-left : goal.returns-clause-left
returns-clause-left g c =
    let value = g.F.Field.value in
    let d = g.addition in
    let gens = c.args.generators.now in
    let live = live_of value gens in
    let i = c.args.i in
    let making = c.requires.1.0 in
    let inside = c.requires.1.1.1.1.0 in
    let p = c.index-generators-i.result in
    let e = drop_value (numbered_of value) gens i p inside c.index-generators-i.is in
    let ae : value c.index-values-i.result ≡ dot d.row (values value p.vector.items) = value_at_index value d.row gens c.args.values.now making.at_row
    i c.index-values-i.result p (omega (arith, c.requires.1.1.1.0, inside)) inside c.index-values-i.is c.index-generators-i.is in
    let here : IsMadeSoFar value g.F.Field.holds d gens (with_negatives d.row (numbered_of value p) live ++ candidates_from value d gens (i + 1)) c.args.so_far.now =
    subst (λ (l : List LivePair). IsMadeSoFar value g.F.Field.holds d gens l c.args.so_far.now)
    (candidates_at d.row (numbered_of value p) (drop i live) (drop (i + 1) live) live e true
    (sym (ap (λ x. lt_ℚ zero_ℚ x) (sym ae) ∙ sym c.is_positive.ensures.test ∙ c.if-not-is_positive.false))) c.requires.1.1.1.1.1 in
    c.meet_with.ensures.left (candidates_from value d gens (i + 1)) here
