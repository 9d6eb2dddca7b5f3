use Rattle.std.proofs.Common.{◌≡◌, ℕ, ◌<◌, Bool, refl, List, ◌∷◌, map, length, get_or, Contains, sym, ap, ◌∙◌, subst, arith}
use Rattle.std.proofs.lemmas.List.{get_or-map, get_or_default}
use Rattle.exact_field.specs.Rational.{ℚ, zero_ℚ, ◌<ℚ◌}
use Rattle.exact_field.specs.Vector.{dot}
use Rattle.polyhedra.specs.LiveList.{LivePair}
use Rattle.double_descr.specs.Steps.{values}
use Rattle.double_descr.specs.State.{numbered_of, pair_of}
use Rattle.double_descr.specs.Making.{IsMadeSoFar, IsTried, pair_at}
use Rattle.double_descr.specs.declared.generator.Generator.{Generator}
use Rattle.double_descr.proofs.made.meet_at.Goals as goal
use Rattle.double_descr.proofs.MadePairs.{value_at_index, norming_of, two_of, tried, tried_fault}
use Rattle.double_descr.proofs.StepLists.{on_ok_map, if_err_map}

-- the value that was read is below 0
below_at : {F : Type 0} (value : F → ℚ) (vals : List F) (j : ℕ) (b : F) → j < length vals → b ≡ get_or vals j b → get_or (map value vals) j zero_ℚ <ℚ zero_ℚ → value b <ℚ zero_ℚ
below_at value vals j b l e h = subst (λ (x : ℚ). x <ℚ zero_ℚ) (get_or-map value vals j b zero_ℚ l ∙ ap value (sym e)) h

-- the candidate is the pair with the generator that was read
candidate : {F : Type 0} (value : F → ℚ) (gens : List (Generator F)) (p m : Generator F) (j : ℕ) → j < length gens → m ≡ get_or gens j m → pair_at value gens p j ≡ pair_of value p m
candidate value gens p m j l e = ap (λ h. record { plus_side = numbered_of value p; minus_side = h })
    (get_or-map (numbered_of value) gens j p (numbered_of value p) l ∙ ap (numbered_of value) (get_or_default gens j p m l ∙ sym e))

pub try_pair-requires : goal.try_pair-requires
try_pair-requires g c κs within =
    let value = g.F.Field.value in
    let holds = g.F.Field.holds in
    let d = g.addition in
    let gens = c.args.generators.now in
    let vals = c.args.values.now in
    let p = c.args.plus.now in
    let P = c.requires.1.0 in
    let inside = c.requires.1.1.1.1.0 in
    let m = c.index-generators-j.result in
    let b = c.index-values-j.result in
    let mc : Contains gens m = (c.args.j, inside, sym c.index-generators-j.is) in
    let be : value b ≡ dot d.row (values value m.vector.items) = value_at_index value d.row gens vals P.at_row
    c.args.j b m (omega (arith, c.requires.1.1.0, inside)) inside c.index-values-j.is c.index-generators-j.is in
    let down : value b <ℚ zero_ℚ = below_at value vals c.args.j b (omega (arith, c.requires.1.1.0, inside)) c.index-values-j.is c.requires.1.1.1.1.1.0 in
    let a : ℚ = value c.args.at_plus in (
      within,
      (
        two_of value d gens P.addition p m a (value b) P.listed mc P.valued be P.positive down,
        (
          P.addition.narrow,
          (
            P.room,
            (
              c.requires.1.1.1.0,
              (
                down,
                (
                  c.requires.1.1.1.1.1.1.0,
                  (
                    P.few,
                    (
                      c.requires.1.1.1.1.1.1.0.reach m mc (subst (λ (x : ℚ). x <ℚ zero_ℚ) be down),
                      norming_of value d gens P.addition p m a (value b) P.listed mc P.valued be P.positive down,
                    ),
                  ),
                ),
              ),
            ),
          ),
        ),
      ),
    )

-- a pair with too few common rows is left out
pub returns-then-not-meets_enough-clause-ok : goal.returns-then-not-meets_enough-clause-ok
returns-then-not-meets_enough-clause-ok g c = λ left h.
    let F = g.row.F.Denot in
    let value = g.F.Field.value in
    let holds = g.F.Field.holds in
    let d = g.addition in
    let gens = c.args.generators.now in
    let vals = c.args.values.now in
    let p = c.args.plus.now in
    let P = c.requires.1.0 in
    let inside = c.requires.1.1.1.1.0 in
    let within : c.args.j < length vals = omega (arith, c.requires.1.1.0, inside) in
    let m = c.index-generators-j.result in
    let a : ℚ = value c.args.at_plus in
    let b : F = get_or vals c.args.j c.args.at_plus in
    let is : b ≡ get_or vals c.args.j b = get_or_default vals c.args.j c.args.at_plus b within in
    let mc : Contains gens m = (c.args.j, inside, sym c.index-generators-j.is) in
    let be : value b ≡ dot d.row (values value m.vector.items) = value_at_index value d.row gens vals P.at_row c.args.j b m within inside is c.index-generators-j.is in
    let down : value b <ℚ zero_ℚ = below_at value vals c.args.j b within is c.requires.1.1.1.1.1.0 in
    let two = two_of value d gens P.addition p m a (value b) P.listed mc P.valued be P.positive down in
    let covered = c.meets_enough.ensures (length d.row) d.rows gens m two (λ k marked. marked) c.if-not-meets_enough.true in
    let here : IsMadeSoFar value holds d gens (pair_of value p m ∷ left) c.args.so_far.now =
    subst (λ (q : LivePair). IsMadeSoFar value holds d gens (q ∷ left) c.args.so_far.now) (candidate value gens p m c.args.j inside c.index-generators-j.is) h in
    tried value holds d gens P.addition p m P.listed mc a (value b) P.valued be P.positive down left c.args.so_far.now c.args.so_far.now here
    (subst (λ (t : Bool). IsTried value holds t p m a (value b) c.args.so_far.now c.args.so_far.now) (sym covered) (refl, refl)) refl refl

pub returns-clause-ok : goal.returns-clause-ok
returns-clause-ok g c = λ left h.
    let value = g.F.Field.value in
    let holds = g.F.Field.holds in
    let d = g.addition in
    let gens = c.args.generators.now in
    let vals = c.args.values.now in
    let p = c.args.plus.now in
    let P = c.requires.1.0 in
    let inside = c.requires.1.1.1.1.0 in
    let m = c.index-generators-j.result in
    let b = c.index-values-j.result in
    let mc : Contains gens m = (c.args.j, inside, sym c.index-generators-j.is) in
    let be : value b ≡ dot d.row (values value m.vector.items) = value_at_index value d.row gens vals P.at_row
    c.args.j b m (omega (arith, c.requires.1.1.0, inside)) inside c.index-values-j.is c.index-generators-j.is in
    let down : value b <ℚ zero_ℚ = below_at value vals c.args.j b (omega (arith, c.requires.1.1.0, inside)) c.index-values-j.is c.requires.1.1.1.1.1.0 in
    let here : IsMadeSoFar value holds d gens (pair_of value p m ∷ left) c.args.so_far.now =
    subst (λ (q : LivePair). IsMadeSoFar value holds d gens (q ∷ left) c.args.so_far.now) (candidate value gens p m c.args.j inside c.index-generators-j.is) h in
    on_ok_map c.try_pair.result _ _ c.try_pair.ensures.ok
    (λ t. tried value holds d gens P.addition p m P.listed mc (value c.args.at_plus) (value b)
    P.valued be P.positive down left c.args.so_far.now c.try_pair.new.so_far here t c.try_pair.ensures.from c.try_pair.ensures.bound)

pub returns-clause-left : goal.returns-clause-left
returns-clause-left g c = λ left h.
    let value = g.F.Field.value in
    let holds = g.F.Field.holds in
    let d = g.addition in
    let gens = c.args.generators.now in
    let vals = c.args.values.now in
    let p = c.args.plus.now in
    let P = c.requires.1.0 in
    let inside = c.requires.1.1.1.1.0 in
    let m = c.index-generators-j.result in
    let b = c.index-values-j.result in
    let mc : Contains gens m = (c.args.j, inside, sym c.index-generators-j.is) in
    let be : value b ≡ dot d.row (values value m.vector.items) = value_at_index value d.row gens vals P.at_row
    c.args.j b m (omega (arith, c.requires.1.1.0, inside)) inside c.index-values-j.is c.index-generators-j.is in
    let down : value b <ℚ zero_ℚ = below_at value vals c.args.j b (omega (arith, c.requires.1.1.0, inside)) c.index-values-j.is c.requires.1.1.1.1.1.0 in
    let here : IsMadeSoFar value holds d gens (pair_of value p m ∷ left) c.args.so_far.now =
    subst (λ (q : LivePair). IsMadeSoFar value holds d gens (q ∷ left) c.args.so_far.now) (candidate value gens p m c.args.j inside c.index-generators-j.is) h in
    if_err_map c.try_pair.result _ _ c.try_pair.ensures.left
    (λ fault k. tried_fault value holds d gens P.addition p m P.listed mc (value c.args.at_plus) (value b)
    P.valued be P.positive down left c.args.so_far.now c.try_pair.new.so_far here fault k)

-- a generator whose place was left out has no pair with it
pub returns-then-not-has-clause-ok : goal.returns-then-not-has-clause-ok
returns-then-not-has-clause-ok g c = λ left h.
    let F = g.row.F.Denot in
    let value = g.F.Field.value in
    let holds = g.F.Field.holds in
    let d = g.addition in
    let gens = c.args.generators.now in
    let vals = c.args.values.now in
    let p = c.args.plus.now in
    let j = c.args.j in
    let P = c.requires.1.0 in
    let inside = c.requires.1.1.1.1.0 in
    let within : j < length vals = omega (arith, c.requires.1.1.0, inside) in
    let m : Generator F = get_or gens j p in
    let m-is : m ≡ get_or gens j m = get_or_default gens j p m inside in
    let a : ℚ = value c.args.at_plus in
    let b : F = get_or vals j c.args.at_plus in
    let is : b ≡ get_or vals j b = get_or_default vals j c.args.at_plus b within in
    let mc : Contains gens m = (j, inside, sym m-is) in
    let be : value b ≡ dot d.row (values value m.vector.items) = value_at_index value d.row gens vals P.at_row j b m within inside is m-is in
    let down : value b <ℚ zero_ℚ = below_at value vals j b within is c.requires.1.1.1.1.1.0 in
    let two = two_of value d gens P.addition p m a (value b) P.listed mc P.valued be P.positive down in
    let covered = c.requires.1.1.1.1.1.1.1 m j inside m-is two (subst (λ (x : ℚ). x <ℚ zero_ℚ) be down) (sym c.has.ensures ∙ c.if-not-has.true) in
    let here : IsMadeSoFar value holds d gens (pair_of value p m ∷ left) c.args.so_far.now =
    subst (λ (q : LivePair). IsMadeSoFar value holds d gens (q ∷ left) c.args.so_far.now) (candidate value gens p m j inside m-is) h in
    tried value holds d gens P.addition p m P.listed mc a (value b) P.valued be P.positive down left c.args.so_far.now c.args.so_far.now here
    (subst (λ (t : Bool). IsTried value holds t p m a (value b) c.args.so_far.now c.args.so_far.now) (sym covered) (refl, refl)) refl refl
