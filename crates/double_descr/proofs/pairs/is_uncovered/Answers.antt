use Rattle.std.proofs.Common.{◌≡◌, ℕ, ◌+◌, ◌<◌, ◌≤◌, List, [], Bool, true, false, IsTrue, length, drop, get_or, nat_eq, None, Some, refl, sym, ap, ◌∙◌, subst, arith}
use Rattle.std.proofs.Common.{true≢false}
use Rattle.std.specs.List.{list_all}
use Rattle.std.proofs.lemmas.Bool.{and_parts, not_from_false, not_from_true}
use Rattle.std.proofs.lemmas.List.{drop_all, get_or-map, get_or_default, length-map}
use Rattle.exact_field.specs.Rational.{ℚ}
use Rattle.incid_sets.specs.Marks.{has, ContainsAll, IsMeet, IsNextFrom}
use Rattle.polyhedra.proofs.Covering.{none_at, all_but}
use Rattle.polyhedra.specs.DoubleDescription.{covers}
use Rattle.polyhedra.specs.LiveList.{Numbered, third_test}
use Rattle.polyhedra.proofs.Lists.{drop_value}
use Rattle.polyhedra.proofs.Members.{listed}
use Rattle.double_descr.specs.ByRow.{tight_at}
use Rattle.double_descr.specs.State.{HasTightSet, live_of, numbered_of, pair_of}
use Rattle.double_descr.specs.declared.generator.Generator.{Generator}
use Rattle.double_descr.specs.Steps.{values}
use Rattle.double_descr.proofs.ByRow.{covered_rows, no_third, pass_over}
use Rattle.double_descr.proofs.pairs.is_uncovered.Goals as goal

-- generators in places that are not in the set do not cover the pair
passed : {F : Type 0} (value : F → ℚ) (rows : List (List ℚ)) (gens : List (Generator F)) (thirds common : List Bool) (p m : Generator F) →
    ((place : ℕ) → place < length gens → ContainsAll (tight_at gens place) common → IsTrue (has thirds place)) → (all : (g : Generator F) (i : ℕ) → i < length gens → g ≡ get_or gens i g → HasTightSet value rows g) →
    HasTightSet value rows p → HasTightSet value rows m → IsMeet common p.tight m.tight → (k l : ℕ) → k ≤ l → ((i : ℕ) → k ≤ i → i < l → has thirds i ≡ false) →
    list_all (third_test rows (pair_of value p m)) (drop l (live_of value gens)) ≡ list_all (third_test rows (pair_of value p m)) (drop k (live_of value gens))
passed {F = F} value rows gens thirds common p m complete all a b meet k l le none =
    pass_over test live k l le at
  where
    live : List Numbered
    live = live_of value gens

    test : Numbered → Bool
    test = third_test rows (pair_of value p m)

    at : (i : ℕ) (x : Numbered) → k ≤ i → i < l → i < length live → x ≡ get_or live i x → test x ≡ true
    at i x lo hi within is =
        let inside : i < length gens = let e = length-map gens (numbered_of value) in omega (arith, within, e) in
        let h : Generator F = get_or gens i p in
        let same : x ≡ numbered_of value h = is ∙ get_or-map (numbered_of value) gens i p x inside in
        no_third (nat_eq x.number p.number) (nat_eq x.number m.number) (covers rows (values value p.vector.items) (values value m.vector.items) x.vector) (λ covering.
        let tight = all h i inside (get_or_default gens i p h inside) in
        let reads : tight_at gens i ≡ h.tight = get_or-map (λ (u : Generator F). u.tight) gens i p [] inside in
        let full : ContainsAll (tight_at gens i) common = λ r marked.
        let parts = and_parts (has p.tight r) (has m.tight r) (sym (meet.common r) ∙ marked) in
        ap (λ s. has s r) (reads ∙ tight)
        ∙ covered_rows rows (values value p.vector.items) (values value m.vector.items) (values value h.vector.items) (ap (λ (u : Numbered). covers rows (values value p.vector.items) (values value m.vector.items) u.vector) (sym same) ∙ covering) r
        (ap (λ s. has s r) (sym a) ∙ parts.0) (ap (λ s. has s r) (sym b) ∙ parts.1) in
        true≢false (sym (complete i inside full) ∙ none i lo hi))

pub loop-i-init : goal.loop-i-init
loop-i-init g c = λ rows all a b m. refl

pub returns-then-covers_pair : goal.returns-then-covers_pair
returns-then-covers_pair g c = λ rows all a b m. sym (none_at (numbered_of g.F.Field.value) (third_test rows (pair_of g.F.Field.value c.args.plus.now c.args.minus.now)) c.args.generators.now
    c.args.last.now c.index-generators-last.result c.if-last-generators.true c.index-generators-last.is
    (sym (c.covers_pair.ensures rows (listed (HasTightSet g.F.Field.value rows) c.args.generators.now c.args.last.now c.index-generators-last.result all c.if-last-generators.true c.index-generators-last.is) a b m)
    ∙ not_from_true c.covers_pair.result c.if-covers_pair.true))

pub returns-then-covers_pair-2 : goal.returns-then-covers_pair-2
returns-then-covers_pair-2 g c = λ rows all a b m.
    let value = g.F.Field.value in
    let gens = c.args.generators.now in
    let i = c.in-Some.i in
    let third = c.index-generators-i.result in
    let found : IsNextFrom c.args.thirds.now c.loop-i.from (Some i) = subst (λ o. IsNextFrom c.args.thirds.now c.loop-i.from o) c.in-Some.is c.next_from.ensures in
    let inside : i < length gens = omega (arith, found.1, c.requires.bound) in
    sym (none_at (numbered_of value) (third_test rows (pair_of value c.args.plus.now c.args.minus.now)) gens i third inside c.index-generators-i.is
    (sym (c.covers_pair-in-Some.ensures rows (listed (HasTightSet value rows) gens i third all inside c.index-generators-i.is) a b m)
    ∙ not_from_true c.covers_pair-in-Some.result c.if-covers_pair-2.true))

pub loop-i-preserved : goal.loop-i-preserved
loop-i-preserved g c = λ rows all a b m.
    let value = g.F.Field.value in
    let gens = c.args.generators.now in
    let live = live_of value gens in
    let i = c.in-Some.i in
    let third = c.index-generators-i.result in
    let found : IsNextFrom c.args.thirds.now c.loop-i.from (Some i) = subst (λ o. IsNextFrom c.args.thirds.now c.loop-i.from o) c.in-Some.is c.next_from.ensures in
    let inside : i < length gens = omega (arith, found.1, c.requires.bound) in
    all_but (third_test rows (pair_of value c.args.plus.now c.args.minus.now)) (numbered_of value third) (drop i live) (drop (i + 1) live)
    (drop_value (numbered_of value) gens i third inside c.index-generators-i.is)
    (sym (c.covers_pair-in-Some.ensures rows (listed (HasTightSet value rows) gens i third all inside c.index-generators-i.is) a b m)
    ∙ not_from_false c.covers_pair-in-Some.result c.if-covers_pair-2.false)
    ∙ passed value rows gens c.args.thirds.now c.args.common.now c.args.plus.now c.args.minus.now c.requires.thirds (λ h k l e. listed (HasTightSet value rows) gens k h all l e)
    a b m c.loop-i.from i found.0 found.3
    ∙ c.loop-i.invariant rows all a b m

pub returns : goal.returns
returns g c = λ rows all a b m.
    let value = g.F.Field.value in
    let gens = c.args.generators.now in
    let live = live_of value gens in
    let from = c.loop-i.from in
    let none : IsNextFrom c.args.thirds.now from None = subst (λ o. IsNextFrom c.args.thirds.now from o) c.in_default.is c.next_from.ensures in
    let many = length-map gens (numbered_of value) in
    let last : ℕ = from + length gens in
    ap (list_all (third_test rows (pair_of value c.args.plus.now c.args.minus.now))) (sym (drop_all last live (omega (arith, many))))
    ∙ passed value rows gens c.args.thirds.now c.args.common.now c.args.plus.now c.args.minus.now c.requires.thirds (λ h k l e. listed (HasTightSet value rows) gens k h all l e)
    a b m from last (omega arith) (λ i lo hi. none i lo)
    ∙ c.loop-i.invariant rows all a b m
