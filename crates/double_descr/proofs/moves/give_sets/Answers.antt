use Rattle.std.proofs.Common.{◌≡◌, ℕ, ◌+◌, ◌<◌, List, Bool, drop, get_or, length, refl, sym, ap, ◌∙◌, arith}
use Rattle.std.proofs.lemmas.List.{drop-set-lt, get_or-map}
use Rattle.std.proofs.lemmas.Grind.{drop_more_same}
use Rattle.exact_field.specs.Rational.{ℚ}
use Rattle.polyhedra.specs.LiveList.{tight_set}
use Rattle.double_descr.specs.State.{tight_sets, with_tight_set}
use Rattle.double_descr.specs.Steps.{values}
use Rattle.double_descr.specs.declared.generator.Generator.{Generator}
use Rattle.double_descr.proofs.InPlace.{all_mapped, here_same, none_mapped, one_more_mapped}
use Rattle.double_descr.proofs.moves.give_sets.Goals as goal

-- the set at a place is that of the generator there
set_is : {F : Type 0} (value : F → ℚ) (rows : List (List ℚ)) (first now : List (Generator F)) (all sets : List (List Bool)) (i : ℕ) (own : Generator F) (s : List Bool) →
    drop i now ≡ drop i first → drop i sets ≡ drop i all → all ≡ tight_sets value rows first → i < length first → i < length now → i < length all → i < length sets →
    get_or sets i s ≡ tight_set rows (values value (get_or now i own).vector.items)
set_is value rows first now all sets i own s rest others e lf ln la ls =
    here_same all sets i s others la ls ∙ ap (λ (ss : List (List Bool)). get_or ss i s) e
    ∙ get_or-map (λ (h : Generator _). tight_set rows (values value h.vector.items)) first i own s lf
    ∙ ap (λ (h : Generator _). tight_set rows (values value h.vector.items)) (sym (here_same first now i own rest lf ln))

pub loop-i-init : goal.loop-i-init
loop-i-init g c = record {
  many = refl;
  capacity = refl;
  sets = refl;
  given = λ rows e. none_mapped (with_tight_set g.F.Field.value rows) c.args.generators.now.items;
}

pub loop-i-preserved : goal.loop-i-preserved
loop-i-preserved g c =
    let value = g.F.Field.value in
    let first = c.args.generators.now.items in
    let all = c.args.sets.now in
    let i = c.loop-i.i in
    let at = c.loop-i.invariant in
    let own = c.index_mut-generator.result.now in
    let set = c.index-sets-i.result in
    let inside : i < length all = omega arith in
    let in_sets : i < length c.loop-i.sets = omega arith in
    let in_first : i < length first = omega (arith, c.args.generators.now.ok.0) in
    let in_now : i < length c.loop-i.generators.items = omega (arith, c.loop-i.generators.ok.0, at.many) in
    record {
      many = at.many;
      capacity = at.capacity;
      sets = drop-set-lt (i + 1) c.loop-i.sets i c.swap.new.y (omega arith) ∙ drop_more_same c.loop-i.sets all i at.sets;
      given = λ rows e. one_more_mapped (with_tight_set value rows) i first c.loop-i.generators.items own _ (at.given rows e) in_first in_now
          (ap (λ t. record own { tight = t }) (c.swap.ensures.x_after
          ∙ set_is value rows first c.loop-i.generators.items all c.loop-i.sets i own set (at.given rows e).rest at.sets e in_first in_now inside in_sets
          ∙ ap (λ (h : Generator _). tight_set rows (values value h.vector.items)) (sym c.index_mut-generator.ensures.value))
          ∙ ap (with_tight_set value rows) c.index_mut-generator.ensures.value);
    }

pub returns-clause-given : goal.returns-clause-given
returns-clause-given g c = λ rows e. all_mapped (with_tight_set g.F.Field.value rows) c.loop-i.i c.args.generators.now.items c.loop-i.generators.items (c.loop-i.invariant.given rows e)
    (omega (arith, c.args.generators.now.ok.0)) (omega (arith, c.loop-i.generators.ok.0, c.loop-i.invariant.many))
