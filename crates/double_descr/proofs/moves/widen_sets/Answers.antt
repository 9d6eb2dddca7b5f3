use Rattle.std.proofs.Common.{◌≡◌, ◌+◌, ◌<◌, [], ◌∷◌, ◌++◌, get_or, length, refl, ap, ◌∙◌, arith}
use Rattle.std.proofs.lemmas.List.{drop-set-lt}
use Rattle.std.proofs.lemmas.Grind.{drop_more_same}
use Rattle.polyhedra.proofs.Members.{listed}
use Rattle.double_descr.specs.Making.{HasRoomForRow}
use Rattle.double_descr.specs.State.{HasTightSet, with_set, with_tight_set}
use Rattle.double_descr.specs.Steps.{values}
use Rattle.double_descr.specs.declared.generator.Generator.{Generator}
use Rattle.double_descr.proofs.InPlace.{all_mapped, here_same, none_mapped, one_more_mapped}
use Rattle.double_descr.proofs.MadePairs.{value_at_index}
use Rattle.double_descr.proofs.NextLists.{set_with}
use Rattle.double_descr.proofs.moves.widen_sets.Goals as goal

pub widen_set-requires : goal.widen_set-requires
widen_set-requires g c =
    let first = c.args.generators.now.items in
    let now = c.loop-i.generators.items in
    let i = c.loop-i.i in
    let own = c.index_mut-generator.result.now in
    let in_first : i < length first = omega (arith, c.args.generators.now.ok.0) in
    let in_now : i < length now = omega (arith, c.loop-i.generators.ok.0, c.loop-i.invariant.many) in
    listed (λ (h : Generator _). HasRoomForRow h) first i own c.requires.room in_first
    (c.index_mut-generator.ensures.value ∙ here_same first now i own c.loop-i.invariant.rest in_first in_now)

pub loop-i-init : goal.loop-i-init
loop-i-init g c = record {
  many = refl;
  capacity = refl;
  rest = refl;
  given = λ a at tight. none_mapped (with_tight_set g.F.Field.value (a.rows ++ a.row ∷ [])) c.args.generators.now.items;
}

pub loop-i-preserved : goal.loop-i-preserved
loop-i-preserved g c =
    let value = g.F.Field.value in
    let first = c.args.generators.now.items in
    let now = c.loop-i.generators.items in
    let i = c.loop-i.i in
    let at = c.loop-i.invariant in
    let own = c.index_mut-generator.result.now in
    let new = c.widen_set.new.generator in
    let x = c.index-vals-i.result in
    let in_vals : i < length c.args.vals.now = omega arith in
    let in_first : i < length first = omega (arith, c.args.generators.now.ok.0) in
    let in_now : i < length now = omega (arith, c.loop-i.generators.ok.0, at.many) in
    let own_is : own ≡ get_or first i own = c.index_mut-generator.ensures.value ∙ here_same first now i own at.rest in_first in_now in
    record {
      many = at.many;
      capacity = at.capacity;
      rest = drop-set-lt (i + 1) now i new (omega arith) ∙ drop_more_same now first i at.rest;
      given = λ a vals tight. one_more_mapped (with_tight_set value (a.rows ++ a.row ∷ [])) i first now own new (at.given a vals tight) in_first in_now
          (c.widen_set.ensures
          ∙ ap (λ t. with_set own t) (set_with a.rows a.row (values value own.vector.items) (value x) own.tight _
          (value_at_index value a.row first c.args.vals.now vals i x own in_vals in_first c.index-vals-i.is own_is)
          (listed (HasTightSet value a.rows) first i own tight in_first own_is) refl)
          ∙ ap (with_tight_set value (a.rows ++ a.row ∷ [])) c.index_mut-generator.ensures.value);
    }

pub returns-clause-given : goal.returns-clause-given
returns-clause-given g c = λ a vals tight. all_mapped (with_tight_set g.F.Field.value (a.rows ++ a.row ∷ [])) c.loop-i.i c.args.generators.now.items c.loop-i.generators.items
    (c.loop-i.invariant.given a vals tight)
    (omega (arith, c.args.generators.now.ok.0)) (omega (arith, c.loop-i.generators.ok.0, c.loop-i.invariant.many))
