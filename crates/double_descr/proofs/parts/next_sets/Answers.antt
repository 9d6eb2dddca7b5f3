use Rattle.std.proofs.Common.{◌+◌, ◌<◌, [], ◌∷◌, ◌++◌, drop, length, sym, ap, ◌∙◌, arith}
use Rattle.polyhedra.specs.LiveList.{tight_set}
use Rattle.polyhedra.proofs.Lists.{drop_value}
use Rattle.polyhedra.proofs.Members.{listed}
use Rattle.double_descr.specs.State.{HasTightSet, tight_sets}
use Rattle.double_descr.specs.Steps.{values}
use Rattle.double_descr.specs.declared.generator.Generator.{Generator}
use Rattle.double_descr.proofs.InPlace.{push_on}
use Rattle.double_descr.proofs.MadePairs.{value_at_index}
use Rattle.double_descr.proofs.NextLists.{set_with}
use Rattle.double_descr.proofs.parts.next_sets.Goals as goal

pub next_set-requires : goal.next_set-requires
next_set-requires g c = listed (λ (h : Generator _). length h.tight + 1 < 4294967296) c.args.generators.now c.loop-i.i c.index-generators-i.result c.requires.1.1.1.1
    c.loop-i-test.true c.index-generators-i.is

pub loop-i-preserved : goal.loop-i-preserved
loop-i-preserved g c =
    let value = g.F.Field.value in
    let rows = g.addition.rows in
    let row = g.addition.row in
    let gens = c.args.generators.now in
    let i = c.loop-i.i in
    let m = c.index-generators-i.result in
    let x = c.index-vals-i.result in
    let all = tight_sets value (rows ++ row ∷ []) gens in
    let e = drop_value (λ (h : Generator _). tight_set (rows ++ row ∷ []) (values value h.vector.items)) gens i m c.loop-i-test.true c.index-generators-i.is in
    push_on c.loop-i.sets _ (tight_set (rows ++ row ∷ []) (values value m.vector.items)) (drop (i + 1) all) all c.push.new.self c.in_ok-push.ensures.ok
    (set_with rows row (values value m.vector.items) (value x) m.tight _
    (value_at_index value row gens c.args.vals.now c.requires.1.0 i x m (omega (arith, c.requires.1.1.1.0, c.loop-i-test.true)) c.loop-i-test.true c.index-vals-i.is c.index-generators-i.is)
    (listed (HasTightSet value rows) gens i m c.requires.1.1.0 c.loop-i-test.true c.index-generators-i.is) c.in_ok-next_set.ensures)
    (ap (λ l. c.loop-i.sets ++ l) (sym e) ∙ c.loop-i.invariant)
