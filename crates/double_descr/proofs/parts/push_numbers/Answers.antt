use Rattle.std.proofs.Common.{◌+◌, ◌++◌, drop, map, refl, sym, ap, ◌∙◌}
use Rattle.polyhedra.proofs.Lists.{drop_value}
use Rattle.double_descr.specs.declared.generator.Generator.{Generator}
use Rattle.double_descr.proofs.InPlace.{push_on}
use Rattle.double_descr.proofs.parts.push_numbers.Goals as goal

pub loop-generator-preserved : goal.loop-generator-preserved
loop-generator-preserved g c =
    let gens = c.args.generators.now in
    let i = c.loop-generator.generator-index in
    let m = c.generator-item.result in
    let all = map (λ (h : Generator _). h.number) gens in
    let e = drop_value (λ (h : Generator _). h.number) gens i m c.loop-generator-test.true c.generator-item.is in
    push_on c.loop-generator.list m.number m.number (drop (i + 1) all) (c.args.list.now ++ all) c.push.new.self c.in_ok-push.ensures.ok refl
    (ap (λ l. c.loop-generator.list ++ l) (sym e) ∙ c.loop-generator.invariant)
