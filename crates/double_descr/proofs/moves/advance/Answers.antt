use Rattle.std.proofs.Common.{◌≡◌, List, [], ◌∷◌, ◌++◌, map, length, All, sym, ap, ◌∙◌, subst, arith}
use Rattle.std.proofs.lemmas.List.{map-append}
use Rattle.std.proofs.lemmas.List.Elements.{All-append}
use Rattle.exact_field.specs.Vector.{dot}
use Rattle.polyhedra.specs.LiveList.{Numbered, staying}
use Rattle.double_descr.specs.State.{HasTightSet, live_of, numbered_of}
use Rattle.double_descr.specs.declared.generator.Generator.{Generator}
use Rattle.double_descr.proofs.NextLists.{all_tight, same_live}
use Rattle.double_descr.proofs.moves.advance.Goals as goal

pub unreachable-requires : goal.unreachable-requires
unreachable-requires g c = omega (arith, c.in-Err.ensures.full, c.into_vec-new.result.ok.0, ap length c.into_vec-new.ensures.items)

pub returns-clause-live : goal.returns-clause-live
returns-clause-live g c = λ a moving.
    let value = g.F.Field.value in
    let rows = a.rows ++ a.row ∷ [] in
    let first = c.args.generators.now.items in
    let same : live_of value c.renew_sets.new.generators.items ≡ live_of value first =
    ap (live_of value) (c.renew_sets.ensures.given a moving) ∙ same_live value rows first in
    ap (live_of value) (c.in-Ok.ensures.items ∙ ap (λ l. c.drop_below.new.generators.items ++ l) c.into_vec-new.ensures.items)
    ∙ map-append (numbered_of value) c.drop_below.new.generators.items c.args.new
    ∙ ap (λ l. l ++ live_of value c.args.new)
    (c.drop_below.ensures.live a.row (moving.at_row ∙ ap (map (λ (h : Numbered). dot a.row h.vector)) (sym same)) ∙ ap (staying a.row) same)

pub returns-clause-tight : goal.returns-clause-tight
returns-clause-tight g c = λ a moving new.
    let value = g.F.Field.value in
    let rows = a.rows ++ a.row ∷ [] in
    let first = c.args.generators.now.items in
    subst (λ (gs : List (Generator _)). All (HasTightSet value rows) gs)
    (sym (c.in-Ok.ensures.items ∙ ap (λ l. c.drop_below.new.generators.items ++ l) c.into_vec-new.ensures.items))
    (All-append (HasTightSet value rows) c.drop_below.new.generators.items c.args.new
    (c.drop_below.ensures.tight rows
    (subst (λ (gs : List (Generator _)). All (HasTightSet value rows) gs) (sym (c.renew_sets.ensures.given a moving)) (all_tight value rows first))) new)
