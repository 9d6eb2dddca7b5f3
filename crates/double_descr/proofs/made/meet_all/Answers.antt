use Rattle.std.proofs.Common.{◌∙◌, List, length, map, ap, sym, subst, arith}
use Rattle.std.proofs.lemmas.Bool.{eqb-true}
use Rattle.std.proofs.lemmas.List.{drop_all, length-map}
use Rattle.polyhedra.specs.LiveList.{Numbered, LivePair}
use Rattle.double_descr.specs.State.{live_of, numbered_of}
use Rattle.double_descr.specs.Making.{IsMadeSoFar, candidates}
use Rattle.double_descr.proofs.MadePairs.{no_candidates}
use Rattle.double_descr.proofs.made.meet_all.Goals as goal

pub returns-clause-ok : goal.returns-clause-ok
returns-clause-ok g c =
    let value = g.F.Field.value in
    let gens = c.args.generators.now in
    subst (λ (l : List Numbered). IsMadeSoFar value g.F.Field.holds g.addition gens (candidates g.addition.row l (live_of value gens)) c.loop-i.so_far)
    (drop_all c.loop-i.i (live_of value gens) (omega (arith, length-map gens (numbered_of value))))
    c.loop-i.invariant

-- without a negative value there is no pair
pub returns-then-is_empty-clause-ok : goal.returns-then-is_empty-clause-ok
returns-then-is_empty-clause-ok g c =
    let value = g.F.Field.value in
    let d = g.addition in
    let gens = c.args.generators.now in
    let making = c.requires.1.0 in
    subst (λ (l : List LivePair). IsMadeSoFar value g.F.Field.holds d gens l c.args.so_far.now)
    (no_candidates d.row (live_of value gens) (map value c.args.values.now) making.at_row (ap length (sym making.places) ∙ eqb-true (length c.args.below.now) 0 (sym c.if-is_empty.ensures))) c.requires.1.1.1
