use Rattle.std.proofs.Common.{◌≡◌, List, ◌++◌, map, drop, All}
use Rattle.exact_field.specs.Vector.{dot}
use Rattle.polyhedra.specs.LiveList.{Numbered}
use Rattle.double_descr.specs.State.{live_of}
use Rattle.double_descr.specs.Adding.{AreHeld, Block, value_block}
use Rattle.double_descr.proofs.parts.values_at.Given as goal

abbrev pub invariant-loop-generator : goal.invariant-loop-generator
invariant-loop-generator g l =
    let value = g.F.Field.value in
    let row = map value l.row in
    let live = live_of value l.generators in
    record {
      written : map value l.out ++ map (λ (h : Numbered). dot row h.vector) (drop l.generator-index live) ≡ map (λ (h : Numbered). dot row h.vector) live;
      done : List Block;
      split : map (value_block row) live ≡ done ++ map (value_block row) (drop l.generator-index live);
      held : All (AreHeld g.F.Field.holds) done;
    }
