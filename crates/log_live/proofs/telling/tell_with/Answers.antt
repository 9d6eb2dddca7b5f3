use Rattle.std.proofs.Common.{sym, subst, arith, ◌∙◌, ◌<◌, List, [], ◌∷◌, Bor, map, take, length}
use Rattle.std.specs.List.{flat_map}
use Rattle.std.proofs.lemmas.List.{length-map}
use Rattle.polyhedra.specs.LiveList.{Numbered, LivePair}
use Rattle.polyhedra.proofs.Members.{listed}
use Rattle.log_live.specs.declared.generator.Generator.{Generator}
use Rattle.log_live.specs.Live.{HasTightSet, live_of, numbered_of}
use Rattle.log_live.specs.Hinting.{Tells}
use Rattle.log_live.proofs.PairMatches.{flat-more}
use Rattle.log_live.proofs.Tellings.{tells-then}
use Rattle.vlp_matrices.proofs.Lists.{map-at}
use Rattle.log_live.proofs.telling.tell_with.Goals as goal

pub loop-minus-preserved : goal.loop-minus-preserved
loop-minus-preserved c = record {
  common = c.tell_pair.ensures.common ∙ c.loop-minus.invariant.common;
  tells = λ rows all plus negatives.
      let beside : Numbered → List LivePair = λ m. record {
        plus_side = numbered_of c.args.plus.now;
        minus_side = m;
      } ∷ [] in
      let m : Numbered = numbered_of c.minus-item.result.now in
      let ms : List Numbered = map (λ (g : Bor Generator). numbered_of g.now)
      c.args.negatives.now in
      let live : List Numbered = live_of c.args.generators.now in
      let inside : c.loop-minus.minus-index < length ms = let many = length-map c.args.negatives.now
      (λ (g : Bor Generator). numbered_of g.now) in let less = c.loop-minus-test.true in omega
      (arith, many, less) in
      let here : Tells rows live c.args.pairs.now c.loop-minus.telling c.tell_pair.new.telling
      (beside m) =
      c.in_ok-tell_pair.ensures.tells rows all plus
      (listed (λ (g : Bor Generator). HasTightSet rows g.now) c.args.negatives.now c.loop-minus.minus-index
      c.minus-item.result negatives c.loop-minus-test.true c.minus-item.is) in
      subst (λ (b : List LivePair). Tells rows live c.args.pairs.now c.args.telling.now
      c.tell_pair.new.telling b)
      (sym (flat-more beside ms c.loop-minus.minus-index m inside
      (map-at (λ (g : Bor Generator). numbered_of g.now) c.args.negatives.now c.loop-minus.minus-index
      c.minus-item.result c.loop-minus-test.true c.minus-item.is)))
      (tells-then rows live c.args.pairs.now c.args.telling.now c.loop-minus.telling
      c.tell_pair.new.telling (flat_map beside (take c.loop-minus.minus-index ms)) (beside m)
      (c.loop-minus.invariant.tells rows all plus negatives) here);
}
