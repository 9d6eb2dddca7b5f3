use Rattle.std.proofs.Common.{◌≡◌, sym, subst, ap, refl, arith, ◌∙◌, ◌<◌, List, All, length, take, map, Bor}
use Rattle.std.specs.List.{flat_map}
use Rattle.std.proofs.lemmas.List.{length-map}
use Rattle.polyhedra.specs.LiveList.{Numbered, LivePair}
use Rattle.polyhedra.proofs.Members.{listed}
use Rattle.log_rules.specs.Live.{value}
use Rattle.log_versions.specs.Hints.{opposite_pairs}
use Rattle.log_live.specs.Live.{HasTightSet, live_of, numbered_of}
use Rattle.log_live.specs.Hinting.{Tells, pairs_beside_at}
use Rattle.log_live.specs.declared.generator.Generator.{Generator}
use Rattle.log_live.specs.declared.telling.Telling.{Telling}
use Rattle.log_live.proofs.PairMatches.{flat-more, flat-whole, mapped-at, all-among}
use Rattle.log_live.proofs.Hintings.{opposite-are}
use Rattle.log_live.proofs.Tellings.{tells-then, told}
use Rattle.vlp_matrices.proofs.Lists.{map-at}
use Rattle.log_live.proofs.telling.tell_hints.Goals as goal

pub tell_at-requires-clause-bounds : goal.tell_at-requires-clause-bounds
tell_at-requires-clause-bounds c =
    let own = listed (λ (g : Generator). length g.tight ≡ length c.args.common)
    c.args.generators.now c.loop-i.i c.index-generators-i.result c.requires.bounds
    c.loop-i-test.true c.index-generators-i.is in
    subst (All
    (λ (g : Bor Generator). length g.now.tight ≡ length c.index-generators-i.result.tight))
    (sym c.as_slice.ensures.value)
    (all-among (λ (g : Generator). length g.tight ≡ length c.index-generators-i.result.tight)
    c.args.generators.now c.in_ok-negatives.negatives.items c.in_ok-negatives.ensures.among
    (λ k d h. c.requires.bounds k d h ∙ sym own))

pub loop-i-preserved : goal.loop-i-preserved
loop-i-preserved c = record {
  common = c.tell_at.ensures.common ∙ c.loop-i.invariant.common;
  tells = λ rows row all vals.
      let start : Telling = record { listed = 0; hints = c.new.result; common = c.args.common } in
      let at : Numbered → List LivePair = pairs_beside_at row (live_of c.args.generators.now) in
      let p : Numbered = numbered_of c.index-generators-i.result in
      let live : List Numbered = live_of c.args.generators.now in
      let inside : c.loop-i.i < length live = let many = length-map c.args.generators.now
      numbered_of in let less = c.loop-i-test.true in omega (arith, many, less) in
      let tight : All (λ (g : Bor Generator). HasTightSet rows g.now) c.as_slice.result.now =
      subst (All (λ (g : Bor Generator). HasTightSet rows g.now)) (sym c.as_slice.ensures.value)
      (all-among (HasTightSet rows) c.args.generators.now c.in_ok-negatives.negatives.items
      c.in_ok-negatives.ensures.among all) in
      let here : Tells rows live c.args.pairs.now c.loop-i.telling c.tell_at.new.telling (at p) =
      c.in_ok-tell_at.ensures.tells rows row all
      (listed (HasTightSet rows) c.args.generators.now c.loop-i.i c.index-generators-i.result all
      c.loop-i-test.true c.index-generators-i.is) tight
      (mapped-at (λ g. value row (numbered_of g)) c.args.generators.now c.args.values.now c.loop-i.i
      c.index-generators-i.result c.index-values-i.result vals c.loop-i-test.true
      c.index-generators-i.is c.index-values-i.is)
      (ap (map (λ (g : Bor Generator). numbered_of g.now)) c.as_slice.ensures.value
      ∙ c.in_ok-negatives.ensures.negative row vals) in
      subst (λ (b : List LivePair). Tells rows live c.args.pairs.now start c.tell_at.new.telling b)
      (sym (flat-more at live c.loop-i.i p inside
      (map-at numbered_of c.args.generators.now c.loop-i.i c.index-generators-i.result
      c.loop-i-test.true c.index-generators-i.is)))
      (tells-then rows live c.args.pairs.now start c.loop-i.telling c.tell_at.new.telling
      (flat_map at (take c.loop-i.i live)) (at p) (c.loop-i.invariant.tells rows row all vals)
      here);
}

pub returns : goal.returns
returns c rows row all vals =
    let start : Telling = record { listed = 0; hints = c.new.result; common = c.args.common } in
    let at : Numbered → List LivePair = pairs_beside_at row (live_of c.args.generators.now) in
    let live : List Numbered = live_of c.args.generators.now in
    told rows live c.args.pairs.now start c.loop-i.telling
    (opposite_pairs live row) refl c.new.ensures
    (subst (λ (b : List LivePair). Tells rows live c.args.pairs.now start c.loop-i.telling b)
    (flat-whole at live c.loop-i.i
    (let many = length-map c.args.generators.now numbered_of in omega (arith, many))
    ∙ sym (opposite-are live row))
    (c.loop-i.invariant.tells rows row all vals))
