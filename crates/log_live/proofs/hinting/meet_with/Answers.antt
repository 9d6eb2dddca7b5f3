use Rattle.std.proofs.Common.{◌≡◌, sym, subst, arith, ◌∙◌, ◌+◌, List, [], ◌∷◌, ◌++◌, drop, Bool, true, false, Bor, map, take, length, ℕ}
use Rattle.std.specs.List.{flat_map}
use Rattle.std.proofs.lemmas.List.{length-map}
use Rattle.polyhedra.specs.LiveList.{Numbered, LivePair}
use Rattle.polyhedra.proofs.Members.{listed}
use Rattle.log_live.specs.declared.generator.Generator.{Generator}
use Rattle.log_live.specs.Live.{live_of, numbered_of}
use Rattle.log_live.specs.Adding.{AreAtPairs, AreTwo}
use Rattle.log_live.specs.Hinting.{Walks}
use Rattle.log_live.proofs.PairMatches.{flat-more, flat-split, flat-whole}
use Rattle.log_live.proofs.Hintings.{walks-then, walks-stop}
use Rattle.vlp_matrices.proofs.Lists.{map-at}
use Rattle.log_live.proofs.hinting.meet_with.Goals as goal

pub meet_pair-requires-clause-plus : goal.meet_pair-requires-clause-plus
meet_pair-requires-clause-plus c = c.loop-minus.invariant.common ∙ c.requires.plus

pub meet_pair-requires-clause-minus : goal.meet_pair-requires-clause-minus
meet_pair-requires-clause-minus c = c.loop-minus.invariant.common ∙ c.requires.plus
    ∙ sym (listed (λ (g : Bor Generator). length g.now.tight ≡ length c.args.plus.now.tight)
    c.args.negatives.now c.loop-minus.minus-index c.minus-item.result c.requires.bounds c.loop-minus-test.true
    c.minus-item.is)

pub returns-then-not-meet_pair-clause-walks : goal.returns-then-not-meet_pair-clause-walks
returns-then-not-meet_pair-clause-walks c = λ q rows all negative.
    let beside : Numbered → List LivePair = λ m. record {
      plus_side = numbered_of c.args.plus.now;
      minus_side = m;
    } ∷ [] in
    let m : Numbered = numbered_of c.minus-item.result.now in
    let ms : List Numbered = map (λ (g : Bor Generator). numbered_of g.now) c.args.negatives.now in
    let live : List Numbered = live_of c.args.generators.now in
    let here : Walks rows live c.args.pairs.now c.args.hints.now c.loop-minus.meeting false
    c.meet_pair.new.meeting (beside m) =
    subst (λ (r : Bool). Walks rows live c.args.pairs.now c.args.hints.now c.loop-minus.meeting r
    c.meet_pair.new.meeting (beside m)) c.if-not-meet_pair.true
    (c.meet_pair.ensures.walks q rows
    (subst (λ (k : ℕ). AreAtPairs q k rows c.args.generators.now)
    (sym c.loop-minus.invariant.least) all)
    (listed (λ (g : Bor Generator). AreTwo c.args.generators.now c.args.plus.now g.now)
    c.args.negatives.now c.loop-minus.minus-index c.minus-item.result negative c.loop-minus-test.true
    c.minus-item.is)) in
    subst (λ (b : List LivePair). Walks rows live c.args.pairs.now c.args.hints.now
    c.args.meeting.now false c.meet_pair.new.meeting b)
    (sym (flat-split beside ms c.loop-minus.minus-index m
    (let many = length-map c.args.negatives.now
    (λ (g : Bor Generator). numbered_of g.now) in let inside = c.loop-minus-test.true in omega
    (arith, many, inside))
    (map-at (λ (g : Bor Generator). numbered_of g.now) c.args.negatives.now c.loop-minus.minus-index
    c.minus-item.result c.loop-minus-test.true c.minus-item.is)))
    (walks-stop rows live c.args.pairs.now c.args.hints.now c.args.meeting.now
    c.meet_pair.new.meeting c.meet_pair.new.meeting
    (flat_map beside (take c.loop-minus.minus-index ms) ++ beside m) (flat_map beside (drop (c.loop-minus.minus-index + 1) ms))
    (walks-then rows live c.args.pairs.now c.args.hints.now c.args.meeting.now c.loop-minus.meeting
    c.meet_pair.new.meeting false (flat_map beside (take c.loop-minus.minus-index ms)) (beside m)
    (c.loop-minus.invariant.walks q rows all negative) here))

pub loop-minus-preserved : goal.loop-minus-preserved
loop-minus-preserved c =
    record {
      common = c.meet_pair.ensures.common ∙ c.loop-minus.invariant.common;
      least = c.meet_pair.ensures.least ∙ c.loop-minus.invariant.least;
      walks = λ q rows all negative.
          let beside : Numbered →
          List LivePair = λ m. record { plus_side = numbered_of c.args.plus.now; minus_side = m } ∷
          [] in
          let m : Numbered = numbered_of c.minus-item.result.now in
          let ms : List Numbered = map (λ (g : Bor Generator). numbered_of g.now)
          c.args.negatives.now in
          let live : List Numbered = live_of c.args.generators.now in
          let here : Walks rows live c.args.pairs.now c.args.hints.now c.loop-minus.meeting true
          c.meet_pair.new.meeting (beside m) =
          subst (λ (r : Bool). Walks rows live c.args.pairs.now c.args.hints.now c.loop-minus.meeting r
          c.meet_pair.new.meeting (beside m)) c.if-not-meet_pair.false
          (c.meet_pair.ensures.walks q rows
          (subst (λ (k : ℕ). AreAtPairs q k rows c.args.generators.now)
          (sym c.loop-minus.invariant.least) all)
          (listed (λ (g : Bor Generator). AreTwo c.args.generators.now c.args.plus.now g.now)
          c.args.negatives.now c.loop-minus.minus-index c.minus-item.result negative c.loop-minus-test.true
          c.minus-item.is)) in
          subst (λ (b : List LivePair). Walks rows live c.args.pairs.now c.args.hints.now
          c.args.meeting.now true c.meet_pair.new.meeting b)
          (sym (flat-more beside ms c.loop-minus.minus-index m
          (let many = length-map c.args.negatives.now
          (λ (g : Bor Generator). numbered_of g.now) in let inside = c.loop-minus-test.true in omega
          (arith, many, inside))
          (map-at (λ (g : Bor Generator). numbered_of g.now) c.args.negatives.now c.loop-minus.minus-index
          c.minus-item.result c.loop-minus-test.true c.minus-item.is)))
          (walks-then rows live c.args.pairs.now c.args.hints.now c.args.meeting.now
          c.loop-minus.meeting c.meet_pair.new.meeting true (flat_map beside (take c.loop-minus.minus-index ms))
          (beside m) (c.loop-minus.invariant.walks q rows all negative) here);
    }

pub returns-clause-walks : goal.returns-clause-walks
returns-clause-walks c = λ q rows all negative.
    let beside : Numbered → List LivePair = λ m. record {
      plus_side = numbered_of c.args.plus.now;
      minus_side = m;
    } ∷ [] in
    let ms : List Numbered = map (λ (g : Bor Generator). numbered_of g.now) c.args.negatives.now in
    subst (λ (b : List LivePair). Walks rows (live_of c.args.generators.now) c.args.pairs.now
    c.args.hints.now c.args.meeting.now true c.loop-minus.meeting b)
    (flat-whole beside ms c.loop-minus.minus-index
    (let many = length-map c.args.negatives.now (λ (g : Bor Generator). numbered_of g.now) in omega
    (arith, many))) (c.loop-minus.invariant.walks q rows all negative)
