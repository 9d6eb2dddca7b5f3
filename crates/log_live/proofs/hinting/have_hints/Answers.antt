use Rattle.std.proofs.Common.{◌≡◌, sym, subst, ap, refl, arith, ◌∙◌, ◌+◌, ◌<◌, List, All, length, ◌++◌, drop, take, Bool, true, false, map, Bor, ℕ}
use Rattle.std.specs.Prelude.{Contains}
use Rattle.std.specs.List.{flat_map}
use Rattle.std.proofs.lemmas.List.{length-map}
use Rattle.polyhedra.specs.LiveList.{Numbered, LivePair}
use Rattle.polyhedra.proofs.Members.{listed}
use Rattle.log_versions.specs.Hints.{opposite_pairs}
use Rattle.log_live.specs.Adding.{AreAtPairs}
use Rattle.log_live.specs.Live.{live_of, numbered_of}
use Rattle.log_live.specs.Hinting.{Walks, pairs_beside_at}
use Rattle.log_live.specs.declared.generator.Generator.{Generator}
use Rattle.log_live.specs.declared.hinting.Meeting.{Meeting}
use Rattle.log_live.proofs.PairMatches.{flat-more, flat-split, flat-whole, mapped-at, all-among}
use Rattle.log_live.proofs.Hintings.{walks-then, walks-stop, opposite-are, whole_listed, whole_hinted, whole_stopped}
use Rattle.log_rules.specs.Live.{value}
use Rattle.vlp_matrices.proofs.Lists.{map-at}
use Rattle.log_live.proofs.hinting.have_hints.Goals as goal

pub meet_at-requires-clause-bounds : goal.meet_at-requires-clause-bounds
meet_at-requires-clause-bounds c =
    let own = listed (λ (g : Generator). length g.tight ≡ length c.args.common)
    c.args.generators.now c.loop-i.i c.index-generators-i.result c.requires.bounds
    c.loop-i-test.true c.index-generators-i.is in
    subst (All
    (λ (g : Bor Generator). length g.now.tight ≡ length c.index-generators-i.result.tight))
    (sym c.as_slice.ensures.value)
    (all-among (λ (g : Generator). length g.tight ≡ length c.index-generators-i.result.tight)
    c.args.generators.now c.in_ok-negatives.negatives.items c.in_ok-negatives.ensures.among
    (λ k d h. c.requires.bounds k d h ∙ sym own))

pub loop-i-preserved : goal.loop-i-preserved
loop-i-preserved c =
    record {
      common = c.meet_at.ensures.common ∙ c.loop-i.invariant.common;
      least = c.meet_at.ensures.least ∙ c.loop-i.invariant.least;
      walks = λ q rows row all vals.
          let start : Meeting = record {
            listed = 0;
            hinted = 0;
            right = true;
            common = c.args.common;
            least = c.args.least;
            last = 0;
          } in
          let at : Numbered → List LivePair = pairs_beside_at row (live_of c.args.generators.now) in
          let p : Numbered = numbered_of c.index-generators-i.result in
          let live : List Numbered = live_of c.args.generators.now in
          let inside : c.loop-i.i < length live = let many = length-map c.args.generators.now
          numbered_of in let less = c.loop-i-test.true in omega (arith, many, less) in
          let among : All (λ (g : Bor Generator). Contains c.args.generators.now g.now)
          c.as_slice.result.now = subst
          (λ l. All (λ (g : Bor Generator). Contains c.args.generators.now g.now) l)
          (sym c.as_slice.ensures.value) c.in_ok-negatives.ensures.among in
          let here : Walks rows live c.args.pairs.now c.args.hints.now c.loop-i.meeting true
          c.meet_at.new.meeting (at p) =
          subst (λ (r : Bool). Walks rows live c.args.pairs.now c.args.hints.now c.loop-i.meeting r
          c.meet_at.new.meeting (at p)) c.if-not-meet_at.false
          (c.meet_at.ensures.walks q rows row
          (subst (λ (k : ℕ). AreAtPairs q k rows c.args.generators.now)
          (sym c.loop-i.invariant.least) all) (
            c.loop-i.i,
            c.loop-i-test.true,
            sym c.index-generators-i.is,
          ) among
          (mapped-at (λ g. value row (numbered_of g)) c.args.generators.now c.args.values.now
          c.loop-i.i c.index-generators-i.result c.index-values-i.result vals c.loop-i-test.true
          c.index-generators-i.is c.index-values-i.is)
          (ap (map (λ (g : Bor Generator). numbered_of g.now)) c.as_slice.ensures.value
          ∙ c.in_ok-negatives.ensures.negative row vals)) in
          subst (λ (b : List LivePair). Walks rows live c.args.pairs.now c.args.hints.now start true
          c.meet_at.new.meeting b)
          (sym (flat-more at live c.loop-i.i p inside
          (map-at numbered_of c.args.generators.now c.loop-i.i c.index-generators-i.result
          c.loop-i-test.true c.index-generators-i.is)))
          (walks-then rows live c.args.pairs.now c.args.hints.now start c.loop-i.meeting
          c.meet_at.new.meeting true (flat_map at (take c.loop-i.i live)) (at p)
          (c.loop-i.invariant.walks q rows row all vals) here);
    }

pub returns-then-not-meet_at-clause-listed : goal.returns-then-not-meet_at-clause-listed
returns-then-not-meet_at-clause-listed c = λ q rows row all vals.
    let start : Meeting = record {
      listed = 0;
      hinted = 0;
      right = true;
      common = c.args.common;
      least = c.args.least;
      last = 0;
    } in
    let at : Numbered → List LivePair = pairs_beside_at row (live_of c.args.generators.now) in
    let p : Numbered = numbered_of c.index-generators-i.result in
    let live : List Numbered = live_of c.args.generators.now in
    let inside : c.loop-i.i < length live = let many = length-map c.args.generators.now
    numbered_of in let less = c.loop-i-test.true in omega (arith, many, less) in
    let among : All (λ (g : Bor Generator). Contains c.args.generators.now g.now)
    c.as_slice.result.now = subst
    (λ l. All (λ (g : Bor Generator). Contains c.args.generators.now g.now) l)
    (sym c.as_slice.ensures.value) c.in_ok-negatives.ensures.among in
    let here : Walks rows live c.args.pairs.now c.args.hints.now c.loop-i.meeting false
    c.meet_at.new.meeting (at p) =
    subst (λ (r : Bool). Walks rows live c.args.pairs.now c.args.hints.now c.loop-i.meeting r
    c.meet_at.new.meeting (at p)) c.if-not-meet_at.true
    (c.meet_at.ensures.walks q rows row
    (subst (λ (k : ℕ). AreAtPairs q k rows c.args.generators.now)
    (sym c.loop-i.invariant.least) all) (
      c.loop-i.i,
      c.loop-i-test.true,
      sym c.index-generators-i.is,
    ) among
    (mapped-at (λ g. value row (numbered_of g)) c.args.generators.now c.args.values.now c.loop-i.i
    c.index-generators-i.result c.index-values-i.result vals c.loop-i-test.true
    c.index-generators-i.is c.index-values-i.is)
    (ap (map (λ (g : Bor Generator). numbered_of g.now)) c.as_slice.ensures.value
    ∙ c.in_ok-negatives.ensures.negative row vals)) in
    let stopped : Walks rows live c.args.pairs.now c.args.hints.now start false
    c.meet_at.new.meeting (opposite_pairs live row) =
    subst (λ (b : List LivePair). Walks rows live c.args.pairs.now c.args.hints.now start false
    c.meet_at.new.meeting b)
    (sym (flat-split at live c.loop-i.i p inside
    (map-at numbered_of c.args.generators.now c.loop-i.i c.index-generators-i.result
    c.loop-i-test.true c.index-generators-i.is)) ∙ sym (opposite-are live row))
    (walks-stop rows live c.args.pairs.now c.args.hints.now start c.meet_at.new.meeting
    c.meet_at.new.meeting (flat_map at (take c.loop-i.i live) ++ at p)
    (flat_map at (drop (c.loop-i.i + 1) live))
    (walks-then rows live c.args.pairs.now c.args.hints.now start c.loop-i.meeting
    c.meet_at.new.meeting false (flat_map at (take c.loop-i.i live)) (at p)
    (c.loop-i.invariant.walks q rows row all vals) here)) in
    whole_stopped rows live c.args.pairs.now c.args.hints.now start c.meet_at.new.meeting
    (opposite_pairs live row) refl refl refl stopped

pub returns-clause-listed : goal.returns-clause-listed
returns-clause-listed c = λ q rows row all vals.
    let start : Meeting = record {
      listed = 0;
      hinted = 0;
      right = true;
      common = c.args.common;
      least = c.args.least;
      last = 0;
    } in
    let at : Numbered → List LivePair = pairs_beside_at row (live_of c.args.generators.now) in
    let live : List Numbered = live_of c.args.generators.now in
    whole_listed rows live c.args.pairs.now c.args.hints.now start c.loop-i.meeting
    (opposite_pairs live row) refl refl refl
    (subst (λ (b : List LivePair). Walks rows live c.args.pairs.now c.args.hints.now start true
    c.loop-i.meeting b)
    (flat-whole at live c.loop-i.i
    (let many = length-map c.args.generators.now numbered_of in omega (arith, many))
    ∙ sym (opposite-are live row))
    (c.loop-i.invariant.walks q rows row all vals))

pub returns-clause-hinted : goal.returns-clause-hinted
returns-clause-hinted c = λ q rows row all vals _.
    let start : Meeting = record {
      listed = 0;
      hinted = 0;
      right = true;
      common = c.args.common;
      least = c.args.least;
      last = 0;
    } in
    let at : Numbered → List LivePair = pairs_beside_at row (live_of c.args.generators.now) in
    let live : List Numbered = live_of c.args.generators.now in
    c.are_used_up.ensures
    ∙ whole_hinted rows live c.args.pairs.now c.args.hints.now start c.loop-i.meeting
    (opposite_pairs live row) refl refl refl
    (subst (λ (b : List LivePair). Walks rows live c.args.pairs.now c.args.hints.now start true
    c.loop-i.meeting b)
    (flat-whole at live c.loop-i.i
    (let many = length-map c.args.generators.now numbered_of in omega (arith, many))
    ∙ sym (opposite-are live row))
    (c.loop-i.invariant.walks q rows row all vals))
