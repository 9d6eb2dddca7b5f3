use Rattle.std.proofs.Common.{rules, ◌≡◌, ◌≢◌, ◌∙◌, ◌<◌, ℕ, List, [], All, Contains, ap, arith, length, refl, subst, sym, slice_index_or}
use Rattle.std.proofs.lemmas.List.Elements.{Contains-get_or}
use Rattle.double_descr.specs.State.{State as Description}
use Rattle.polyhedra.specs.LiveList.{numbers}
use Rattle.log_rules.specs.Live.{preimages}
use Rattle.benson_dual.proofs.Images.{all_reached, fresh_on, reached_on}
use Rattle.benson_dual.proofs.approximation.Approximation.reach_all.Goals as goal

pub loop-i-init : goal.loop-i-init
loop-i-init g c = record {
  stands = c.requires.1.1.0;
  still = refl;
  reached = λ j low. absurd (omega (arith, low));
  fresh = λ j low high. c.requires.1.1.1 _;
}

pub reach-requires : goal.reach-requires
reach-requires g c κs within =
    let a = c.loop-i.self in
    let i = c.loop-i.i in
    let live = numbers c.args.self.now.dd.list.live in
    let own : c.live.result.now ≡ numbers a.dd.list.live = c.live.ensures.live in
    let same : c.live.result.now ≡ live = own ∙ ap (λ (d : Description). numbers d.list.live) c.loop-i.invariant.still in
    let many : length c.live-count.result.now ≡ length live = ap (λ (ns : List ℕ). length ns) c.live-count.ensures.live in
    let inside : i < length live = let t = c.loop-i-test.true in omega (arith, t, many) in
    let here : i < length c.live.result.now = let m = ap (λ (ns : List ℕ). length ns) same in omega (arith, inside, m) in (
      search rules,
      (
        c.requires.1.0,
        (
          c.loop-i.invariant.stands,
          (
            subst (λ (ns : List ℕ). Contains ns (slice_index_or c.live.result.now i 0)) own (Contains-get_or c.live.result.now i 0 here),
            ap (λ (ns : List ℕ). preimages a.trail (slice_index_or ns i 0)) same ∙ c.loop-i.invariant.fresh i (omega arith) inside,
          ),
        ),
      ),
    )

pub loop-i-preserved : goal.loop-i-preserved
loop-i-preserved g c =
    let a = c.loop-i.self in
    let new = c.reach.new.self.trail in
    let i = c.loop-i.i in
    let gs = c.args.self.now.dd.list.live in
    let same : c.live.result.now ≡ numbers gs = c.live.ensures.live ∙ ap (λ (d : Description). numbers d.list.live) c.loop-i.invariant.still in
    let many : length c.live-count.result.now ≡ length (numbers gs) = ap (λ (ns : List ℕ). length ns) c.live-count.ensures.live in
    let inside : i < length (numbers gs) = let t = c.loop-i-test.true in omega (arith, t, many) in
    let at : slice_index_or c.live.result.now i 0 ≡ slice_index_or (numbers gs) i 0 = ap (λ (ns : List ℕ). slice_index_or ns i 0) same in
    let here : preimages new (slice_index_or (numbers gs) i 0) ≢ [] = subst (λ (k : ℕ). preimages new k ≢ []) at c.in_ok-reach.ensures.here in
    let others : (k : ℕ) → k ≢ slice_index_or (numbers gs) i 0 → preimages new k ≡ preimages a.trail k =
    subst (λ (n : ℕ). (k : ℕ) → k ≢ n → preimages new k ≡ preimages a.trail k) at c.in_ok-reach.ensures.others in
    let rise = c.live-count.ensures.described.rising.rises in
    record {
      stands = c.in_ok-reach.ensures.stands;
      still = c.in_ok-reach.ensures.rows ∙ c.loop-i.invariant.still;
      reached = reached_on a.trail new gs rise i inside here others c.loop-i.invariant.reached;
      fresh = fresh_on a.trail new gs rise i inside here others c.loop-i.invariant.fresh;
    }

pub returns-clause-reached : goal.returns-clause-reached
returns-clause-reached g c =
    let a = c.loop-i.self in
    let gs = c.args.self.now.dd.list.live in
    let many : length c.live-count.result.now ≡ length (numbers gs) = ap (λ (ns : List ℕ). length ns) c.live-count.ensures.live in
    subst (λ (d : Description). All (λ g. preimages a.trail g.number ≢ []) d.list.live) (sym c.loop-i.invariant.still)
    (all_reached a.trail gs c.loop-i.i (let t = c.loop-i-test.false in omega (arith, t, many)) c.loop-i.invariant.reached)

pub returns-clause-stands : goal.returns-clause-stands
returns-clause-stands g c = c.loop-i.invariant.stands

pub returns-clause-trail : goal.returns-clause-trail
returns-clause-trail g c = c.loop-i.invariant.stands.outer.open_trail

pub bounds-live-i : goal.bounds-live-i
bounds-live-i g c =
    let live = numbers c.args.self.now.dd.list.live in
    let same : c.live.result.now ≡ live = c.live.ensures.live ∙ ap (λ (d : Description). numbers d.list.live) c.loop-i.invariant.still in
    let many : length c.live-count.result.now ≡ length live = ap (λ (ns : List ℕ). length ns) c.live-count.ensures.live in
    let m = ap (λ (ns : List ℕ). length ns) same in
    let t = c.loop-i-test.true in
    omega (arith, t, many, m)
