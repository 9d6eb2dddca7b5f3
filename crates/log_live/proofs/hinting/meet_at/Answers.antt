use Rattle.std.proofs.Common.{◌≡◌, List, [], sym, subst, ap, ◌∙◌, Bool, true, false, if◌then◌else◌, refl}
use Rattle.exact_field.specs.Rational.{zero_ℚ, lt_ℚ}
use Rattle.polyhedra.specs.LiveList.{Numbered, LivePair}
use Rattle.log_rules.specs.Live.{value}
use Rattle.log_live.specs.Adding.{negatives_of}
use Rattle.log_live.specs.Hinting.{Walks, pairs_beside}
use Rattle.log_live.specs.Live.{live_of, numbered_of}
use Rattle.log_live.proofs.PairCounts.{two_each}
use Rattle.log_live.proofs.hinting.meet_at.Goals as goal

pub returns-then-not-is_positive-clause-walks : goal.returns-then-not-is_positive-clause-walks
returns-then-not-is_positive-clause-walks c = λ q rows row d listed among at_plus negatives.
    let live : List Numbered = live_of c.args.generators.now in
    let p : Numbered = numbered_of c.args.plus.now in
    let other : lt_ℚ zero_ℚ (value row p) ≡ false = ap (lt_ℚ zero_ℚ) (sym at_plus)
    ∙ sym c.is_positive.ensures.test ∙ c.if-not-is_positive.true in
    subst (λ (block : List LivePair). Walks rows live c.args.pairs.now c.args.hints.now
    c.args.meeting.now true c.args.meeting.now block)
    (sym (ap (λ (b : Bool). if b then pairs_beside p (negatives_of row live) else []) other))
    (λ more. refl)

pub returns-clause-walks : goal.returns-clause-walks
returns-clause-walks c = λ q rows row d listed among at_plus negatives.
    let live : List Numbered = live_of c.args.generators.now in
    let p : Numbered = numbered_of c.args.plus.now in
    let positive : lt_ℚ zero_ℚ (value row p) ≡ true = ap (lt_ℚ zero_ℚ) (sym at_plus)
    ∙ sym c.is_positive.ensures.test ∙ c.if-not-is_positive.false in
    subst (λ (block : List LivePair). Walks rows live c.args.pairs.now c.args.hints.now
    c.args.meeting.now c.meet_with.result c.meet_with.new.meeting block)
    (ap (pairs_beside p) negatives
    ∙ sym (ap (λ (b : Bool). if b then pairs_beside p (negatives_of row live) else []) positive))
    (c.meet_with.ensures.walks q rows d
    (two_each c.args.generators.now c.args.plus.now row c.args.negatives.now listed positive among
    negatives))
