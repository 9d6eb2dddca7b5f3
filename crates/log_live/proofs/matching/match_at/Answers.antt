use Rattle.std.proofs.Common.{◌≡◌, List, [], sym, subst, ap, ◌∙◌, Bool, true, if◌then◌else◌}
use Rattle.exact_field.specs.Rational.{zero_ℚ, lt_ℚ}
use Rattle.polyhedra.specs.LiveList.{Numbered}
use Rattle.word_lines.specs.declared.part.LogPair.{LogPair}
use Rattle.log_rules.specs.Live.{value}
use Rattle.log_live.specs.Adding.{Matches, negatives_of, pairs_with}
use Rattle.log_live.specs.Live.{live_of, numbered_of}
use Rattle.log_live.proofs.PairCounts.{two_each}
use Rattle.log_live.proofs.matching.match_at.Goals as goal

pub returns-clause-matches : goal.returns-clause-matches
returns-clause-matches c = λ q rows row d listed among at_plus negatives.
    let live : List Numbered = live_of c.args.generators.now in
    let p : Numbered = numbered_of c.args.plus.now in
    let positive : lt_ℚ zero_ℚ (value row p) ≡ true = ap (lt_ℚ zero_ℚ) (sym at_plus)
    ∙ sym c.is_positive.ensures.test ∙ c.if-not-is_positive.false in
    subst (λ (block : List LogPair). Matches c.args.pairs.now c.args.scan.now.found
    c.match_with.result c.match_with.new.scan.found block)
    (ap (pairs_with rows live p) negatives
    ∙ sym (ap (λ (b : Bool). if b then pairs_with rows live p (negatives_of row live) else [])
    positive))
    (c.match_with.ensures.matches q rows d
    (two_each c.args.generators.now c.args.plus.now row c.args.negatives.now listed positive among
    negatives))
