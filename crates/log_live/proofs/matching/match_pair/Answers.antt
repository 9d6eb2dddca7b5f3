use Rattle.std.proofs.Common.{[], ◌∷◌, ◌++◌, sym, ap, ◌∙◌, ◌+◌, drop, Bool, false, if◌then◌else◌}
use Rattle.word_lines.specs.declared.part.LogPair.{LogPair}
use Rattle.log_rules.specs.LiveEvents.{same_pairs}
use Rattle.log_live.proofs.matching.match_pair.Goals as goal

pub returns-then-not-are_adjacent-clause-matches : goal.returns-then-not-are_adjacent-clause-matches
returns-then-not-are_adjacent-clause-matches c = λ n rows d two more.
    let q : LogPair = record { plus = c.args.plus.now.number; minus = c.args.minus.now.number } in
    ap (λ (b : Bool). same_pairs (drop c.args.scan.now.found c.args.pairs.now)
    ((if b then q ∷ [] else []) ++ more))
    (sym (c.are_adjacent.ensures n rows d two c.set_meet.ensures) ∙ c.if-not-are_adjacent.true)

pub returns-then-not-is_next-clause-matches : goal.returns-then-not-is_next-clause-matches
returns-then-not-is_next-clause-matches c = λ n rows d two more.
    let q : LogPair = record { plus = c.args.plus.now.number; minus = c.args.minus.now.number } in
    ap (λ (b : Bool). same_pairs (drop c.args.scan.now.found c.args.pairs.now)
    ((if b then q ∷ [] else []) ++ more))
    (sym (c.are_adjacent.ensures n rows d two c.set_meet.ensures) ∙ c.if-not-are_adjacent.false)
    ∙ c.is_next.ensures.matches more
    ∙ ap (λ (b : Bool). if b then same_pairs (drop (c.args.scan.now.found + 1) c.args.pairs.now)
    more else false) c.if-not-is_next.true

pub returns-clause-matches : goal.returns-clause-matches
returns-clause-matches c = λ n rows d two more.
    let q : LogPair = record { plus = c.args.plus.now.number; minus = c.args.minus.now.number } in
    ap (λ (b : Bool). same_pairs (drop c.args.scan.now.found c.args.pairs.now)
    ((if b then q ∷ [] else []) ++ more))
    (sym (c.are_adjacent.ensures n rows d two c.set_meet.ensures) ∙ c.if-not-are_adjacent.false)
    ∙ c.is_next.ensures.matches more
    ∙ ap (λ (b : Bool). if b then same_pairs (drop (c.args.scan.now.found + 1) c.args.pairs.now)
    more else false) c.if-not-is_next.false
