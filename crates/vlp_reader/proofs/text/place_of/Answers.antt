use Rattle.std.proofs.Common.{◌==◌, ◌||◌, arith, sym}
use Rattle.std.proofs.lemmas.Bool.Decides.{nat_tests}
use Rattle.std.proofs.lemmas.List.Sums.{position_or_len_is}
use Rattle.vlp_reader.proofs.text.place_of.Goals as goal
use Rattle.vlp_reader.proofs.text.place_of.Goals.{then-b-one-via-then-b-one, then-b-one-via-else-b-one+then-b-other}

pub returns-then-b-one-clause-value : goal.returns-then-b-one-clause-value
returns-then-b-one-clause-value c =
    sym (position_or_len_is (λ b. b == c.args.one || b == c.args.other) c.args.text.now c.loop-i.i 0 (omega arith) c.loop-i.invariant
    (λ _. elim c.then-b-one.branch [
      | then-b-one-via-then-b-one w ↦ grind (arith, nat_tests)
      | then-b-one-via-else-b-one+then-b-other w ↦ grind (arith, nat_tests)
    ]))

pub returns-clause-value : goal.returns-clause-value
returns-clause-value c =
    sym (position_or_len_is (λ b. b == c.args.one || b == c.args.other) c.args.text.now _ 0 (omega arith) (λ k lt. c.loop-i.invariant k (omega arith)) (λ lt. absurd (omega arith)))
