use Rattle.std.proofs.Common.{◌≡◌, ◌⊎◌, ⊎_elim, inl, inr, arith}
use Rattle.frac128.proofs.Turns.{cmp_turned, cmp_with_zero}
use Rattle.frac128.proofs.order.compare.Goals as goal

pub returns-then-left_rest-eq0 : goal.returns-then-left_rest-eq0
returns-then-left_rest-eq0 c =
    let either : (c.in-Same.left_rest ≡ 0) ⊎ (c.in-Same.right_rest ≡ 0) = ⊎_elim inl (λ h. inr h.1) c.then-left_rest-eq0.either in
    let decided = cmp_with_zero c.turns.left.1 c.turns.right.1 c.in-Same.left_rest c.in-Same.right_rest c.turns.invariant.0 c.turns.invariant.1 either in
    let rests = cmp_turned c.turns.left.0 c.turns.left.1 c.turns.right.0 c.turns.right.1 c.in-Same.ensures.0 c.in-Same.left_rest c.in-Same.right_rest c.in-Same.ensures.1 c.in-Same.ensures.2 in
    let was = c.turns.invariant.2 in cc

pub turns-preserved : goal.turns-preserved
turns-preserved c =
    let rests = cmp_turned c.turns.left.0 c.turns.left.1 c.turns.right.0 c.turns.right.1 c.in-Same.ensures.0 c.in-Same.left_rest c.in-Same.right_rest c.in-Same.ensures.1 c.in-Same.ensures.2 in
    let was = c.turns.invariant.2 in (omega arith, omega arith, (cc))
