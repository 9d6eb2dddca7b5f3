use Rattle.frac128.proofs.Binary.{min_odd, gcd_turn, gcd_same, gcd_ordered}
use Rattle.frac128.proofs.gcd.gcd_wide_odd.Goals as goal

pub turns-preserved : goal.turns-preserved
turns-preserved c =
    let odd = min_odd c.turns.x c.turns.y c.min-less.result c.min-less.ensures c.turns.invariant.0 c.turns.invariant.1 in (
      c.wide_odd_part-x.ensures.odd,
      odd,
      λ g is. c.turns.invariant.2 g (gcd_turn c.turns.x c.turns.y c.min-less.result c.max-great.result c.wide_odd_part-x.ensures.power.0 c.wide_odd_part-x.result g c.min-less.ensures c.max-great.ensures c.wide_odd_part-x.ensures.power.1 odd is),
    )

pub returns : goal.returns
returns c = c.turns.invariant.2 _ (gcd_same c.turns.x c.turns.y c.turns-test.false)

pub returns-then-less-le-WORD : goal.returns-then-less-le-WORD
returns-then-less-le-WORD c =
    c.turns.invariant.2 _ (gcd_ordered c.turns.x c.turns.y c.min-less.result c.max-great.result c.gcd_with_word.result c.min-less.ensures c.max-great.ensures c.gcd_with_word.ensures)
