use Rattle.std.proofs.Common.{◌-◌, max, ap, sym, ◌∙◌, refl}
use Rattle.frac128.proofs.Binary.{min_odd, gcd_turn, gcd_same}
use Rattle.frac128.proofs.gcd.gcd_odd.Goals as goal

pub loop-x-preserved : goal.loop-x-preserved
loop-x-preserved c =
    let odd = min_odd c.loop-x.x c.loop-x.y c.min-less.result c.min-less.ensures c.loop-x.invariant.0 c.loop-x.invariant.1 in (
      c.odd_difference-x.ensures.odd,
      odd,
      λ g is. c.loop-x.invariant.2 g (gcd_turn c.loop-x.x c.loop-x.y c.min-less.result _ c.odd_difference-x.ensures.power.0 c.odd_difference-x.result g c.min-less.ensures refl (c.odd_difference-x.ensures.power.1 ∙ ap (λ n. max c.loop-x.x c.loop-x.y - n) (sym c.min-less.ensures)) odd is),
    )

pub returns : goal.returns
returns c = c.loop-x.invariant.2 _ (gcd_same c.loop-x.x c.loop-x.y c.loop-x-test.false)
