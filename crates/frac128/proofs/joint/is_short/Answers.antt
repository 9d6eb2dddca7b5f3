use Rattle.std.proofs.Common.{arith}
use Rattle.std.proofs.lemmas.Bool.{OnTrue_from}
use Rattle.std.proofs.lemmas.Bool.Decides.{nat_tests}
use Rattle.frac128.proofs.Carried.{short_product}
use Rattle.frac128.proofs.joint.is_short.Goals as goal

pub returns : goal.returns
returns c =
    OnTrue_from _ _ (λ h. short_product _ _ _ _ c.bits.ensures.below c.bits-2.ensures.below (grind (arith, nat_tests)))
