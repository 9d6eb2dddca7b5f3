use Rattle.std.proofs.Common.{refl}
use Rattle.frac128.proofs.Inverse.{newton_bits}
use Rattle.frac128.proofs.exact.refine_inverse.Goals as goal

pub returns : goal.returns
returns c = λ k some h is. newton_bits k 64 c.args.odd c.args.inverse _ _ _ some h is refl refl refl
