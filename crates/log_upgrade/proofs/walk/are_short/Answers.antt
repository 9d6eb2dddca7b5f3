use Rattle.std.proofs.Math.Facts.{Fits-lt-pow}
use Rattle.log_upgrade.proofs.WrittenEntries.{short_each}
use Rattle.log_upgrade.proofs.walk.are_short.Goals as goal

pub returns : goal.returns
returns c = short_each c.args.numbers.now (λ i. Fits-lt-pow (c.type_inv.numbers i))
