use Rattle.std.proofs.Common.{◌∷◌, [], decimal, length}
use Rattle.sol_writer.proofs.Written.{begun, further, naturals, ended}
use Rattle.weighing.proofs.lines.put_numbers.Goals as goal

pub returns : goal.returns
returns c =
    ended (naturals c.args.numbers.now (further (decimal (length c.args.numbers.now) ∷ []) (begun c.in_ok-push.ensures.ok) c.in_ok-put_natural.ensures)
    c.in_ok-put_naturals.ensures) c.in_ok-push-2.ensures.ok
