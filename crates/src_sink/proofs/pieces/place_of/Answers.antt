use Rattle.std.proofs.Common.{◌==◌}
use Rattle.src_sink.proofs.Place.{place_is}
use Rattle.src_sink.proofs.pieces.place_of.Goals as goal

pub returns : goal.returns
returns c = place_is (λ b. b == c.args.byte) c.args.text.now c.memchr.result c.memchr.ensures
