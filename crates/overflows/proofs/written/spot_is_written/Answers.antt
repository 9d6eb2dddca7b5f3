use Rattle.std.proofs.Common.{rules}
use Rattle.std.proofs.lemmas.Bool.{lt-ltb}
use Rattle.polyhedra.proofs.Tests.{both_hold}
use Rattle.frac128.specs.Held.{is_held}
use Rattle.word_lines.specs.Parts.{is_short}
use Rattle.overflows.proofs.written.spot_is_written.Goals as goal

pub returns : goal.returns
returns c =
    both_hold (is_short c.args.spot.at) (is_held c.args.spot.value) (lt-ltb c.args.spot.at 4294967296 (search rules)) c.num-num.ensures.held
