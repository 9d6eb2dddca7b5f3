use Rattle.std.proofs.Common.{◌==◌, sym}
use Rattle.src_sink.proofs.Cutting.{cut_there, uncut}
use Rattle.src_sink.proofs.pieces.first_piece.Goals as goal

pub returns-in-Some-clause-pieces : goal.returns-in-Some-clause-pieces
returns-in-Some-clause-pieces c = cut_there (λ b. b == c.args.byte) c.args.text.now c.in-Some.at (sym c.in-Some.ensures)

pub returns-in-None-clause-pieces : goal.returns-in-None-clause-pieces
returns-in-None-clause-pieces c = uncut (λ b. b == c.args.byte) c.args.text.now (sym c.in-None.ensures)
