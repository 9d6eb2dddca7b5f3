use Rattle.std.proofs.Common.{arith}
use Rattle.frac128.proofs.Inverse.{odd_square, fewer_bits}
use Rattle.frac128.proofs.exact.word_inverse.Goals as goal

pub returns : goal.returns
returns c =
    c.refine_inverse.ensures 32 (omega arith) (omega arith)
    (fewer_bits _ 32 48 (omega arith) (omega arith)
    (c.refine_inverse-of_48.ensures 24 (omega arith) (omega arith)
    (c.refine_inverse-of_24.ensures 12 (omega arith) (omega arith)
    (c.refine_inverse-of_12.ensures 6 (omega arith) (omega arith)
    (c.refine_inverse-of_6.ensures 3 (omega arith) (omega arith) (odd_square c.args.odd c.requires))))))
