use Rattle.std.proofs.Common.{◌∷◌, [], decimal, codes}
use Rattle.sol_writer.proofs.Written.{first_line, then_line}
use Rattle.projection.specs.Text.{answer_name}
use Rattle.projection.proofs.text.put_head.Goals as goal

pub returns : goal.returns
returns c = (then_line (codes "columns" ∷ decimal c.args.k ∷ [])
    (then_line (codes "answer" ∷ answer_name c.args.found.now ∷ []) (first_line (codes "projection" ∷ codes "1" ∷ []) c.in_ok-append.ensures.ok) c.in_ok-put_kind.ensures)
    c.in_ok-put_counted.ensures).text
