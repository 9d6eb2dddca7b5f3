use Rattle.std.proofs.Common.{◌∙◌, ◌++◌, ◌∷◌, [], codes, ap}
use Rattle.sol_writer.specs.Lines.{lines_text}
use Rattle.sol_writer.proofs.Written.{first_line, then_lines}
use Rattle.weighing.specs.Text.{found_lines, points_of}
use Rattle.weighing.proofs.text.weighed_text.Goals as goal

pub returns : goal.returns
returns c =
    (then_lines {old = []} (found_lines (points_of c.args.answer.now) c.args.weighed.now)
    (first_line {old = []} (codes "weigh" ∷ codes "1" ∷ []) (rw c.new-text.ensures at c.in_ok-append.ensures.ok))
    (c.in_ok-put_found.ensures ∙ ap (λ points. c.append.new.self ++ lines_text (found_lines points c.args.weighed.now)) c.points_of.ensures)).text
