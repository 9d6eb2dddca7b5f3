use Rattle.std.proofs.Common.{◌∙◌, ◌++◌, ◌∷◌, [], codes, ap}
use Rattle.log_rules.specs.Report.{answer_name}
use Rattle.src_sink.specs.Texts.{line_text}
use Rattle.sol_writer.proofs.Written.{first_line, then_line, then_lines}
use Rattle.weighing.specs.Text.{answer_line, solution_lines}
use Rattle.weighing.proofs.text.weights_text.Goals as goal

pub returns : goal.returns
returns c =
    (then_lines {old = []} (solution_lines c.args.answer.now)
    (then_line (answer_line (answer_name c.args.answer.now))
    (first_line {old = []} (codes "weights" ∷ codes "1" ∷ []) (rw c.new-text.ensures at c.in_ok-append.ensures.ok))
    (c.in_ok-put_answer.ensures ∙ ap (λ name. c.append.new.self ++ line_text (answer_line name)) c.answer_name.ensures))
    c.in_ok-put_solution.ensures).text
