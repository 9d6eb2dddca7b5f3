use Rattle.std.proofs.Common.{◌≡◌, arith, sym, ◌∙◌}
use Rattle.std.proofs.lemmas.Grind.{common_steps}
use Rattle.vlp_problem.specs.Values.{printed_numbers}
use Rattle.vlp_printer.specs.Printing.{problem_text}
use Rattle.vlp_printer.proofs.RoundTrip.{prints_problem}
use Rattle.vlp_printer.proofs.WordNumbers.{first_without_word}
use Rattle.vlp_printer.proofs.print.print_vlp.Goals as goal

pub returns-in-Some : goal.returns-in-Some
returns-in-Some c = first_without_word (printed_numbers c.args.problem.now) c.in-Some.number (sym c.wide_number.ensures ∙ c.in-Some.is)

pub returns : goal.returns
returns c =
    let same : c.append.new.self ≡ problem_text c.args.problem.now = grind (arith, common_steps) in
    prints_problem c.args.problem.now c.append.new.self (sym c.wide_number.ensures ∙ c.in_default.is) same
