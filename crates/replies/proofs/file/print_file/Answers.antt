use Rattle.replies.proofs.Printed.{no_first}
use Rattle.vlp_printer.specs.Printing.{RefusesText}
use Rattle.vlp_printer.specs.declared.fault.PrintFault.{PrintFault}
use Rattle.std.proofs.Common.{subst}
use Rattle.replies.proofs.file.print_file.Goals as goal

pub unreachable-requires : goal.unreachable-requires
unreachable-requires c =
    let sample = c.requires in
    no_first sample.0 c.args.file.now c.in-Err-NotDecimal.field-0-0 sample.1
    (subst (λ (f : PrintFault). RefusesText c.args.file.now f) c.in-Err-NotDecimal.field-0-is c.in-Err-NotDecimal.ensures)
