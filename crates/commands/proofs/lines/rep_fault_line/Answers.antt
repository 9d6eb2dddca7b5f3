use Rattle.std.proofs.Common.{◌∙◌, codes}
use Rattle.commands.proofs.Written.{numbered}
use Rattle.commands.proofs.lines.rep_fault_line.Goals as goal

pub returns : goal.returns
returns c =
    c.in_ok-bytes.ensures
    ∙ c.as_str.ensures.value
    ∙ numbered (codes "fault 16 line ") (codes " kind ") c.args.line _ _ _ _ _ c.number-number.ensures c.name-name.ensures c.in_ok-text.ensures.ok
