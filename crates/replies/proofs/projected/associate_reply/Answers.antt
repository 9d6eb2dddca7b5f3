use Rattle.std.proofs.Common.{◌≤◌, inr, refl, arith}
use Rattle.replies.proofs.Words.{associated_words, decimal_of}
use Rattle.replies.proofs.projected.associate_reply.Goals as goal

pub returns-in-Ok : goal.returns-in-Ok
returns-in-Ok c =
    let within : c.args.k ≤ c.args.file.now.cols = omega arith in
    inr (record {
      status = refl;
      within = within;
      made = c.in_ok-made.made;
      associated = c.in_ok-made.ensures;
      text = c.in-Ok.ensures.same;
      no_log = refl;
    })

pub unreachable-requires : goal.unreachable-requires
unreachable-requires c =
    let made = c.in_ok-made.made in
    let words =
    associated_words c.args.k c.args.file.now made c.in_ok-made.ensures c.requires.words in
    decimal_of made c.print_vlp.result c.print_vlp.ensures words
    c.in-Err-NotDecimal.field-0 c.in-Err-NotDecimal.is _ c.in-Err-NotDecimal.field-0-is
