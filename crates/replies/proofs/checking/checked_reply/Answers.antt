use Rattle.std.proofs.Common.{inl, refl}
use Rattle.replies.proofs.Entries.{ends}
use Rattle.replies.proofs.checking.checked_reply.Goals as goal

pub returns-in_ok-print_rep-in-Ok : goal.returns-in_ok-print_rep-in-Ok
returns-in_ok-print_rep-in-Ok c =
    let end = ends c.args.log.now c.requires.ends in
    inl (record {
      status = refl;
      log = c.args.log.now;
      is_log = (c.requires, refl);
      accepted = c.in-Ok.ensures.ok.0;
      other = c.in-Ok.other;
      gives = c.in-Ok.ensures.ok.1;
      right = c.in-Ok.ensures.right end.0 end.1;
      text = c.in_ok-print_rep-in-Ok.ensures;
      no_log = refl;
    })
