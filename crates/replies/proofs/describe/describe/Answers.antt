use Rattle.std.proofs.Common.{inl, refl}
use Rattle.projection.proofs.RightProjection.{found_is_right}
use Rattle.replies.proofs.SetsTold.{stopped_told}
use Rattle.replies.proofs.describe.describe.Goals as goal

pub returns-in-Ok : goal.returns-in-Ok
returns-in-Ok c =
    let file = c.args.file.now in
    let made = c.in_ok-made.made in
    let solution = c.in-Ok.solution in
    let found = c.in_ok-found-in-Ok.found in
    inl (record {
      status = refl;
      made = made;
      associated = c.in_ok-made.ensures;
      solution = solution;
      solves = c.in-Ok.ensures.ok;
      found = found;
      from = c.in_ok-found-in-Ok.ensures;
      right =
          found_is_right c.args.k file made solution.entries solution.answer found c.requires.columns
          c.in_ok-made.ensures c.in-Ok.ensures.ok.plainly c.in_ok-found-in-Ok.ensures;
      text = c.in_ok-text-in-Ok.ensures;
      logged = c.in_ok-log-in-Ok.ensures;
    })

pub returns : goal.returns
returns c =
    stopped_told c.args.k c.args.file.now c.in_ok-made.made c.args.logs c.in_ok-made.ensures
    c.unsolved_reply.result (c.unsolved_reply.ensures c.in_ok-made.made c.in-Err.ensures.end)
