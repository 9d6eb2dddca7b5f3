use Rattle.bensolve_main.proofs.Sampled.{answer_solved, end_told, solved_told}
use Rattle.bensolve_main.proofs.sampling.sample_reply.Goals as goal

pub sum_up-requires : goal.sum_up-requires
sum_up-requires c = answer_solved c.args.number c.in_ok-file.file c.in-Ok.solution c.in_ok-file.ensures c.in-Ok.ensures.ok

pub returns-in-Ok : goal.returns-in-Ok
returns-in-Ok c =
    solved_told c.args.number c.in_ok-file.file c.in-Ok.solution c.sum_up.result c.in_ok-file.ensures c.in-Ok.ensures.ok
    c.sum_up.ensures.status c.sum_up.ensures.text c.sum_up.ensures.log

pub returns : goal.returns
returns c =
    end_told c.args.number c.in_ok-file.file c.unsolved_reply.result c.in_ok-file.ensures
    (c.unsolved_reply.ensures c.in_ok-file.file c.in-Err.ensures.end)
