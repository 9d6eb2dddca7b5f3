use Rattle.replies.proofs.Bounded.{bounded_are_solved}
use Rattle.replies.proofs.sample_laws.bounded_are_solved.Goals as goal

pub returns : goal.returns
returns c = bounded_are_solved
