use Rattle.replies.proofs.Samples.{samples_are_solved}
use Rattle.replies.proofs.sample_laws.samples_are_solved.Goals as goal

pub returns : goal.returns
returns c = samples_are_solved
