use Rattle.replies.proofs.Printed.{reads}
use Rattle.replies.proofs.sample_laws.samples_read.Goals as goal

pub returns : goal.returns
returns c = λ number file s. reads number file s
