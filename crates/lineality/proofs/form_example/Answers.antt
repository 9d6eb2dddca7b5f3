use Rattle.lineality.proofs.FormExample.{form_example}
use Rattle.lineality.proofs.form_example.Goals as goal

pub returns : goal.returns
returns c = form_example
