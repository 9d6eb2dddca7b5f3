use Rattle.replies.proofs.SamplesTold.{sample_told}
use Rattle.replies.proofs.file.sample_text.Goals as goal

pub returns : goal.returns
returns c = sample_told c.args.number c.in_ok-file.file c.print_file.result c.in_ok-file.ensures c.print_file.ensures
