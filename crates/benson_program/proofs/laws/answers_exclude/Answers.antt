use Rattle.benson_program.proofs.Excluded.{answers_exclude}
use Rattle.benson_program.proofs.laws.answers_exclude.Goals as goal

pub returns : goal.returns
returns c = answers_exclude
