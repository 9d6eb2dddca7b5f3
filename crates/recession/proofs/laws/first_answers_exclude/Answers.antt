use Rattle.recession.proofs.Excluded.{exclude}
use Rattle.recession.proofs.laws.first_answers_exclude.Goals as goal

pub returns : goal.returns
returns g c = λ task fitting. exclude g.F.Field.value g.F.Field.holds task fitting
