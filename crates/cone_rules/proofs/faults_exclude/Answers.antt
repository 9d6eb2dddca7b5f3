use Rattle.cone_rules.proofs.Excluding.{faults_exclude}
use Rattle.cone_rules.proofs.faults_exclude.Goals as goal

pub returns : goal.returns
returns c = faults_exclude
