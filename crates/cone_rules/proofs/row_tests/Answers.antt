use Rattle.cone_rules.proofs.Rows.{row_tests}
use Rattle.cone_rules.proofs.row_tests.Goals as goal

pub returns : goal.returns
returns c = row_tests
