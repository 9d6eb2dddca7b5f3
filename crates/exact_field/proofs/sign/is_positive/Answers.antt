use Rattle.exact_field.proofs.Signs.{above_is, passes_itself}
use Rattle.exact_field.proofs.sign.is_positive.Goals as goal

pub returns : goal.returns
returns g c =
    let test = above_is (g.F.Field.value c.args.x) c.sign.result c.sign.ensures in
    record { test = test; fact = passes_itself _ _ test }
