use Rattle.exact_field.proofs.Signs.{below_is, passes_itself}
use Rattle.exact_field.proofs.sign.is_negative.Goals as goal

pub returns : goal.returns
returns g c =
    let test = below_is (g.F.Field.value c.args.x) c.sign.result c.sign.ensures in
    record { test = test; fact = passes_itself _ _ test }
