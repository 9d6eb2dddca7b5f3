use Rattle.std.proofs.Common.{◌∙◌, sym}
use Rattle.exact_field.proofs.Comparison.{same_ℚ-is}
use Rattle.shown_program.proofs.prices.is_same.Goals as goal

pub returns : goal.returns
returns g c = λ told.
    let value = g.F.Field.value in
    (same_ℚ-is (value c.args.a) (value c.args.b)).0
    (sym (g.met.F.Field.same c.args.a c.args.b) ∙ sym c.eq.ensures ∙ told)
