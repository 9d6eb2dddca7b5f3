use Rattle.std.proofs.Common.{◌∙◌, sym}
use Rattle.exact_field.proofs.Comparison.{same_ℚ-is}
use Rattle.benson_program.proofs.same.is_same_number.Goals as goal

pub returns : goal.returns
returns g c = λ yes.
    let value = g.F.Field.value in
    let laws = g.met.F.Field in
    let x = c.args.one in
    let y = c.args.other in
    laws.one_form x y ((same_ℚ-is (value x) (value y)).0 (sym (laws.same x y) ∙ sym c.eq.ensures ∙ yes))
