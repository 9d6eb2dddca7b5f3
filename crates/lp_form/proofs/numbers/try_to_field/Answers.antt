use Rattle.std.proofs.Common.{◌≡◌, ◌∙◌}
use mir.Syntax.{w128}
use mir.Val.{to_z, of_z}
use Rattle.std.proofs.lemmas.Int.{to_z-of_z}
use Rattle.lp_form.proofs.InField.{by_parts}
use Rattle.lp_form.proofs.numbers.try_to_field.Goals as goal

pub returns : goal.returns
returns g c =
    let num : to_z w128 (of_z w128 c.num.result) ≡ c.num.result = to_z-of_z w128 c.num.result (record { sfits = c.num.type_inv }) in
    let den : to_z w128 (of_z w128 c.den.result) ≡ c.den.result = to_z-of_z w128 c.den.result (record { sfits = c.den.type_inv }) in
    by_parts g.F.Field.value g.F.Field.holds c.args.number _ _ c.of.result (num ∙ c.num.ensures.part) (den ∙ c.den.ensures.part) c.of.ensures
